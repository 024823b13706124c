use Rattle.st_protocol.specs.declared.status.Status.TheVariants as status
use Rattle.st_session.proofs.Requests.{end_asked, end_behind, over_then, over_err}
use Rattle.st_session.proofs.reading.finish.Goals as goal

pub returns-in-Ok-end : goal.returns-in-Ok-end
returns-in-Ok-end g c =
    over_then status.Done tt tt tt (end_asked c.args.reader.now c.end.new.reader c.in-Ok.ensures.reader c.in-Ok.ensures.serves c.in-Ok-end.ensures.serves) (g.met.H.Host.only_now c.end-in-Ok.new.host)

pub returns-in-Err-end : goal.returns-in-Err-end
returns-in-Err-end g c = over_err status.Done (end_asked c.args.reader.now c.end.new.reader c.in-Ok.ensures.reader c.in-Ok.ensures.serves c.in-Err-end.ensures.serves)

pub returns-in-Err : goal.returns-in-Err
returns-in-Err g c = over_err status.Done (end_behind c.args.reader.now c.requires.go_on c.in-Err.ensures.serves (g.met.H.Host.only_now c.args.host.now))
