use Rattle.st_protocol.specs.declared.status.Status.TheVariants as status
use Rattle.st_session.proofs.Requests.{over_then, over_err}
use Rattle.st_session.proofs.reading.feed_last.Goals as goal

pub returns-in-Ok : goal.returns-in-Ok
returns-in-Ok g c = over_then status.TooLarge tt tt tt c.in-Ok.ensures.serves (g.met.H.Host.only_now c.feed_all.new.host)

pub returns-in-Err : goal.returns-in-Err
returns-in-Err g c = over_err status.TooLarge c.in-Err.ensures.serves
