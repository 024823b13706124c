use Rattle.st_host.proofs.Joining.{alike_join, reads_join}
use Rattle.st_call.proofs.file.read_file.Goals as goal

pub returns-in_err-count-clause-reads : goal.returns-in_err-count-clause-reads
returns-in_err-count-clause-reads g c = reads_join g.H.Host _ _ _ c.in_ok-file_length.ensures.reads c.in_err-count.ensures.reads

pub returns-clause-alike : goal.returns-clause-alike
returns-clause-alike g c = alike_join g.H.Host _ _ _ c.in_ok-file_length.ensures.alike c.in_ok-count.ensures.alike

pub returns-clause-reads : goal.returns-clause-reads
returns-clause-reads g c = reads_join g.H.Host _ _ _ c.in_ok-file_length.ensures.reads c.in_ok-count.ensures.reads
