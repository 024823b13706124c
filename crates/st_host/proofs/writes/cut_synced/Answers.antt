use Rattle.std.proofs.Common.{rules}
use Rattle.st_host.proofs.Touching.{sync_cut}
use Rattle.st_host.proofs.writes.cut_synced.Goals as goal

pub returns-clause-cuts : goal.returns-clause-cuts
returns-clause-cuts g c = search (rules, sync_cut)
