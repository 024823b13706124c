use Rattle.std.proofs.Common.{rules}
use Rattle.st_host.proofs.Touching.{sync_write}
use Rattle.st_host.proofs.writes.write_synced.Goals as goal

pub returns-clause-writes : goal.returns-clause-writes
returns-clause-writes g c = search (rules, sync_write)
