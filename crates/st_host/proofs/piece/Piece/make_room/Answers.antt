use Rattle.st_host.proofs.Pushing.{from_none}
use Rattle.st_host.proofs.piece.Piece.make_room.Goals as goal

pub returns-else-self-count-gt-MOST-clause-writes : goal.returns-else-self-count-gt-MOST-clause-writes
returns-else-self-count-gt-MOST-clause-writes g c = from_none g.H.Host c.args.name.now c.args.host.now c.args.self.now (λ told f s left. g.met.H.Host.only_now c.args.host.now f s told left)
