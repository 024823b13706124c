use Rattle.std.proofs.Common.{◌≡◌, ◌%◌, ◌==◌, false}
use Rattle.std.proofs.lemmas.Bool.{ne_eqb}
use Rattle.st_host.proofs.Pushing.{push_none}
use Rattle.st_writer.proofs.units.push_filler.Goals as goal

pub returns-else-count-eq1 : goal.returns-else-count-eq1
returns-else-count-eq1 g c =
    let even : (c.args.count % 2 == 1) ≡ false = ne_eqb (c.args.count % 2) 1 c.if-count-eq1.false in
    rw even (push_none g.H.Host c.args.name.now c.args.host.now c.args.piece.now (λ told f s left. g.met.H.Host.only_now c.args.host.now f s told left))
