use Rattle.std.proofs.Common.{arith}
use Rattle.std.specs.Vec.{with_items}
use Rattle.std.proofs.lemmas.Grind.{common_steps}
use Rattle.st_plain.proofs.Filled.{in_use_stays}
use Rattle.st_plain.proofs.objects.Objects.copy_free.Goals as goal

pub returns-clause-objects : goal.returns-clause-objects
returns-clause-objects c =
    let o = c.args.self.now in in_use_stays o (with_items o.pointers c.copy_run.new.list).items (with_items o.units c.copy_run-2.new.list).items (grind (arith, common_steps)) (grind (arith, common_steps))
