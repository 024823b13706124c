use Rattle.std.proofs.Common.{ℕ, List, length, subst}
use Rattle.st_model.specs.Faults.{root_fails}
use Rattle.st_image.specs.inside.Passes.{IsLeastAmong}
use Rattle.st_image.proofs.roots.least_bad_root.Goals as goal

pub returns : goal.returns
returns c =
    let test = root_fails c.args.image.now.head c.args.image.now.bytes.now in
    subst (λ (xs : List ℕ). IsLeastAmong test xs (length xs) c.least_failing.result) c.roots.ensures c.least_failing.ensures
