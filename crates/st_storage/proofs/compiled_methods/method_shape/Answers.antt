use Rattle.std.proofs.Common.{rules, ◌≡◌, true, arith}
use Rattle.st_model.specs.Values.{word}
use Rattle.st_model.specs.Steps.{same_value}
use Rattle.st_frames.proofs.Doing.{row-memory}
use Rattle.st_storage.proofs.MethodTries.{shape-is}
use Rattle.st_storage.proofs.compiled_methods.method_shape.Goals as goal

pub returns-clause-does : goal.returns-clause-does
returns-clause-does g c =
    let same : same_value (word c.args.class) (word c.page-methods.result) ≡ true = search rules in
    shape-is _ _ _ _ _ _ _ _ (c.page-methods.ensures.page _ (row-memory _ _ _)) same c.in_ok-bytes.ensures.does c.in_ok-header.ensures.does (omega arith)
