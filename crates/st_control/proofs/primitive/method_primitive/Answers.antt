use Rattle.std.proofs.Common.{arith}
use Rattle.st_frames.proofs.Doing.{rows}
use Rattle.st_model.specs.Methods.{method_primitive}
use Rattle.st_control.proofs.primitive.method_primitive.Goals as goal

pub returns-in_err-extension : goal.returns-in_err-extension
unfolding method_primitive
returns-in_err-extension g c = grind (arith, rows)

pub returns : goal.returns
unfolding method_primitive
returns g c = grind (arith, rows)
