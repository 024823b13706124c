use Rattle.std.proofs.Common.{◌≡◌, drop}
use Rattle.st_kernel_text.specs.Known.{with_variables}
use Rattle.st_kernel_text.specs.inside.Lists.{texts_of}
use Rattle.st_kernel_text.proofs.variables.Variables.declare.Given as goal

abbrev pub invariant-loop-name : goal.invariant-loop-name
invariant-loop-name l = with_variables l.class (texts_of (drop l.name-index l.names)) l.self ≡ with_variables l.class (texts_of l.names) l.fn.self
