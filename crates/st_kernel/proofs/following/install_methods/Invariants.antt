use Rattle.std.proofs.Common.{◌≤◌, ◌+◌, ◌-◌, ◌^◌, length}
use Rattle.std.specs.Prelude.{Result}
use Rattle.st_install.specs.Defining.{installed}
use Rattle.st_kernel_text.specs.inside.Views.{parts_of}
use Rattle.st_kernel_text.specs.Definitions.{AreDefinitions}
use Rattle.st_kernel.specs.Built.{Built, Fault, no_side}
use Rattle.st_kernel.specs.inside.Following.{side_in, IsUnderway, IsQuiet}
use Rattle.st_kernel.proofs.following.install_methods.Given as goal

-- what is left comes to what the whole text comes to
abbrev pub invariant-loop-rest : goal.invariant-loop-rest
invariant-loop-rest g l = record {
  good : AreDefinitions (side_in l.heading) (parts_of l.rest);
  few : l.chunk + length l.rest ≤ 2 ^ 32 - 1;
  quiet : IsQuiet (g.M.Memory.view l.m);
  underway : (whole : Result Built Fault) → IsUnderway installed l.fn.kernel.cause whole 1 no_side (parts_of l.fn.kernel.parts.items) (g.M.Memory.view l.fn.m)
      → IsUnderway installed l.fn.kernel.cause whole l.chunk (side_in l.heading) (parts_of l.rest) (g.M.Memory.view l.m);
}

abbrev pub decreases-loop-rest : goal.decreases-loop-rest
decreases-loop-rest g l = length l.rest
