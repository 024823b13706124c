use Rattle.std.proofs.Common.{◌≡◌, ◌≤◌, ◌+◌, ◌-◌, ◌^◌, length}
use Rattle.st_kernel_text.specs.inside.Views.{parts_of}
use Rattle.st_kernel.specs.Built.{without_room}
use Rattle.st_kernel.proofs.image.without_room.Given as goal

-- what is left comes to what the whole text comes to
abbrev pub invariant-loop-rest : goal.invariant-loop-rest
invariant-loop-rest l = record {
  few : l.chunk + length l.rest ≤ 2 ^ 32 - 1;
  is : without_room l.fn.kernel.cause 0 1 (parts_of l.fn.kernel.parts.items) ≡ without_room l.fn.kernel.cause l.opened l.chunk (parts_of l.rest);
}

abbrev pub decreases-loop-rest : goal.decreases-loop-rest
decreases-loop-rest l = length l.rest
