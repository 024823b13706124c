use Rattle.std.proofs.Common.{◌≡◌, drop}
use Rattle.st_kernel_text.specs.Known.{has_all}
use Rattle.st_kernel_text.specs.inside.Lists.{needs_of}
use Rattle.st_kernel_text.proofs.known.Known.has_all.Given as goal

abbrev pub invariant-loop-wanted : goal.invariant-loop-wanted
invariant-loop-wanted l = has_all l.self (needs_of (drop l.wanted-index l.needs)) ≡ has_all l.self (needs_of l.needs)
