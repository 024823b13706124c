use Rattle.std.proofs.Common.{◌≡◌, ◌+◌, ◌-◌, ◌≤◌, length, drop}
use Rattle.st_model.specs.Values.{value}
use Rattle.st_model.specs.View.{object_of}
use Rattle.st_parts.specs.Cutting.{codes_of}
use Rattle.st_browse.proofs.codes.count_codes.Given as goal

-- the bytecodes so far were counted
abbrev pub invariant-loop-at : goal.invariant-loop-at
invariant-loop-at g l =
    let units = (object_of (g.M.Memory.view l.m).objects (value l.body.method)).units in
    (l.count + length (codes_of (drop l.at units)) ≡ length (codes_of units)) × (l.count ≤ l.at) × (l.at ≤ l.body.units + 2)

abbrev pub decreases-loop-at : goal.decreases-loop-at
decreases-loop-at g l = l.body.units - l.at
