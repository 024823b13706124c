use Rattle.std.proofs.Common.{◌≡◌, ◌+◌, ◌-◌, ◌≤◌, Some, drop}
use Rattle.std.specs.List.{list_any}
use Rattle.st_model.specs.Values.{value}
use Rattle.st_model.specs.View.{object_of}
use Rattle.st_parts.specs.Cutting.{codes_of}
use Rattle.st_browse.specs.Senders.{is_special}
use Rattle.st_browse.proofs.codes.has_special.Given as goal

-- none of the bytecodes so far is the send
abbrev pub invariant-loop-at : goal.invariant-loop-at
invariant-loop-at g l =
    let units = (object_of (g.M.Memory.view l.m).objects (value l.body.method)).units in
    (list_any (is_special (Some l.k)) (codes_of (drop l.at units)) ≡ list_any (is_special (Some l.k)) (codes_of units)) × (l.at ≤ l.body.units + 2)

abbrev pub decreases-loop-at : goal.decreases-loop-at
decreases-loop-at g l = l.body.units - l.at
