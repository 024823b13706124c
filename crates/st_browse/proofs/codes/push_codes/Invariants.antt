use Rattle.std.proofs.Common.{◌+◌, ◌-◌, ◌*◌, ◌≤◌}
use Rattle.st_model.specs.Values.{value}
use Rattle.st_model.specs.View.{object_of}
use Rattle.st_browse.proofs.Parting.{ArePushed}
use Rattle.st_browse.proofs.codes.push_codes.Given as goal

-- the lines of the bytecodes so far were added
abbrev pub invariant-loop-at : goal.invariant-loop-at
invariant-loop-at g l =
    let units = (object_of (g.M.Memory.view l.m).objects (value l.body.method)).units in
    ArePushed g.H.Host units (2 * l.body.fields + 1) l.at l.initial.host l.host l.initial.out l.out × (l.at ≤ l.body.units + 2)

abbrev pub decreases-loop-at : goal.decreases-loop-at
decreases-loop-at g l = l.body.units - l.at
