use Rattle.st_browse.specs.inside.Entries.{count_of, name_at, name_if}
use Rattle.st_browse.proofs.Seeking.{IsNext}
use Rattle.st_browse.proofs.places.next_name.Given as goal

-- the first of those that the last places name
abbrev pub invariant-loop-left : goal.invariant-loop-left
invariant-loop-left g l =
    let t = (g.M.Memory.view l.m).objects in
    IsNext t (name_at t l.names) (count_of l.names) (name_if t l.after) l.left l.best

abbrev pub decreases-loop-left : goal.decreases-loop-left
decreases-loop-left g l = l.left
