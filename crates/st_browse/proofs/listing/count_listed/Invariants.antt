use Rattle.std.proofs.Common.{length}
use Rattle.std.specs.Prelude.{IfSome}
use Rattle.st_model.specs.Values.{value}
use Rattle.st_browse.specs.inside.Listing.{is_chosen, next_in_order}
use Rattle.st_browse.specs.inside.Entries.{IsName, name_if, names_in}
use Rattle.st_browse.proofs.Going.{IsCounted}
use Rattle.st_browse.proofs.listing.count_listed.Given as goal

-- the names so far were counted
abbrev pub invariant-loop-n : goal.invariant-loop-n
invariant-loop-n g l =
    let t = (g.M.Memory.view l.m).objects in
    IsCounted (is_chosen t l.choice) (names_in t l.names) (name_if t l.after) l.count
    × IfSome l.after (λ a. IsName t (value a))

abbrev pub decreases-loop-n : goal.decreases-loop-n
decreases-loop-n g l =
    let t = (g.M.Memory.view l.m).objects in
    length (next_in_order (name_if t l.after) (names_in t l.names))
