use Rattle.std.proofs.Common.{length}
use Rattle.std.specs.Prelude.{IfSome}
use Rattle.st_model.specs.Values.{value}
use Rattle.st_browse.specs.inside.Listing.{is_chosen, line_text, next_in_order}
use Rattle.st_browse.specs.inside.Entries.{IsName, name_if, names_in}
use Rattle.st_browse.proofs.Going.{IsSaid}
use Rattle.st_browse.proofs.listing.push_listed.Given as goal

-- the lines of the names so far were added
abbrev pub invariant-loop-n : goal.invariant-loop-n
invariant-loop-n g l =
    let t = (g.M.Memory.view l.m).objects in
    IsSaid (is_chosen t l.choice) (names_in t l.names) g.H.Host (λ n. line_text t l.line n.name) (name_if t l.after) l.initial.host l.host l.initial.out l.out
    × IfSome l.after (λ a. IsName t (value a))

abbrev pub decreases-loop-n : goal.decreases-loop-n
decreases-loop-n g l =
    let t = (g.M.Memory.view l.m).objects in
    length (next_in_order (name_if t l.after) (names_in t l.names))
