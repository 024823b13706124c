use Rattle.std.proofs.Common.{length}
use Rattle.std.specs.Prelude.{IfSome}
use Rattle.st_model.specs.Values.{value}
use Rattle.st_browse.specs.Classes.{is_class}
use Rattle.st_browse.specs.inside.Listing.{next_in_order}
use Rattle.st_browse.specs.Replies.{senders_count}
use Rattle.st_browse.specs.inside.Entries.{IsName, count_of, name_if, names_in}
use Rattle.st_browse.proofs.Summing.{IsSummed}
use Rattle.st_browse.proofs.senders.count_senders.Given as goal

-- the senders in the classes so far were counted
abbrev pub invariant-loop-n : goal.invariant-loop-n
invariant-loop-n g l =
    let t = (g.M.Memory.view l.m).objects in
    IsSummed (is_class t) (names_in t l.globals) (senders_count t l.selector) (count_of l.globals) (name_if t l.after) l.count
    × IfSome l.after (λ a. IsName t (value a))

abbrev pub decreases-loop-n : goal.decreases-loop-n
decreases-loop-n g l =
    let t = (g.M.Memory.view l.m).objects in
    length (next_in_order (name_if t l.after) (names_in t l.globals))
