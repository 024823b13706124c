use Rattle.std.proofs.Common.{◌≡◌}
use Rattle.st_browse.specs.Naming.{first_named}
use Rattle.st_browse.specs.inside.Entries.{count_of, name_at, names_in}
use Rattle.st_browse.proofs.Seeking.{named_from}
use Rattle.st_browse.proofs.places.first_named.Given as goal

-- the first of those that the places from here on name is the first of all
abbrev pub invariant-loop-i : goal.invariant-loop-i
invariant-loop-i g l =
    let t = (g.M.Memory.view l.m).objects in
    first_named l.text (named_from (name_at t l.names) (count_of l.names) l.i) ≡ first_named l.text (names_in t l.names)
