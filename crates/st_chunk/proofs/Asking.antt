-- Each definition that a script asks for meets `IsDefinition`.
use Rattle.std.proofs.Common.{ℕ, List, [], ◌∷◌, ◌++◌}
use Rattle.std.specs.Prelude.{Some, None}
use Rattle.st_chunk.specs.Definitions.{IsDefinition}
use Rattle.st_chunk.specs.declared.request.Request.{Request}
use Rattle.st_chunk.specs.declared.request.Request.TheVariants.{Browse, Define}
use Rattle.st_chunk.specs.Reading.{Place, Browsed, Defined, CutOff, Reading, Told, read, end_read}
use Rattle.st_chunk.specs.Scripts.{Asked, Asks, Browses, Defines, asked_at, asked_by, asked_at_end, asked_from, told_from, IsSound}
use Rattle.st_chunk.proofs.Places.{read_right, end_right}

-- a line, what is to be looked at, or a definition that meets it
abbrev pub IsGood : Asked → Type 0
IsGood (Asks request) = Unit {0}
IsGood (Browses ask) = Unit {0}
IsGood (Defines d) = IsDefinition d

abbrev pub AreGood : List Asked → Type 0
AreGood [] = Unit {0}
AreGood (a ∷ rest) = IsGood a × AreGood rest

both : (a b : List Asked) → AreGood a → AreGood b → AreGood (a ++ b)
both [] b p q = q
both (x ∷ a) b p q = (p.0, both a b p.1 q)

by_place : (place : Place) (request : Request) → IsSound place → IsGood (asked_at place request)
by_place (Browsed ask) Browse sound = tt
by_place (Browsed ask) request sound = tt
by_place (Defined h s) Define sound = sound.1
by_place (Defined h s) request sound = tt
by_place (CutOff h s) Define sound = sound.1
by_place (CutOff h s) request sound = tt
by_place place request sound = tt

by_told : (t : Told) → IsSound t.0.place → AreGood (asked_by t)
by_told (r, None) sound = tt
by_told (r, Some request) sound = (by_place r.place request sound, tt)

at_end : (r : Reading) → IsSound r.place → AreGood (asked_at_end r)
at_end r sound =
    let first = end_right r sound in
    let second = end_right (end_read r).0 first.sound in
    both (asked_by (end_read r)) (asked_by (end_read (end_read r).0)) (by_told (end_read r) first.sound) (by_told (end_read (end_read r).0) second.sound)

pub told_good : (r : Reading) (text : List ℕ) → IsSound r.place → AreGood (told_from r text)
told_good r [] sound = tt
told_good r (b ∷ text) sound =
    let right = read_right r b sound in
    both (asked_by (read r b)) (told_from (read r b).0 text) (by_told (read r b) right.sound) (told_good (read r b).0 text right.sound)

pub asked_good : (r : Reading) (text : List ℕ) → IsSound r.place → AreGood (asked_from r text)
asked_good r [] sound = at_end r sound
asked_good r (b ∷ text) sound =
    let right = read_right r b sound in
    both (asked_by (read r b)) (asked_from (read r b).0 text) (by_told (read r b) right.sound) (asked_good (read r b).0 text right.sound)
