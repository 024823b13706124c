-- Where the first objects stand, and what their fields hold.
use Rattle.std.specs.Prelude.{ℕ, ◌+◌, ◌%◌, nat_lt, List, [], ◌∷◌, map, slice_index, Option, Some, None, if◌then◌else◌}
use Rattle.std.specs.List.{position}
use Rattle.st_model.specs.declared.kind.Kind.TheVariants as kind
use Rattle.st_model.specs.Values.{Value, Small, Ref}
use Rattle.st_model.specs.Objects.{Object, nil}
use Rattle.st_first_objects.specs.Things.{Thing, same}
use Rattle.st_first_objects.specs.Plans.{FirstObjects}
use Rattle.st_first_objects.specs.Contents.{Field, Empty, Number, To, Body, Fields, Bytes, NoWords, Content, content}

-- half of each pointer of the root page, and of the even ones between them
abbrev pub first_places : List ℕ
first_places =
    1 ∷ 2 ∷ 3 ∷ 4 ∷ 6 ∷ 7 ∷ 8 ∷ 11 ∷ 12 ∷ 13 ∷ 14 ∷ 16 ∷ 17 ∷ 20 ∷ 21 ∷ 22 ∷ 24 ∷ 25 ∷ 26 ∷ 28
    ∷ 5 ∷ 9 ∷ 10 ∷ 15 ∷ 18 ∷ 19 ∷ 23 ∷ 27 ∷ []

-- half of the pointer of the object that is made as this one, counted from 0: the first twenty are the root page, and each other one takes
-- the least that is free
unfoldable pub place : ℕ → ℕ
place i = if nat_lt i 28 then slice_index first_places i else i + 1

-- nil's, where the thing isn't made
abbrev pub place_at : Option ℕ → ℕ
place_at (Some i) = place i
place_at None = 1

unfoldable pub place_in : List Thing → Thing → ℕ
place_in things t = place_at (position (same t) things)

-- a SmallInteger has 15 bits
abbrev pub value_in : List Thing → Field → Value
value_in things Empty = nil
value_in things (Number n) = Small (n % 32768)
value_in things (To t) = Ref (place_in things t)

abbrev pub object_by : List Thing → (class : ℕ) → Body → Object
object_by things class (Fields fields) = record { class = class; kind = kind.Pointers; fields = map (value_in things) fields; units = [] }
object_by things class (Bytes bytes) = record { class = class; kind = kind.Bytes; fields = []; units = bytes }
object_by things class NoWords = record { class = class; kind = kind.Words; fields = []; units = [] }

abbrev pub object_in : List Thing → Content → Object
object_in things c = object_by things (place_in things c.class) c.body

unfoldable pub object : FirstObjects → Thing → Object
object p t = object_in p.order.things (content p t)
