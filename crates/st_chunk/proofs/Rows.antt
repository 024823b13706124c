-- Worked texts.
use Rattle.std.proofs.Common.{◌≡◌, ℕ, true, false, List, [], ◌∷◌, length, refl}
use Rattle.std.specs.Prelude.{codes, Some, None}
use Rattle.st_chunk.specs.Texts.{cut, is_empty}
use Rattle.st_chunk.specs.Groups.{GroupHeader, header_of, groups}
use Rattle.st_chunk.specs.Definitions.{Definition, entry}

two_chunks : cut (codes "a!b!!c! ") ≡ record { chunks = codes "a" ∷ codes "b!c" ∷ []; rest = codes " " }
two_chunks = refl

-- a text that ends in a mark, which ends a chunk, and in two, which end none
mark_at_the_end : cut (codes "ab!") ≡ record { chunks = codes "ab" ∷ []; rest = [] }
mark_at_the_end = refl

two_marks_at_the_end : cut (codes "ab!!") ≡ record { chunks = []; rest = codes "ab!" }
two_marks_at_the_end = refl

-- of three marks the first two are one of the chunk's bytes
three_marks : cut (codes "ab!!!c!") ≡ record { chunks = codes "ab!" ∷ codes "c" ∷ []; rest = [] }
three_marks = refl

-- a mark ends a chunk that begins a text, or that is all of blanks
empty_chunks : cut (codes "!Point! !") ≡ record { chunks = [] ∷ codes "Point" ∷ codes " " ∷ []; rest = [] }
empty_chunks = refl

blank_chunk : is_empty (codes " \t\n") ≡ true
blank_chunk = refl

abbrev header : List ℕ → List ℕ → GroupHeader
header class category = record { class = class; meta = false; category = category }

abbrev class_header : List ℕ → List ℕ → GroupHeader
class_header class category = record { class = class; meta = true; category = category }

one_header : header_of (codes "Point methodsFor: 'accessing'") ≡ Some (header (codes "Point") (codes "accessing"))
one_header = refl

-- with blanks round it and within, on the class side, and a quote in the category
other_header : header_of (codes "\nPoint  class\tmethodsFor:  'it''s' ") ≡ Some (class_header (codes "Point") (codes "it's"))
other_header = refl

class_named_class : header_of (codes "class methodsFor: ''") ≡ Some (header (codes "class") [])
class_named_class = refl

no_blank_before_the_string : header_of (codes "Point methodsFor:'a'") ≡ None
no_blank_before_the_string = refl

text_behind_the_string : header_of (codes "Point methodsFor: 'a' b") ≡ None
text_behind_the_string = refl

name_with_a_sign : header_of (codes "Point-x methodsFor: 'a'") ≡ None
name_with_a_sign = refl

abbrev x : Definition
x = record { class = codes "Point"; meta = false; category = codes "accessing"; text = codes "x\n\t^x" }

entry_of_x : entry x ≡ codes "!Point methodsFor: 'accessing'!\nx\n\t^x! !\n"
entry_of_x = refl

length_of_x : length (entry x) ≡ 41
length_of_x = refl

abbrev wow : Definition
wow = record { class = codes "Point"; meta = true; category = codes "a!"; text = codes "wow!" }

entry_of_wow : entry wow ≡ codes "!Point class methodsFor: 'a!!'!\nwow!!! !\n"
entry_of_wow = refl

-- where the marks of two groups touch they are one of a method's bytes
groups_touch : groups (cut (codes "!A methodsFor: 'b'! c !! !!A methodsFor: 'b'! !")).chunks
    ≡ Some (record { header = header (codes "A") (codes "b"); methods = codes "c ! !A methodsFor: 'b'" ∷ [] } ∷ [])
groups_touch = refl

-- a group with two methods, and one without
groups_apart : groups (cut (codes "!A methodsFor: 'b'! c !d! ! !A methodsFor: 'b'! !")).chunks
    ≡ Some (record { header = header (codes "A") (codes "b"); methods = codes "c" ∷ codes "d" ∷ [] } ∷ record { header = header (codes "A") (codes "b"); methods = [] } ∷ [])
groups_apart = refl

group_not_closed : groups (cut (codes "!A methodsFor: 'b'! c !")).chunks ≡ None
group_not_closed = refl
