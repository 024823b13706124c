-- Definitions of methods, and the text that a changes file keeps of each.
use Rattle.std.specs.Prelude.{ℕ, ◌≤◌, Bool, List, [], ◌∷◌, ◌++◌, length, reverse, map, IsTrue, IsFalse, Option, codes}
use Rattle.std.specs.Option.{option_map}
use Rattle.st_chunk.specs.Texts.{mark, most, chunks, doubled, is_blank}
use Rattle.st_chunk.specs.Groups.{begins, is_name, GroupHeader, header_text, Group, groups}

-- a class's name, whether the method is one of the class side, its category and its text
pub record Definition : Type 0 where
  pub class : List ℕ
  pub meta : Bool
  pub category : List ℕ
  pub text : List ℕ

abbrev pub header_for : Definition → GroupHeader
header_for d = record { class = d.class; meta = d.meta; category = d.category }

-- what each definition meets: the class is named by letters and digits, the text is there and has no blank at its ends,
-- and neither it nor the header has more bytes than a chunk may have
pub record IsDefinition (d : Definition) : Type 0 where
  pub named : IsTrue (is_name d.class)
  pub there : 1 ≤ length d.text
  pub short : length d.text ≤ most
  pub front : IsFalse (begins is_blank d.text)
  pub back : IsFalse (begins is_blank (reverse d.text))
  pub header : length (header_text (header_for d)) ≤ most

-- a line feed
abbrev pub line_feed : ℕ
line_feed = 10

-- what an entry has behind the line feed: the method's text, a mark, and an empty chunk that closes the group
abbrev pub method_part : Definition → List ℕ
method_part d = doubled d.text ++ (codes "! !" ++ line_feed ∷ [])

-- the text that a changes file keeps of a definition: a group with one method
abbrev pub entry : Definition → List ℕ
entry d = mark ∷ (doubled (header_text (header_for d)) ++ (mark ∷ line_feed ∷ method_part d))

abbrev pub entries : List Definition → List ℕ
entries [] = []
entries (d ∷ ds) = entry d ++ entries ds

-- the definitions that groups are, one for each method
abbrev pub group_definitions : Group → List Definition
group_definitions g = map (λ text. record { class = g.header.class; meta = g.header.meta; category = g.header.category; text = text }) g.methods

abbrev pub definitions : List Group → List Definition
definitions [] = []
definitions (g ∷ gs) = group_definitions g ++ definitions gs

-- the definitions that a text keeps
abbrev pub definitions_in : List ℕ → Option (List Definition)
definitions_in text = option_map definitions (groups (chunks text))
