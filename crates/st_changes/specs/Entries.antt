-- What a text begins with: the parts of an entry, and an entry.
use Rattle.std.specs.Prelude.{◌≡◌, ℕ, ◌≤◌, ◌&&◌, Bool, not, nat_le, List, ◌∷◌, ◌++◌, length, reverse, drop, Option, Some, None, IsTrue, codes}
use Rattle.st_chunk.specs.Texts.{mark, most, doubled, is_blank}
use Rattle.st_chunk.specs.Groups.{begins, is_name, GroupHeader, header_text, side_text}
use Rattle.st_chunk.specs.Definitions.{Definition, IsDefinition, line_feed, entry}
use Rattle.st_changes.specs.declared.header.GroupHeader as headers
use Rattle.st_changes.specs.declared.entry.Head.{Head}
use Rattle.st_changes.specs.declared.entry.Method.{Method}

-- HEADERS

-- what a header has behind its class, up to the category's first byte
abbrev pub side_front : Bool → List ℕ
side_front meta = side_text meta ++ codes " methodsFor: '"

pub record IsSide (text : List ℕ) (meta : Bool) (n : ℕ) : Type 0 where
  pub is : text ≡ side_front meta ++ drop n text
  pub long : n ≡ length (side_front meta)

-- what stands behind a header's class was found, or the text doesn't begin so
abbrev pub FindsSide : List ℕ → Option (Bool × ℕ) → Type 0
FindsSide text None = (meta : Bool) (behind : List ℕ) → text ≡ side_front meta ++ behind → ⊥
FindsSide text (Some r) = IsSide text r.0 r.1

abbrev pub header_of : headers.GroupHeader → GroupHeader
header_of h = record { class = h.class.items; meta = h.meta; category = h.category.items }

-- the text is that of a header whose class is named by letters and digits
pub record IsHeader (text : List ℕ) (h : GroupHeader) : Type 0 where
  pub is : text ≡ header_text h
  pub named : IsTrue (is_name h.class)

abbrev pub FindsHeader : List ℕ → Option headers.GroupHeader → Type 0
FindsHeader text None = (h : GroupHeader) → IsHeader text h → ⊥
FindsHeader text (Some h) = IsHeader text (header_of h)

-- ENTRIES

-- the text begins as an entry does, up to the method's text
pub record IsHead (text : List ℕ) (h : GroupHeader) (behind : List ℕ) : Type 0 where
  pub is : text ≡ mark ∷ (doubled (header_text h) ++ (mark ∷ line_feed ∷ behind))
  pub named : IsTrue (is_name h.class)
  pub short : length (header_text h) ≤ most

pub record IsFoundHead (text : List ℕ) (head : Head) : Type 0 where
  pub is : IsHead text (header_of head.header) (drop head.length text)
  pub within : head.length ≤ length text

abbrev pub FindsHead : List ℕ → Option Head → Type 0
FindsHead text None = (h : GroupHeader) (behind : List ℕ) → IsHead text h behind → ⊥
FindsHead text (Some head) = IsFoundHead text head

-- a method may have this text: it is there, not too long, and has no blank at its ends
abbrev pub is_text : List ℕ → Bool
is_text text = nat_le 1 (length text) && nat_le (length text) most && not (begins is_blank text) && not (begins is_blank (reverse text))

-- the text begins with a method's text and what closes its group
pub record IsMethod (text bytes behind : List ℕ) : Type 0 where
  pub is : text ≡ doubled bytes ++ (codes "! !" ++ line_feed ∷ behind)
  pub good : IsTrue (is_text bytes)

pub record IsFoundMethod (text : List ℕ) (method : Method) : Type 0 where
  pub is : IsMethod text method.text.items (drop method.length text)
  pub within : method.length ≤ length text

abbrev pub FindsMethod : List ℕ → Option Method → Type 0
FindsMethod text None = (bytes behind : List ℕ) → IsMethod text bytes behind → ⊥
FindsMethod text (Some method) = IsFoundMethod text method

-- the text begins with the entry of a definition
pub record BeginsWith (d : Definition) (text behind : List ℕ) : Type 0 where
  pub good : IsDefinition d
  pub is : text ≡ entry d ++ behind
