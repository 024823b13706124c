-- The header of a group, held as its class's name and its category, one behind the other.
use Rattle.std.specs.Prelude.{◌≡◌, ℕ, ◌≤◌, Bool, List, ◌++◌, length, reverse, take, drop, codes, Option, Some, None, MatchBool}
use Rattle.std.specs.Option.{option_and_then}
use Rattle.st_chunk.specs.Groups.{after_blanks, GroupHeader, header_of, behind, behind_blanks, inside_quotes}
use Rattle.st_chunk.specs.declared.heading.Heading.{Heading}

abbrev pub heading_in : List ℕ → ℕ → Bool → GroupHeader
heading_in held k meta = record { class = take k held; meta = meta; category = drop k held }

pub record IsFoundHeading (chunk held : List ℕ) (h : Heading) : Type 0 where
  pub is : header_of chunk ≡ Some (heading_in held h.class_length h.meta)
  pub within : h.class_length ≤ length held

-- the chunk is this header, or it is none
abbrev pub FindsHeading : List ℕ → List ℕ → Option Heading → Type 0
FindsHeading chunk held None = header_of chunk ≡ None
FindsHeading chunk held (Some h) = IsFoundHeading chunk held h

-- without the blanks at the end
abbrev pub before_blanks : List ℕ → List ℕ
before_blanks text = reverse (after_blanks (reverse text))

-- what stands behind a class's `class` and blanks, where they are there
abbrev pub class_side_in : List ℕ → Option (List ℕ)
class_side_in text = option_and_then behind_blanks (behind (codes "class") text)

-- what stands behind methodsFor:, blanks and a quote
abbrev pub category_in : List ℕ → Option (List ℕ)
category_in text = option_and_then (behind (codes "'")) (option_and_then behind_blanks (behind (codes "methodsFor:") text))

-- what the bytes up to a string's closing quote mean stands behind what was held
pub record IsUnquoted (text old new : List ℕ) : Type 0 where
  pub category : List ℕ
  pub is : inside_quotes text ≡ Some category
  pub held : new ≡ old ++ category

-- that was found, or no string ends with the text
abbrev pub Unquotes : List ℕ → List ℕ → List ℕ → Bool → Type 0
Unquotes text old new found = MatchBool found (IsUnquoted text old new) (inside_quotes text ≡ None)
