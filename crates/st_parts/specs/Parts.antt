-- What a compiled method was made of (chapter 27): selector, header, literals and bytes, as the compiler answers them.
use Rattle.std.specs.Prelude.{ℕ, ◌+◌, ◌/◌, ◌==◌, ◌||◌, List, [], ◌∷◌, ◌++◌, Option, Some, None, Bool, false, ◌&&◌, option_and_then, option_map, if◌then◌else◌, get_or, take, length, nat_le, ◌-◌}
use Rattle.std.specs.List.{list_any}
use Rattle.st_model.specs.Values.{Value, is_small}
use Rattle.st_model.specs.Objects.{nil}
use Rattle.st_model.specs.Table.{Table}
use Rattle.st_model.specs.View.{View, object_of}
use Rattle.st_emit.specs.Names.{NamesView}
use Rattle.st_emit.specs.Literals.{LiteralView, named, owner}
use Rattle.st_code.specs.Methods.{PartsView}
use Rattle.st_parts.specs.Cutting.{codes_of}
use Rattle.st_parts.specs.Keys.{word_of, key_in, is_named_by}
use Rattle.st_parts.specs.declared.ending.Ending.{Ending}
use Rattle.st_parts.specs.declared.ending.Ending.TheVariants.{Plain, Owned, Extended}
use Rattle.st_parts.specs.Numbers.{small_number}
use Rattle.st_parts.specs.Contents.{contents, most_deep}
use Rattle.st_parts.specs.Owners.{is_owner_among}

-- a method of a selector, in the class of a name and a side
pub record Place : Type 0 where
  pub class : Value
  pub name : List ℕ
  pub meta : Bool
  pub selector : List ℕ
  pub method : Value

-- LITERALS

-- an association that a text can name by its key, or what the object is by its contents
abbrev pub literal_read : NamesView → Table → Value → Option LiteralView
literal_read names t v = if is_named_by names (key_in t v) (word_of v) then Some (named (word_of v)) else contents most_deep t v

abbrev pub literals_read : NamesView → Table → List Value → Option (List LiteralView)
literals_read names t [] = Some []
literals_read names t (v ∷ vs) = option_and_then (λ l. option_map (λ ls. l ∷ ls) (literals_read names t vs)) (literal_read names t v)

-- LAST LITERALS

-- 133 and 134 send to super
abbrev pub is_super_byte : ℕ → Bool
is_super_byte b = (b == 133) || (b == 134)

abbrev pub is_super_code : List ℕ → Bool
is_super_code [] = false
is_super_code (b ∷ bs) = is_super_byte b

-- one of the bytecodes does, also where a byte is none or the last one is cut off
abbrev pub sends_to_super : List ℕ → Bool
sends_to_super bytes = list_any is_super_code (codes_of bytes)

abbrev pub ending_of : (header : ℕ) → List ℕ → Ending
ending_of header bytes = if header / 8192 == 7 then Extended else (if sends_to_super bytes then Owned else Plain)

-- so many from the end
abbrev pub from_end : ℕ → List Value → Value
from_end n vs = get_or vs (length vs - n) nil

module _ (v : View) (at : Place) where
  abbrev pub is_owner : Value → Bool
  is_owner x = is_owner_among v.objects v.head.globals at.name at.class at.meta x

  -- the last literal is the association of the class
  abbrev pub ends_owned : List Value → Bool
  ends_owned vs = nat_le 1 (length vs) && is_owner (from_end 1 vs)

  -- and the one before is a SmallInteger, the extension of the header
  abbrev pub ends_extended : List Value → Bool
  ends_extended vs = nat_le 2 (length vs) && (is_small (from_end 2 vs) && is_owner (from_end 1 vs))

module _ (names : NamesView) (v : View) (at : Place) where
  -- all but so many from the end, and then these
  abbrev pub read_before : ℕ → List LiteralView → List Value → Option (List LiteralView)
  read_before n last vs = option_map (λ ls. ls ++ last) (literals_read names v.objects (take (length vs - n) vs))

  abbrev pub owned_read : List Value → Option (List LiteralView)
  owned_read vs = if ends_owned v at vs then read_before 1 (owner ∷ []) vs else None

  abbrev pub extended_read : List Value → Option (List LiteralView)
  extended_read vs = if ends_extended v at vs then read_before 2 (small_number (from_end 2 vs) ∷ owner ∷ []) vs else None

  abbrev pub all_read : Ending → List Value → Option (List LiteralView)
  all_read Plain vs = literals_read names v.objects vs
  all_read Owned vs = owned_read vs
  all_read Extended vs = extended_read vs

  -- PARTS

  abbrev pub parts_by : List Value → List ℕ → Option PartsView
  parts_by [] bytes = None
  parts_by (header ∷ literals) bytes =
      option_map (λ ls. record { selector = at.selector; header = word_of header; literals = ls; bytes = bytes }) (all_read (ending_of (word_of header) bytes) literals)

  -- there are none where a literal isn't what its place asks
  unfoldable pub parts_at : Option PartsView
  parts_at = parts_by (object_of v.objects at.method).fields (object_of v.objects at.method).units
