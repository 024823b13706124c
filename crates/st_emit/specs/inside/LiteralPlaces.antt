-- Where literals stand first, and what an index notes of it.
use Rattle.std.specs.Prelude.{◌≡◌, ℕ, List, Option, Some, None, if◌then◌else◌, option_map, position}
use Rattle.std.specs.Map.{lookup}
use Rattle.st_emit.specs.declared.literal_table.Key.{Key}
use Rattle.st_emit.specs.declared.literal_table.Key.TheVariants.{Number, Character, Symbol, Named}
use Rattle.st_emit.specs.Literals.{LiteralView, number, character, symbol, named, shares}

-- the literal that a key is of
abbrev pub key_view : Key → LiteralView
key_view (Number minus size) = number (record { minus = minus; size = size })
key_view (Character b) = character b
key_view (Symbol t) = symbol t.items
key_view (Named p) = named p

-- numbers, characters, symbols and associations share a place with their like
abbrev pub shared : LiteralView → Option LiteralView
shared (number n) = Some (number n)
shared (character b) = Some (character b)
shared (symbol t) = Some (symbol t)
shared (named p) = Some (named p)
shared _ = None

abbrev pub IsKeyOf : LiteralView → Option Key → Type 0
IsKeyOf l k = option_map key_view k ≡ shared l

-- the place that is noted of a literal
abbrev pub noted : List (Key × ℕ) → LiteralView → Option ℕ
noted entries l = lookup (λ k. shares l (key_view k)) entries

-- the place of the first literal that shares one with this
abbrev pub literal_place : List LiteralView → LiteralView → Option ℕ
literal_place ls l = position (shares l) ls

-- of each literal the place of the first one that shares it is noted
abbrev pub IsLiteralIndex : List LiteralView → List (Key × ℕ) → Type 0
IsLiteralIndex ls entries = (l : LiteralView) → noted entries l ≡ literal_place ls l

-- this place is noted of a key
abbrev pub IsNoted : Key → (place : ℕ) → (old new : List (Key × ℕ)) → Type 0
IsNoted k place old new = (l : LiteralView) → noted new l ≡ (if shares (key_view k) l then Some place else noted old l)
