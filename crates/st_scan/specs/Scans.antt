-- A text as blanks, comments and tokens one after the other, up to its end or its first fault.
use Rattle.std.specs.Prelude.{◌≡◌, ℕ, ◌+◌, ◌-◌, ◌<◌, ◌≤◌, Bool, true, false, not, ◌&&◌, ◌||◌, ◌==◌, nat_lt, if◌then◌else◌, List, [], ◌∷◌, ◌++◌, length, drop, slice_range, Option, Some, None}
use Rattle.std.specs.Str.{byte}
use Rattle.st_scan.specs.declared.token.Token.{Token}
use Rattle.st_scan.specs.declared.token.Sort.{Sort}
use Rattle.st_scan.specs.declared.token.Sort.TheVariants as sorts
use Rattle.st_scan.specs.Pieces.{Piece, blank, comment, name, keyword, operator, number, character, string, symbol, opening, mark, spelling, size, begins, Stands}

-- SIGNS

-- What the tokens so far say of a - before a digit: whether the last one is an operand (a name, a literal, ) or ]),
-- and how many parentheses of a literal array are open.
pub record Context : Type 0 where
  pub operand : Bool
  pub depth : ℕ

abbrev pub start : Context
start = record { operand = false; depth = 0 }

-- a sign may stand where no operand stands before, and always in literal arrays
abbrev pub signs : Context → Bool
signs c = not c.operand || nat_lt 0 c.depth

abbrev pub is_operand : Piece → Bool
is_operand (keyword n) = false
is_operand (operator o) = false
is_operand opening = false
is_operand (mark m) = begins (λ b. b == byte ")" || b == byte "]") m
is_operand _ = true

-- #( opens a literal array; in one, ( opens another, and ) closes one
abbrev pub depth_after : ℕ → Piece → ℕ
depth_after n opening = n + 1
depth_after n (mark m) = if begins (λ b. b == byte "(") m && nat_lt 0 n then n + 1 else (if begins (λ b. b == byte ")") m then n - 1 else n)
depth_after n _ = n

-- blanks and comments say nothing
abbrev pub after : Context → Piece → Context
after c (blank b) = c
after c (comment inside) = c
after c p = record { operand = is_operand p; depth = depth_after c.depth p }

abbrev pub after_all : Context → List Piece → Context
after_all c [] = c
after_all c (p ∷ ps) = after_all (after c p) ps

-- PIECES

abbrev pub joined : List Piece → List ℕ
joined [] = []
joined (p ∷ ps) = spelling p ++ joined ps

-- the pieces stand one after the other in a text, before the rest of it
abbrev pub AllStand : Context → List Piece → List ℕ → Type 0
AllStand c [] rest = Unit {0}
AllStand c (p ∷ ps) rest = Stands (signs c) p (joined ps ++ rest) × AllStand (after c p) ps rest

-- TOKENS

-- a piece that stands at a place is a token of this sort, if it is one
abbrev pub sort_of : Piece → Option Sort
sort_of (blank b) = None
sort_of (comment inside) = None
sort_of (name n) = Some sorts.Name
sort_of (keyword n) = Some sorts.Keyword
sort_of (operator o) = Some sorts.Operator
sort_of (number minus ds) = Some (sorts.Number (record { minus = minus; size = size ds }))
sort_of (character b) = Some (sorts.Character b)
sort_of (string inside) = Some sorts.Bytes
sort_of (symbol s) = Some sorts.Symbol
sort_of opening = Some sorts.Opening
sort_of (mark m) = Some sorts.Mark

-- the token of a sort from a place on, before others
abbrev pub with_token : ℕ → ℕ → Option Sort → List Token → List Token
with_token at length None ts = ts
with_token at length (Some sort) ts = record { start = at; end = at + length; sort = sort } ∷ ts

-- the tokens among pieces, the first of which begins at a place
abbrev pub tokens_from : ℕ → List Piece → List Token
tokens_from at [] = []
tokens_from at (p ∷ ps) = with_token at (length (spelling p)) (sort_of p) (tokens_from (at + length (spelling p)) ps)

-- The tokens lie one behind the other, from a place on and up to another, and each has a byte or more.
abbrev pub AreSpans : ℕ → List Token → ℕ → Type 0
AreSpans from [] to = from ≤ to
AreSpans from (t ∷ ts) to = (from ≤ t.start) × (t.start < t.end) × AreSpans t.end ts to

-- the bytes of a token, by its span
abbrev pub token_text : List ℕ → Token → List ℕ
token_text text t = slice_range text t.start t.end

-- the bytes at a token's span are a piece of its sort, before the rest of the text
pub record IsToken (text : List ℕ) (t : Token) : Type 0 where
  pub which : Piece
  pub sign : Bool
  pub stands : Stands sign which (drop t.end text)
  pub is_sort : sort_of which ≡ Some t.sort
  pub is_text : spelling which ≡ token_text text t

-- SCANS

-- pieces with these tokens whose bytes, joined, are the text
pub record IsJoined (text : List ℕ) (tokens : List Token) : Type 0 where
  pub pieces : List Piece
  pub whole : joined pieces ≡ text
  pub are_tokens : tokens_from 0 pieces ≡ tokens
