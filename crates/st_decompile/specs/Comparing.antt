-- Whether two methods are the same.
use Rattle.std.specs.Prelude.{Bool, true, false, ◌&&◌, ◌==◌, List, [], ◌∷◌, bytes_eq}
use Rattle.st_emit.specs.Literals.{LiteralView, LiteralsView, number, character, bytes, symbol, array, named, owner, no_literals, literal, signed_eq}
use Rattle.st_code.specs.Methods.{PartsView}

abbrev mutual
  pub same_literal : LiteralView → LiteralView → Bool
  same_literal (number m) (number n) = signed_eq m n
  same_literal (character b) (character c) = b == c
  same_literal (bytes s) (bytes t) = bytes_eq s t
  same_literal (symbol s) (symbol t) = bytes_eq s t
  same_literal (array ls) (array ms) = same_members ls ms
  same_literal (named p) (named q) = p == q
  same_literal owner owner = true
  same_literal _ _ = false

  pub same_members : LiteralsView → LiteralsView → Bool
  same_members no_literals no_literals = true
  same_members (literal l ls) (literal m ms) = same_literal l m && same_members ls ms
  same_members _ _ = false

-- literals as the members of an array
abbrev pub as_members : List LiteralView → LiteralsView
as_members [] = no_literals
as_members (l ∷ ls) = literal l (as_members ls)

abbrev pub same_parts : PartsView → PartsView → Bool
same_parts a b = a.header == b.header && (bytes_eq a.selector b.selector && (bytes_eq a.bytes b.bytes && same_members (as_members a.literals) (as_members b.literals)))
