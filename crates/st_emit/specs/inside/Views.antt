-- What contracts see of the compiler's types.
use Rattle.std.specs.Prelude.{List, [], ◌∷◌, map}
use Rattle.st_emit.specs.declared.literal.Literal.{Literal, Row_of-Literal, end_of-Literal, more_of-Literal}
use Rattle.st_emit.specs.declared.literal.Literal.TheVariants.{Number, Character, Bytes, Symbol, Array', Named, Owner}
use Rattle.st_emit.specs.Literals.{LiteralView, number, character, bytes, symbol, array, named, owner, LiteralsView, no_literals, literal}

abbrev mutual
  pub literal_view : Literal → LiteralView
  literal_view (Number minus size) = number (record { minus = minus; size = size })
  literal_view (Character b) = character b
  literal_view (Bytes t) = bytes t.items
  literal_view (Symbol t) = symbol t.items
  literal_view (Array' shape row) = array (members_in row)
  literal_view (Named p) = named p.0
  literal_view Owner = owner

  pub members_in : {m : _} → Row_of-Literal m → LiteralsView
  members_in end_of-Literal = no_literals
  members_in (more_of-Literal l rest) = literal (literal_view l) (members_in rest)

-- the members of a literal array
abbrev pub members_view : List Literal → LiteralsView
members_view [] = no_literals
members_view (l ∷ ls) = literal (literal_view l) (members_view ls)

-- the literals of a method
abbrev pub literals_view : List Literal → List LiteralView
literals_view ls = map literal_view ls
