-- The members of a literal array, as code has them.
use Rattle.std.specs.Prelude.{List, Option, Some, None}
use Rattle.std.specs.Borrow.{Bor}
use Rattle.st_emit.specs.declared.literal.Literal.{Literal}
use Rattle.st_emit.specs.inside.Views.{members_view}
use Rattle.st_emit.specs.Literals.{LiteralView, LiteralsView, array}

-- the members of a literal array
abbrev pub members_of : LiteralView → Option LiteralsView
members_of (array ls) = Some ls
members_of _ = None

abbrev pub members_now : Bor (List Literal) → LiteralsView
members_now ls = members_view ls.now
