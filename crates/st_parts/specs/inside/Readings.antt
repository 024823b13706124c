-- What lists of the code mean.
use Rattle.std.specs.Prelude.{List, Option, option_map}
use Rattle.std.specs.Global.{Vec}
use Rattle.st_emit.specs.declared.literal.Literal.{Literal}
use Rattle.st_emit.specs.Literals.{LiteralView, LiteralsView}
use Rattle.st_emit.specs.inside.Views.{literals_view, members_view}

-- members of an Array
abbrev pub members_if : Option (Vec Literal) → Option LiteralsView
members_if ls = option_map (λ (l : Vec Literal). members_view l.items) ls

-- literals of a method
abbrev pub literals_if : Option (Vec Literal) → Option (List LiteralView)
literals_if ls = option_map (λ (l : Vec Literal). literals_view l.items) ls
