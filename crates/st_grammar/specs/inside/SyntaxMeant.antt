-- That a text means a tree, or has a first fault.
use Rattle.std.specs.Prelude.{ℕ, List, Result, Ok, Err}
use Rattle.st_scan.specs.declared.fault.Fault.{Fault}
use Rattle.st_scan.specs.Views.{MethodView}
use Rattle.st_grammar.specs.inside.Meant.{Means, HasFirst}

-- a text means this tree, or this is its first fault
abbrev pub IsSyntax : List ℕ → Result MethodView Fault → Type 0
IsSyntax text (Ok tree) = Means text tree
IsSyntax text (Err f) = HasFirst text f
