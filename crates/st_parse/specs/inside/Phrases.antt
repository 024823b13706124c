-- What the parts of an expression are while they are read, without where they lie in memory.
use Rattle.std.specs.Prelude.{◌≡◌, Bool, true, false, List, [], ◌∷◌, if◌then◌else◌}
use Rattle.st_scan.specs.Views.{expressions_view, statements_view}
use Rattle.st_grammar.specs.declared.leaf.Leaf.{Leaf}
use Rattle.st_grammar.specs.declared.leaf.Kind.TheVariants.{Return}
use Rattle.st_grammar.specs.Leaves.{among}
use Rattle.st_parse.specs.declared.sends.Parts.{Parts}
use Rattle.st_parse.specs.declared.bodies.Body.{Body}
use Rattle.st_grammar.specs.Reading.{PartsView, BodyView, is_target}

abbrev pub parts_view : Parts → PartsView
parts_view p = record { selector = p.selector.items; arguments = expressions_view p.arguments.items }

abbrev pub body_view : Body → BodyView
body_view b = record { statements = statements_view b.statements.items; goes_on = b.goes_on }

-- whether a caret stands first, and what is behind it
abbrev pub caret_at : List Leaf → Bool × List Leaf
caret_at [] = (false, [])
caret_at (x ∷ ts) = if among (Return ∷ []) x then (true, ts) else (false, x ∷ ts)

-- no name with an assignment stands first
abbrev pub NoTarget : List Leaf → Type 0
NoTarget (x ∷ y ∷ ts) = is_target x y ≡ false
NoTarget ts = Unit {0}

-- a name with an assignment stands first, before the rest
pub record BeginsWithTarget (ts : List Leaf) (name : Leaf) (rest : List Leaf) : Type 0 where
  pub assign : Leaf
  pub parts : ts ≡ name ∷ assign ∷ rest
  pub is : is_target name assign ≡ true
