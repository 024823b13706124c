-- What is printed of a tree is read as that tree.
use Rattle.std.specs.Prelude.{◌≡◌}
use Rattle.st_scan.specs.Views.{MethodView}
use Rattle.st_scan.specs.inside.Placeless.{without_places}
use Rattle.st_grammar.specs.inside.Meant.{Means}
use Rattle.st_print.specs.Printed.{printed}

-- the printed text of a tree means a tree that is the same but for places
pub record IsPrintedBack (t : MethodView) : Type 0 where
  pub tree : MethodView
  pub means : Means (printed t) tree
  pub is_same : without_places tree ≡ without_places t
