-- All that the contents of the first objects follow from.
use Rattle.std.specs.Prelude.{ℕ, List}
use Rattle.st_kernel_text.specs.Parts.{Part}
use Rattle.st_kernel_text.specs.Known.{Names}
use Rattle.st_kernel_text.specs.Texts.{Account}
use Rattle.st_first_objects.specs.Classes.{Declared, declared_in}
use Rattle.st_first_objects.specs.Orders.{Order, order}

pub record FirstObjects : Type 0 where
  pub parts : List Part
  -- the names that these parts declare
  pub names : Names
  pub order : Order

abbrev pub plan : Account → FirstObjects
plan a = record { parts = a.parts; names = a.names; order = order a }

abbrev pub declared : FirstObjects → List ℕ → Declared
declared p name = declared_in p.parts p.names name
