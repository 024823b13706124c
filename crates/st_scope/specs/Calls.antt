-- The calls of this crate, each with its refusals in their order: what a definition's class is, and what names its methods see.
use Rattle.std.specs.Prelude.{ℕ, ◌∷◌, [], ◌++◌, List, Option, Some, None, is_some, Result, Ok, Err, Bool}
use Rattle.st_model.specs.Values.{Value}
use Rattle.st_model.specs.Machine.{ObjectMemory, Head, Step, answer, tried, ◌>>=◌, ◌>>◌}
use Rattle.st_scan.specs.Views.{MethodView}
use Rattle.st_emit.specs.Names.{NamesView}
use Rattle.st_scope.specs.declared.fault.InstallFault.{InstallFault}
use Rattle.st_scope.specs.declared.fault.InstallFault.TheVariants.{NoClass, NoGlobals, Shape}
use Rattle.st_scope.specs.Classes.{class_named, lineage}
use Rattle.st_scope.specs.Mentions.{mentioned_in}
use Rattle.st_scope.specs.Variables.{field_names, pools, shared_names}
use Rattle.st_scope.specs.Shapes.{check_dictionary, check_symbols}

-- where a step was tried and died, this fault
abbrev pub or_fault : {A : Type 0} → InstallFault → Option A → Result A InstallFault
or_fault fault None = Err fault
or_fault fault (Some a) = Ok a

-- the table of globals, where there is one
abbrev pub as_table : Option Value → List Value
as_table None = []
as_table (Some globals) = globals ∷ []

module _ {H : Type 0} (m : ObjectMemory H) where
  -- CLASS

  unfoldable pub class_among : Option Value → List ℕ → (meta : Bool) → Step H (Result Value InstallFault)
  class_among None name meta = answer (Err NoGlobals)
  class_among (Some globals) name meta = do
    class ← tried (class_named m globals name meta)
    answer (or_fault NoClass class)

  -- the class of this name, on this side
  unfoldable pub class_of_name : Head → List ℕ → (meta : Bool) → Step H (Result Value InstallFault)
  class_of_name head name meta = class_among head.globals name meta

  -- NAMES

  -- the names that the tree's statements see, where class and symbol table have the form that an installation asks
  unfoldable pub names_seen : Head → Value → (meta : Bool) → MethodView → Step H NamesView
  names_seen head class meta tree = do
    l ← lineage m class meta
    fields ← field_names m l.owners
    tables ← pools m l.sharers
    check_dictionary m class
    check_symbols m head.symbols
    shared ← shared_names m (tables ++ as_table head.globals) (mentioned_in tree.body)
    answer (record { fields = fields; shared = shared; symbols = is_some head.symbols })

  unfoldable pub names : Head → Value → (meta : Bool) → MethodView → Step H (Result NamesView InstallFault)
  names head class meta tree = do
    seen ← tried (names_seen head class meta tree)
    answer (or_fault Shape seen)
