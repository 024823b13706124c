-- Whether there is room for a method, with the refusals in their order.
use Rattle.std.specs.Prelude.{ℕ, ◌+◌, List, Option, Some, None, Result, Ok, Err, Bool, true, false}
use Rattle.st_model.specs.declared.dead.Dead.TheVariants as dead
use Rattle.st_model.specs.declared.demand.Demand.{Demand}
use Rattle.st_model.specs.Values.{Value}
use Rattle.st_model.specs.Machine.{ObjectMemory, Head, Step, Went, answer, tried, used, is_over, ◌>>=◌, ◌>>◌}
use Rattle.st_model.specs.Steps.{or_die}
use Rattle.st_code.specs.Methods.{PartsView}
use Rattle.st_scope.specs.declared.fault.InstallFault.{InstallFault}
use Rattle.st_scope.specs.declared.fault.InstallFault.TheVariants.{NoRoom, Shape}
use Rattle.st_scope.specs.Classes.{class_association}
use Rattle.st_install.specs.Plans.{Plan, demand_of_all}
use Rattle.st_install.specs.Planning.{plan}

abbrev pub both : Demand → Demand → Demand
both a b = record { entries = a.entries + b.entries; words = a.words + b.words }

abbrev pub room_or : Plan → Bool → Result Plan InstallFault
room_or p true = Err (NoRoom (demand_of_all p.objects))
room_or p false = Ok p

module _ {H : Type 0} (m : ObjectMemory H) where
  -- the objects of the plan have no room beside those that are kept
  unfoldable pub is_crowded : Head → Demand → Step H Bool
  is_crowded head demand = record { run = λ s. Went (is_over (both (used m s.memory) demand) head) s }

  unfoldable pub with_room : Head → Option Plan → Step H (Result Plan InstallFault)
  with_room head None = answer (Err Shape)
  with_room head (Some p) = do
    crowded ← is_crowded head (demand_of_all p.objects)
    answer (room_or p crowded)

  -- the plan for parts that were compiled for a class, of which this is the global association
  unfoldable pub planned_for : Head → (association class : Value) → (meta : Bool) → PartsView → Step H Plan
  planned_for head association class meta parts = do
    symbol_table ← or_die dead.Field head.symbols
    plan m symbol_table association class meta parts

  -- the same for a class that was found by its name
  unfoldable pub planned : Head → Value → List ℕ → (meta : Bool) → PartsView → Step H Plan
  planned head class name meta parts = do
    globals ← or_die dead.Field head.globals
    association ← class_association m globals name
    planned_for head association class meta parts

  unfoldable pub ready_for : Head → (association class : Value) → (meta : Bool) → PartsView → Step H (Result Plan InstallFault)
  ready_for head association class meta parts = do
    p ← tried (planned_for head association class meta parts)
    with_room head p

  unfoldable pub ready : Head → Value → List ℕ → (meta : Bool) → PartsView → Step H (Result Plan InstallFault)
  ready head class name meta parts = tried (planned head class name meta parts) >>= with_room head
