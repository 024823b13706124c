-- What is told of a plan while it is made.
use Rattle.std.specs.Prelude.{◌≡◌, ℕ, ◌++◌, ◌∷◌, List, Bool, length, Some, None, Result, Ok, Err, ⊤, if◌then◌else◌}
use Rattle.st_model.specs.declared.page.PageObject.TheVariants.{MethodClass}
use Rattle.st_model.specs.Values.{Value, Ref, value, value_of}
use Rattle.st_model.specs.Objects.{place_of}
use Rattle.st_model.specs.Machine.{Head, State, Died, Went, Step, ◌>>=◌}
use Rattle.st_model.specs.Steps.{fetch_field}
use Rattle.st_model.specs.Table.{Table, table}
use Rattle.st_code.specs.Methods.{PartsView}
use Rattle.st_install.specs.declared.plan.Ready.{Ready}
use Rattle.st_install.specs.declared.planning.PlanDraft.{PlanDraft}
use Rattle.st_install.specs.declared.planning.Growth.{Growth}
use Rattle.st_install.specs.declared.plan.Owner.{Owner}
use Rattle.st_scope.specs.declared.fault.InstallFault.{InstallFault}
use Rattle.st_scope.specs.declared.unread.Unread.{Unread}
use Rattle.st_scope.specs.declared.unread.Unread.TheVariants.{Dies, OutOfMemory}
use Rattle.st_install.specs.Plans.{PlannedValue, There, Made, NewObject, Plan, method_object}
use Rattle.st_install.specs.Symbols.{Symbols}
use Rattle.st_install.specs.Literals.{PlacedAll}
use Rattle.st_install.specs.Dictionaries.{grows_for}
use Rattle.st_install.specs.Planning.{grown_if, plan_objects, plan}
use Rattle.st_install.specs.inside.Readies.{part_of, objects_of, stores_of, plan_of}
use Rattle.st_install.specs.inside.Growing.{IsGrown}
use Rattle.st_install.specs.Calls.{planned_for, ready_for}

-- the dictionary of a class, and how it grows
pub record IsGrowth (class : Value) (selector : PlannedValue) (next : ℕ) (t : Table) (g : Growth) : Type 0 where
  pub dictionary : (s : State Table) → s.memory ≡ t → (fetch_field table class 1).run s ≡ Went (value g.dictionary) s
  pub grown : IsGrown (value g.dictionary) selector next t g.objects.items
  pub number : g.number ≡ (if grown.grows then Some next else None)

-- the dictionary's growth, and then the rest of a plan
abbrev pub growth_then : Value → PlannedValue → ℕ → (Value → Bool → List NewObject → Step Table Plan) → Step Table Plan
growth_then class selector next rest =
    fetch_field table class 1 >>= (λ d. grows_for table d selector >>= (λ grows. grown_if table d next grows >>= (λ os. rest d grows os)))

abbrev pub TellsGrowth : Value → PlannedValue → ℕ → Table → Result Growth Unread → Type 0
TellsGrowth class selector next t (Ok g) = IsGrowth class selector next t g
TellsGrowth class selector next t (Err (Dies k)) = (rest : Value → Bool → List NewObject → Step Table Plan) (s : State Table) → s.memory ≡ t → (growth_then class selector next rest).run s ≡ Died k
TellsGrowth class selector next t (Err OutOfMemory) = ⊤

-- the draft has these Symbols and literals
pub record IsDraft (d : PlanDraft) (symbols : Symbols) (literals : PlacedAll) : Type 0 where
  pub objects : objects_of d.objects.items ≡ symbols.objects ++ literals.objects
  pub stores : stores_of d.stores.items ≡ symbols.stores

-- the Method of these parts
abbrev pub method_of : PartsView → PlacedAll → NewObject
method_of parts literals = method_object (Ref (place_of MethodClass)) (There (value_of parts.header) ∷ literals.parts) parts.bytes

-- what a draft, a method and a growth give
abbrev pub plan_from : Value → PlanDraft → NewObject → Growth → Plan
plan_from class d method g = record {
  objects = objects_of d.objects.items ++ method ∷ objects_of g.objects.items;
  symbol_stores = stores_of d.stores.items;
  selector = part_of d.selector;
  method = Made (length d.objects.items);
  class = class;
  dictionary = value g.dictionary;
  grown = g.number;
}

-- the plan of a draft and a method
abbrev pub TellsPlan : Value → PlanDraft → NewObject → Table → Result Ready Unread → Type 0
TellsPlan class d method t (Ok r) =
    (parts : PartsView) (symbols : Symbols) (literals : PlacedAll) → method ≡ method_of parts literals → IsDraft d symbols literals → (s : State Table) → s.memory ≡ t
    → (plan_objects table class parts symbols literals (part_of d.selector)).run s ≡ Went (plan_of r) s
TellsPlan class d method t (Err (Dies k)) =
    (parts : PartsView) (symbols : Symbols) (literals : PlacedAll) → method ≡ method_of parts literals → IsDraft d symbols literals → (s : State Table) → s.memory ≡ t
    → (plan_objects table class parts symbols literals (part_of d.selector)).run s ≡ Died k
TellsPlan class d method t (Err OutOfMemory) = ⊤

abbrev pub plan_step : Value → Owner → PartsView → Step Table Plan
plan_step symbol_table o parts = plan table symbol_table (value o.association) (value o.class) o.meta parts

abbrev pub planned_step : Head → Owner → PartsView → Step Table Plan
planned_step head o parts = planned_for table head (value o.association) (value o.class) o.meta parts

abbrev pub ready_step : Head → Owner → PartsView → Step Table (Result Plan InstallFault)
ready_step head o parts = ready_for table head (value o.association) (value o.class) o.meta parts
