-- What is told of a dictionary that grows for a selector.
use Rattle.std.specs.Prelude.{◌≡◌, ℕ, List, Bool, length, Result, Ok, Err, ⊤, if◌then◌else◌}
use Rattle.std.specs.Global.{Vec}
use Rattle.st_model.specs.Values.{Value}
use Rattle.st_model.specs.Machine.{State, Died, Went, Step, ◌>>=◌}
use Rattle.st_model.specs.Table.{Table, table}
use Rattle.st_install.specs.declared.plan.NewObject.{NewObject as CodeObject}
use Rattle.st_scope.specs.declared.unread.Unread.{Unread}
use Rattle.st_scope.specs.declared.unread.Unread.TheVariants.{Dies, OutOfMemory}
use Rattle.st_install.specs.Plans.{PlannedValue, NewObject, Plan}
use Rattle.st_install.specs.Dictionaries.{grows_for}
use Rattle.st_install.specs.Planning.{grown_if}
use Rattle.st_install.specs.inside.Readies.{objects_of}

abbrev pub objects_in : Vec CodeObject → List NewObject
objects_in os = objects_of os.items

-- the dictionary grows or not, and these objects are made for that
pub record IsGrown (dictionary : Value) (selector : PlannedValue) (next : ℕ) (t : Table) (made : List CodeObject) : Type 0 where
  pub grows : Bool
  pub count : length made ≡ (if grows then 2 else 0)
  pub test : (s : State Table) → s.memory ≡ t → (grows_for table dictionary selector).run s ≡ Went grows s
  pub tells : (s : State Table) → s.memory ≡ t → (grown_if table dictionary next grows).run s ≡ Went (objects_of made) s

-- whether it grows and what is made for that, and then the rest of a plan
abbrev pub growing_then : Value → PlannedValue → ℕ → (Bool → List NewObject → Step Table Plan) → Step Table Plan
growing_then dictionary selector next rest = grows_for table dictionary selector >>= (λ grows. grown_if table dictionary next grows >>= (λ os. rest grows os))

abbrev pub Grows : Value → PlannedValue → ℕ → Table → Result (Vec CodeObject) Unread → Type 0
Grows dictionary selector next t (Ok os) = IsGrown dictionary selector next t os.items
Grows dictionary selector next t (Err (Dies k)) = (rest : Bool → List NewObject → Step Table Plan) (s : State Table) → s.memory ≡ t → (growing_then dictionary selector next rest).run s ≡ Died k
Grows dictionary selector next t (Err OutOfMemory) = ⊤
