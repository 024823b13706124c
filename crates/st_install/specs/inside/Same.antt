-- What joins the calls over a table to those over births: where the table shows the births, they answer the same, and what is
-- installed in both is shown again.
use Rattle.std.specs.Prelude.{◌≡◌, ℕ, List, Bool, true, Ok}
use Rattle.st_model.specs.Values.{Value, value_of, is_small, renamed, IsLive}
use Rattle.st_model.specs.Machine.{State, Transition, Died, Went, Step}
use Rattle.st_model.specs.Births.{Births, births}
use Rattle.st_model.specs.Table.{Table, table, bounded_table}
use Rattle.st_model.specs.Show.{pointer_of, IsKept, Shows}
use Rattle.st_model.specs.Saving.{settled_after}
use Rattle.st_simulation.specs.inside.Laws.{Runs}
use Rattle.st_scan.specs.Views.{MethodView}
use Rattle.st_code.specs.Methods.{PartsView}
use Rattle.st_install.specs.Plans.{Plan}
use Rattle.st_scope.specs.Calls.{class_of_name, names}
use Rattle.st_install.specs.Calls.{ready}
use Rattle.st_install.specs.Installing.{install}
use Rattle.st_install.specs.inside.SamePlans.{renamed_class, IsLiveClass, renamed_ready, IsLiveReady, renamed_plan, as_it_was, IsNameless}

-- A step over the table answers what another answers over the births, with each name written as a pointer. What the answer names
-- is kept. Neither changes anything.
pub record AnswersAlike {A : Type 0} (lives : (ℕ → Type 0) → A → Type 0) (written : (ℕ → ℕ) → A → A)
    (over_table : Step Table A) (over_births : Step Births A) (c : State Table) (s : State Births) : Type 0 where
  pub answer : A
  pub born : over_births.run s ≡ Went answer s
  pub shown : over_table.run c ≡ Went (written (pointer_of s.memory) answer) c
  pub kept : lives (IsKept s.memory) answer

-- both died of one cause, or both went, and a running machine goes on with the table, which shows the births
abbrev pub RunsOn : Transition (State Table) Unit → Transition (State Births) Unit → Type 0
RunsOn (Died a) (Died b) = a ≡ b
RunsOn (Died a) (Went y s) = ⊥
RunsOn (Went x c) (Died b) = ⊥
RunsOn (Went x c) (Went y s) = Runs c s

-- the class of a name
abbrev pub ClassShows : Type 0
ClassShows = (name : List ℕ) (meta : Bool) (c : State Table) (s : State Births) → Shows c s
    → AnswersAlike IsLiveClass renamed_class (class_of_name table c.head name meta) (class_of_name births s.head name meta) c s

-- the names that a method of a kept class sees: shared ones with the pointers of their associations in both
abbrev pub NamesShow : Type 0
NamesShow = (class : Value) (meta : Bool) (tree : MethodView) (c : State Table) (s : State Births) → Shows c s → IsLive (IsKept s.memory) class
    → AnswersAlike IsNameless as_it_was (names table c.head (renamed (pointer_of s.memory) class) meta tree) (names births s.head class meta tree) c s

-- a header is a SmallInteger, as that of each compiled method is; any other word would name something
abbrev pub HasHeader : PartsView → Type 0
HasHeader parts = is_small (value_of parts.header) ≡ true

-- the plan of a kept class's method, or why there is none
abbrev pub ReadyShows : Type 0
ReadyShows = (class : Value) (name : List ℕ) (meta : Bool) (parts : PartsView) (c : State Table) (s : State Births) → Shows c s → IsLive (IsKept s.memory) class
    → HasHeader parts
    → AnswersAlike IsLiveReady renamed_ready (ready table c.head (renamed (pointer_of s.memory) class) name meta parts) (ready births s.head class name meta parts) c s

-- a plan, which is ready over these births for a method of a kept class
pub record IsReady (p : Plan) (s : State Births) : Type 0 where
  pub class : Value
  pub name : List ℕ
  pub meta : Bool
  pub parts : PartsView
  pub kept : IsLive (IsKept s.memory) class
  pub header : HasHeader parts
  pub ready : (ready births s.head class name meta parts).run s ≡ Went (Ok p) s

-- what is installed in a running machine's table, which makes an object only where there is room, is what is installed in the births
abbrev pub InstallShows : Type 0
InstallShows = (p : Plan) (c : State Table) (s : State Births) → Runs c s → IsReady p s
    → RunsOn ((install bounded_table (renamed_plan (pointer_of s.memory) p)).run c) ((install births p).run s)

-- also once what nothing supports is dropped
abbrev pub InstallSettles : Type 0
InstallSettles = (p : Plan) (c : State Table) (s : State Births) → Runs c s → IsReady p s
    → RunsOn (settled_after table ((install bounded_table (renamed_plan (pointer_of s.memory) p)).run c)) (settled_after births ((install births p).run s))
