-- How a list is found that has a process.
use Rattle.std.specs.Prelude.{ℕ, zero, suc, Bool, if◌then◌else◌}
use Rattle.st_model.specs.declared.dead.Dead.TheVariants as dead
use Rattle.st_model.specs.Values.{Value}
use Rattle.st_model.specs.declared.page.PageObject.TheVariants.{NilObject}
use Rattle.st_model.specs.Machine.{ObjectMemory, Step, answer, die, ◌>>=◌}
use Rattle.st_model.specs.Steps.{of_page, same_value, fetch_field}

module _ {H : Type 0} (m : ObjectMemory H) where
  -- whether a list has no process
  unfoldable pub is_empty : Value → Step H Bool
  is_empty l = do
    first ← fetch_field m l 0
    nil ← of_page m NilObject
    answer (same_value first nil)

  -- of so many lists the highest that has a process
  unfoldable pub highest_list : Value → ℕ → Step H Value
  highest_list lists zero = die dead.Idle
  highest_list lists (suc n) = do
    l ← fetch_field m lists n
    empty ← is_empty l
    if empty then highest_list lists n else answer l
