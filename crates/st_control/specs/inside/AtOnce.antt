-- Jumps with a condition that are done at once, since they call nothing and so make no object (chapter 28). Each answers whether
-- that is so. If it isn't, the objects are as they were, and the bytecode is to be done in another way.
use Rattle.std.specs.Prelude.{◌≡◌, Bool, true, false, Result, ℤ, if◌then◌else◌, IfOk}
use Rattle.st_model.specs.declared.dead.Dead.{Dead}
use Rattle.st_model.specs.declared.page.PageObject.{PageObject}
use Rattle.st_model.specs.Machine.{ObjectMemory, Step, answer, ◌>>=◌, ◌>>◌}
use Rattle.st_model.specs.Steps.{of_page, same_value, pop, jump}
use Rattle.st_memory.specs.declared.objects.Objects.{Ghosts}

-- it was done at once
unfoldable pub at_once : {H : Type 0} → Step H Unit → Step H Bool
at_once m = do
  m
  answer true

-- objects, head and what is fixed are as they were
abbrev pub AreStill : {M : Type 0} → Ghosts M → M → M → Type 0
AreStill o old new = (o.table new ≡ o.table old) × (o.head new ≡ o.head old) × (o.fixed new ≡ o.fixed old)

-- if it isn't done at once, the objects are as they were
abbrev pub IsStill : {M : Type 0} → Ghosts M → M → Result Bool Dead → M → Type 0
IsStill o old result new = IfOk result (λ (done : Bool). done ≡ false → AreStill o old new)

module _ {H : Type 0} (m : ObjectMemory H) where
  -- the word is the wanted boolean, or else the other one
  unfoldable pub jump_at_once : PageObject → PageObject → ℤ → Step H Bool
  jump_at_once wanted other d = do
    x ← pop m
    a ← of_page m wanted
    b ← of_page m other
    if same_value x a then at_once (jump d) else answer (same_value x b)
