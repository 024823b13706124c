-- A cycle in which nothing waits is a step, and then what comes after it; and objects stored are read again from births and table.
use Rattle.std.proofs.Common.{◌≡◌, ◌≢◌, ℕ, zero, suc, [], ◌∷◌, length, Bool, true, false, Some, refl, sym, ap, ◌∙◌, subst, arith}
use Rattle.st_model.specs.declared.page.PageObject.TheVariants.{NilObject}
use Rattle.st_model.specs.declared.device.Device.TheVariants.{NewProcess}
use Rattle.st_model.specs.Values.{Value, Ref}
use Rattle.st_model.specs.Objects.{Object}
use Rattle.st_model.specs.Machine.{ObjectMemory, State, Transition, Died, Went, used, is_over, answer}
use Rattle.st_model.specs.Steps.{of_page, same_value, get_device, count_signals}
use Rattle.st_model.specs.Outcomes.{Outcome, With}
use Rattle.st_model.specs.Bytecodes.{step}
use Rattle.st_model.specs.Settled.{reclaim}
use Rattle.st_model.specs.Cycles.{signal_newest, switch_unless_nil, switch_if_waiting, check_process_switch, warned, done_or_not, ended, cycle, cycle_from}
use Rattle.st_model.specs.Births.{Births, object_born, replaced, births}
use Rattle.st_model.specs.Table.{Table, entry, IsTabular}
use Rattle.st_model.proofs.BirthLemmas.{replaced-other}
use Rattle.st_model.proofs.TableLemmas.{changed-some, changed-other}
use Rattle.st_meaning.specs.inside.Machines.{KeepsOthers, IsCalm, CycleSteps}
use Rattle.st_meaning.proofs.Inverting.{then_goes, next_goes}
use Rattle.st_model.proofs.SameValues.{same_ref}

module _ {H : Type 0} (m : ObjectMemory H) where
  no_signals : (s : State H) (n : ℕ) → n ≡ 0 → (signal_newest m n).run s ≡ Went tt s
  unfolding signal_newest answer
  no_signals s zero e = refl
  no_signals s (suc n) e = absurd (omega (arith, e))

  stays_by : (s : State H) (p : Value) (b : Bool) → b ≡ true → (switch_unless_nil m p b).run s ≡ Went tt s
  unfolding switch_unless_nil answer
  stays_by s p true e = refl
  stays_by s p false e = cc

  stays : (s : State H) → IsCalm m s → (switch_if_waiting m).run s ≡ Went tt s
  unfolding switch_if_waiting get_device of_page
  stays s calm =
      let e : same_value s.world.devices.new_process (Ref (m.named s.memory NilObject)) ≡ true =
      subst (λ v. same_value v (Ref (m.named s.memory NilObject)) ≡ true) (sym calm.waiting) (same_ref (m.named s.memory NilObject)) in
      then_goes (get_device NewProcess) _ s s s.world.devices.new_process refl
      ∙ then_goes (of_page m NilObject) _ s s (Ref (m.named s.memory NilObject)) refl
      ∙ stays_by s s.world.devices.new_process (same_value s.world.devices.new_process (Ref (m.named s.memory NilObject))) e

  nothing_before : (s : State H) → IsCalm m s → (check_process_switch m).run s ≡ Went tt s
  unfolding check_process_switch count_signals
  nothing_before s calm =
      then_goes count_signals _ s s (length s.world.devices.pending) refl
      ∙ next_goes (signal_newest m (length s.world.devices.pending)) (switch_if_waiting m) s s tt (no_signals s (length s.world.devices.pending) (ap length calm.pending))
      ∙ stays s calm

  done_by : (s t u : State H) (o z : Outcome) (over : Bool) → done_or_not m s o t over ≡ Went (With z) u → (o ≡ z) × (u ≡ warned m (reclaim m t))
  done_by s t u o z true e = cc
  done_by s t u o z false e = let a : o ≡ z = cc in let b : u ≡ warned m (reclaim m t) = cc in (a, b)

  ended_by : (s u : State H) (z : Outcome) (r : Transition (State H) Outcome) → (step m).run s ≡ r → ended m s r ≡ Went (With z) u
      → (t : State H) × ((step m).run s ≡ Went z t) × (u ≡ warned m (reclaim m t))
  ended_by s u z (Died c) e q = cc
  ended_by s u z (Went o t) e q =
      let d = done_by s t u o z (is_over (used m t.memory) s.head) q in
      (t, e ∙ ap (λ y. Went y t) d.0, d.1)

  pub cycle_steps : CycleSteps m
  unfolding cycle
  cycle_steps s u z calm q = ended_by s u z ((step m).run s) refl (subst (λ r. cycle_from m r ≡ Went (With z) u) (nothing_before s calm) q)

-- MEMORIES

born_again : (h : Births) (n : ℕ) (o p : Object) → object_born h n ≡ Some p → object_born (replaced h n o) n ≡ Some o
born_again [] n o p e = cc
born_again (b ∷ h) zero o p e = refl
born_again (b ∷ h) (suc n) o p e = born_again h n o p e

pub births_keep : KeepsOthers births
births_keep = record { same = born_again; other = λ h n k o d. replaced-other h n k o d }

tabular_same : (m : ObjectMemory Table) → IsTabular m → (h : Table) (n : ℕ) (o p : Object) → m.read h n ≡ Some p → m.read (m.replace h n o) n ≡ Some o
tabular_same m t h n o p e =
    let r : entry h n ≡ Some p = subst (λ f. f h n ≡ Some p) t.read e in
    subst (λ f. f (m.replace h n o) n ≡ Some o) (sym t.read) (subst (λ g. entry (g h n o) n ≡ Some o) (sym t.replace) (changed-some h n o p r))

tabular_other : (m : ObjectMemory Table) → IsTabular m → (h : Table) (n k : ℕ) (o : Object) → k ≢ n → m.read (m.replace h n o) k ≡ m.read h k
tabular_other m t h n k o d =
    subst (λ f. f (m.replace h n o) k ≡ f h k) (sym t.read) (subst (λ g. entry (g h n o) k ≡ entry h k) (sym t.replace) (changed-other h n k o d))

pub tabular_keeps : (m : ObjectMemory Table) → IsTabular m → KeepsOthers m
tabular_keeps m t = record { same = tabular_same m t; other = tabular_other m t }
