-- What a cycle of the code does, as the cycle over a table whose step is foreseen.
use Rattle.std.proofs.Common.{◌≡◌, ℕ, ◌+◌, ◌-◌, true, false, Some, refl, ◌∙◌, ap, sym, subst, Ok, Err, arith}
use Rattle.std.specs.Prelude.{Result, nat_lt, nat_le, ◌&&◌, if◌then◌else◌}
use Rattle.std.proofs.lemmas.Bool.Decides.{nat_tests}
use Rattle.st_model.specs.declared.dead.Dead.{Dead}
use Rattle.st_model.specs.declared.demand.Demand.{Demand}
use Rattle.st_model.specs.declared.deed.Deed.{Deed}
use Rattle.st_model.specs.declared.outcome.Outcome.{Outcome as CodeOutcome}
use Rattle.st_model.specs.declared.outcome.Outcome.TheVariants as code_outcome
use Rattle.st_model.specs.Outcomes.{Outcome, Ending, With, Space, outcome_of}
use Rattle.st_model.specs.Outcomes as outcome
use Rattle.st_model.specs.Machine.{State, World, Transition, Died, Went, used, is_over}
use Rattle.st_model.specs.Table.{Table, table, apart, bounded_table}
use Rattle.st_model.specs.Bytecodes.{step}
use Rattle.st_model.specs.Objects.{nil}
use Rattle.st_model.specs.Cycles.{made_between, free_space, less, capacity_of, check_process_switch, warned, warned_if_low}
use Rattle.st_model.specs.inside.Foreseen.{foreseen, foreseen_from, foreseen_cycle, done, done_if_room}
use Rattle.st_model.specs.View.{View, fits}
use Rattle.st_control.specs.inside.Foreseen.{IsForeseen}
use Rattle.st_model.specs.inside.Calls.{transition_of}
use Rattle.st_machine.specs.declared.cycling.CycleEnd.{CycleEnd}
use Rattle.st_machine.specs.declared.cycling.CycleEnd.TheVariants as cycle_end
use Rattle.st_machine.specs.declared.doing.StretchEnd.{StretchEnd}
use Rattle.st_machine.specs.declared.doing.StretchEnd.TheVariants.{ToForesee, Leaves, Warns, Asks}
use Rattle.st_machine.specs.inside.Cycling.{GoesCalmly, Finishes, Follows, foreseen_step}
use Rattle.st_machine.specs.inside.Runs.{ending_of}
use Rattle.st_step.specs.inside.Planned.{Plans, plus}
use Rattle.st_frames.specs.declared.frame.Frame.{Frame}
use Rattle.st_frames.specs.inside.Shown.{shown, registers_of}

-- what fits is not over the capacities
fits_if : (a b c d : ℕ) → (nat_le a b && nat_le c d) ≡ true → (if nat_lt b a then true else nat_lt d c) ≡ false
fits_if a b c d e = grind (arith, nat_tests, e)

fits_not : (a b c d : ℕ) → (nat_le a b && nat_le c d) ≡ false → (if nat_lt b a then true else nat_lt d c) ≡ true
fits_not a b c d e = grind (arith, nat_tests, e)

module _ (c : State Table) where
  dies : (t : Transition (State Table) Outcome) (cause : Dead) → Plans (used table c.memory) t (Err cause) → foreseen c t ≡ Died cause
  dies (Died a) cause h = ap (λ x. Died x) h
  dies (Went o d) cause h = absurd h

  pub cycle_dies : (cause : Dead) → Plans (used table c.memory) ((step apart).run c) (Err cause) → foreseen c ((step apart).run c) ≡ Died cause
  cycle_dies cause h = dies ((step apart).run c) cause h

  less_plus : (u d : Demand) → less (plus u d) u ≡ d
  less_plus u d =
      let e : (u.entries + d.entries) - u.entries ≡ d.entries = omega arith in
      let w : (u.words + d.words) - u.words ≡ d.words = omega arith in
      λ i. record { entries = e i; words = w i }

  no_room : (t : Transition (State Table) Outcome) (d : Demand) → Plans (used table c.memory) t (Ok d) → is_over (plus (used table c.memory) d) c.head ≡ true
      → foreseen c t ≡ Went (Space d (free_space table c)) c
  no_room (Died a) d h e = absurd h
  no_room (Went o t) d h e =
      let over : is_over (used apart t.memory) c.head ≡ true = ap (λ x. is_over x c.head) h ∙ e in
      let made : made_between apart c t ≡ d = ap (λ x. less x (used table c.memory)) h ∙ less_plus (used table c.memory) d in
      ap (done_if_room c t) over ∙ ap (λ x. Went (Space x (free_space table c)) c) made

  fits_from : (t : Transition (State Table) Outcome) (d : Demand) → (step apart).run c ≡ t → Plans (used table c.memory) t (Ok d) → is_over (plus (used table c.memory) d) c.head ≡ false
      → IsForeseen c
  fits_from (Died a) d s h e = absurd h
  fits_from (Went o t) d s h e = record { outcome = o; after = t; goes = s; fits = ap (λ x. is_over x c.head) h ∙ e }

  pub is_foreseen : (d : Demand) → Plans (used table c.memory) ((step apart).run c) (Ok d) → is_over (plus (used table c.memory) d) c.head ≡ false → IsForeseen c
  is_foreseen d h e = fits_from ((step apart).run c) d refl h e

  pub cycle_space : (d : Demand) → Plans (used table c.memory) ((step apart).run c) (Ok d) → is_over (plus (used table c.memory) d) c.head ≡ true
      → foreseen c ((step apart).run c) ≡ Went (Space d (free_space table c)) c
  cycle_space d h e = no_room ((step apart).run c) d h e

  -- a bytecode that was done, by a plan or without one
  pub cycle_done : (o : Outcome) (d x : State Table) → IsForeseen c → (step bounded_table).run c ≡ Went o d → Finishes d x → foreseen c ((step apart).run c) ≡ Went (With o) x
  cycle_done o d x e s w = ap (foreseen c) e.goes ∙ (ap (done_if_room c e.after) e.fits ∙ (ap (done c) s ∙ ap (λ y. Went (With o) y) w))

  pub dies_at_once : (cause : Dead) → (step apart).run c ≡ Died cause → foreseen c ((step apart).run c) ≡ Died cause
  dies_at_once cause e = ap (foreseen c) e

-- what is left of a cycle was done
module _ (c d e : State Table) (left : Deed) (x : Result CycleEnd Dead) where
  went : (o : CodeOutcome) → foreseen_step c ≡ Went (With (outcome_of o)) e → x ≡ Ok (cycle_end.With o) → foreseen_step c ≡ transition_of ending_of x e
  went o h same = subst (λ y. foreseen_step c ≡ transition_of ending_of y e) (sym same) h

  pub followed : (end : StretchEnd) → GoesCalmly c left (Ok (Some end)) d → Follows left end d x e → foreseen_step c ≡ transition_of ending_of x e
  followed ToForesee h l = subst (λ y. foreseen_step y ≡ transition_of ending_of x e) h l
  followed Leaves h l = went code_outcome.Went (h e l.1) l.0
  followed Warns h l = went code_outcome.Went (h e l.1) l.0
  followed (Asks o) h l = went o (h e l.1) l.0

-- what came before the bytecode

pub from_switch : (s c : State Table) (x : Transition (State Table) Ending) → (check_process_switch bounded_table).run s ≡ Went tt c → foreseen c ((step apart).run c) ≡ x → foreseen_cycle s ≡ x
unfolding foreseen_cycle
from_switch s c x e f = ap foreseen_from e ∙ f

pub switch_dies : (s : State Table) (cause : Dead) → (check_process_switch bounded_table).run s ≡ Died cause → foreseen_cycle s ≡ Died cause
unfolding foreseen_cycle
switch_dies s cause e = ap foreseen_from e

-- what is warned of stands in the world alone
pub warned_same : (v z : View) (f : Frame) (w x : World) → x ≡ warned_if_low nil (less (capacity_of v.head) (used table v.objects)) w → z.objects ≡ v.objects → z.head ≡ v.head
    → warned table (shown v f w) ≡ shown z f x
warned_same v z f w x world objects head = λ i. record { memory = sym objects i; registers = registers_of f; world = sym world i; head = sym head i }

module _ (v : View) (d : Demand) where
  pub not_over : fits v d ≡ true → is_over (plus (used table v.objects) d) v.head ≡ false
  not_over e = fits_if ((used table v.objects).entries + d.entries) v.head.entries ((used table v.objects).words + d.words) v.head.words e

  pub over : fits v d ≡ false → is_over (plus (used table v.objects) d) v.head ≡ true
  over e = fits_not ((used table v.objects).entries + d.entries) v.head.entries ((used table v.objects).words + d.words) v.head.words e
