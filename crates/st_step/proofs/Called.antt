-- A primitive that is called by its number, over a memory: what it leaves, and what is there then.
use Rattle.std.proofs.Common.{◌≡◌, ◌<◌, ◌≤◌, ◌+◌, ℕ, true, Option, Some, None, refl, sym, ap, subst, ◌∙◌, arith}
use Rattle.st_model.specs.declared.dead.Dead.TheVariants as dead
use Rattle.st_model.specs.declared.deed.Deed.{Deed}
use Rattle.st_model.specs.Values.{Value}
use Rattle.st_model.specs.Outcomes.{Outcome}
use Rattle.st_model.specs.Outcomes as outcome
use Rattle.st_model.specs.Machine.{World, Head, State, Transition, Died, Went, after, ◌>>=◌, ◌>>◌}
use Rattle.st_model.specs.Steps.{get_sp, top, under, look_at_words, are_there}
use Rattle.st_model.specs.Table.{Table, table, bounded_table}
use Rattle.st_model.specs.Deeds.{with_deed}
use Rattle.st_model.specs.View.{View, IsWhole}
use Rattle.st_model.proofs.Runs.{check-not_below}
use Rattle.st_simulation.proofs.Closed.{number_closed}
use Rattle.st_simulation.proofs.Going.{number_names_top}
use Rattle.st_frames.specs.declared.registers.Registers.{Registers as Words}
use Rattle.st_frames.specs.declared.ending.RowEnd.{RowEnd}
use Rattle.st_frames.specs.inside.Rows.{row_state, registers_in}
use Rattle.st_frames.specs.declared.frame.Frame.{Frame}
use Rattle.st_frames.specs.inside.Shown.{shown, registers_of, IsReady}
use Rattle.st_frames.proofs.Closed.{is_closed}
use Rattle.st_step.specs.inside.Trying.{tried_number}
use Rattle.st_step.specs.inside.Responding.{outcome_if_any, deed_if_any}
use Rattle.st_step.proofs.Stepped.{from_row, there_in}

-- no stack has so many words
pub too_many : (p n : ℕ) (s : State Table) → s.registers.sp ≤ 16388 → 16383 < n → (tried_number bounded_table p n).run s ≡ Died dead.Sp
unfolding tried_number look_at_words under get_sp ◌>>=◌ ◌>>◌ after
too_many p n s few many = rw (check-not_below dead.Sp (5 + n) s.registers.sp s (omega arith)) refl

-- the registers that it leaves are there
pub number_there : (p n : ℕ) (v : View) (f : Frame) (w : World) (t : Table) (a : Head) (r : Words) (o : Option Outcome) (d : Deed) → IsWhole v → IsReady v f w
    → (tried_number bounded_table p n).run (shown v f w) ≡ Went o (with_deed d (row_state t a r)) → are_there table t (registers_in r) ≡ true
unfolding tried_number
number_there p n v f w t a r o d whole ready e = there_in t a r d (number_closed p n (shown v f w) (with_deed d (row_state t a r)) o (is_closed v f w whole ready) e)

-- what it says is at the top of the stack
pub number_top : (p n : ℕ) (s t : State Table) (v : Value) → (tried_number bounded_table p n).run s ≡ Went (Some (outcome.Say v)) t → (top bounded_table).run t ≡ Went v t
unfolding tried_number
number_top p n s t v e = number_names_top p n s t v e

-- a row that begins with the number that was passed, and with what a memory shows
pub row_as : (p q n : ℕ) → q ≡ p → (v : View) (f : Frame) (w : World) (r : Words) → registers_in r ≡ registers_of f → r.world.now ≡ w → (x : Transition (State Table) (Option Outcome))
    → (tried_number bounded_table q n).run (row_state v.objects v.head r) ≡ x → (tried_number bounded_table p n).run (shown v f w) ≡ x
row_as p q n e v f w r same world x does = subst (λ k. (tried_number bounded_table k n).run (shown v f w) ≡ x) e (from_row (tried_number bounded_table q n) v f w r x same world does)

-- where it failed, the memory is as it was
module _ (p n : ℕ) (u v : View) (f : Frame) (w : World) (x : Option RowEnd) (r q : Words) (none : x ≡ None)
    (still : row_state u.objects u.head r ≡ row_state v.objects v.head q) (same : registers_in q ≡ registers_of f) (world : q.world.now ≡ w) where
  objects_still : u.objects ≡ v.objects
  unfolding row_state
  objects_still = ap (λ (s : State Table). s.memory) still

  head_still : u.head ≡ v.head
  unfolding row_state
  head_still = ap (λ (s : State Table). s.head) still

  pub view_still : u.held ≡ v.held → u ≡ v
  view_still e = let o = objects_still in let h = head_still in λ i. record { objects = o i; held = e i; head = h i }

  -- the state is again the one that was loaded
  left_still : with_deed (deed_if_any r x) (row_state u.objects u.head r) ≡ shown u f w
  unfolding row_state
  left_still =
      let o = objects_still in
      let h = head_still in
      let loaded : row_state v.objects v.head q ≡ shown u f w = λ i. record { memory = sym o i; registers = same i; world = world i; head = sym h i } in
      ap (λ y. with_deed (deed_if_any r y) (row_state u.objects u.head r)) none ∙ still ∙ loaded

  pub fails : (tried_number bounded_table p n).run (shown v f w) ≡ Went (outcome_if_any r x) (with_deed (deed_if_any r x) (row_state u.objects u.head r))
      → (tried_number bounded_table p n).run (shown v f w) ≡ Went None (shown u f w)
  fails does = does ∙ (λ i. Went (outcome_if_any r (none i)) (left_still i))
