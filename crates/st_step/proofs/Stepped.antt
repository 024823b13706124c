-- A row over a memory and its registers: what it begins with, and what it leaves.
use Rattle.std.proofs.Common.{◌≡◌, true, Ok, Err, refl, sym, ap, subst, ◌∙◌}
use Rattle.std.specs.Prelude.{Result, ◌+◌, length}
use Rattle.st_model.specs.declared.dead.Dead.{Dead}
use Rattle.st_model.specs.declared.demand.Demand.{Demand}
use Rattle.st_model.specs.declared.deed.Deed.{Deed}
use Rattle.st_frames.specs.declared.ending.RowEnd.{RowEnd}
use Rattle.st_frames.specs.declared.ending.RowEnd.TheVariants as ends
use Rattle.st_model.specs.declared.word.Word.{Word}
use Rattle.st_model.specs.Values.{word, IsLive}
use Rattle.st_model.specs.Objects.{one, words_of}
use Rattle.st_model.specs.Outcomes.{Outcome}
use Rattle.st_model.specs.Machine.{World, Head, State, Step, Transition, Died, Went, is_there, used}
use Rattle.st_model.specs.Births.{Births, births}
use Rattle.st_model.specs.Steps.{are_there}
use Rattle.st_model.specs.Table.{Table, table, apart, bounded_table, total_used}
use Rattle.st_model.specs.inside.Calls.{transition_of}
use Rattle.st_model.specs.Deeds.{deed_done, world_done, with_deed}
use Rattle.st_model.specs.Bytecodes.{step}
use Rattle.st_model.specs.Show.{IsUsed, IsClosed}
use Rattle.st_model.specs.inside.Foreseen.{Foretells}
use Rattle.st_model.specs.View.{View, IsWhole}
use Rattle.st_simulation.proofs.HeapsSame.{same_used}
use Rattle.st_simulation.proofs.Started.{naming, heaps_start}
use Rattle.st_simulation.proofs.CyclesShown.{foretells}
use Rattle.st_simulation.proofs.Closed.{step_closed}
use Rattle.st_simulation.proofs.Deeds.{deed_uses, deed_leaves_there}
use Rattle.st_frames.specs.declared.frame.Frame.{Frame}
use Rattle.st_frames.specs.declared.registers.Registers.{Registers as Words}
use Rattle.st_frames.specs.inside.Narrow.{IsNarrow}
use Rattle.st_frames.specs.inside.Rows.{row_state, registers_in, with_left, outcome_in, deed_in}
use Rattle.st_frames.specs.inside.Shown.{shown, registers_of, IsReady}
use Rattle.st_frames.proofs.Closed.{is_closed}
use Rattle.st_frames.proofs.Stored.{loaded}
use Rattle.st_step.specs.inside.Planned.{PlansOver, Plans, PlansBirths, plus}
use Rattle.st_frames.proofs.There.{word_there, all_four}

-- a row that begins with what a memory shows
pub from_row : {A : Type 0} (m : Step Table A) (v : View) (f : Frame) (w : World) (r : Words) (x : Transition (State Table) A) → registers_in r ≡ registers_of f → r.world.now ≡ w
    → m.run (row_state v.objects v.head r) ≡ x → m.run (shown v f w) ≡ x
from_row m v f w r x same world does = ap (λ (s : State Table). m.run s) (sym (loaded v f w r same world)) ∙ does

-- what a plan says

pub loaded_as : (v : View) (f : Frame) (w : World) (t : Table) (a : Head) (r : Words) → t ≡ v.objects → a ≡ v.head → registers_in r ≡ registers_of f → r.world.now ≡ w
    → row_state t a r ≡ shown v f w
unfolding row_state
loaded_as v f w t a r x y e q = λ i. record { memory = x i; registers = e i; world = q i; head = y i }

module _ (before : Demand) (c s : State Table) (t : Table) (a : Head) (r : Words) (x : Result RowEnd Dead) (same : s ≡ c)
    (does : (step apart).run s ≡ transition_of (outcome_in r) x (with_left (deed_in r) x (row_state t a r))) where
  planned : (y : Result RowEnd Dead) → x ≡ y → (step apart).run c ≡ transition_of (outcome_in r) y (with_left (deed_in r) y (row_state t a r))
  planned y e = ap (λ z. (step apart).run z) (sym same) ∙ (does ∙ ap (λ z. transition_of (outcome_in r) z (with_left (deed_in r) z (row_state t a r))) e)

  -- a step that goes on uses what the row made
  pub plan_done : (end : RowEnd) (n : Demand) → x ≡ Ok end → used apart t ≡ plus before n → Plans before ((step apart).run c) (Ok n)
  unfolding row_state
  plan_done ends.Went n e u = subst (λ y. Plans before y (Ok n)) (sym (planned (Ok ends.Went) e)) u
  plan_done ends.Leaves n e u = subst (λ y. Plans before y (Ok n)) (sym (planned (Ok ends.Leaves) e)) (deed_uses r.left t ∙ u)
  plan_done ends.Says n e u = subst (λ y. Plans before y (Ok n)) (sym (planned (Ok ends.Says) e)) u
  plan_done ends.Snapshot n e u = subst (λ y. Plans before y (Ok n)) (sym (planned (Ok ends.Snapshot) e)) u
  plan_done ends.Quit n e u = subst (λ y. Plans before y (Ok n)) (sym (planned (Ok ends.Quit) e)) u
  plan_done ends.Debugger n e u = subst (λ y. Plans before y (Ok n)) (sym (planned (Ok ends.Debugger) e)) u

  pub plan_dies : (cause : Dead) → x ≡ Err cause → Plans before ((step apart).run c) (Err cause)
  plan_dies cause e = subst (λ y. Plans before y (Err cause)) (sym (planned (Err cause) e)) refl

-- what is used after a row over a draft: what was used, and what the row made
pub used_after : (t base start : Table) (n : Demand) → base ≡ start → (used apart t).entries ≡ total_used one base + n.entries → (used apart t).words ≡ total_used words_of base + n.words
    → used apart t ≡ plus (used table start) n
used_after t base start n same e w =
    let x = e ∙ ap (λ b. total_used one b + n.entries) same in
    let y = w ∙ ap (λ b. total_used words_of b + n.words) same in
    λ i. record { entries = x i; words = y i }

-- what the step over births does that was planned over a table

births_as : (before since : Demand) → before ≡ since → (x : Transition (State Table) Outcome) (y : Transition (State Births) Outcome) (r : Result Demand Dead)
    → Foretells x y → PlansOver apart before x r → PlansOver births since y r
births_as before since e (Died a) (Died b) (Err k) f p = sym f ∙ p
births_as before since e (Died a) (Died b) (Ok n) f p = p
births_as before since e (Died a) (Went q u) r f p = absurd f
births_as before since e (Went o d) (Died b) r f p = absurd f
births_as before since e (Went o d) (Went q u) (Ok n) f p = sym f ∙ (p ∙ ap (λ x. plus x n) e)
births_as before since e (Went o d) (Went q u) (Err k) f p = p

pub plan_births : (c : State Table) (r : Result Demand Dead) → length c.memory ≡ 32768 → Plans (used table c.memory) ((step apart).run c) r → PlansBirths c r
plan_births c r places p s w =
    births_as (used table c.memory) (used births s.memory) (same_used (naming c s w) s.memory c.memory (heaps_start c s w)) ((step apart).run c) ((step births).run s) r
    (foretells c s w places) p

-- what a step leaves

pub held_again : (v u : View) (f : Frame) (w : World) (r : Words) → registers_of f ≡ registers_in r → r.world.now ≡ w → u.objects ≡ v.objects → u.head ≡ v.head
    → row_state v.objects v.head r ≡ shown u f w
unfolding row_state
held_again v u f w r e q o h = λ i. record { memory = sym o i; registers = sym e i; world = q i; head = sym h i }

-- what was left is done
pub done_after : (u h z : View) (f : Frame) (w x : World) (r : Words) (d : Deed) → registers_of f ≡ registers_in r → r.world.now ≡ w → h.objects ≡ u.objects
    → h.head ≡ u.head → z.objects ≡ deed_done d h.objects → z.head ≡ h.head → x ≡ world_done d h.objects w
    → with_deed d (row_state u.objects u.head r) ≡ shown z f x
unfolding row_state
done_after u h z f w x r d same world objects head done head_done changed =
    let o : z.objects ≡ deed_done d u.objects = done ∙ ap (deed_done d) objects in
    let c : x ≡ world_done d u.objects r.world.now = changed ∙ (λ i. world_done d (objects i) (sym world i)) in
    λ i. record { memory = sym o i; registers = sym same i; world = sym c i; head = sym (head_done ∙ head) i }

-- a row whose registers are held again, and what it left is done
pub carried_out : (v u h z : View) (f q : Frame) (w x : World) (start r : Words) (end : RowEnd) (d : Deed) → registers_in start ≡ registers_of f → start.world.now ≡ w
    → (step bounded_table).run (row_state v.objects v.head start) ≡ Went (outcome_in r end) (with_deed (deed_in r end) (row_state u.objects u.head r)) → d ≡ deed_in r end
    → registers_of q ≡ registers_in r → r.world.now ≡ start.world.now → h.objects ≡ u.objects → h.head ≡ u.head → z.objects ≡ deed_done d h.objects → z.head ≡ h.head → x ≡ world_done d h.objects w
    → (step bounded_table).run (shown v f w) ≡ Went (outcome_in r end) (shown z q x)
carried_out v u h z f q w x start r end d same begun does deed held world objects head done head_done changed =
    let left = ap (λ e. with_deed e (row_state u.objects u.head r)) (sym deed) ∙ done_after u h z q w x r d held (world ∙ begun) objects head done head_done changed in
    from_row (step bounded_table) v f w start _ same begun (does ∙ ap (λ s. Went (outcome_in r end) s) left)

-- in a state in which nothing dangles the registers are there
pub there_in : (t : Table) (a : Head) (r : Words) (d : Deed) → IsClosed (with_deed d (row_state t a r)) → are_there table t (registers_in r) ≡ true
unfolding row_state
there_in t a r d closed =
    let before : (x : Word) → IsLive (IsUsed (deed_done d t)) (word x) → IsNarrow x → is_there table t (word x) ≡ true = λ x l n. sym (deed_leaves_there d t (word x)) ∙ word_there (deed_done d t) x l n in
    all_four (is_there table t (word r.active)) (is_there table t (word r.home)) (is_there table t (word r.method)) (is_there table t (word r.receiver))
    (before r.active closed.roots.0 r.active_narrow) (before r.home closed.roots.1.0 r.home_narrow)
    (before r.method closed.roots.1.1.0 r.method_narrow) (before r.receiver closed.roots.1.1.1.0 r.receiver_narrow)

pub there_after : (v : View) (f : Frame) (world : World) (t : Table) (a : Head) (r : Words) (o : Outcome) (d : Deed) → IsWhole v → IsReady v f world
    → (step bounded_table).run (shown v f world) ≡ Went o (with_deed d (row_state t a r)) → are_there table t (registers_in r) ≡ true
there_after v f world t a r o d w ready e = there_in t a r d (step_closed (shown v f world) (with_deed d (row_state t a r)) o (is_closed v f world w ready) e)
