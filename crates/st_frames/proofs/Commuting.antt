-- Answers where a deed is left: it commutes with what pops and pushes.
use Rattle.std.proofs.Common.{◌≡◌, ℕ, true, false, ap, ◌∙◌}
use Rattle.st_model.specs.declared.dead.Dead.{Dead}
use Rattle.st_model.specs.declared.deed.Deed.{Deed}
use Rattle.st_model.specs.Values.{Value}
use Rattle.st_model.specs.Machine.{ObjectMemory, World, State, Transition, Died, Went, Step, answer, after, ◌>>=◌, ◌>>◌}
use Rattle.st_model.specs.Table.{Table, IsTabular}
use Rattle.st_model.specs.Primitives.{answer_with}
use Rattle.st_model.specs.Deeds.{copies_pixels, deed_done, world_done, over_both, with_deed}
use Rattle.st_simulation.proofs.Deeds.{Commutes, moved, deed_leaves, answer_with-commutes}
use Rattle.st_frames.specs.inside.Answering.{succeed_with}

pub went : {A : Type 0} (g : Table → Table) (u : Table → World → World) (step : Step Table A) (a : A) (s t : State Table) → Commutes g u step → step.run s ≡ Went a t
    → step.run (over_both g u s) ≡ Went a (over_both g u t)
went g u step a s t h e = h.go s ∙ ap (moved g u) e

pub died : {A : Type 0} (g : Table → Table) (u : Table → World → World) (step : Step Table A) (s : State Table) (k : Dead) → Commutes g u step → step.run s ≡ Died k
    → step.run (over_both g u s) ≡ Died k
died g u step s k h e = h.go s ∙ ap (moved g u) e

then_true : (m : ObjectMemory Table) (n : ℕ) (v : Value) (s : State Table) (x : Transition (State Table) (Unit {0})) → (answer_with m n v).run s ≡ x → (succeed_with m n v).run s ≡ after x (λ u t. Went true t)
unfolding succeed_with answer ◌>>◌ ◌>>=◌
then_true m n v s x e = ap (λ y. after y (λ u t. Went true t)) e

module _ (m : ObjectMemory Table) (tabular : IsTabular m) (d : Deed) (plain : copies_pixels d ≡ false) where
  pub answered-left : (n : ℕ) (v : Value) (s t : State Table) → (answer_with m n v).run s ≡ Went tt t → (succeed_with m n v).run (with_deed d s) ≡ Went true (with_deed d t)
  unfolding after
  answered-left n v s t e = then_true m n v (with_deed d s) _ (went (deed_done d) (world_done d) (answer_with m n v) tt s t (answer_with-commutes (deed_done d) (world_done d) m tabular (deed_leaves d plain) n v) e)

  pub answered-died : (n : ℕ) (v : Value) (s : State Table) (k : Dead) → (answer_with m n v).run s ≡ Died k → (succeed_with m n v).run (with_deed d s) ≡ Died k
  unfolding after
  answered-died n v s k e = then_true m n v (with_deed d s) _ (died (deed_done d) (world_done d) (answer_with m n v) s k (answer_with-commutes (deed_done d) (world_done d) m tabular (deed_leaves d plain) n v) e)

pub ruleset answered = (answered-left, answered-died)
