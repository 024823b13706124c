-- A run is a watched one in which nothing is seen.
use Rattle.std.proofs.Common.{◌≡◌, ℕ, zero, suc, refl}
use Rattle.st_model.specs.Machine.{State, Transition, Died, Went}
use Rattle.st_model.specs.Births.{Births, births}
use Rattle.st_model.specs.Cycles.{cycle}
use Rattle.st_model.specs.Text.{ran_text}
use Rattle.st_machine.specs.Prepared.{prepared}
use Rattle.st_protocol.specs.Courses.{Course, replies}
use Rattle.st_protocol.proofs.Courses.{preceded_none}
use Rattle.st_session.specs.Points.{Point, alive}
use Rattle.st_session.specs.Keeping.{Keeping}
use Rattle.st_session.specs.Answers.{cycle_course, look_at, watched_course, run_course}
use Rattle.st_session.specs.Watching.{nothing_seen}

module _ {C : Type 0} (keeping : Keeping C) where
  unseen : (p : Transition (State Births) Unit) (n : ℕ) (c : C) (x : Course C (Point C)) → look_at keeping (nothing_seen n) n p c x ≡ x
  unseen (Died cause) n c x = refl
  unseen (Went u t) n c x = preceded_none x

  -- where no cycle is left it is over
  pub run_ends : (n : ℕ) (s : State Births) (c : C) → run_course keeping n zero s c ≡ replies (ran_text n) (alive s c)
  unfolding watched_course
  run_ends n s c = refl

  -- where some are, the first of them comes, and then the others
  pub run_begins : (k n : ℕ) (s : State Births) (c : C) → run_course keeping n (suc k) s c ≡ cycle_course keeping n (cycle births s) (run_course keeping (suc n) k) c
  unfolding watched_course
  run_begins k n s c = unseen (prepared s) n c (cycle_course keeping n (cycle births s) (run_course keeping (suc n) k) c)
