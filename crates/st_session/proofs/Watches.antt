-- A watched run: its stretch is the first part of its course, and with nothing seen it is the run's stretch.
use Rattle.std.proofs.Common.{◌≡◌, ℕ, zero, suc, ◌+◌, ◌-◌, ◌≤◌, List, [], ◌∷◌, ◌++◌, refl, sym, ap, ◌∙◌, arith}
use Rattle.st_model.specs.Machine.{State, Transition, Died, Went}
use Rattle.st_model.specs.Births.{Births, births}
use Rattle.st_model.specs.Table.{Table}
use Rattle.st_model.specs.Cycles.{cycle}
use Rattle.st_model.specs.Show.{show}
use Rattle.st_machine.specs.Prepared.{prepared}
use Rattle.st_protocol.specs.Courses.{Reply, Course, preceded}
use Rattle.st_protocol.proofs.Courses.{preceded_both}
use Rattle.st_session.specs.Points.{Point}
use Rattle.st_session.specs.Keeping.{Keeping}
use Rattle.st_session.specs.Answers.{cycle_course, looked, look_at, watched_course}
use Rattle.st_session.specs.inside.Stretches.{Stretch, cycle_stretch, stretch}
use Rattle.st_session.specs.Watching.{Look, Says, Stops, nothing_seen}
use Rattle.st_session.specs.inside.Watched.{looked_stretch, look_stretch, watched_stretch}
use Rattle.st_session.proofs.Stretches.{replies_of, onward, StartsWith, cycle_is}

replies_both : (C : Type 0) (a b : List (List ℕ)) → replies_of {C = C} (a ++ b) ≡ replies_of a ++ replies_of b
replies_both C [] b = refl
replies_both C (x ∷ a) b = ap (λ ds. Reply x ∷ ds) (replies_both C a b)

module _ {C : Type 0} (keeping : Keeping C) (look : ℕ → State Table → Look) where
  abbrev Starts : ℕ → C → Stretch → Course C (Point C) → Type 0
  Starts n c r x = StartsWith keeping (watched_course keeping look) n c r x

  looked_is : (l : Look) (m n : ℕ) (t : State Births) (c : C) (x : Course C (Point C)) (r : Stretch) → Starts m c r x → Starts m c (looked_stretch l n t r) (looked keeping l n t c x)
  looked_is (Says texts) m n t c x r h =
      let rest = onward keeping (watched_course keeping look) m c r.stop in
      ap (preceded (replies_of texts)) h ∙ (sym (preceded_both (replies_of texts) (replies_of r.texts) rest) ∙ ap (λ ds. preceded ds rest) (sym (replies_both C texts r.texts)))
  looked_is Stops m n t c x r h = refl

  look_is : (l : State Table → Look) (p : Transition (State Births) Unit) (m n : ℕ) (c : C) (x : Course C (Point C)) (r : Stretch) → Starts m c r x → Starts m c (look_stretch l n p r) (look_at keeping l n p c x)
  look_is l (Died cause) m n c x r h = h
  look_is l (Went u t) m n c x r h = looked_is (l (show t)) m n t c x r h

  course_is : (k n : ℕ) (s : State Births) (c : C) → Starts (n + k) c (watched_stretch look n k s) (watched_course keeping look n k s c)
  unfolding watched_stretch watched_course
  course_is zero n s c = refl
  course_is (suc k) n s c =
      look_is (look n) (prepared s) (n + suc k) n c (cycle_course keeping n (cycle births s) (watched_course keeping look (suc n) k) c) (cycle_stretch n (cycle births s) (watched_stretch look (suc n) k))
      (cycle_is keeping (watched_course keeping look) n k (cycle births s) (watched_stretch look (suc n) k) c (λ t. course_is k (suc n) t c))

  -- what is left of a line, where so many of its cycles are finished
  pub watched_is : (n done : ℕ) (s : State Births) (c : C) → done ≤ n → Starts n c (watched_stretch look done (n - done) s) (watched_course keeping look done (n - done) s c)
  watched_is n done s c few =
      let e : done + (n - done) ≡ n = omega (arith, few) in
      course_is (n - done) done s c ∙ ap (λ m. preceded (replies_of (watched_stretch look done (n - done) s).texts) (onward keeping (watched_course keeping look) m c (watched_stretch look done (n - done) s).stop)) e

-- WITH NOTHING SEEN

unseen_stretch : (p : Transition (State Births) Unit) (n : ℕ) (r : Stretch) → look_stretch (nothing_seen n) n p r ≡ r
unseen_stretch (Died cause) n r = refl
unseen_stretch (Went u t) n r = refl

pub stretch_is_watched : (k n : ℕ) (s : State Births) → watched_stretch nothing_seen n k s ≡ stretch n k s
unfolding stretch watched_stretch
stretch_is_watched zero n s = refl
stretch_is_watched (suc k) n s =
    unseen_stretch (prepared s) n (cycle_stretch n (cycle births s) (watched_stretch nothing_seen (suc n) k))
    ∙ (λ i. cycle_stretch n (cycle births s) (λ t. stretch_is_watched k (suc n) t i))
