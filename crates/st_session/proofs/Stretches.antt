-- A stretch is the first part of a run's course, whatever is kept.
use Rattle.std.proofs.Common.{◌≡◌, ℕ, zero, suc, ◌+◌, ◌-◌, ◌≤◌, List, [], ◌∷◌, ◌++◌, map, Some, None, refl, sym, ap, subst, ◌∙◌, append-nil, arith}
use Rattle.std.specs.Prelude.{Option, Result, Ok, Err, OnOk, IsErr}
use Rattle.st_model.specs.declared.dead.Dead.{Dead}
use Rattle.st_model.specs.Outcomes.{Ending, With, Space}
use Rattle.st_model.specs.Outcomes as outcome
use Rattle.st_model.specs.Machine.{State, Transition, Died, Went}
use Rattle.st_model.specs.Births.{Births, births}
use Rattle.st_model.specs.Table.{Table}
use Rattle.st_model.specs.Cycles.{cycle}
use Rattle.st_model.specs.Show.{Shows}
use Rattle.st_model.specs.Text.{said_value}
use Rattle.st_host.specs.declared.host.Host.{Ghosts}
use Rattle.st_host.specs.declared.host.SayFault.{SayFault}
use Rattle.st_host.proofs.Telling.{OnlyNow}
use Rattle.st_call.specs.inside.Saying.{Pushes}
use Rattle.st_call.proofs.Pushing.{push_none, push_then, push_begun, push_as}
use Rattle.st_protocol.specs.Courses.{Deed, Reply, Course, Goes, Ends, deeds_of, said_of, commits_of, preceded, and_then, replies}
use Rattle.st_protocol.proofs.Courses.{said_of_both, preceded_none, preceded_both, deeds_preceded}
use Rattle.st_session.specs.Points.{Being, Point}
use Rattle.st_session.specs.Keeping.{Keeping, keeps_nothing}
use Rattle.st_session.specs.Answers.{going_on, cycle_course, run_course}
use Rattle.st_session.specs.inside.Standing.{IsBeing}
use Rattle.st_session.specs.inside.Stretches.{Stop, Over, Asked, Stretch, words_of, cycle_stretch, stretch, StopsAs, PushesStretch}
use Rattle.st_session.specs.Reports.{Line, cycles}
use Rattle.st_session.specs.inside.Pushing.{LeadsTo, PushesCourse}
use Rattle.st_session.proofs.Unseen.{run_ends, run_begins}

-- texts that are said in turn, as deeds
abbrev pub replies_of : {C : Type 0} → List (List ℕ) → List (Deed C)
replies_of texts = map Reply texts

pub said_in_turn : (C : Type 0) (texts : List (List ℕ)) → said_of {C = C} (replies_of texts) ≡ words_of texts
said_in_turn C [] = refl
said_in_turn C (x ∷ texts) = ap (λ t. x ++ t) (said_in_turn C texts)

pub unkept : (C : Type 0) (texts : List (List ℕ)) → commits_of {C = C} (replies_of texts) ≡ []
unkept C [] = refl
unkept C (x ∷ texts) = unkept C texts

-- Lines of so many cycles, where so many were finished before.
abbrev pub Cycles : Type 0 → Type 0
Cycles C = ℕ → ℕ → State Births → C → Course C (Point C)

module _ {C : Type 0} (keeping : Keeping C) (course : Cycles C) where
  -- what follows where a line of n cycles stops
  abbrev pub onward : ℕ → C → Stop → Course C (Point C)
  onward n c (Over being) = Goes [] (record { being = being; kept = c })
  onward n c (Asked k s) = and_then (keeping.snapshot k s c) (λ p. going_on keeping (course k (n - k)) p.being p.kept)

  -- a course by the stretch that is its first part
  abbrev pub StartsWith : ℕ → C → Stretch → Course C (Point C) → Type 0
  StartsWith n c r x = x ≡ preceded (replies_of r.texts) (onward n c r.stop)

  -- a cycle, where what follows it starts so
  pub cycle_is : (n k : ℕ) (o : Transition (State Births) Ending) (f : State Births → Stretch) (c : C) → ((t : State Births) → StartsWith (suc n + k) c (f t) (course (suc n) k t c))
      → StartsWith (n + suc k) c (cycle_stretch n o f) (cycle_course keeping n o (course (suc n) k) c)
  cycle_is n k o f c h = over o
    where
      sum : suc n + k ≡ n + suc k
      sum = omega arith

      on : (t : State Births) → StartsWith (n + suc k) c (f t) (course (suc n) k t c)
      on t = h t ∙ ap (λ m. preceded (replies_of (f t).texts) (onward m c (f t).stop)) sum

      over : (o : Transition (State Births) Ending) → StartsWith (n + suc k) c (cycle_stretch n o f) (cycle_course keeping n o (course (suc n) k) c)
      over (Died cause) = refl
      over (Went (With outcome.Went) t) = on t
      over (Went (With outcome.Snapshot) t) =
          let e : k ≡ n + suc k - suc n = omega arith in
          (λ i. and_then (keeping.snapshot (suc n) t c) (λ p. going_on keeping (course (suc n) (e i)) p.being p.kept))
          ∙ sym (preceded_none (onward (n + suc k) c (Asked (suc n) t)))
      over (Went (With outcome.Quit) t) = refl
      over (Went (With outcome.Debugger) t) = refl
      over (Went (With (outcome.Say v)) t) =
          ap (preceded (Reply (said_value t.memory v) ∷ [])) (on t)
          ∙ sym (preceded_both (Reply (said_value t.memory v) ∷ []) (replies_of (f t).texts) (onward (n + suc k) c (f t).stop))
      over (Went (Space demand left) t) = refl

  -- where a stretch stops at the run's end, its course ends there
  pub record IsOverAt (death : Option Dead) (d : State Table) (n : ℕ) (c : C) (r : Stretch) : Type 0 where
    pub being : Being
    pub stands : IsBeing death d being
    pub follows : onward n c r.stop ≡ Goes [] (record { being = being; kept = c })

  pub is_over_at : (death : Option Dead) (d : State Table) (n : ℕ) (c : C) (r : Stretch) → StopsAs death d None r.stop → IsOverAt death d n c r
  is_over_at death d n c r stops = over r.stop stops
    where
      over : (x : Stop) → StopsAs death d None x → IsOverAt death d n c (record { texts = r.texts; stop = x })
      over (Over being) h = record { being = being; stands = h; follows = refl }
      over (Asked k s) h = absurd h

  -- where it stops at a snapshot, this follows
  pub record IsAskedAt (death : Option Dead) (d : State Table) (n : ℕ) (c : C) (j : ℕ) (r : Stretch) : Type 0 where
    pub state : State Births
    pub lives : death ≡ None
    pub shows : Shows d state
    pub follows : onward n c r.stop ≡ and_then (keeping.snapshot j state c) (λ p. going_on keeping (course j (n - j)) p.being p.kept)

  pub is_asked_at : (death : Option Dead) (d : State Table) (n : ℕ) (c : C) (j : ℕ) (r : Stretch) → StopsAs death d (Some j) r.stop → IsAskedAt death d n c j r
  is_asked_at death d n c j r stops = over r.stop stops
    where
      over : (x : Stop) → StopsAs death d (Some j) x → IsAskedAt death d n c j (record { texts = r.texts; stop = x })
      over (Over being) h = absurd h
      over (Asked k s) h = record {
        state = s;
        lives = h.1;
        shows = h.2;
        follows = λ i. and_then (keeping.snapshot (sym h.0 i) s c) (λ p. going_on keeping (course (sym h.0 i) (n - sym h.0 i)) p.being p.kept);
      }

module _ {C : Type 0} (keeping : Keeping C) where
  course_is : (k n : ℕ) (s : State Births) (c : C) → StartsWith keeping (run_course keeping) (n + k) c (stretch n k s) (run_course keeping n k s c)
  unfolding stretch
  course_is zero n s c = run_ends keeping n s c
  course_is (suc k) n s c = run_begins keeping k n s c ∙ cycle_is keeping (run_course keeping) n k (cycle births s) (stretch (suc n) k) c (λ t. course_is k (suc n) t c)

  -- what is left of a run, where so many of its cycles are finished
  pub run_is : (n done : ℕ) (s : State Births) (c : C) → done ≤ n → StartsWith keeping (run_course keeping) n c (stretch done (n - done) s) (run_course keeping done (n - done) s c)
  run_is n done s c few =
      let e : done + (n - done) ≡ n = omega (arith, few) in
      course_is (n - done) done s c ∙ ap (λ m. preceded (replies_of (stretch done (n - done) s).texts) (onward keeping (run_course keeping) m c (stretch done (n - done) s).stop)) e

-- COURSES THAT ARE ADDED

abbrev pub Deeds : Type 0
Deeds = List (Deed (Unit {0}))

pub all_ok : {A : Type 0} (r : Result Unit SayFault) → A → OnOk r A
all_ok (Ok u) a = a
all_ok (Err e) a = tt

module _ {D C X : Type 0} (host : Ghosts D) (at : X → Type 0) where
  pub course_as : (c d : Course C X) {old new : D} {before after : List ℕ} {result : Result Unit SayFault} → c ≡ d → PushesCourse host at c old new before after result → PushesCourse host at d old new before after result
  course_as c d {old = old} {new = new} {before = before} {after = after} {result = result} e h = subst (λ x. PushesCourse host at x old new before after result) e h

  -- a text is added, and leads to a point
  pub course_replies : (text : List ℕ) (x : X) {old new : D} {p q : List ℕ} {result : Result Unit SayFault} → Pushes {E = SayFault} host text old new p q result → OnOk result (at x) → PushesCourse {C = C} host at (replies text x) old new p q result
  course_replies text x run stands = record { pushes = push_as run (sym (append-nil text)); leads = stands }

  leads_behind : (ds : List (Deed C)) (c : Course C X) (result : Result Unit SayFault) → OnOk result (LeadsTo at c) → OnOk result (LeadsTo at (preceded ds c))
  leads_behind ds (Goes es x) result h = h
  leads_behind ds (Ends es e) result h = h

  -- deeds that were added, and a course behind them
  pub course_behind : (ds : List (Deed C)) (c : Course C X) {old mid new : D} {p q r : List ℕ} {result : Result Unit SayFault} → Pushes {E = SayFault} host (said_of ds) old mid p q (Ok tt) → PushesCourse host at c mid new q r result → PushesCourse host at (preceded ds c) old new p r result
  course_behind ds c {result = result} first second = record {
    pushes = push_as (push_then first second.pushes) (sym (ap said_of (deeds_preceded ds c) ∙ said_of_both ds (deeds_of c)));
    leads = leads_behind ds c result second.leads;
  }

  -- deeds that were added in part, and a course that isn't begun
  pub course_begun : (ds : List (Deed C)) (c : Course C X) {old new : D} {p q : List ℕ} {fault : SayFault} {result : Result Unit SayFault} → IsErr result → Pushes {E = SayFault} host (said_of ds) old new p q (Err fault) → PushesCourse host at (preceded ds c) old new p q result
  course_begun ds c {result = Ok u} err run = cc
  course_begun ds c {result = Err e} err run = record {
    pushes = push_as (push_begun (said_of (deeds_of c)) err run) (sym (ap said_of (deeds_preceded ds c) ∙ said_of_both ds (deeds_of c)));
    leads = tt;
  }

-- RUNS OF WHICH NOTHING IS KEPT

-- What is added where so many of n cycles are finished: with the course of the others from the births that are shown, it is the
-- course of all from s.
pub record PushedSoFar {D : Type 0} (host : Ghosts D) (n : ℕ) (s : State Births) (done : ℕ) (c : State Table) (old new : D) (before after : List ℕ) : Type 0 where
  pub deeds : Deeds
  pub state : State Births
  pub shows : Shows c state
  pub rest : preceded deeds (cycles done (n - done) state) ≡ cycles 0 n s
  pub pushed : Pushes {E = SayFault} host (said_of deeds) old new before after (Ok tt)

pub none_pushed : {D : Type 0} (host : Ghosts D) (n : ℕ) (s : State Births) (c : State Table) (old : D) (before : List ℕ) → OnlyNow host old → Shows c s → PushedSoFar host n s 0 c old old before before
none_pushed host n s c old before only w = record {
  deeds = [];
  state = s;
  shows = w;
  rest = preceded_none (cycles 0 (n - 0) s) ∙ (let e : n - 0 ≡ n = omega arith in ap (λ k. cycles 0 k s) e);
  pushed = push_none host old only;
}

module _ {D : Type 0} {host : Ghosts D} {n : ℕ} {s : State Births} {done : ℕ} {c : State Table} {old mid : D} {p q : List ℕ} (far : PushedSoFar host n s done c old mid p q) (few : done ≤ n) where
  abbrev next : Stretch
  next = stretch done (n - done) far.state

  abbrev deeds_on : Deeds
  deeds_on = far.deeds ++ replies_of next.texts

  -- all of the run, where this follows the stretch
  behind : (x : Line) → onward keeps_nothing (run_course keeps_nothing) n tt next.stop ≡ x → preceded deeds_on x ≡ cycles 0 n s
  behind x is =
      preceded_both far.deeds (replies_of next.texts) x
      ∙ (ap (λ y. preceded far.deeds (preceded (replies_of next.texts) y)) (sym is) ∙ (ap (preceded far.deeds) (sym (run_is keeps_nothing n done far.state tt few)) ∙ far.rest))

  both : words_of next.texts ≡ said_of {C = Unit {0}} (replies_of next.texts)
  both = sym (said_in_turn (Unit {0}) next.texts)

  -- up to a snapshot, which is passed over
  pub pushed_on : (death : Option Dead) (d : State Table) (j : ℕ) {new : D} {r : List ℕ} → PushesStretch {E = SayFault} host death d next mid new q r (Ok (Some j)) → PushedSoFar host n s j d old new p r
  pushed_on death d j run =
      let a = is_asked_at keeps_nothing (run_course keeps_nothing) death d n tt j next run.stops in
      record {
        deeds = deeds_on;
        state = a.state;
        shows = a.shows;
        rest = behind (cycles j (n - j) a.state) (a.follows ∙ preceded_none (cycles j (n - j) a.state));
        pushed = push_as (push_then far.pushed (push_as run.pushes both)) (sym (said_of_both far.deeds (replies_of next.texts)));
      }

  module _ (at : Point (Unit {0}) → Type 0) (death : Option Dead) (d : State Table) where
    -- up to the run's end
    pub pushed_all : {new : D} {r : List ℕ} → OnlyNow host new → ((x : Point (Unit {0})) → IsBeing death d x.being → at x) → PushesStretch {E = SayFault} host death d next mid new q r (Ok None) → PushesCourse {E = SayFault} host at (cycles 0 n s) old new p r (Ok tt)
    pushed_all {new = new} only stands run =
        let o = is_over_at keeps_nothing (run_course keeps_nothing) death d n tt next run.stops in
        let x : Point (Unit {0}) = record { being = o.being; kept = tt } in
        course_as host at (preceded deeds_on (Goes [] x)) (cycles 0 n s) (behind (Goes [] x) o.follows)
        (course_behind host at deeds_on (Goes [] x) (push_as (push_then far.pushed (push_as run.pushes both)) (sym (said_of_both far.deeds (replies_of next.texts))))
        (record { pushes = push_none host new only; leads = stands x o.stands }))

    -- or it isn't all said
    pub pushed_part : {new : D} {r : List ℕ} {fault : SayFault} → PushesStretch {E = SayFault} host death d next mid new q r (Err fault) → PushesCourse {E = SayFault} host at (cycles 0 n s) old new p r (Err fault)
    pushed_part run =
        let rest = onward keeps_nothing (run_course keeps_nothing) n tt next.stop in
        course_as host at (preceded deeds_on rest) (cycles 0 n s) (behind rest refl)
        (course_begun host at deeds_on rest refl (push_as (push_then far.pushed (push_as run.pushes both)) (sym (said_of_both far.deeds (replies_of next.texts)))))
