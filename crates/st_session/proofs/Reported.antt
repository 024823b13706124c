-- The report of a run is what the line `run N` says, and then what the machine shows.
use Rattle.std.proofs.Common.{◌≡◌, ℕ, zero, suc, ◌+◌, ◌-◌, List, [], ◌∷◌, ◌++◌, length, Option, refl, sym, ap, ◌∙◌, append-nil, append_assoc, arith}
use Rattle.std.specs.Prelude.{Result, Ok, Err, IsErr, OnOk}
use Rattle.st_model.specs.declared.dead.Dead.{Dead}
use Rattle.st_model.specs.Outcomes.{Ending, With, Space}
use Rattle.st_model.specs.Outcomes as outcome
use Rattle.st_model.specs.Machine.{State, Transition, Died, Went}
use Rattle.st_model.specs.Births.{Births, births}
use Rattle.st_model.specs.Cycles.{cycle, run, run_of, finished, finished_of, and_on, counted}
use Rattle.st_model.specs.Table.{Table}
use Rattle.st_model.specs.Show.{Shows, show}
use Rattle.st_model.specs.Text.{dead_text, quit_text, debugger_text, space_text, ran_text, said_value}
use Rattle.st_model.proofs.Showing.{show_is}
use Rattle.st_protocol.specs.Courses.{Reply, Goes, Ends, deeds_of, said_of, preceded}
use Rattle.st_protocol.proofs.Courses.{said_of_both, deeds_preceded}
use Rattle.st_host.specs.declared.host.Host.{Ghosts}
use Rattle.st_host.specs.declared.host.SayFault.{SayFault}
use Rattle.st_host.specs.Counts.{HasCause}
use Rattle.st_host.specs.Runs.{SaysAll}
use Rattle.st_host.specs.inside.Telling.{Says}
use Rattle.st_host.proofs.Rising.{cause_after}
use Rattle.st_call.specs.inside.Saying.{Pushes}
use Rattle.st_call.proofs.Pushing.{push_then, push_begun, push_as, pushed_all, pushed_part, pushed_says}
use Rattle.st_session.specs.Points.{Being, Alive, Gone, Point}
use Rattle.st_session.specs.Keeping.{keeps_nothing}
use Rattle.st_session.specs.Answers.{cycle_course, run_course}
use Rattle.st_session.specs.Reports.{Line, cycles, text_of, being_text, shown_text, line_text, run_text, text_at}
use Rattle.st_session.specs.inside.Reporting.{Reports}
use Rattle.st_session.specs.inside.Pushing.{LeadsTo, PushesCourse}
use Rattle.st_session.specs.inside.Standing.{IsBeing}
use Rattle.st_session.proofs.Stretches.{Deeds}
use Rattle.st_session.proofs.Unseen.{run_ends, run_begins}

replied : (text rest : List ℕ) → (text ++ []) ++ rest ≡ text ++ rest
replied text rest = ap (λ t. t ++ rest) (append-nil text)

module _ (shows : State Table → List ℕ) where
  shown_behind : (ds : Deeds) (c : Line) → shown_text shows (preceded ds c) ≡ shown_text shows c
  shown_behind ds (Goes es p) = refl
  shown_behind ds (Ends es status) = refl

  line_behind : (ds : Deeds) (c : Line) → line_text shows (preceded ds c) ≡ said_of ds ++ line_text shows c
  line_behind ds c =
      ap (λ t. t ++ shown_text shows (preceded ds c)) (ap said_of (deeds_preceded ds c) ∙ said_of_both ds (deeds_of c))
      ∙ (ap (λ t. (said_of ds ++ said_of (deeds_of c)) ++ t) (shown_behind ds c) ∙ append_assoc (said_of ds) (said_of (deeds_of c)) (shown_text shows c))

  -- what is said of cycles one after the other is what is said where their run has come to
  pub said_at : (k n : ℕ) (s : State Births) → line_text shows (cycles n k s) ≡ text_at shows (n + finished births k s) (k - finished births k s) (run births k s)
  unfolding run run_of finished finished_of
  said_at zero n s =
      let e : n ≡ n + 0 = omega arith in
      ap (line_text shows) (run_ends keeps_nothing n s tt) ∙ (replied (ran_text n) (shows (show s)) ∙ ap (λ i. ran_text i ++ shows (show s)) e)
  said_at (suc k) n s = ap (line_text shows) (run_begins keeps_nothing k n s tt) ∙ over (cycle births s) (λ t. said_at k (suc n) t)
    where
      over : (o : Transition (State Births) Ending)
          → ((t : State Births) → line_text shows (cycles (suc n) k t) ≡ text_at shows (suc n + finished_of (cycle births) k t) (k - finished_of (cycle births) k t) (run_of (cycle births) k t))
          → line_text shows (cycle_course keeps_nothing n o (run_course keeps_nothing (suc n) k) tt)
          ≡ text_at shows (n + counted o (λ t. finished_of (cycle births) k t)) (suc k - counted o (λ t. finished_of (cycle births) k t)) (and_on o (λ t. run_of (cycle births) k t))
      over (Died cause) h =
          let e : n ≡ n + 0 = omega arith in
          append-nil (dead_text n cause ++ []) ∙ (append-nil (dead_text n cause) ∙ ap (λ i. dead_text i cause) e)
      over (Went (With outcome.Went) t) h =
          let d = finished_of (cycle births) k t in
          let e : suc n + d ≡ n + suc d = omega arith in
          let f : k - d ≡ suc k - suc d = omega arith in
          h t ∙ (λ i. text_at shows (e i) (f i) (run_of (cycle births) k t))
      over (Went (With outcome.Snapshot) t) h =
          let e : suc n ≡ n + 1 = omega arith in
          let f : k ≡ suc k - 1 = omega arith in
          line_behind [] (cycles (suc n) k t) ∙ (λ i. line_text shows (cycles (e i) (f i) t))
      over (Went (With outcome.Quit) t) h =
          let e : suc n ≡ n + 1 = omega arith in
          replied (quit_text (suc n)) (shows (show t)) ∙ ap (λ i. quit_text i ++ shows (show t)) e
      over (Went (With outcome.Debugger) t) h =
          let e : suc n ≡ n + 1 = omega arith in
          replied (debugger_text (suc n)) (shows (show t)) ∙ ap (λ i. debugger_text i ++ shows (show t)) e
      over (Went (With (outcome.Say v)) t) h =
          let e : suc n ≡ n + 1 = omega arith in
          let f : k ≡ suc k - 1 = omega arith in
          let said = said_value t.memory v in
          line_behind (Reply said ∷ []) (cycles (suc n) k t)
          ∙ (replied said (line_text shows (cycles (suc n) k t)) ∙ (λ i. said ++ line_text shows (cycles (e i) (f i) t)))
      over (Went (Space demand left) t) h =
          let e : n ≡ n + 0 = omega arith in
          replied (space_text n demand left) (shows (show t)) ∙ ap (λ i. space_text i demand left ++ shows (show t)) e

  -- what a machine shows is what is shown of the point at which it stands
  shown_is : (c : Line) (death : Option Dead) (t : State Table) → LeadsTo (λ p. IsBeing death t p.being) c → (places : length t.memory ≡ 32768) → text_of shows death t ≡ shown_text shows c
  shown_is (Ends ds status) death t leads places = absurd leads
  shown_is (Goes ds p) death t leads places = over p.being leads
    where
      over : (being : Being) → IsBeing death t being → text_of shows death t ≡ being_text shows being
      over (Alive s) w = ap (λ d. text_of shows d t) w.0 ∙ ap shows (sym (show_is t s w.1 places))
      over (Gone cause) w = ap (λ d. text_of shows d t) w

  module _ {D : Type 0} {host : Ghosts D} (n : ℕ) (s : State Births) (death : Option Dead) (t : State Table) where
    pub reported : {old mid new : D} {p q r : List ℕ} {result : Result Unit SayFault} → length t.memory ≡ 32768
        → PushesCourse {E = SayFault} host (λ (x : Point (Unit {0})). IsBeing death t x.being) (cycles 0 n s) old mid p q (Ok tt) → Pushes host (text_of shows death t) mid new q r result
        → Pushes host (run_text shows n s) old new p r result
    reported places run last = push_as (push_then run.pushes last) (ap (λ x. said_of (deeds_of (cycles 0 n s)) ++ x) (shown_is (cycles 0 n s) death t run.leads places))

    pub unreported : {at : Point (Unit {0}) → Type 0} {old new : D} {p q : List ℕ} {fault : SayFault} {result : Result Unit SayFault} → IsErr result
        → PushesCourse {E = SayFault} host at (cycles 0 n s) old new p q (Err fault) → Pushes host (run_text shows n s) old new p q result
    unreported err run = push_begun (shown_text shows (cycles 0 n s)) err run.pushes

-- what was added to nothing, and then said whole, or not
none_said : (A : Type 0) (r : Result Unit SayFault) → IsErr r → OnOk r A
none_said A (Ok x) err = cc
none_said A (Err x) err = tt

all_said : {D : Type 0} {host : Ghosts D} {t p q : List ℕ} {old mid : D} (new : D) (r : Result Unit SayFault) → p ≡ [] → Pushes {E = SayFault} host t old mid p q (Ok tt) → OnOk r (SaysAll host q mid new) → OnOk r (SaysAll host t old new)
all_said new (Ok x) empty run all = pushed_all empty run all
all_said new (Err x) empty run all = tt

module _ {D : Type 0} {host : Ghosts D} {text : State Births → List ℕ} {first : State Table} {old : D} {p q : List ℕ} (some : (s : State Births) × Shows first s) (empty : p ≡ []) where
  -- the text was added to nothing, and said whole
  pub reports_all : {mid new : D} {result : Result Unit SayFault} → ((s : State Births) → Shows first s → Pushes {E = SayFault} host (text s) old mid p q (Ok tt)) → OnOk result (SaysAll host q mid new) → Says host q mid new
      → HasCause (host.say_faults mid) (host.say_faults new) result → Reports host text first old new result
  reports_all {mid = mid} {new = new} {result = result} push all says cause = record {
    all = λ s h. all_said new result empty (push s h) all;
    says = λ s h. pushed_says empty (push s h) says;
    cause = cause_after (host.say_faults old) (host.say_faults mid) (host.say_faults new) result (push some.0 some.1).cause.later cause;
  }

  -- a fault came while it was added
  pub reports_part : {new : D} {fault : SayFault} (result : Result Unit SayFault) → IsErr result → ((s : State Births) → Shows first s → Pushes {E = SayFault} host (text s) old new p q (Err fault)) → Reports host text first old new result
  reports_part {new = new} result err push = record {
    all = λ s h. none_said (SaysAll host (text s) old new) result err;
    says = λ s h. pushed_part empty (push s h);
    cause = let run = push some.0 some.1 in record { later = run.cause.later; rose = λ err. run.cause.rose refl };
  }
