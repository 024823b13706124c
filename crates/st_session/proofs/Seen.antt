-- Cycles of a run that is watched, one by one: what is added of each, and of all of them.
use Rattle.std.proofs.Common.{◌≡◌, ℕ, zero, suc, ◌+◌, ◌-◌, ◌<◌, ◌≤◌, List, [], ◌∷◌, ◌++◌, Bool, true, false, Option, Some, None, refl, sym, ap, subst, ◌∙◌, append-nil, arith}
use Rattle.std.specs.Prelude.{Result, Ok, Err, IfOk, if◌then◌else◌}
use Rattle.st_model.specs.declared.dead.Dead.{Dead}
use Rattle.st_model.specs.declared.demand.Demand.{Demand}
use Rattle.st_model.specs.declared.oop.Oop.{Oop}
use Rattle.st_model.specs.Values.{Value, value}
use Rattle.st_model.specs.Outcomes.{Ending, With, Space, IsLiveEnding}
use Rattle.st_model.specs.Outcomes as outcome
use Rattle.st_model.specs.Machine.{State, Transition, Died, Went}
use Rattle.st_model.specs.Births.{Births, births}
use Rattle.st_model.specs.Table.{Table}
use Rattle.st_model.specs.Cycles.{cycle, run, run_of, finished, finished_of, and_on, counted}
use Rattle.st_model.specs.inside.Foreseen.{EndsShown}
use Rattle.st_model.specs.Show.{Shows, IsKept, pointer_of, show}
use Rattle.st_model.specs.Text.{ran_text, dead_text, space_text, quit_text, debugger_text, said_value}
use Rattle.st_host.specs.declared.host.Host.{Ghosts}
use Rattle.st_host.specs.declared.host.SayFault.{SayFault}
use Rattle.st_host.proofs.Telling.{OnlyNow}
use Rattle.st_call.specs.inside.Saying.{Pushes, said_in}
use Rattle.st_call.proofs.Pushing.{push_none, push_then, push_begun, push_as}
use Rattle.st_machine.specs.declared.ending.RunEnd.{RunEnd}
use Rattle.st_machine.specs.declared.ending.RunEnd.TheVariants as end
use Rattle.st_machine.specs.Prepared.{prepared, PreparedAs}
use Rattle.st_machine.proofs.Once.{cycle_goes_on, cycle_dies}
use Rattle.st_machine.specs.inside.Runs.{EndsAs, cycles_of, transition_at, death_of}
use Rattle.st_session.specs.declared.watching.Cycled.{Cycled}
use Rattle.st_session.specs.declared.watching.Cycled.TheVariants as cycled
use Rattle.st_session.specs.Points.{Being, Alive, Gone}
use Rattle.st_session.specs.inside.Runs.{end_text}
use Rattle.st_session.specs.inside.Standing.{IsBeing}
use Rattle.st_session.specs.inside.Stretches.{Over, Asked, Stretch, words_of, saying, over, cycle_stretch, StopsAs, went, PushesStretch}
use Rattle.st_session.specs.Watching.{Look, Says, Stops, entry_seen, stopped_text}
use Rattle.st_debug.specs.Watched.{is_entered}
use Rattle.st_session.specs.inside.Watched.{looked_stretch, look_stretch, seen_cycle, watched_cycle, watched_stretch, texts_seen, is_stop, Next, Onward, Halts, after_next, StandsNext, PushesCycle}
use Rattle.st_session.proofs.Cycles.{back, value_said, words_both, saying_both}

-- ONE CYCLE

and_stays : {S : Type 0} (o : Transition S Ending) → and_on o (λ t. Went (With outcome.Went) t) ≡ o
and_stays (Died cause) = refl
and_stays (Went (With outcome.Went) t) = refl
and_stays (Went (With outcome.Snapshot) t) = refl
and_stays (Went (With outcome.Quit) t) = refl
and_stays (Went (With outcome.Debugger) t) = refl
and_stays (Went (With (outcome.Say v)) t) = refl
and_stays (Went (Space demand left) t) = refl

one_cycle : (s : State Births) → run births 1 s ≡ cycle births s
unfolding run run_of
one_cycle s = and_stays (cycle births s)

-- whether a cycle is finished that ends so
abbrev once : Transition (State Births) Ending → ℕ
once o = counted o (λ t. 0)

one_finished : (s : State Births) → finished births 1 s ≡ once (cycle births s)
unfolding finished finished_of
one_finished s = refl

-- what is said of a cycle, and where it leads, whatever follows
record Parts (r : (State Births → Stretch) → Stretch) : Type 0 where
  texts : List (List ℕ)
  next : Next
  is : (f : State Births → Stretch) → r f ≡ saying texts (after_next next f)

parts : (n : ℕ) (o : Transition (State Births) Ending) → Parts (cycle_stretch n o)
parts n (Died cause) = record { texts = dead_text n cause ∷ []; next = Halts (Over (Gone cause)); is = λ f. refl }
parts n (Went (With outcome.Went) s) = record { texts = []; next = Onward s; is = λ f. refl }
parts n (Went (With outcome.Snapshot) s) = record { texts = []; next = Halts (Asked (suc n) s); is = λ f. refl }
parts n (Went (With outcome.Quit) s) = record { texts = quit_text (suc n) ∷ []; next = Halts (Over (Alive s)); is = λ f. refl }
parts n (Went (With outcome.Debugger) s) = record { texts = debugger_text (suc n) ∷ []; next = Halts (Over (Alive s)); is = λ f. refl }
parts n (Went (With (outcome.Say v)) s) = record { texts = said_value s.memory v ∷ []; next = Onward s; is = λ f. refl }
parts n (Went (Space demand left) s) = record { texts = space_text n demand left ∷ []; next = Halts (Over (Alive s)); is = λ f. refl }

-- where a run of one cycle ended so
module _ (n : ℕ) (d : State Table) (e : RunEnd) (o : Transition (State Births) Ending) where
  -- it is over, and the machine is this
  record IsEnd : Type 0 where
    being : Being
    stands : IsBeing (death_of e) d being
    is : (f : State Births → Stretch) → cycle_stretch n o f ≡ over (end_text (n + cycles_of 1 e) e) being

-- it ends alive, with a text that has how many cycles are finished
alive_end : (n k m : ℕ) (d : State Table) (e : RunEnd) (a x : Ending) (s : State Births) (text : ℕ → List ℕ) → death_of e ≡ None → Shows d s → x ≡ a → once (Went x s) ≡ k → (once (Went a s) ≡ k → m ≡ n + k)
    → ((f : State Births → Stretch) → cycle_stretch n (Went a s) f ≡ over (text m) (Alive s)) → text (n + k) ≡ end_text (n + cycles_of 1 e) e → IsEnd n d e (Went x s)
alive_end n k m d e a x s text lives shows same c count is last =
    let finished : m ≡ n + k = count (ap (λ z. once (Went z s)) (sym same) ∙ c) in
    record {
      being = Alive s;
      stands = (lives, shows);
      is = λ f. ap (λ y. cycle_stretch n (Went y s) f) same ∙ (is f ∙ (ap (λ y. over (text y) (Alive s)) finished ∙ ap (λ y. over y (Alive s)) last));
    }

is_end : (n : ℕ) (d : State Table) (e : RunEnd) → (e ≡ end.Ran → ⊥) → ((k : ℕ) → e ≡ end.Snapshot k → ⊥) → ((k : ℕ) (p : Oop) → e ≡ end.Say k p → ⊥)
    → (o : Transition (State Births) Ending) → EndsShown (transition_at e d) o → once o ≡ cycles_of 1 e → IsEnd n d e o
is_end n d end.Ran r w y o h c = absurd (r refl)
is_end n d (end.Snapshot k) r w y o h c = absurd (w k refl)
is_end n d (end.Say k p) r w y o h c = absurd (y k p refl)
is_end n d (end.Space k demand entries words) r w y (Died cause) h c = absurd h
is_end n d (end.Space k demand entries words) r w y (Went x s) h c =
    let left : Demand = record { entries = entries; words = words } in
    alive_end n k n d (end.Space k demand entries words) (Space demand left) x s (λ m. space_text m demand left) refl h.1 (back (pointer_of s.memory) (Space demand left) x h.0) c (λ (none : 0 ≡ k). omega (arith, none)) (λ f. refl) refl
is_end n d (end.Quit k) r w y (Died cause) h c = absurd h
is_end n d (end.Quit k) r w y (Went x s) h c =
    alive_end n k (suc n) d (end.Quit k) (With outcome.Quit) x s quit_text refl h.1 (back (pointer_of s.memory) (With outcome.Quit) x h.0) c (λ (one : 1 ≡ k). omega (arith, one)) (λ f. refl) refl
is_end n d (end.Debugger k) r w y (Died cause) h c = absurd h
is_end n d (end.Debugger k) r w y (Went x s) h c =
    alive_end n k (suc n) d (end.Debugger k) (With outcome.Debugger) x s debugger_text refl h.1 (back (pointer_of s.memory) (With outcome.Debugger) x h.0) c (λ (one : 1 ≡ k). omega (arith, one)) (λ f. refl) refl
is_end n d (end.Dead k cause) r w y (Died b) h c =
    let none : 0 ≡ k = c in
    let m : n ≡ n + k = omega (arith, none) in
    record { being = Gone cause; stands = refl; is = λ f i. over (dead_text (m i) (sym h i)) (Gone (sym h i)) }
is_end n d (end.Dead k cause) r w y (Went x s) h c = absurd h

module _ (d : State Table) (e : RunEnd) (s : State Births) (ends : EndsAs 1 s e d) where
  shown_end : EndsShown (transition_at e d) (cycle births s)
  shown_end = subst (λ x. EndsShown (transition_at e d) x) (one_cycle s) ends.ends

  finished_end : once (cycle births s) ≡ cycles_of 1 e
  finished_end = sym (one_finished s) ∙ ends.count

  ended_at : (e' : RunEnd) → e ≡ e' → EndsShown (transition_at e' d) (cycle births s)
  ended_at e' is = subst (λ x. EndsShown (transition_at x d) (cycle births s)) is shown_end

  last : (n : ℕ) → (e ≡ end.Ran → ⊥) → ((k : ℕ) → e ≡ end.Snapshot k → ⊥) → ((k : ℕ) (p : Oop) → e ≡ end.Say k p → ⊥) → IsEnd n d e (cycle births s)
  last n r w y = is_end n d e r w y (cycle births s) shown_end finished_end

-- it is known to what the cycle leads
pub cycled_so : {D : Type 0} {host : Ghosts D} {death : Option Dead} {d : State Table} {n : ℕ} {r : (State Births → Stretch) → Stretch} {old new : D} {p q : List ℕ} {x y : Cycled} → x ≡ y
    → PushesCycle {E = SayFault} host death d n r old new p q (Ok x) → PushesCycle {E = SayFault} host death d n r old new p q (Ok y)
cycled_so {host = host} {death = death} {d = d} {n = n} {r = r} {old = old} {new = new} {p = p} {q = q} is push = subst (λ z. PushesCycle {E = SayFault} host death d n r old new p q (Ok z)) is push

module _ {D : Type 0} {host : Ghosts D} (n : ℕ) (d : State Table) (e : RunEnd) (s : State Births) (ends : EndsAs 1 s e d) (death : Option Dead) where
  -- the line goes on
  went_on : (x : Transition (State Births) Ending) → EndsShown (transition_at end.Ran d) x → death ≡ None → {old : D} {p : List ℕ} → OnlyNow host old
      → PushesCycle {E = SayFault} host death d n (cycle_stretch n x) old old p p (Ok cycled.GoesOn)
  went_on (Died cause) h lives only = absurd h
  went_on (Went a t) h lives {old = old} only = record {
    texts = [];
    next = Onward t;
    is = λ f. ap (λ y. cycle_stretch n (Went y t) f) (back (pointer_of t.memory) (With outcome.Went) a h.0);
    pushes = push_none host old only;
    stands = (lives, h.1);
  }

  pub goes_on : e ≡ end.Ran → death ≡ None → {old : D} {p : List ℕ} → OnlyNow host old → PushesCycle {E = SayFault} host death d n (cycle_stretch n (cycle births s)) old old p p (Ok cycled.GoesOn)
  goes_on is lives only = went_on (cycle births s) (ended_at d e s ends end.Ran is) lives only

  -- a snapshot is asked for
  saves : (k : ℕ) (x : Transition (State Births) Ending) → EndsShown (transition_at (end.Snapshot k) d) x → death ≡ None → {old : D} {p : List ℕ} → OnlyNow host old
      → PushesCycle {E = SayFault} host death d n (cycle_stretch n x) old old p p (Ok cycled.Asks)
  saves k (Died cause) h lives only = absurd h
  saves k (Went a t) h lives {old = old} only = record {
    texts = [];
    next = Halts (Asked (suc n) t);
    is = λ f. ap (λ y. cycle_stretch n (Went y t) f) (back (pointer_of t.memory) (With outcome.Snapshot) a h.0);
    pushes = push_none host old only;
    stands = (refl, lives, h.1);
  }

  pub asks : (k : ℕ) → e ≡ end.Snapshot k → death ≡ None → {old : D} {p : List ℕ} → OnlyNow host old → PushesCycle {E = SayFault} host death d n (cycle_stretch n (cycle births s)) old old p p (Ok cycled.Asks)
  asks k is lives only = saves k (cycle births s) (ended_at d e s ends (end.Snapshot k) is) lives only

  -- bytes are said, whole or not
  says : (k : ℕ) (b : Oop) (x : Transition (State Births) Ending) → EndsShown (transition_at (end.Say k b) d) x → {old new : D} {p q : List ℕ} (result : Result Cycled SayFault)
      → Pushes {E = SayFault} host (said_in d.memory (value b)) old new p q (went result) → ((t : State Births) → Shows d t → IfOk result (λ y. StandsNext death d n y (Onward t)))
      → PushesCycle {E = SayFault} host death d n (cycle_stretch n x) old new p q result
  says k b (Died cause) h result run stands = absurd h
  says k b (Went a t) h result run stands =
      let r = back (pointer_of t.memory) (With (outcome.Say (value b))) a h.0 in
      let live : IsLiveEnding (IsKept t.memory) (With (outcome.Say r.0)) = subst (IsLiveEnding (IsKept t.memory)) r.1 h.2 in
      let text = said_value t.memory r.0 in
      let same : text ≡ said_in d.memory (value b) = value_said d t r.0 h.1 live ∙ ap (said_in d.memory) (sym r.2) in
      record {
        texts = text ∷ [];
        next = Onward t;
        is = λ f. ap (λ y. cycle_stretch n (Went y t) f) r.1;
        pushes = push_as run (sym same ∙ sym (append-nil text));
        stands = stands t h.1;
      }

  pub says_bytes : (k : ℕ) (b : Oop) → e ≡ end.Say k b → death ≡ None → {old new : D} {p q : List ℕ} → Pushes {E = SayFault} host (said_in d.memory (value b)) old new p q (Ok tt)
      → PushesCycle {E = SayFault} host death d n (cycle_stretch n (cycle births s)) old new p q (Ok cycled.GoesOn)
  says_bytes k b is lives run = says k b (cycle births s) (ended_at d e s ends (end.Say k b) is) (Ok cycled.GoesOn) run (λ t shows. (lives, shows))

  pub bytes_unsaid : (k : ℕ) (b : Oop) → e ≡ end.Say k b → {old new : D} {p q : List ℕ} {fault : SayFault} → Pushes {E = SayFault} host (said_in d.memory (value b)) old new p q (Err fault)
      → PushesCycle {E = SayFault} host death d n (cycle_stretch n (cycle births s)) old new p q (Err fault)
  bytes_unsaid k b is {fault = fault} run = says k b (cycle births s) (ended_at d e s ends (end.Say k b) is) (Err fault) run (λ t shows. tt)

  -- the line is over
  module _ (r : e ≡ end.Ran → ⊥) (w : (k : ℕ) → e ≡ end.Snapshot k → ⊥) (y : (k : ℕ) (p : Oop) → e ≡ end.Say k p → ⊥) where
    over_as : {result : Result Cycled SayFault} → ((being : Being) → IsBeing (death_of e) d being → IfOk result (λ x. StandsNext death d n x (Halts (Over being)))) → {old new : D} {p q : List ℕ}
        → Pushes {E = SayFault} host (end_text (n + cycles_of 1 e) e) old new p q (went result) → PushesCycle {E = SayFault} host death d n (cycle_stretch n (cycle births s)) old new p q result
    over_as stands run =
        let z = last d e s ends n r w y in
        record {
          texts = end_text (n + cycles_of 1 e) e ∷ [];
          next = Halts (Over z.being);
          is = z.is;
          pushes = push_as run (sym (append-nil (end_text (n + cycles_of 1 e) e)));
          stands = stands z.being z.stands;
        }

    pub is_over : death ≡ death_of e → {old new : D} {p q : List ℕ} → Pushes {E = SayFault} host (end_text (n + cycles_of 1 e) e) old new p q (Ok tt)
        → PushesCycle {E = SayFault} host death d n (cycle_stretch n (cycle births s)) old new p q (Ok cycled.Over)
    is_over died run = over_as {result = Ok cycled.Over} (λ being at. subst (λ x. IsBeing x d being) (sym died) at) run

    pub over_unsaid : {old new : D} {p q : List ℕ} {fault : SayFault} → Pushes {E = SayFault} host (end_text (n + cycles_of 1 e) e) old new p q (Err fault)
        → PushesCycle {E = SayFault} host death d n (cycle_stretch n (cycle births s)) old new p q (Err fault)
    over_unsaid {fault = fault} run = over_as {result = Err fault} (λ being at. tt) run

-- WHAT IS SEEN BEFORE IT

module _ {D : Type 0} {host : Ghosts D} (n : ℕ) (look : State Table → Look) (t : State Births) (d : State Table) (death : Option Dead) where
  -- the line stops here
  pub stops_here : (l : Look) → look (show t) ≡ l → is_stop l ≡ true → death ≡ None → Shows d t → {old new : D} {p q : List ℕ}
      → Pushes {E = SayFault} host (words_of (texts_seen n l)) old new p q (Ok tt) → PushesCycle {E = SayFault} host death d n (seen_cycle look n t) old new p q (Ok cycled.Over)
  stops_here (Says texts) seen stop lives shows run = cc
  stops_here Stops seen stop lives shows run = record {
    texts = stopped_text n ∷ [];
    next = Halts (Over (Alive t));
    is = λ f. ap (λ x. looked_stretch x n t (cycle_stretch n (cycle births t) f)) seen;
    pushes = run;
    stands = (lives, shows);
  }

  -- what is seen is said, and the cycle follows
  pub seen_then : (l : Look) → look (show t) ≡ l → is_stop l ≡ false → {old mid new : D} {p q r : List ℕ} {result : Result Cycled SayFault}
      → Pushes {E = SayFault} host (words_of (texts_seen n l)) old mid p q (Ok tt) → PushesCycle {E = SayFault} host death d n (cycle_stretch n (cycle births t)) mid new q r result
      → PushesCycle {E = SayFault} host death d n (seen_cycle look n t) old new p r result
  seen_then (Says texts) seen stop first second = record {
    texts = texts ++ second.texts;
    next = second.next;
    is = λ f. ap (λ x. looked_stretch x n t (cycle_stretch n (cycle births t) f)) seen ∙ (ap (saying texts) (second.is f) ∙ sym (saying_both texts second.texts (after_next second.next f)));
    pushes = push_as (push_then first second.pushes) (sym (words_both texts second.texts));
    stands = second.stands;
  }
  seen_then Stops seen stop first second = cc

  -- or it isn't said whole
  pub seen_unsaid : (l : Look) → look (show t) ≡ l → {old new : D} {p q : List ℕ} {fault : SayFault} → Pushes {E = SayFault} host (words_of (texts_seen n l)) old new p q (Err fault)
      → PushesCycle {E = SayFault} host death d n (seen_cycle look n t) old new p q (Err fault)
  seen_unsaid (Says texts) seen run =
      let z = parts n (cycle births t) in
      record {
        texts = texts ++ z.texts;
        next = z.next;
        is = λ f. ap (λ x. looked_stretch x n t (cycle_stretch n (cycle births t) f)) seen ∙ (ap (saying texts) (z.is f) ∙ sym (saying_both texts z.texts (after_next z.next f)));
        pushes = push_as (push_begun (words_of z.texts) refl run) (sym (words_both texts z.texts));
        stands = tt;
      }
  seen_unsaid Stops seen run = record {
    texts = stopped_text n ∷ [];
    next = Halts (Over (Alive t));
    is = λ f. ap (λ x. looked_stretch x n t (cycle_stretch n (cycle births t) f)) seen;
    pushes = run;
    stands = tt;
  }

-- WHAT COMES BEFORE IT

module _ (n : ℕ) (look : State Table → Look) (s : State Births) (d : State Table) where
  dies_as : (cause : Dead) (x : Transition (State Births) Unit) → prepared s ≡ x → PreparedAs (Some cause) d x → prepared s ≡ Died cause
  dies_as cause (Died k) e h = e ∙ ap (λ y. Died y) h
  dies_as cause (Went u t) e h = absurd h

  -- it died, and so does the cycle
  died_first : (cause : Dead) → prepared s ≡ Died cause → (f : State Births → Stretch) → watched_cycle look n s f ≡ over (dead_text n cause) (Gone cause)
  died_first cause e f = ap (λ x. look_stretch look n x (cycle_stretch n (cycle births s) f)) e ∙ ap (λ x. cycle_stretch n x f) (cycle_dies s cause e)

  -- it went, to a state that is looked at
  pub record IsPrepared : Type 0 where
    pub state : State Births
    pub shows : Shows d state
    pub goes : prepared s ≡ Went tt state

  is_prepared : (x : Transition (State Births) Unit) → prepared s ≡ x → PreparedAs None d x → IsPrepared
  is_prepared (Died k) e h = absurd h
  is_prepared (Went u t) e h = record { state = t; shows = h; goes = e }

  pub went_before : PreparedAs None d (prepared s) → IsPrepared
  went_before h = is_prepared (prepared s) refl h

  watched_is_seen : (t : State Births) → prepared s ≡ Went tt t → (f : State Births → Stretch) → watched_cycle look n s f ≡ seen_cycle look n t f
  watched_is_seen t e f =
      ap (λ x. look_stretch look n x (cycle_stretch n (cycle births s) f)) e ∙ ap (λ x. looked_stretch (look (show t)) n t (cycle_stretch n x f)) (sym (cycle_goes_on s t e))

module _ {D : Type 0} {host : Ghosts D} (n : ℕ) (look : State Table → Look) (s : State Births) (d : State Table) where
  pub dead_before : (cause : Dead) → PreparedAs (Some cause) d (prepared s) → (death : Option Dead) → death ≡ Some cause → {old new : D} {p q : List ℕ} (result : Result Cycled SayFault)
      → IfOk result (λ x. x ≡ cycled.Over) → Pushes {E = SayFault} host (dead_text n cause) old new p q (went result) → PushesCycle {E = SayFault} host death d n (watched_cycle look n s) old new p q result
  dead_before cause h death died (Ok x) is run = record {
    texts = dead_text n cause ∷ [];
    next = Halts (Over (Gone cause));
    is = died_first n look s d cause (dies_as n look s d cause (prepared s) refl h);
    pushes = push_as run (sym (append-nil (dead_text n cause)));
    stands = subst (λ y. StandsNext death d n y (Halts (Over (Gone cause)))) (sym is) died;
  }
  dead_before cause h death died (Err e) is run = record {
    texts = dead_text n cause ∷ [];
    next = Halts (Over (Gone cause));
    is = died_first n look s d cause (dies_as n look s d cause (prepared s) refl h);
    pushes = push_as run (sym (append-nil (dead_text n cause)));
    stands = tt;
  }

  pub watched_by : (t : State Births) → prepared s ≡ Went tt t → (death : Option Dead) (c : State Table) {old new : D} {p q : List ℕ} {result : Result Cycled SayFault}
      → PushesCycle {E = SayFault} host death c n (seen_cycle look n t) old new p q result → PushesCycle {E = SayFault} host death c n (watched_cycle look n s) old new p q result
  watched_by t e death c run = record { texts = run.texts; next = run.next; is = λ f. watched_is_seen n look s d t e f ∙ run.is f; pushes = run.pushes; stands = run.stands }

-- ALL CYCLES OF A LINE

-- What is added where so many of n cycles are finished, from `first` on: with the stretch of the others from the births that are
-- shown, it is the stretch of all from s.
pub record SeenSoFar {D : Type 0} (host : Ghosts D) (look : ℕ → State Table → Look) (n first : ℕ) (s : State Births) (done : ℕ) (c : State Table) (old new : D) (before after : List ℕ) : Type 0 where
  pub texts : List (List ℕ)
  pub state : State Births
  pub shows : Shows c state
  pub rest : saying texts (watched_stretch look done (n - done) state) ≡ watched_stretch look first (n - first) s
  pub pushed : Pushes {E = SayFault} host (words_of texts) old new before after (Ok tt)

pub none_seen : {D : Type 0} (host : Ghosts D) (look : ℕ → State Table → Look) (n first : ℕ) (s : State Births) (c : State Table) (old : D) (before : List ℕ) → OnlyNow host old → Shows c s → SeenSoFar host look n first s first c old old before before
none_seen host look n first s c old before only w = record {
  texts = [];
  state = s;
  shows = w;
  rest = refl;
  pushed = push_none host old only;
}

module _ {D : Type 0} {host : Ghosts D} {look : ℕ → State Table → Look} {n first : ℕ} {s : State Births} {done : ℕ} {c : State Table} {old mid : D} {p q : List ℕ} (far : SeenSoFar host look n first s done c old mid p q) where
  -- the line's end
  ends_at : (left : ℕ) → left ≡ 0 → watched_stretch look done left far.state ≡ over (ran_text done) (Alive far.state)
  unfolding watched_stretch
  ends_at zero e = refl
  ends_at (suc left) e = cc

  abbrev All : Result (Option ℕ) SayFault → D → List ℕ → Option Dead → State Table → Type 0
  All result new r death d = PushesStretch {E = SayFault} host death d (watched_stretch look first (n - first) s) old new p r result

  -- by what is said behind, and where it stops
  pushes_as : (x : Stretch) (death : Option Dead) (d : State Table) {new : D} {r : List ℕ} {result : Result (Option ℕ) SayFault} → watched_stretch look done (n - done) far.state ≡ x
      → Pushes {E = SayFault} host (words_of x.texts) mid new q r (went result) → IfOk result (λ answer. StopsAs death d answer x.stop) → All result new r death d
  pushes_as x death d {new = new} {r = r} {result = result} is run stops =
      subst (λ y. PushesStretch {E = SayFault} host death d y old new p r result) (ap (saying far.texts) (sym is) ∙ far.rest) (record {
        pushes = push_as (push_then far.pushed run) (sym (words_both far.texts x.texts));
        stops = stops;
      })

  pub all_ran : n ≤ done → (death : Option Dead) → death ≡ None → {new : D} {r : List ℕ} → Pushes {E = SayFault} host (ran_text done) mid new q r (Ok tt) → All (Ok None) new r death c
  all_ran most death lives run =
      let e : n - done ≡ 0 = omega (arith, most) in
      pushes_as (over (ran_text done) (Alive far.state)) death c (ends_at (n - done) e) (push_as run (sym (append-nil (ran_text done)))) (lives, far.shows)

  pub ran_unsaid : n ≤ done → (death : Option Dead) {new : D} {r : List ℕ} {fault : SayFault} → Pushes {E = SayFault} host (ran_text done) mid new q r (Err fault) → All (Err fault) new r death c
  ran_unsaid most death run =
      let e : n - done ≡ 0 = omega (arith, most) in
      pushes_as (over (ran_text done) (Alive far.state)) death c (ends_at (n - done) e) (push_as run (sym (append-nil (ran_text done)))) tt

  -- one cycle more
  module _ (less : done < n) (death : Option Dead) (d : State Table) where
    abbrev onward : State Births → Stretch
    onward = watched_stretch look (suc done) (n - suc done)

    unfolds : (left : ℕ) → left ≡ suc (n - suc done) → watched_stretch look done left far.state ≡ watched_cycle (look done) done far.state onward
    unfolding watched_stretch
    unfolds zero e = cc
    unfolds (suc left) e = let k : left ≡ n - suc done = omega (arith, e) in ap (λ j. watched_cycle (look done) done far.state (watched_stretch look (suc done) j)) k

    one_more : watched_stretch look done (n - done) far.state ≡ watched_cycle (look done) done far.state onward
    one_more = unfolds (n - done) (let e : n - done ≡ suc (n - suc done) = omega (arith, less) in e)

    module _ {new : D} {r : List ℕ} where
      -- the line goes on
      pub seen_on : PushesCycle {E = SayFault} host death d done (watched_cycle (look done) done far.state) mid new q r (Ok cycled.GoesOn) → SeenSoFar host look n first s (suc done) d old new p r
      seen_on run = on run.next refl run.stands
        where
          on : (x : Next) → run.next ≡ x → StandsNext death d done cycled.GoesOn x → SeenSoFar host look n first s (suc done) d old new p r
          on (Onward t) is h = record {
            texts = far.texts ++ run.texts;
            state = t;
            shows = h.1;
            rest = saying_both far.texts run.texts (onward t)
                ∙ (ap (λ y. saying far.texts (saying run.texts (after_next y onward))) (sym is) ∙ (ap (saying far.texts) (sym (one_more ∙ run.is onward)) ∙ far.rest));
            pushed = push_as (push_then far.pushed run.pushes) (sym (words_both far.texts run.texts));
          }
          on (Halts (Over being)) is h = absurd h
          on (Halts (Asked k t)) is h = absurd h

      -- a snapshot is asked for
      pub seen_asked : PushesCycle {E = SayFault} host death d done (watched_cycle (look done) done far.state) mid new q r (Ok cycled.Asks) → All (Ok (Some (suc done))) new r death d
      seen_asked run = at run.next refl run.stands
        where
          at : (x : Next) → run.next ≡ x → StandsNext death d done cycled.Asks x → All (Ok (Some (suc done))) new r death d
          at (Onward t) is h = absurd h
          at (Halts (Over being)) is h = absurd h
          at (Halts (Asked k t)) is h =
              pushes_as (saying run.texts (record { texts = []; stop = Asked k t })) death d (one_more ∙ (run.is onward ∙ ap (λ y. saying run.texts (after_next y onward)) is))
              (push_as run.pushes (ap words_of (sym (append-nil run.texts)))) (sym h.0, h.1, h.2)

      -- the line is over
      pub seen_over : PushesCycle {E = SayFault} host death d done (watched_cycle (look done) done far.state) mid new q r (Ok cycled.Over) → All (Ok None) new r death d
      seen_over run = at run.next refl run.stands
        where
          at : (x : Next) → run.next ≡ x → StandsNext death d done cycled.Over x → All (Ok None) new r death d
          at (Onward t) is h = absurd h
          at (Halts (Over being)) is h =
              pushes_as (saying run.texts (record { texts = []; stop = Over being })) death d (one_more ∙ (run.is onward ∙ ap (λ y. saying run.texts (after_next y onward)) is))
              (push_as run.pushes (ap words_of (sym (append-nil run.texts)))) h
          at (Halts (Asked k t)) is h = absurd h

      -- or it isn't said whole
      pub seen_cut : {fault : SayFault} → PushesCycle {E = SayFault} host death d done (watched_cycle (look done) done far.state) mid new q r (Err fault) → All (Err fault) new r death d
      seen_cut run =
          let rest = after_next run.next onward in
          pushes_as (saying run.texts rest) death d (one_more ∙ run.is onward) (push_as (push_begun (words_of rest.texts) refl run.pushes) (sym (words_both run.texts rest.texts))) tt

-- A MACHINE THAT GOES ON IS ALIVE

alive_on : (death : Option Dead) (d : State Table) (n : ℕ) (x : Next) → StandsNext death d n cycled.GoesOn x → death ≡ None
alive_on death d n (Onward t) h = h.0
alive_on death d n (Halts (Over being)) h = absurd h
alive_on death d n (Halts (Asked k t)) h = absurd h

alive_asked : (death : Option Dead) (d : State Table) (n : ℕ) (x : Next) → StandsNext death d n cycled.Asks x → death ≡ None
alive_asked death d n (Onward t) h = absurd h
alive_asked death d n (Halts (Over being)) h = absurd h
alive_asked death d n (Halts (Asked k t)) h = h.1

module _ {D : Type 0} {host : Ghosts D} {death : Option Dead} {d : State Table} {n : ℕ} {f : (State Births → Stretch) → Stretch} {old new : D} {p q : List ℕ} where
  pub goes_alive : PushesCycle {E = SayFault} host death d n f old new p q (Ok cycled.GoesOn) → death ≡ None
  goes_alive run = alive_on death d n run.next run.stands

  pub asks_alive : PushesCycle {E = SayFault} host death d n f old new p q (Ok cycled.Asks) → death ≡ None
  asks_alive run = alive_asked death d n run.next run.stands

pub one_later : (n : ℕ) → suc n ≡ n + 1
one_later n = omega arith

-- WHETHER A METHOD IS ENTERED

stops_if : (b : Bool) → is_stop (if b then Stops else Says []) ≡ b
stops_if true = refl
stops_if false = refl

-- the first cycle of a line isn't looked at
pub first_goes : (method : Value) (c : State Table) → false ≡ is_stop (entry_seen method 0 c)
first_goes method c = refl

pub later_stops : (method : Value) (n : ℕ) (c : State Table) → 0 < n → is_entered c method ≡ is_stop (entry_seen method n c)
later_stops method zero c less = absurd (omega (arith, less))
later_stops method (suc n) c less = sym (stops_if (is_entered c method))

unstopped : (b : Bool) → is_stop (if b then Stops else Says []) ≡ false → Says [] ≡ (if b then Stops else Says [])
unstopped true e = cc
unstopped false e = refl

stopped : (b : Bool) → is_stop (if b then Stops else Says []) ≡ true → Stops ≡ (if b then Stops else Says [])
stopped true e = refl
stopped false e = cc

-- nothing is said where the line goes on
pub unentered : (method : Value) (n : ℕ) (c : State Table) → is_stop (entry_seen method n c) ≡ false → Says [] ≡ entry_seen method n c
unentered method zero c e = refl
unentered method (suc n) c e = unstopped (is_entered c method) e

pub enters : (method : Value) (n : ℕ) (c : State Table) → is_stop (entry_seen method n c) ≡ true → Stops ≡ entry_seen method n c
enters method zero c e = cc
enters method (suc n) c e = stopped (is_entered c method) e
