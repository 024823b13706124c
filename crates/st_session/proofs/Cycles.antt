-- What a run of the code says, and where it stops, is what the book's machine does.
use Rattle.std.proofs.Common.{◌≡◌, ℕ, zero, suc, ◌+◌, ◌-◌, List, [], ◌∷◌, ◌++◌, Option, Some, None, refl, sym, ap, subst, ◌∙◌, append-nil, append_assoc, arith}
use Rattle.std.specs.Prelude.{Result, Ok, Err, IfOk}
use Rattle.st_model.specs.declared.dead.Dead.{Dead}
use Rattle.st_model.specs.declared.demand.Demand.{Demand}
use Rattle.st_model.specs.declared.oop.Oop.{Oop}
use Rattle.st_model.specs.Values.{Value, Small, Ref, value, renamed, IsLive}
use Rattle.st_model.specs.Objects.{Object}
use Rattle.st_model.specs.Outcomes.{Ending, With, Space, renamed_ending, IsLiveEnding}
use Rattle.st_model.specs.Outcomes as outcome
use Rattle.st_model.specs.Machine.{State, Transition, Died, Went}
use Rattle.st_model.specs.Births.{Births, births, borne, object_born}
use Rattle.st_model.specs.Table.{Table}
use Rattle.st_model.specs.Cycles.{cycle, run, run_of, finished, finished_of, and_on, counted}
use Rattle.st_model.specs.inside.Foreseen.{EndsShown}
use Rattle.st_model.specs.Show.{Shows, IsKept, pointer_of}
use Rattle.st_model.specs.Text.{ran_text, dead_text, space_text, quit_text, debugger_text, said_value}
use Rattle.st_host.specs.declared.host.Host.{Ghosts}
use Rattle.st_host.specs.declared.host.SayFault.{SayFault}
use Rattle.st_host.proofs.Telling.{OnlyNow}
use Rattle.st_call.specs.inside.Saying.{Pushes, said_in}
use Rattle.st_call.proofs.Pushing.{push_none, push_then, push_begun, push_as}
use Rattle.st_machine.specs.declared.ending.RunEnd.{RunEnd}
use Rattle.st_machine.specs.declared.ending.RunEnd.TheVariants as end
use Rattle.st_machine.specs.inside.Runs.{EndsAs, cycles_of, transition_at, death_of}
use Rattle.st_session.specs.Points.{Being, Alive, Gone}
use Rattle.st_session.specs.inside.Runs.{end_text}
use Rattle.st_session.specs.inside.Standing.{IsBeing}
use Rattle.st_session.specs.inside.Stretches.{Stretch, words_of, saying, over, asking, cycle_stretch, stretch, StopsAs, went, PushesStretch}
use Rattle.st_model.proofs.BirthLemmas.{pointer_of-borne}

-- what follows where so many cycles are finished, so many are left, and the machine has come to this
abbrev stretch_at : ℕ → ℕ → Transition (State Births) Ending → Stretch
stretch_at n k (Died cause) = over (dead_text n cause) (Gone cause)
stretch_at n k (Went (With outcome.Went) s) = over (ran_text n) (Alive s)
stretch_at n k (Went (With outcome.Snapshot) s) = asking n s
stretch_at n k (Went (With outcome.Quit) s) = over (quit_text n) (Alive s)
stretch_at n k (Went (With outcome.Debugger) s) = over (debugger_text n) (Alive s)
stretch_at n k (Went (With (outcome.Say v)) s) = saying (said_value s.memory v ∷ []) (stretch n k s)
stretch_at n k (Went (Space demand left) s) = over (space_text n demand left) (Alive s)

stretch_is : (k n : ℕ) (s : State Births) → stretch n k s ≡ stretch_at (n + finished births k s) (k - finished births k s) (run births k s)
unfolding stretch run run_of finished finished_of
stretch_is zero n s = let e : n ≡ n + 0 = omega arith in ap (λ i. over (ran_text i) (Alive s)) e
stretch_is (suc k) n s = onward (cycle births s) (λ t. stretch_is k (suc n) t)
  where
    onward : (o : Transition (State Births) Ending)
        → ((t : State Births) → stretch (suc n) k t ≡ stretch_at (suc n + finished_of (cycle births) k t) (k - finished_of (cycle births) k t) (run_of (cycle births) k t))
        → cycle_stretch n o (stretch (suc n) k)
        ≡ stretch_at (n + counted o (λ t. finished_of (cycle births) k t)) (suc k - counted o (λ t. finished_of (cycle births) k t)) (and_on o (λ t. run_of (cycle births) k t))
    onward (Died cause) h = let e : n ≡ n + 0 = omega arith in ap (λ i. over (dead_text i cause) (Gone cause)) e
    onward (Went (With outcome.Went) t) h =
        let d = finished_of (cycle births) k t in
        let e : suc n + d ≡ n + suc d = omega arith in
        let f : k - d ≡ suc k - suc d = omega arith in
        h t ∙ (λ i. stretch_at (e i) (f i) (run_of (cycle births) k t))
    onward (Went (With outcome.Snapshot) t) h = let e : suc n ≡ n + 1 = omega arith in ap (λ i. asking i t) e
    onward (Went (With outcome.Quit) t) h = let e : suc n ≡ n + 1 = omega arith in ap (λ i. over (quit_text i) (Alive t)) e
    onward (Went (With outcome.Debugger) t) h = let e : suc n ≡ n + 1 = omega arith in ap (λ i. over (debugger_text i) (Alive t)) e
    onward (Went (With (outcome.Say v)) t) h =
        let e : suc n ≡ n + 1 = omega arith in
        let f : k ≡ suc k - 1 = omega arith in
        λ i. saying (said_value t.memory v ∷ []) (stretch (e i) (f i) t)
    onward (Went (Space demand left) t) h = let e : n ≡ n + 0 = omega arith in ap (λ i. over (space_text i demand left) (Alive t)) e

-- an ending that names nothing is the same under other names

-- what the births end as where the table ends so
abbrev pub Back : (ℕ → ℕ) → Ending → Ending → Type 0
Back f (With outcome.Went) x = x ≡ With outcome.Went
Back f (With outcome.Snapshot) x = x ≡ With outcome.Snapshot
Back f (With outcome.Quit) x = x ≡ With outcome.Quit
Back f (With outcome.Debugger) x = x ≡ With outcome.Debugger
Back f (With (outcome.Say y)) x = (v : Value) × (x ≡ With (outcome.Say v)) × (y ≡ renamed f v)
Back f (Space demand left) x = x ≡ Space demand left

back_itself : (f : ℕ → ℕ) (x : Ending) → Back f (renamed_ending f x) x
back_itself f (With outcome.Went) = refl
back_itself f (With outcome.Snapshot) = refl
back_itself f (With outcome.Quit) = refl
back_itself f (With outcome.Debugger) = refl
back_itself f (With (outcome.Say v)) = (v, refl, refl)
back_itself f (Space demand left) = refl

pub back : (f : ℕ → ℕ) (a x : Ending) → a ≡ renamed_ending f x → Back f a x
back f a x e = rw e (back_itself f x)

-- what is said of a kept object is what is said of the one that is shown

born_kept : (h : Births) (n p : ℕ) → borne h n ≡ Some p → (o : Object) × (object_born h n ≡ Some o)
born_kept [] n p e = cc
born_kept (b ∷ h) zero p e = (b.object, refl)
born_kept (b ∷ h) (suc n) p e = born_kept h n p e

pub value_said : (c : State Table) (s : State Births) (v : Value) → Shows c s → IsLive (IsKept s.memory) v → said_value s.memory v ≡ said_in c.memory (renamed (pointer_of s.memory) v)
value_said c s (Small n) w live = refl
value_said c s (Ref n) w live =
    let o = born_kept s.memory n live.0 live.1 in
    let shown = w.objects n live.0 o.0 live.1 o.1 in
    rw (pointer_of-borne s.memory n live.0 live.1, shown, o.1) refl

-- how a run ended, and what the stretch is there

pub words_both : (a b : List (List ℕ)) → words_of (a ++ b) ≡ words_of a ++ words_of b
words_both [] b = refl
words_both (x ∷ a) b = ap (λ t. x ++ t) (words_both a b) ∙ sym (append_assoc x (words_of a) (words_of b))

pub saying_both : (a b : List (List ℕ)) (r : Stretch) → saying (a ++ b) r ≡ saying a (saying b r)
saying_both a b r = ap (λ t. record { texts = t; stop = r.stop }) (append_assoc a b r.texts)

module _ (d k : ℕ) (c : State Table) where
  ended_so : (a : Ending) (s : State Births) (x : Ending) → x ≡ a → stretch_at d k (Went x s) ≡ stretch_at d k (Went a s)
  ended_so a s x e = ap (λ y. stretch_at d k (Went y s)) e

  -- where the run is over, the machine is this, and its last line is said
  record IsOver (e : RunEnd) (b : Transition (State Births) Ending) : Type 0 where
    being : Being
    stands : IsBeing (death_of e) c being
    is : stretch_at d k b ≡ over (end_text d e) being

  alive_end : (a : Ending) (e : RunEnd) (s : State Births) (x : Ending) → death_of e ≡ None → Shows c s → x ≡ a → stretch_at d k (Went a s) ≡ over (end_text d e) (Alive s) → IsOver e (Went x s)
  alive_end a e s x lives shows same is = record { being = Alive s; stands = (lives, shows); is = ended_so a s x same ∙ is }

  is_over : (e : RunEnd) → ((done : ℕ) → e ≡ end.Snapshot done → ⊥) → ((done : ℕ) (o : Oop) → e ≡ end.Say done o → ⊥) → (b : Transition (State Births) Ending) → EndsShown (transition_at e c) b → IsOver e b
  is_over end.Ran n m (Died cause) h = absurd h
  is_over end.Ran n m (Went x s) h = alive_end (With outcome.Went) end.Ran s x refl h.1 (back (pointer_of s.memory) (With outcome.Went) x h.0) refl
  is_over (end.Space done demand entries words) n m (Died cause) h = absurd h
  is_over (end.Space done demand entries words) n m (Went x s) h =
      let left : Demand = record { entries = entries; words = words } in
      alive_end (Space demand left) (end.Space done demand entries words) s x refl h.1 (back (pointer_of s.memory) (Space demand left) x h.0) refl
  is_over (end.Snapshot done) n m b h = absurd (n done refl)
  is_over (end.Say done o) n m b h = absurd (m done o refl)
  is_over (end.Quit done) n m (Died cause) h = absurd h
  is_over (end.Quit done) n m (Went x s) h = alive_end (With outcome.Quit) (end.Quit done) s x refl h.1 (back (pointer_of s.memory) (With outcome.Quit) x h.0) refl
  is_over (end.Debugger done) n m (Died cause) h = absurd h
  is_over (end.Debugger done) n m (Went x s) h = alive_end (With outcome.Debugger) (end.Debugger done) s x refl h.1 (back (pointer_of s.memory) (With outcome.Debugger) x h.0) refl
  is_over (end.Dead done cause) n m (Died b) h = record { being = Gone cause; stands = refl; is = λ i. over (dead_text d (sym h i)) (Gone (sym h i)) }
  is_over (end.Dead done cause) n m (Went x s) h = absurd h

  -- a snapshot is asked for, by births that are shown
  record AsksToSave (b : Transition (State Births) Ending) : Type 0 where
    state : State Births
    shows : Shows c state
    is : stretch_at d k b ≡ asking d state

  asks_to_save : (done : ℕ) (b : Transition (State Births) Ending) → EndsShown (transition_at (end.Snapshot done) c) b → AsksToSave b
  asks_to_save done (Died cause) h = absurd h
  asks_to_save done (Went x s) h = record {
    state = s;
    shows = h.1;
    is = ended_so (With outcome.Snapshot) s x (back (pointer_of s.memory) (With outcome.Snapshot) x h.0);
  }

  -- or bytes are to be said, and the run goes on
  record AsksToSay (o : Oop) (b : Transition (State Births) Ending) : Type 0 where
    state : State Births
    shows : Shows c state
    text : List ℕ
    said : text ≡ said_in c.memory (value o)
    is : stretch_at d k b ≡ saying (text ∷ []) (stretch d k state)

  asks_to_say : (done : ℕ) (o : Oop) (b : Transition (State Births) Ending) → EndsShown (transition_at (end.Say done o) c) b → AsksToSay o b
  asks_to_say done o (Died cause) h = absurd h
  asks_to_say done o (Went x s) h =
      let r = back (pointer_of s.memory) (With (outcome.Say (value o))) x h.0 in
      let live : IsLiveEnding (IsKept s.memory) (With (outcome.Say r.0)) = subst (IsLiveEnding (IsKept s.memory)) r.1 h.2 in
      record {
        state = s;
        shows = h.1;
        text = said_value s.memory r.0;
        said = value_said c s r.0 h.1 live ∙ ap (said_in c.memory) (sym r.2);
        is = ended_so (With (outcome.Say r.0)) s x r.1;
      }

-- What is added where so many of n cycles are finished, from `first` on: with the stretch of the others from the births that are
-- shown, it is the stretch of all from s.
pub record SaidSoFar {D : Type 0} (host : Ghosts D) (n first : ℕ) (s : State Births) (done : ℕ) (c : State Table) (old new : D) (before after : List ℕ) : Type 0 where
  pub texts : List (List ℕ)
  pub state : State Births
  pub shows : Shows c state
  pub rest : saying texts (stretch done (n - done) state) ≡ stretch first (n - first) s
  pub pushed : Pushes {E = SayFault} host (words_of texts) old new before after (Ok tt)

pub none_so_far : {D : Type 0} (host : Ghosts D) (n first : ℕ) (s : State Births) (c : State Table) (old : D) (before : List ℕ) → OnlyNow host old → Shows c s → SaidSoFar host n first s first c old old before before
none_so_far host n first s c old before only w = record {
  texts = [];
  state = s;
  shows = w;
  rest = refl;
  pushed = push_none host old only;
}

module _ {D : Type 0} {host : Ghosts D} {n first : ℕ} {s : State Births} {done : ℕ} {c : State Table} {old mid : D} {p q : List ℕ} (far : SaidSoFar host n first s done c old mid p q) (e : RunEnd) (d : State Table) (ended : (t : State Births) → Shows c t → EndsAs (n - done) t e d) where
  ends : EndsAs (n - done) far.state e d
  ends = ended far.state far.shows

  abbrev now : ℕ
  now = done + cycles_of (n - done) e

  abbrev left : ℕ
  left = n - done - cycles_of (n - done) e

  after_run : stretch done (n - done) far.state ≡ stretch_at now left (run births (n - done) far.state)
  after_run = stretch_is (n - done) done far.state ∙ ap (λ i. stretch_at (done + i) (n - done - i) (run births (n - done) far.state)) ends.count

  -- the whole stretch, where this follows
  whole : (r : Stretch) → stretch_at now left (run births (n - done) far.state) ≡ r → saying far.texts r ≡ stretch first (n - first) s
  whole r is = ap (saying far.texts) (sym (after_run ∙ is)) ∙ far.rest

  -- a stretch, by what it says and where it stops
  pushes_as : (r : Stretch) (death : Option Dead) {new : D} {z : List ℕ} {result : Result (Option ℕ) SayFault} → stretch_at now left (run births (n - done) far.state) ≡ r
      → Pushes host (words_of r.texts) mid new q z (went result) → IfOk result (λ answer. StopsAs death d answer r.stop)
      → PushesStretch host death d (stretch first (n - first) s) old new p z result
  pushes_as r death {new = new} {z = z} {result = result} is last stops =
      subst (λ x. PushesStretch host death d x old new p z result) (whole r is) (record {
        pushes = push_as (push_then far.pushed last) (sym (words_both far.texts r.texts));
        stops = stops;
      })

  -- the run's end
  pub ends_here : (death : Option Dead) {new : D} {r : List ℕ} → death ≡ death_of e → ((k : ℕ) → e ≡ end.Snapshot k → ⊥) → ((k : ℕ) (o : Oop) → e ≡ end.Say k o → ⊥)
      → Pushes {E = SayFault} host (end_text now e) mid new q r (Ok tt) → PushesStretch {E = SayFault} host death d (stretch first (n - first) s) old new p r (Ok None)
  ends_here death died unsaved unsaid last =
      let o = is_over now left d e unsaved unsaid (run births (n - done) far.state) ends.ends in
      pushes_as (over (end_text now e) o.being) death o.is (push_as last (sym (append-nil (end_text now e)))) (subst (λ x. IsBeing x d o.being) (sym died) o.stands)

  pub end_unsaid : (death : Option Dead) {new : D} {r : List ℕ} {fault : SayFault} → ((k : ℕ) → e ≡ end.Snapshot k → ⊥) → ((k : ℕ) (o : Oop) → e ≡ end.Say k o → ⊥)
      → Pushes {E = SayFault} host (end_text now e) mid new q r (Err fault) → PushesStretch {E = SayFault} host death d (stretch first (n - first) s) old new p r (Err fault)
  end_unsaid death unsaved unsaid last =
      let o = is_over now left d e unsaved unsaid (run births (n - done) far.state) ends.ends in
      pushes_as (over (end_text now e) o.being) death o.is (push_as last (sym (append-nil (end_text now e)))) tt

  -- a snapshot is asked for
  pub stops_here : (death : Option Dead) (k : ℕ) → death ≡ None → e ≡ end.Snapshot k → OnlyNow host mid → PushesStretch {E = SayFault} host death d (stretch first (n - first) s) old mid p q (Ok (Some now))
  stops_here death k lives asked only =
      let a = asks_to_save now left d k (run births (n - done) far.state) (subst (λ x. EndsShown (transition_at x d) (run births (n - done) far.state)) asked ends.ends) in
      pushes_as (asking now a.state) death a.is (push_none host mid only) (refl, lives, a.shows)

  -- bytes are said, and the run goes on
  module _ (k : ℕ) (o : Oop) (asked : e ≡ end.Say k o) where
    further : AsksToSay now left d o (run births (n - done) far.state)
    further = asks_to_say now left d k o (run births (n - done) far.state) (subst (λ x. EndsShown (transition_at x d) (run births (n - done) far.state)) asked ends.ends)

    pub said_on : {new : D} {r : List ℕ} → Pushes {E = SayFault} host (said_in d.memory (value o)) mid new q r (Ok tt) → SaidSoFar host n first s now d old new p r
    said_on next =
        let f = further in
        let same : n - now ≡ left = omega arith in
        record {
          texts = far.texts ++ (f.text ∷ []);
          state = f.state;
          shows = f.shows;
          rest = ap (λ j. saying (far.texts ++ (f.text ∷ [])) (stretch now j f.state)) same
              ∙ (saying_both far.texts (f.text ∷ []) (stretch now left f.state) ∙ whole (saying (f.text ∷ []) (stretch now left f.state)) f.is);
          pushed = push_as (push_then far.pushed (push_as next (sym f.said ∙ sym (append-nil f.text)))) (sym (words_both far.texts (f.text ∷ [])));
        }

    -- or they aren't said whole
    pub cut_short : (death : Option Dead) {new : D} {r : List ℕ} {fault : SayFault} → Pushes {E = SayFault} host (said_in d.memory (value o)) mid new q r (Err fault) → PushesStretch {E = SayFault} host death d (stretch first (n - first) s) old new p r (Err fault)
    cut_short death next =
        let f = further in
        pushes_as (saying (f.text ∷ []) (stretch now left f.state)) death f.is (push_begun (words_of (stretch now left f.state).texts) refl (push_as next (sym f.said))) tt
