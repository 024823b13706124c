-- A trace does what the run does.
use Rattle.std.proofs.Common.{ℕ, zero, suc, List, [], ◌∷◌, ◌++◌, map, sym, subst}
use Rattle.st_model.specs.Outcomes.{Ending, With, Space}
use Rattle.st_model.specs.Outcomes as outcome
use Rattle.st_model.specs.Machine.{State, Transition, Died, Went}
use Rattle.st_model.specs.Births.{Births, births}
use Rattle.st_model.specs.Cycles.{cycle}
use Rattle.st_model.specs.Show.{show}
use Rattle.st_model.specs.Text.{said_value}
use Rattle.st_machine.specs.Prepared.{prepared}
use Rattle.st_protocol.specs.Courses.{Deed, Reply, Course, Goes, Ends, preceded, and_then}
use Rattle.st_debug.specs.Watched.{watched}
use Rattle.st_session.specs.Points.{Being, Alive, Gone, Point, gone}
use Rattle.st_session.specs.Keeping.{Keeping}
use Rattle.st_session.specs.Watching.{bytecode_texts, bytecode_seen}
use Rattle.st_session.specs.Answers.{going_on, cycle_course, run_course, look_at, watched_course}
use Rattle.st_session.specs.inside.Traces.{states_from, states_behind, states_after, states_of, texts_at, texts_of, Laid, Traces}
use Rattle.st_session.specs.inside.Traces as laid
use Rattle.st_session.proofs.Unseen.{run_begins}

laid_itself : {C : Type 0} (ds : List (Deed C)) → Laid [] ds ds
laid_itself [] = laid.none
laid_itself (d ∷ ds) = laid.doing d [] ds ds (laid_itself ds)

laid_behind : {C : Type 0} (cs : List (Deed C)) (ts : List (List ℕ)) (ds es : List (Deed C)) → Laid ts ds es → Laid ts (cs ++ ds) (cs ++ es)
laid_behind [] ts ds es h = h
laid_behind (d ∷ cs) ts ds es h = laid.doing d ts (cs ++ ds) (cs ++ es) (laid_behind cs ts ds es h)

laid_looks : {C : Type 0} (xs ts : List (List ℕ)) (ds es : List (Deed C)) → Laid ts ds es → Laid (xs ++ ts) ds (map (λ t. Reply t) xs ++ es)
laid_looks [] ts ds es h = h
laid_looks (x ∷ xs) ts ds es h = laid.looking x (xs ++ ts) ds (map (λ t. Reply t) xs ++ es) (laid_looks xs ts ds es h)

traces_itself : {C X : Type 0} (a : Course C X) → Traces [] a a
traces_itself (Goes ds x) = laid.goes [] ds ds x (laid_itself ds)
traces_itself (Ends ds e) = laid.ends [] ds ds e (laid_itself ds)

traces_behind : {C X : Type 0} (cs : List (Deed C)) (ts : List (List ℕ)) (a b : Course C X) → Traces ts a b → Traces ts (preceded cs a) (preceded cs b)
traces_behind cs _ _ _ (laid.goes ts ds es x h) = laid.goes ts (cs ++ ds) (cs ++ es) x (laid_behind cs ts ds es h)
traces_behind cs _ _ _ (laid.ends ts ds es e h) = laid.ends ts (cs ++ ds) (cs ++ es) e (laid_behind cs ts ds es h)

traces_looks : {C X : Type 0} (xs ts : List (List ℕ)) (a b : Course C X) → Traces ts a b → Traces (xs ++ ts) a (preceded (map (λ t. Reply t) xs) b)
traces_looks xs _ _ _ (laid.goes ts ds es x h) = laid.goes (xs ++ ts) ds (map (λ t. Reply t) xs ++ es) x (laid_looks xs ts ds es h)
traces_looks xs _ _ _ (laid.ends ts ds es e h) = laid.ends (xs ++ ts) ds (map (λ t. Reply t) xs ++ es) e (laid_looks xs ts ds es h)

module _ {C : Type 0} (keeping : Keeping C) where
  abbrev Does : Type 0
  Does = State Births → C → Course C (Point C)

  -- what follows is traced by what follows
  abbrev Follows : (State Births → C → List (State Births)) → Does → Does → Type 0
  Follows states f g = (s : State Births) (c : C) → Traces (texts_of (states s c)) (f s c) (g s c)

  module _ (states : State Births → C → List (State Births)) (f g : Does) (h : Follows states f g) where
    on_being : (b : Being) (c : C) → Traces (texts_of (states_from keeping states b c)) (going_on keeping f b c) (going_on keeping g b c)
    on_being (Alive s) c = h s c
    on_being (Gone cause) c = traces_itself (Goes [] (gone cause c))

    behind : (a : Course C (Point C)) → Traces (texts_of (states_behind keeping states a)) (and_then a (λ p. going_on keeping f p.being p.kept)) (and_then a (λ p. going_on keeping g p.being p.kept))
    behind (Goes ds p) = traces_behind ds _ _ _ (on_being p.being p.kept)
    behind (Ends ds e) = traces_itself (Ends ds e)

    on_cycle : (n : ℕ) (e : Transition (State Births) Ending) (c : C) → Traces (texts_of (states_after keeping n e states c)) (cycle_course keeping n e f c) (cycle_course keeping n e g c)
    on_cycle n (Died cause) c = traces_itself _
    on_cycle n (Went (With outcome.Went) s) c = h s c
    on_cycle n (Went (With outcome.Snapshot) s) c = behind (keeping.snapshot (suc n) s c)
    on_cycle n (Went (With outcome.Quit) s) c = traces_itself _
    on_cycle n (Went (With outcome.Debugger) s) c = traces_itself _
    on_cycle n (Went (With (outcome.Say v)) s) c = traces_behind (Reply (said_value s.memory v) ∷ []) _ _ _ (h s c)
    on_cycle n (Went (Space demand left) s) c = traces_itself _

  looked_at : (n : ℕ) (p : Transition (State Births) Unit) (c : C) (ts : List (List ℕ)) (a b : Course C (Point C)) → Traces ts a b → Traces (texts_at p ++ ts) a (look_at keeping (bytecode_seen n) n p c b)
  looked_at n (Died cause) c ts a b h = h
  looked_at n (Went u t) c ts a b h = traces_looks (bytecode_texts (watched (show t))) ts a b h

  pub traced : (n k : ℕ) (s : State Births) (c : C) → Traces (texts_of (states_of keeping n k s c)) (run_course keeping n k s c) (watched_course keeping bytecode_seen n k s c)
  unfolding watched_course states_of
  traced n zero s c = traces_itself _
  traced n (suc k) s c =
      subst (λ (x : Course C (Point C)). Traces (texts_of (states_of keeping n (suc k) s c)) x (watched_course keeping bytecode_seen n (suc k) s c)) (sym (run_begins keeping k n s c))
      (looked_at n (prepared s) c _ _ _ (on_cycle (states_of keeping (suc n) k) (run_course keeping (suc n) k) (watched_course keeping bytecode_seen (suc n) k) (traced (suc n) k) n (cycle births s) c))
