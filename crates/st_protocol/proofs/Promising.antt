-- What is promised of deeds that acknowledge each commit, also where a last line follows them.
use Rattle.std.proofs.Common.{◌≡◌, ◌⊎◌, ⊎_elim, ℕ, suc, ◌+◌, ◌≤◌, List, [], ◌∷◌, ◌++◌, IsTrue, refl, sym, ap, ◌∙◌, subst, arith, append_assoc, append-nil}
use Rattle.std.specs.Prelude.{Result, Ok, Err, IsErrOf, slice_get, Some}
use Rattle.std.proofs.lemmas.List.{append_cancel_left}
use Rattle.st_host.specs.Files.{Files}
use Rattle.st_host.specs.Stops.{Here, SaidPart, WhileSaying}
use Rattle.st_host.specs.Runs.{LeavesOnly, ReadsAndSays, IsAtRest}
use Rattle.st_host.specs.declared.host.Host.{Ghosts}
use Rattle.st_host.proofs.Joining.{weaker, moments_join}
use Rattle.st_protocol.specs.declared.status.Status.{Status}
use Rattle.st_protocol.specs.declared.status.Status.TheVariants as status
use Rattle.st_protocol.specs.Acknowledged.{acknowledged, acknowledged_from, rest_from, SaysLines, AcknowledgesEach, Promised}
use Rattle.st_protocol.specs.Courses.{Deed, Reply, Keep, Course, Goes, Ends, deeds_of, said_of, commits_of, last_of}
use Rattle.st_protocol.specs.Done.{SaysFirst, EndsBetween, RestsBetween, Rests, RestsAsOne}
use Rattle.st_protocol.specs.inside.Obeying.{Obeys}
use Rattle.st_protocol.specs.Underway.{Underway}
use Rattle.st_protocol.proofs.Counting.{acknowledged_both, front_of, front_acknowledges_from, promised, first_whole}
use Rattle.st_protocol.proofs.Joins.{between_first, first_all, rests_between, obeys_moments}

-- what the law of a host says of this moment
abbrev pub CountsNow : {D : Type 0} → Ghosts D → D → Type 0
CountsNow host h = (t : ℕ) (f : Files) (s : List ℕ) → IsTrue host.is_told → t ≤ host.moment h → Here (host.may_leave h) (host.said h) f s → host.left_since h t f s

-- the last commit of some first deeds is one of all
last_is : {C : Type 0} (c : C) (a b : List (Deed C)) → (n : ℕ) × (slice_get (c ∷ commits_of (a ++ b)) n ≡ Some (last_of c a))
last_is c [] b = (0, refl)
last_is c (Reply text ∷ a) b = last_is c a b
last_is c (Keep d ∷ a) b = let r = last_is d a b in (suc r.0, r.1)

-- what some first of lawful deeds say are whole lines
pub lines_first : {C : Type 0} (ds : List (Deed C)) (before now : List ℕ) → AcknowledgesEach ds → SaysFirst ds before now → SaysLines before now
lines_first ds before now law h = record { words = said_of h.first; said_is = h.said; whole = first_whole h.first h.rest (subst AcknowledgesEach h.all law) }

-- so they are after every fault but one in saying
pub lines_between : {C : Type 0} (e : Status) (ds : List (Deed C)) (before now : List ℕ) → AcknowledgesEach ds → (e ≡ status.SayFault → ⊥) → EndsBetween e ds before now → SaysLines before now
lines_between e ds before now law none h = lines_first ds before now law (between_first e ds before now none h)

module _ {D : Type 0} (host : Ghosts D) {C : Type 0} (opens : C → Files → Type 0) where
  -- deeds that acknowledge each commit keep the promise at each moment
  pub promised_through : (c : C) (ds : List (Deed C)) (old new : D) → AcknowledgesEach ds → LeavesOnly host old new (Underway opens c (host.said old) ds) → LeavesOnly host old new (Promised opens (c ∷ commits_of ds) (host.said old))
  promised_through c ds old new law moments =
      weaker host old new (Promised opens (c ∷ commits_of ds) (host.said old)) (Underway opens c (host.said old) ds) moments (λ f s u. promised opens c (host.said old) ds f s law u)

  one_between : (c : C) (ds : List (Deed C)) (new : D) → RestsBetween host opens c ds new → RestsAsOne host opens (c ∷ commits_of ds) new
  one_between c ds new h =
      let at = last_is c h.first h.rest in
      record { number = at.0; commit = last_of c h.first; is_of = ap (λ (x : List (Deed C)). slice_get (c ∷ commits_of x) at.0) h.all ∙ at.1; at = h.at }

  -- the store is left at one of the commits, unless a fault of the disk came while one was made
  pub rests_as_one : (c : C) (ds : List (Deed C)) (e : Status) (new : D) → (e ≡ status.DiskFault → ⊥) → Rests host opens c ds e new → RestsAsOne host opens (c ∷ commits_of ds) new
  rests_as_one c ds e new none h = one_between c ds new (rests_between host opens c ds e new none h)

  pub rests_last : (c : C) (ds : List (Deed C)) (new : D) → IsAtRest host opens (last_of c ds) new → RestsAsOne host opens (c ∷ commits_of ds) new
  rests_last c ds new at = one_between c ds new (record { first = ds; rest = []; all = sym (append-nil ds); at = at })

abbrev failed : Status → Result Unit Status
failed e = Err e

module _ {D : Type 0} (host : Ghosts D) {C : Type 0} (opens : C → Files → Type 0) (spared : List ℕ → Type 0) {X : Type 0} (at : X → Type 0) (commit : X → C) where
  pub obeys_promised : (c : C) (course : Course C X) (result : Result Unit Status) (old new : D) → AcknowledgesEach (deeds_of course) → IsTrue host.is_told → Obeys host opens spared at commit c course result old new
      → LeavesOnly host old new (Promised opens (c ∷ commits_of (deeds_of course)) (host.said old))
  obeys_promised c course result old new law told h = promised_through host opens c (deeds_of course) old new law (obeys_moments host opens spared at commit c course result old new told h)

  pub obeys_rests : (c : C) (course : Course C X) (result : Result Unit Status) (old new : D) → (IsErrOf result status.DiskFault → ⊥) → IsTrue host.is_told → Obeys host opens spared at commit c course result old new
      → RestsAsOne host opens (c ∷ commits_of (deeds_of course)) new
  obeys_rests c (Goes ds x) (Ok u) old new none told h = rests_last host opens c ds new (h.2.rest told)
  obeys_rests c (Goes ds x) (Err e) old new none told h = rests_as_one host opens c ds e new (λ same. none (ap failed same)) (h.1.rests told)
  obeys_rests c (Ends ds end) (Ok u) old new none told h = absurd h
  obeys_rests c (Ends ds end) (Err e) old new none told h =
      ⊎_elim (λ f. rests_as_one host opens c ds e new (λ same. none (ap failed same)) (f.1.rests told)) (λ k. rests_last host opens c ds new (k.1.rest told)) h

  pub obeys_lines : (c : C) (course : Course C X) (result : Result Unit Status) (old new : D) → AcknowledgesEach (deeds_of course) → (IsErrOf result status.SayFault → ⊥) → IsTrue host.is_told → Obeys host opens spared at commit c course result old new
      → SaysLines (host.said old) (host.said new)
  obeys_lines c (Goes ds x) (Ok u) old new law none told h = lines_first ds (host.said old) (host.said new) law (first_all ds (host.said old) (host.said new) (h.2.all.is told))
  obeys_lines c (Goes ds x) (Err e) old new law none told h = lines_between e ds (host.said old) (host.said new) law (λ same. none (ap failed same)) (h.1.between told)
  obeys_lines c (Ends ds end) (Ok u) old new law none told h = absurd h
  obeys_lines c (Ends ds end) (Err e) old new law none told h = ⊎_elim
      (λ f. lines_between e ds (host.said old) (host.said new) law (λ same. none (ap failed same)) (f.1.between told))
      (λ k. lines_first ds (host.said old) (host.said new) law (first_all ds (host.said old) (host.said new) (k.1.all.is told)))
      h

module _ {D : Type 0} (host : Ghosts D) {C : Type 0} (opens : C → Files → Type 0) (commits : List C) (old mid new : D) where
  -- more is said that acknowledges nothing behind whole lines
  promise_on : (f : Files) (s text : List ℕ) → SaysLines (host.said old) (host.said mid) → acknowledged text ≡ 0 → Promised opens commits (host.said old) f (host.said mid) → SaidPart (host.said mid) text s
      → Promised opens commits (host.said old) f s
  promise_on f s text lines quiet p part =
      let front = front_of (host.said mid) text s part in
      let same : p.words ≡ lines.words = append_cancel_left (host.said old) p.words lines.words (sym p.said_is ∙ lines.said_is) in
      let none : acknowledged front.0 ≡ 0 = omega (arith, front_acknowledges_from [] front.0 text front.2, quiet) in
      let whole : rest_from [] p.words ≡ [] = ap (rest_from []) same ∙ lines.whole in
      let e : acknowledged (p.words ++ front.0) ≡ acknowledged p.words =
      acknowledged_both [] p.words front.0 ∙ (ap (λ l. acknowledged p.words + acknowledged_from l front.0) whole ∙ omega (arith, none)) in
      record {
        words = p.words ++ front.0;
        said_is = front.1 ∙ (ap (λ t. t ++ front.0) p.said_is ∙ append_assoc (host.said old) p.words front.0);
        number = p.number;
        commit = p.commit;
        is_of = p.is_of;
        opens_as = p.opens_as;
        acknowledges = subst (λ n. (p.number ≡ n) ⊎ (p.number ≡ suc n)) (sym e) p.acknowledges;
      }

  -- so the promise is kept while a last line is said
  pub promise_kept : (text : List ℕ) → SaysLines (host.said old) (host.said mid) → acknowledged text ≡ 0 → IsTrue host.is_told → CountsNow host mid → LeavesOnly host old mid (Promised opens commits (host.said old))
      → ReadsAndSays host text mid new → LeavesOnly host old new (Promised opens commits (host.said old))
  promise_kept text lines quiet told now first run =
      moments_join host old mid new (Promised opens commits (host.said old)) (WhileSaying (host.may_leave mid) (host.said mid) text) first (run.moments told)
      (λ f s w. promise_on f s text lines quiet (first.each f (host.said mid) (now (host.moment old) f (host.said mid) told first.later (w.0, refl))) w.1)

  -- and behind it the store is left as it was
  pub one_said : (text : List ℕ) → IsTrue host.is_told → ReadsAndSays host text mid new → RestsAsOne host opens commits mid → RestsAsOne host opens commits new
  one_said text told run h = record { number = h.number; commit = h.commit; is_of = h.is_of; at = record { opens_as = λ f can. h.at.opens_as f (λ n. (run.stops told).fewer n (f n) (can n)) } }
