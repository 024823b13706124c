-- How a session ends.
use Rattle.std.proofs.Common.{◌≡◌, ◌⊎◌, inl, inr, ⊎_elim, ℕ, suc, List, [], ◌∷◌, ◌++◌, Bool, true, false, IsTrue, refl, sym, ap, subst, ◌∙◌}
use Rattle.std.specs.Prelude.{Result, Ok, Err, IsErrOf, nat_le, length, take, slice_get, Some}
use Rattle.st_host.specs.Files.{Files}
use Rattle.st_host.specs.Runs.{SaysAll, IsAtRest}
use Rattle.st_host.specs.declared.host.Host.{Ghosts}
use Rattle.st_protocol.specs.declared.status.Status.{Status}
use Rattle.st_protocol.specs.declared.status.Status.TheVariants as status
use Rattle.st_store.specs.Faults.{GateFails, RestsUnlessGate}
use Rattle.st_protocol.specs.Acknowledged.{AcknowledgesEach}
use Rattle.st_protocol.specs.Courses.{Deed, Reply, Keep, Course, Goes, Ends, deeds_of, said_of, commits_of, last_of, preceded, ended, IsEnd}
use Rattle.st_protocol.specs.Done.{Did, RestsBetween, RestsWithin, Rests}
use Rattle.st_protocol.specs.inside.Obeying.{Obeys}
use Rattle.st_protocol.specs.Statuses.{IsFault, StatusHasCause}
use Rattle.st_protocol.proofs.Courses.{deeds_preceded}
use Rattle.st_protocol.proofs.Joins.{says_did, says_began, did_join, obeys_begun, obeys_says, obeys_spares}
use Rattle.st_protocol.proofs.Promising.{rests_as_one, rests_last, obeys_promised, obeys_rests, obeys_lines}
use Rattle.st_chunk.specs.Reading.{Reading, line_from}
use Rattle.st_chunk.specs.Scripts.{Asked, asked_from, told_from}
use Rattle.st_protocol.specs.Installing.{Install}
use Rattle.st_recover.specs.Replays.{Loss}
use Rattle.st_session.specs.Points.{Point}
use Rattle.st_session.specs.Keeping.{Keeping}
use Rattle.st_session.specs.FirstLines.{opening_text}
use Rattle.st_session.specs.Sessions.{follow, follow_rest, follow_script, longest, session}
use Rattle.st_call.specs.inside.Telling.{Tells}
use Rattle.st_session.specs.Ends.{status_in, IsCalm, DidTold, DidSome, SessionEnds}
use Rattle.st_session.specs.Resting.{RestsBroken, RestsAcknowledged}

abbrev pub IsEnded : {C X : Type 0} → Course C X → Type 0
IsEnded (Goes ds x) = ⊥
IsEnded (Ends ds e) = Unit {0}

ended_ends : {C X : Type 0} (c : Course C X) (e : Status) → IsEnded (ended c e)
ended_ends (Goes ds x) e = tt
ended_ends (Ends ds d) e = tt

preceded_ends : {C X : Type 0} (ds : List (Deed C)) (c : Course C X) → IsEnded c → IsEnded (preceded ds c)
preceded_ends ds (Goes es x) h = h
preceded_ends ds (Ends es e) h = tt

module _ {C : Type 0} (keeping : Keeping C) (install : Install) where
  rest_ends : (r : Reading) (left : ℕ) (p : Point C) (rest : List ℕ) (b : Bool) → IsEnded (follow_rest keeping install r left p rest b)
  rest_ends r left p rest true = ended_ends (follow keeping install p (asked_from r rest)) status.Done
  rest_ends r left p rest false = ended_ends (follow keeping install p (told_from r (take left rest))) status.TooLarge

  -- a session ends, whatever its script
  pub session_ends : (replayed : ℕ) (lost : List Loss) (p : Point C) (script : List ℕ) → IsEnded (session keeping install replayed lost p script)
  unfolding session
  session_ends replayed lost p script = preceded_ends (Reply (opening_text replayed lost) ∷ []) (follow_script keeping install p script) (rest_ends (line_from 1) longest p script (nat_le (length script) longest))

-- where a commit is made behind some deeds, these are the one that stood before it and it
both_are : {C : Type 0} (c : C) (a : List (Deed C)) (d : C) (b : List (Deed C)) → (n : ℕ) × (slice_get (c ∷ commits_of (a ++ Keep d ∷ b)) n ≡ Some (last_of c a)) × (slice_get (c ∷ commits_of (a ++ Keep d ∷ b)) (suc n) ≡ Some d)
both_are c [] d b = (0, refl, refl)
both_are c (Reply text ∷ a) d b = both_are c a d b
both_are c (Keep e ∷ a) d b = let r = both_are e a d b in (suc r.0, r.1, r.2)

not_broken : status.Done ≡ status.DiskFault → ⊥
not_broken e = cc

-- a course ends in one status
end_is : {C X : Type 0} (c : Course C X) (a b : Status) → IsEnd c a → IsEnd c b → a ≡ b
end_is (Goes ds x) a b h k = absurd h
end_is (Ends ds e) a b h k = h ∙ sym k

-- a gate that failed is that of this store, or the store is at rest
abbrev OwnGate : {D : Type 0} → Ghosts D → {C : Type 0} → (C → Files → Type 0) → List ℕ → Type 0
OwnGate {D = D} host {C = C} opens name = IsTrue host.is_told → (other : List ℕ) (k : C) (new : D) → GateFails host opens other k new → RestsUnlessGate host opens name k new

module _ {D : Type 0} (host : Ghosts D) {C : Type 0} (opens : C → Files → Type 0) (spared : List ℕ → Type 0) (c : C) where
  -- a line that was said, as a deed
  pub did_reply : (text : List ℕ) (old new : D) → Tells host text old new (Ok tt) → (IsTrue host.is_told → IsAtRest host opens c old) → Did host opens spared c (Reply text ∷ []) old new
  did_reply text old new run rest = says_did host opens spared c text old new rest run.all run.says

  -- one that wasn't said whole, before a course
  pub unsaid_before : {X : Type 0} (at : X → Type 0) (commit : X → C) (text : List ℕ) (course : Course C X) (e : Status) (old new : D) → Tells host text old new (Err e) → (IsTrue host.is_told → IsAtRest host opens c old)
      → Obeys host opens spared at commit c (preceded (Reply text ∷ []) course) (Err e) old new
  unsaid_before at commit text course e old new run rest =
      subst (λ (x : Status). Obeys host opens spared at commit c (preceded (Reply text ∷ []) course) (Err x) old new) (sym run.fault)
      (obeys_begun host opens spared at commit c (Reply text ∷ []) course status.SayFault old new tt (says_began host opens spared c text old new rest run.says))

  pub told_behind : {X : Type 0} (ds : List (Deed C)) (course : List ℕ → Course C X) (script left : List ℕ) (old mid new : D) → Did host opens spared c ds old mid → DidTold host opens spared (last_of c ds) course script left mid new
      → DidTold host opens spared c (λ front. preceded ds (course front)) script left old new
  told_behind ds course script left old mid new first h = record {
    told = h.told;
    all = h.all;
    did = subst (λ l. Did host opens spared c l old new) (sym (deeds_preceded ds (course h.told))) (did_join host opens spared c ds (deeds_of (course h.told)) old mid new first h.did);
  }

  module _ {X Y : Type 0} (at : X → Type 0) (commit : X → C) (course : Course C X) (so_far : List ℕ → Course C Y) (script left : List ℕ) where
    whole_of : (result : Result Unit Status) (old new : D) → IsEnded course → Obeys host opens spared at commit c course result old new → (IsFault (status_in result) → ⊥) → IsEnd course (status_in result) × SaysAll host (said_of (deeds_of course)) old new
    whole_of result old new ends h calm = over course result ends h calm
      where
        over : (x : Course C X) (r : Result Unit Status) → IsEnded x → Obeys host opens spared at commit c x r old new → (IsFault (status_in r) → ⊥) → IsEnd x (status_in r) × SaysAll host (said_of (deeds_of x)) old new
        over (Goes ds x) r ends h calm = absurd ends
        over (Ends ds e) (Ok u) ends h calm = absurd h
        over (Ends ds e) (Err d) ends h calm = ⊎_elim (λ f. absurd (calm f.0)) (λ k. (k.0, k.1.all)) h

    module _ (name : List ℕ) (own : OwnGate host opens name) where
      -- after a fault of the disk it is at rest, or the gate failed within a commit
      broken_of : (ds : List (Deed C)) (new : D) → IsTrue host.is_told → RestsBetween host opens c ds new ⊎ RestsWithin host opens c ds new → RestsBroken host opens name (c ∷ commits_of ds) new
      broken_of ds new tells (inl at) = inl (rests_as_one host opens c ds status.Done new not_broken at)
      broken_of ds new tells (inr within) = ⊎_elim
          (λ rest. inl (rests_as_one host opens c ds status.Done new not_broken (record { first = within.first; rest = Keep within.next ∷ within.rest; all = within.all; at = rest })))
          (λ gate.
          let number = both_are c within.first within.next within.rest in
          inr (record {
            number = number.0;
            commit = last_of c within.first;
            next = within.next;
            is_of = ap (λ (x : List (Deed C)). slice_get (c ∷ commits_of x) number.0) within.all ∙ number.1;
            follows = ap (λ (x : List (Deed C)). slice_get (c ∷ commits_of x) (suc number.0)) within.all ∙ number.2;
            either = within.either;
            gate = record { failed = new; fails = gate; behind = record { fewer = λ n c can. can; more = λ n c could. could } };
          }))
          (own tells within.name (last_of c within.first) new within.gate)

      broken_at : (x : Course C X) (result : Result Unit Status) (old new : D) → status_in result ≡ status.DiskFault → IsTrue host.is_told → Obeys host opens spared at commit c x result old new
          → RestsBroken host opens name (c ∷ commits_of (deeds_of x)) new
      broken_at x (Ok u) old new is tells h = absurd (not_broken is)
      broken_at (Goes ds x) (Err e) old new is tells h = broken_of ds new tells (subst (λ (d : Status). Rests host opens c ds d new) is (h.1.rests tells))
      broken_at (Ends ds d) (Err e) old new is tells h =
          ⊎_elim (λ f. broken_of ds new tells (subst (λ (d : Status). Rests host opens c ds d new) is (f.1.rests tells))) (λ k. inl (rests_last host opens c ds new (k.1.rest tells))) h

    is_unread : (result : Result Unit Status) → status_in result ≡ status.ReadFault → IsErrOf result status.ReadFault
    is_unread (Ok u) e = cc
    is_unread (Err d) e = ap Err e

    is_starved : (result : Result Unit Status) → status_in result ≡ status.OutOfMemory → IsErrOf result status.OutOfMemory
    is_starved (Ok u) e = cc
    is_starved (Err d) e = ap Err e

    pub ends_of : {Z : Type 0} (answers : List Asked → Course C Z) (asked : List Asked) (name : List ℕ) → OwnGate host opens name → (result : Result Unit Status) (old new : D) → IsEnded course → AcknowledgesEach (deeds_of course) → Obeys host opens spared at commit c course result old new
        → (IsErrOf result status.ReadFault → DidTold host opens spared c so_far script left old new)
        → (IsErrOf result status.OutOfMemory → IsTrue host.is_told → RestsAcknowledged host opens (c ∷ commits_of (deeds_of course)) (host.said old) new)
        → (IsErrOf result status.OutOfMemory → IsTrue host.is_told → (new ≡ old) ⊎ DidSome host opens spared c answers asked old new)
        → SessionEnds host opens spared c name course so_far answers asked script left old new (status_in result)
    ends_of answers asked name own result old new ends law h told starved some = record {
      whole = whole_of result old new ends h;
      part = λ tells. obeys_says host opens spared at commit c course result old new tells h;
      told = λ e. told (is_unread result e);
      lines = λ none tells. obeys_lines host opens spared at commit c course result old new law (λ e. none (ap status_in e)) tells h;
      starved = λ is. starved (is_starved result is);
      answered = λ is. some (is_starved result is);
      broken = λ is tells. broken_at name own course result old new is tells h;
      rests = λ none tells. obeys_rests host opens spared at commit c course result old new (λ e. none (ap status_in e)) tells h;
      moments = λ tells. obeys_promised host opens spared at commit c course result old new law tells h;
      spares = obeys_spares host opens spared at commit c course result old new h;
    }

    -- a course that ends in Done is done, or there was no memory, where no count of a fault rose
    complete_at : (reads : Type 0) (e : Status) (old new : D) → ((IsFault e → ⊥) → IsEnd course e) → StatusHasCause host reads old new e → IsEnd course status.Done → IsCalm host reads old new → (e ≡ status.Done) ⊎ (e ≡ status.OutOfMemory)
    complete_at reads status.Done old new ends cause end calm = inl refl
    complete_at reads status.Usage old new ends cause end calm = inl (end_is course status.Usage status.Done (ends (λ f. f)) end)
    complete_at reads (status.Image f) old new ends cause end calm = inl (end_is course (status.Image f) status.Done (ends (λ x. x)) end)
    complete_at reads (status.Script line) old new ends cause end calm = inl (end_is course (status.Script line) status.Done (ends (λ x. x)) end)
    complete_at reads status.ReadFault old new ends cause end calm = absurd (calm.source cause)
    complete_at reads status.SayFault old new ends cause end calm = absurd (calm.say cause)
    complete_at reads status.DiskFault old new ends cause end calm = absurd (calm.disk cause)
    complete_at reads (status.Store f) old new ends cause end calm = inl (end_is course (status.Store f) status.Done (ends (λ x. x)) end)
    complete_at reads (status.Kernel chunk number) old new ends cause end calm = inl (end_is course (status.Kernel chunk number) status.Done (ends (λ x. x)) end)
    complete_at reads status.TooLarge old new ends cause end calm = inl (end_is course status.TooLarge status.Done (ends (λ x. x)) end)
    complete_at reads status.OutOfMemory old new ends cause end calm = inr refl

    pub complete_of : {Z : Type 0} (answers : List Asked → Course C Z) (asked : List Asked) (name : List ℕ) (reads : Type 0) (e : Status) (old new : D) → SessionEnds host opens spared c name course so_far answers asked script left old new e → StatusHasCause host reads old new e → IsEnd course status.Done → IsCalm host reads old new → (e ≡ status.Done) ⊎ (e ≡ status.OutOfMemory)
    complete_of answers asked name reads e old new ends cause end calm = complete_at reads e old new (λ f. (ends.whole f).0) cause end calm
