-- Deeds that are done one after the other are done together.
use Rattle.std.proofs.Common.{◌≡◌, ◌⊎◌, inl, inr, ⊎_elim, ℕ, ◌≤◌, List, [], ◌∷◌, ◌++◌, IsTrue, refl, sym, ap, ◌∙◌, subst, arith, append_assoc, append-nil}
use Rattle.std.specs.Prelude.{Result, Ok, Err, IsErrOf}
use Rattle.st_host.specs.Files.{Files}
use Rattle.st_host.specs.Stops.{SaidPart, WhileSaying}
use Rattle.st_host.specs.Runs.{LeavesOnly, SaysAll, Spares, IsAtRest, Makes}
use Rattle.st_host.specs.inside.Telling.{Says}
use Rattle.st_host.specs.declared.host.Host.{Ghosts}
use Rattle.st_host.proofs.Joining.{weaker, moments_join, all_join}
use Rattle.st_host.proofs.Rising.{rose_second}
use Rattle.st_host.proofs.Telling.{OnlyNow}
use Rattle.st_host.proofs.Touching.{spares_join, spares_none}
use Rattle.st_store.specs.Faults.{GateFails, RestsUnlessGate}
use Rattle.st_protocol.specs.declared.status.Status.{Status}
use Rattle.st_protocol.specs.declared.status.Status.TheVariants as status
use Rattle.st_protocol.specs.Courses.{Deed, Reply, Keep, Course, Goes, Ends, deeds_of, said_of, commits_of, last_of, preceded, and_then, replies}
use Rattle.st_protocol.specs.Underway.{Underway}
use Rattle.st_protocol.specs.Done.{SaysFirst, EndsBetween, RestsBetween, RestsWithin, Rests, Did, Began}
use Rattle.st_protocol.specs.inside.Obeying.{Obeys}
use Rattle.st_protocol.specs.Statuses.{IsFault, StatusHasCause, EndHasCause, Counts}
use Rattle.st_protocol.proofs.Courses.{said_of_both, last_of_both, last_unkept}
use Rattle.st_protocol.proofs.Underways.{nothing_of, part_more, part_after, part_all, starts, more, behind, while_said}

-- WHAT WAS SAID

module _ {C : Type 0} where
  between_over : (e : Status) (a b : List (Deed C)) (before first now : List ℕ) → (SaysFirst a before now → SaysFirst b first now) → EndsBetween e a before now → EndsBetween e b first now
  between_over status.SayFault a b before first now f h = tt
  between_over status.Done a b before first now f h = f h
  between_over status.Usage a b before first now f h = f h
  between_over (status.Image i) a b before first now f h = f h
  between_over (status.Script n) a b before first now f h = f h
  between_over status.ReadFault a b before first now f h = f h
  between_over status.DiskFault a b before first now f h = f h
  between_over (status.Store s) a b before first now f h = f h
  between_over (status.Kernel chunk cause) a b before first now f h = f h
  between_over status.TooLarge a b before first now f h = f h
  between_over status.OutOfMemory a b before first now f h = f h

  first_between : (e : Status) (ds : List (Deed C)) (before now : List ℕ) → SaysFirst ds before now → EndsBetween e ds before now
  first_between status.SayFault ds before now h = tt
  first_between status.Done ds before now h = h
  first_between status.Usage ds before now h = h
  first_between (status.Image i) ds before now h = h
  first_between (status.Script n) ds before now h = h
  first_between status.ReadFault ds before now h = h
  first_between status.DiskFault ds before now h = h
  first_between (status.Store s) ds before now h = h
  first_between (status.Kernel chunk cause) ds before now h = h
  first_between status.TooLarge ds before now h = h
  first_between status.OutOfMemory ds before now h = h

  -- only a fault in saying leaves no front
  pub between_first : (e : Status) (ds : List (Deed C)) (before now : List ℕ) → (e ≡ status.SayFault → ⊥) → EndsBetween e ds before now → SaysFirst ds before now
  between_first status.SayFault ds before now n h = absurd (n refl)
  between_first status.Done ds before now n h = h
  between_first status.Usage ds before now n h = h
  between_first (status.Image i) ds before now n h = h
  between_first (status.Script k) ds before now n h = h
  between_first status.ReadFault ds before now n h = h
  between_first status.DiskFault ds before now n h = h
  between_first (status.Store s) ds before now n h = h
  between_first (status.Kernel chunk cause) ds before now n h = h
  between_first status.TooLarge ds before now n h = h
  between_first status.OutOfMemory ds before now n h = h

  first_more : (a b : List (Deed C)) (before now : List ℕ) → SaysFirst a before now → SaysFirst (a ++ b) before now
  first_more a b before now h = record { first = h.first; rest = h.rest ++ b; all = ap (λ x. x ++ b) h.all ∙ append_assoc h.first h.rest b; said = h.said }

  first_after : (a b : List (Deed C)) (before mid now : List ℕ) → mid ≡ before ++ said_of a → SaysFirst b mid now → SaysFirst (a ++ b) before now
  first_after a b before mid now e h = record {
    first = a ++ h.first;
    rest = h.rest;
    all = ap (λ x. a ++ x) h.all ∙ sym (append_assoc a h.first h.rest);
    said = h.said ∙ (ap (λ x. x ++ said_of h.first) e ∙ (append_assoc before (said_of a) (said_of h.first) ∙ ap (λ x. before ++ x) (sym (said_of_both a h.first))));
  }

  first_none : (ds : List (Deed C)) (before now : List ℕ) → now ≡ before → SaysFirst ds before now
  first_none ds before now same = record { first = []; rest = ds; all = refl; said = same ∙ sym (append-nil before) }

  pub first_all : (ds : List (Deed C)) (before now : List ℕ) → now ≡ before ++ said_of ds → SaysFirst ds before now
  first_all ds before now h = record { first = ds; rest = []; all = sym (append-nil ds); said = h }

-- WHAT STANDS

module _ {D : Type 0} (host : Ghosts D) {C : Type 0} (opens : C → Files → Type 0) where
  rests_from : (c : C) (ds : List (Deed C)) (e : Status) (new : D) → RestsBetween host opens c ds new → Rests host opens c ds e new
  rests_from c ds status.Done new h = h
  rests_from c ds status.Usage new h = h
  rests_from c ds (status.Image i) new h = h
  rests_from c ds (status.Script n) new h = h
  rests_from c ds status.ReadFault new h = h
  rests_from c ds status.SayFault new h = h
  rests_from c ds status.DiskFault new h = inl h
  rests_from c ds (status.Store s) new h = h
  rests_from c ds (status.Kernel chunk cause) new h = h
  rests_from c ds status.TooLarge new h = h
  rests_from c ds status.OutOfMemory new h = h

  rests_over : (c d : C) (a b : List (Deed C)) (e : Status) (new : D) → (RestsBetween host opens c a new → RestsBetween host opens d b new) → (RestsWithin host opens c a new → RestsWithin host opens d b new) → Rests host opens c a e new → Rests host opens d b e new
  rests_over c d a b status.Done new f k h = f h
  rests_over c d a b status.Usage new f k h = f h
  rests_over c d a b (status.Image i) new f k h = f h
  rests_over c d a b (status.Script n) new f k h = f h
  rests_over c d a b status.ReadFault new f k h = f h
  rests_over c d a b status.SayFault new f k h = f h
  rests_over c d a b status.DiskFault new f k h = ⊎_elim (λ x. inl (f x)) (λ x. inr (k x)) h
  rests_over c d a b (status.Store s) new f k h = f h
  rests_over c d a b (status.Kernel chunk cause) new f k h = f h
  rests_over c d a b status.TooLarge new f k h = f h
  rests_over c d a b status.OutOfMemory new f k h = f h

  -- only a fault of the disk comes within a commit
  pub rests_between : (c : C) (ds : List (Deed C)) (e : Status) (new : D) → (e ≡ status.DiskFault → ⊥) → Rests host opens c ds e new → RestsBetween host opens c ds new
  rests_between c ds status.Done new n h = h
  rests_between c ds status.Usage new n h = h
  rests_between c ds (status.Image i) new n h = h
  rests_between c ds (status.Script k) new n h = h
  rests_between c ds status.ReadFault new n h = h
  rests_between c ds status.SayFault new n h = h
  rests_between c ds status.DiskFault new n h = absurd (n refl)
  rests_between c ds (status.Store s) new n h = h
  rests_between c ds (status.Kernel chunk cause) new n h = h
  rests_between c ds status.TooLarge new n h = h
  rests_between c ds status.OutOfMemory new n h = h

  rests_more : (c : C) (a b : List (Deed C)) (e : Status) (new : D) → Rests host opens c a e new → Rests host opens c (a ++ b) e new
  rests_more c a b e new h = rests_over c c a (a ++ b) e new
      (λ x. record { first = x.first; rest = x.rest ++ b; all = ap (λ t. t ++ b) x.all ∙ append_assoc x.first x.rest b; at = x.at })
      (λ x. record { first = x.first; next = x.next; rest = x.rest ++ b; all = ap (λ t. t ++ b) x.all ∙ append_assoc x.first (Keep x.next ∷ x.rest) b; either = x.either; name = x.name; gate = x.gate })
      h

  rests_after : (c : C) (a b : List (Deed C)) (e : Status) (new : D) → Rests host opens (last_of c a) b e new → Rests host opens c (a ++ b) e new
  rests_after c a b e new h = rests_over (last_of c a) c b (a ++ b) e new
      (λ x. record { first = a ++ x.first; rest = x.rest; all = ap (λ t. a ++ t) x.all ∙ sym (append_assoc a x.first x.rest); at = subst (λ d. IsAtRest host opens d new) (sym (last_of_both c a x.first)) x.at })
      (λ x. record {
        first = a ++ x.first;
        next = x.next;
        rest = x.rest;
        all = ap (λ t. a ++ t) x.all ∙ sym (append_assoc a x.first (Keep x.next ∷ x.rest));
        either = λ f can. ⊎_elim (λ o. inl (subst (λ d. opens d f) (sym (last_of_both c a x.first)) o)) (λ o. inr o) (x.either f can);
        name = x.name;
        gate = subst (λ d. GateFails host opens x.name d new) (sym (last_of_both c a x.first)) x.gate;
      })
      h

  rests_first : (c : C) (ds : List (Deed C)) (e : Status) (new : D) → IsAtRest host opens c new → Rests host opens c ds e new
  rests_first c ds e new at = rests_from c ds e new (record { first = []; rest = ds; all = refl; at = at })

  -- what is said changes nothing of what a stop may leave
  pub says_rest : (c : C) (text : List ℕ) (old new : D) → (IsTrue host.is_told → IsAtRest host opens c old) → Says host text old new → IsTrue host.is_told → IsAtRest host opens c new
  says_rest c text old new rest run told = record { opens_as = λ f can. (rest told).opens_as f (λ n. (run.part.stops told).fewer n (f n) (can n)) }

  says_moments : (c : C) (ds : List (Deed C)) (old new : D) → commits_of ds ≡ [] → IsAtRest host opens c old → LeavesOnly host old new (WhileSaying (host.may_leave old) (host.said old) (said_of ds)) → LeavesOnly host old new (Underway opens c (host.said old) ds)
  says_moments c ds old new none rest moments =
      weaker host old new (Underway opens c (host.said old) ds) (WhileSaying (host.may_leave old) (host.said old) (said_of ds)) moments
      (λ f s w. while_said opens c (host.said old) ds f s none w.1 (rest.opens_as f w.0))

  makes_moments : (c d : C) (old new : D) → LeavesOnly host old new (λ f s. (s ≡ host.said old) × (opens c f ⊎ opens d f)) → LeavesOnly host old new (Underway opens c (host.said old) (Keep d ∷ []))
  makes_moments c d old new moments =
      weaker host old new (Underway opens c (host.said old) (Keep d ∷ [])) (λ f s. (s ≡ host.said old) × (opens c f ⊎ opens d f)) moments (λ f s w. inl w)

  kept_moments : (c : C) (ds : List (Deed C)) (old new : D) → LeavesOnly host old new (λ f s. (s ≡ host.said old) × (opens c f ⊎ opens c f)) → LeavesOnly host old new (Underway opens c (host.said old) ds)
  kept_moments c ds old new moments =
      weaker host old new (Underway opens c (host.said old) ds) (λ f s. (s ≡ host.said old) × (opens c f ⊎ opens c f)) moments
      (λ f s w. starts opens c (host.said old) ds f s w.0 (⊎_elim (λ o. o) (λ o. o) w.1))

  kept_rest : {R E : Type 0} (c : C) (old new : D) (result : Result R E) → Makes host opens c c old new result → IsAtRest host opens c new
  kept_rest c old new result run = record { opens_as = λ f can. ⊎_elim (λ o. o) (λ o. o) (run.either f can) }

  join_moments : (c : C) (a b : List (Deed C)) (old mid new : D) → host.said mid ≡ host.said old ++ said_of a → LeavesOnly host old mid (Underway opens c (host.said old) a) → LeavesOnly host mid new (Underway opens (last_of c a) (host.said mid) b)
      → LeavesOnly host old new (Underway opens c (host.said old) (a ++ b))
  join_moments c a b old mid new said first second =
      moments_join host old mid new (Underway opens c (host.said old) (a ++ b)) (Underway opens (last_of c a) (host.said mid) b)
      (weaker host old mid (Underway opens c (host.said old) (a ++ b)) (Underway opens c (host.said old) a) first (λ f s u. more opens c (host.said old) a b f s u))
      second
      (λ f s u. behind opens c (host.said old) a b f s (subst (λ (t : List ℕ). Underway opens (last_of c a) t b f s) said u))

  now_moments : (c : C) (ds : List (Deed C)) (h : D) → OnlyNow host h → IsTrue host.is_told → IsAtRest host opens c h → LeavesOnly host h h (Underway opens c (host.said h) ds)
  now_moments c ds h only_now told rest = record {
    later = omega arith;
    each = λ f s left. let here = only_now f s told left in starts opens c (host.said h) ds f s here.1 (rest.opens_as f here.0);
    before = λ t f s le left. inl left;
  }

-- what is said leaves every file alone
says_spare : {D : Type 0} (host : Ghosts D) (spared : List ℕ → Type 0) (text : List ℕ) (old new : D) → Says host text old new → Spares host spared old new
says_spare host spared text old new run = record {
  files = λ told n is. run.alike.same told n;
  fewer = λ told n c is. (run.part.stops told).fewer n c;
  more = λ told n c is. (run.part.stops told).more n c;
}

-- DEEDS ONE AFTER THE OTHER

module _ {D : Type 0} (host : Ghosts D) {C : Type 0} (opens : C → Files → Type 0) (spared : List ℕ → Type 0) where
  -- nothing is done
  pub did_none : (c : C) (h : D) → (IsTrue host.is_told → IsAtRest host opens c h) → OnlyNow host h → Did host opens spared c [] h h
  did_none c h rest only_now = record {
    all = record { is = λ told. sym (append-nil (host.said h)) };
    rest = rest;
    moments = λ told. now_moments host opens c [] h only_now told (rest told);
    spares = spares_none host spared h;
  }

  -- a fault before anything was done
  pub began_nothing : (c : C) (ds : List (Deed C)) (e : Status) (h : D) → (IsTrue host.is_told → IsAtRest host opens c h) → OnlyNow host h → Began host opens spared c ds e h h
  began_nothing c ds e h rest only_now = record {
    part = λ told. nothing_of (host.said h) (said_of ds) (host.said h) refl;
    between = λ told. first_between e ds (host.said h) (host.said h) (first_none ds (host.said h) (host.said h) refl);
    rests = λ told. rests_first host opens c ds e h (rest told);
    moments = λ told. now_moments host opens c ds h only_now told (rest told);
    spares = spares_none host spared h;
  }

  pub did_join : (c : C) (a b : List (Deed C)) (old mid new : D) → Did host opens spared c a old mid → Did host opens spared (last_of c a) b mid new → Did host opens spared c (a ++ b) old new
  did_join c a b old mid new first second = record {
    all = subst (λ (t : List ℕ). SaysAll host t old new) (sym (said_of_both a b)) (all_join host (said_of a) (said_of b) old mid new first.all second.all);
    rest = λ told. subst (λ d. IsAtRest host opens d new) (sym (last_of_both c a b)) (second.rest told);
    moments = λ told. join_moments host opens c a b old mid new (first.all.is told) (first.moments told) (second.moments told);
    spares = spares_join host spared old mid new first.spares second.spares;
  }

  pub began_more : (c : C) (a b : List (Deed C)) (e : Status) (old new : D) → Began host opens spared c a e old new → Began host opens spared c (a ++ b) e old new
  began_more c a b e old new run = record {
    part = λ told. subst (λ (t : List ℕ). SaidPart (host.said old) t (host.said new)) (sym (said_of_both a b)) (part_more (host.said old) (said_of a) (said_of b) (host.said new) (run.part told));
    between = λ told. between_over e a (a ++ b) (host.said old) (host.said old) (host.said new) (first_more a b (host.said old) (host.said new)) (run.between told);
    rests = λ told. rests_more host opens c a b e new (run.rests told);
    moments = λ told. weaker host old new (Underway opens c (host.said old) (a ++ b)) (Underway opens c (host.said old) a) (run.moments told) (λ f s u. more opens c (host.said old) a b f s u);
    spares = run.spares;
  }

  pub began_after : (c : C) (a b : List (Deed C)) (e : Status) (old mid new : D) → Did host opens spared c a old mid → Began host opens spared (last_of c a) b e mid new → Began host opens spared c (a ++ b) e old new
  began_after c a b e old mid new first second = record {
    part = λ told. subst (λ (t : List ℕ). SaidPart (host.said old) t (host.said new)) (sym (said_of_both a b)) (part_after (host.said old) (host.said mid) (said_of a) (said_of b) (host.said new) (first.all.is told) (second.part told));
    between = λ told. between_over e b (a ++ b) (host.said mid) (host.said old) (host.said new) (first_after a b (host.said old) (host.said mid) (host.said new) (first.all.is told)) (second.between told);
    rests = λ told. rests_after host opens c a b e new (second.rests told);
    moments = λ told. join_moments host opens c a b old mid new (first.all.is told) (first.moments told) (second.moments told);
    spares = spares_join host spared old mid new first.spares second.spares;
  }

  -- a fault behind the last of them
  pub did_began : (c : C) (ds : List (Deed C)) (e : Status) (old new : D) → Did host opens spared c ds old new → Began host opens spared c ds e old new
  did_began c ds e old new run = record {
    part = λ told. part_all (host.said old) (said_of ds) (host.said new) (run.all.is told);
    between = λ told. first_between e ds (host.said old) (host.said new) (first_all ds (host.said old) (host.said new) (run.all.is told));
    rests = λ told. rests_from host opens c ds e new (record { first = ds; rest = []; all = sym (append-nil ds); at = run.rest told });
    moments = run.moments;
    spares = run.spares;
  }

  -- replies that go out together, through one buffer
  pub said_did : (c : C) (ds : List (Deed C)) (old new : D) → commits_of ds ≡ [] → (IsTrue host.is_told → IsAtRest host opens c old) → SaysAll host (said_of ds) old new → Says host (said_of ds) old new → Did host opens spared c ds old new
  said_did c ds old new none rest all run = record {
    all = all;
    rest = λ told. subst (λ d. IsAtRest host opens d new) (sym (last_unkept c ds none)) (says_rest host opens c (said_of ds) old new rest run told);
    moments = λ told. says_moments host opens c ds old new none (rest told) (run.part.moments told);
    spares = says_spare host spared (said_of ds) old new run;
  }

  -- or not all of them
  pub said_began : (c : C) (ds : List (Deed C)) (old new : D) → commits_of ds ≡ [] → (IsTrue host.is_told → IsAtRest host opens c old) → Says host (said_of ds) old new → Began host opens spared c ds status.SayFault old new
  said_began c ds old new none rest run = record {
    part = run.part.part;
    between = λ told. tt;
    rests = λ told. rests_first host opens c ds status.SayFault new (says_rest host opens c (said_of ds) old new rest run told);
    moments = λ told. says_moments host opens c ds old new none (rest told) (run.part.moments told);
    spares = says_spare host spared (said_of ds) old new run;
  }

  -- bytes that are said
  pub says_did : (c : C) (text : List ℕ) (old new : D) → (IsTrue host.is_told → IsAtRest host opens c old) → SaysAll host text old new → Says host text old new → Did host opens spared c (Reply text ∷ []) old new
  says_did c text old new rest all run = said_did c (Reply text ∷ []) old new refl rest
      (subst (λ (t : List ℕ). SaysAll host t old new) (sym (append-nil text)) all)
      (subst (λ (t : List ℕ). Says host t old new) (sym (append-nil text)) run)

  pub says_began : (c : C) (text : List ℕ) (old new : D) → (IsTrue host.is_told → IsAtRest host opens c old) → Says host text old new → Began host opens spared c (Reply text ∷ []) status.SayFault old new
  says_began c text old new rest run = said_began c (Reply text ∷ []) old new refl rest (subst (λ (t : List ℕ). Says host t old new) (sym (append-nil text)) run)

  -- a commit that is made
  pub makes_did : {R E : Type 0} (c d : C) (old new : D) (value : R) → (IsTrue host.is_told → Makes {E = E} host opens c d old new (Ok value)) → Spares host spared old new → Did host opens spared c (Keep d ∷ []) old new
  makes_did c d old new value run spares = record {
    all = record { is = λ told. (run told).quiet ∙ sym (append-nil (host.said old)) };
    rest = λ told. (run told).rest;
    moments = λ told. makes_moments host opens c d old new (run told).moments;
    spares = spares;
  }

  pub makes_began : {R E : Type 0} (c d : C) (name : List ℕ) (old new : D) (result : Result R E) → (IsTrue host.is_told → Makes host opens c d old new result) → (IsTrue host.is_told → RestsUnlessGate host opens name c new) → Spares host spared old new
      → Began host opens spared c (Keep d ∷ []) status.DiskFault old new
  makes_began c d name old new result run broken spares = record {
    part = λ told. nothing_of (host.said old) [] (host.said new) (run told).quiet;
    between = λ told. first_none (Keep d ∷ []) (host.said old) (host.said new) (run told).quiet;
    rests = λ told. ⊎_elim
        (λ at. inl (record { first = []; rest = Keep d ∷ []; all = refl; at = at }))
        (λ gate. inr (record { first = []; next = d; rest = []; all = refl; either = (run told).either; name = name; gate = gate }))
        (broken told);
    moments = λ told. makes_moments host opens c d old new (run told).moments;
    spares = spares;
  }

  -- a run that touches files and keeps what they open as
  pub kept_did : {R E : Type 0} (c : C) (old new : D) (result : Result R E) → (IsTrue host.is_told → Makes host opens c c old new result) → Spares host spared old new → Did host opens spared c [] old new
  kept_did c old new result run spares = record {
    all = record { is = λ told. (run told).quiet ∙ sym (append-nil (host.said old)) };
    rest = λ told. kept_rest host opens c old new result (run told);
    moments = λ told. kept_moments host opens c [] old new (run told).moments;
    spares = spares;
  }

  -- and fails, whatever was to be done then
  pub kept_began : {R E : Type 0} (c : C) (ds : List (Deed C)) (e : Status) (old new : D) (result : Result R E) → (IsTrue host.is_told → Makes host opens c c old new result) → Spares host spared old new → Began host opens spared c ds e old new
  kept_began c ds e old new result run spares = began_more c [] ds e old new (did_began c [] e old new (kept_did c old new result run spares))

-- A COMMIT THAT IS MADE, AND A LINE THAT IS SAID THEN

module _ {D : Type 0} (host : Ghosts D) {C : Type 0} (opens : C → Files → Type 0) (spared : List ℕ → Type 0) {R E : Type 0} (c d : C) (text : List ℕ) where
  pub kept_and_said : (old mid new : D) (value : R) → (IsTrue host.is_told → Makes {E = E} host opens c d old mid (Ok value)) → Spares host spared old mid → SaysAll host text mid new → Says host text mid new
      → Did host opens spared c (Keep d ∷ Reply text ∷ []) old new
  kept_and_said old mid new value makes spares all says =
      let kept = makes_did host opens spared {E = E} c d old mid value makes spares in
      did_join host opens spared c (Keep d ∷ []) (Reply text ∷ []) old mid new kept (says_did host opens spared d text mid new kept.rest all says)

  pub kept_unsaid : (old mid new : D) (value : R) → (IsTrue host.is_told → Makes {E = E} host opens c d old mid (Ok value)) → Spares host spared old mid → Says host text mid new
      → Began host opens spared c (Keep d ∷ Reply text ∷ []) status.SayFault old new
  kept_unsaid old mid new value makes spares says =
      let kept = makes_did host opens spared {E = E} c d old mid value makes spares in
      began_after host opens spared c (Keep d ∷ []) (Reply text ∷ []) status.SayFault old mid new kept (says_began host opens spared d text mid new kept.rest says)

  pub unkept : (name : List ℕ) (old new : D) (result : Result R E) → (IsTrue host.is_told → Makes host opens c d old new result) → (IsTrue host.is_told → RestsUnlessGate host opens name c new) → Spares host spared old new
      → Began host opens spared c (Keep d ∷ Reply text ∷ []) status.DiskFault old new
  unkept name old new result makes broken spares = began_more host opens spared c (Keep d ∷ []) (Reply text ∷ []) status.DiskFault old new (makes_began host opens spared c d name old new result makes broken spares)

-- COURSES

module _ {D : Type 0} (host : Ghosts D) {C : Type 0} (opens : C → Files → Type 0) (spared : List ℕ → Type 0) where
  module _ {X : Type 0} (at : X → Type 0) (commit : X → C) where
    -- nothing is done
    pub obeys_none : (c : C) (x : X) {old : D} → OnlyNow host old → (IsTrue host.is_told → IsAtRest host opens c old) → at x → commit x ≡ c → Obeys host opens spared at commit c (Goes [] x) (Ok tt) old old
    obeys_none c x {old = old} only_now rest stands same = (stands, same, did_none host opens spared c old rest only_now)

    -- the session's own end, where nothing is done
    pub obeys_end : (c : C) (end : Status) {old : D} → OnlyNow host old → (IsTrue host.is_told → IsAtRest host opens c old) → Obeys host opens spared at commit c (Ends [] end) (Err end) old old
    obeys_end c end {old = old} only_now rest = inr (refl, did_none host opens spared c old rest only_now)

    -- a fault while some of what the course says was done
    pub obeys_began : (c : C) (course : Course C X) (status : Status) (old new : D) → IsFault status → Began host opens spared c (deeds_of course) status old new → Obeys host opens spared at commit c course (Err status) old new
    obeys_began c (Goes ds x) status old new fault h = (fault, h)
    obeys_began c (Ends ds end) status old new fault h = inl (fault, h)

    -- a fault before anything is done
    pub obeys_fault : (c : C) (course : Course C X) (status : Status) (old : D) → IsFault status → OnlyNow host old → (IsTrue host.is_told → IsAtRest host opens c old) → Obeys host opens spared at commit c course (Err status) old old
    obeys_fault c course status old fault only_now rest = obeys_began c course status old old fault (began_nothing host opens spared c (deeds_of course) status old rest only_now)

    -- a text that is said
    pub obeys_reply : (c : C) (text : List ℕ) (x : X) {old new : D} → SaysAll host text old new → Says host text old new → (IsTrue host.is_told → IsAtRest host opens c old) → at x → commit x ≡ c
        → Obeys host opens spared at commit c (replies text x) (Ok tt) old new
    obeys_reply c text x {old = old} {new = new} all says rest stands same = (stands, same, says_did host opens spared c text old new rest all says)

    -- or not whole
    pub obeys_unsaid : (c : C) (text : List ℕ) (x : X) (e : Status) {old new : D} → e ≡ status.SayFault → Says host text old new → (IsTrue host.is_told → IsAtRest host opens c old)
        → Obeys host opens spared at commit c (replies text x) (Err e) old new
    obeys_unsaid c text x e {old = old} {new = new} fault says rest =
        subst (λ (s : Status). Obeys host opens spared at commit c (replies text x) (Err s) old new) (sym fault) (tt, says_began host opens spared c text old new rest says)

    -- the same course in other words
    pub obeys_as : (c : C) (one two : Course C X) (result : Result Unit Status) (old new : D) → one ≡ two → Obeys host opens spared at commit c one result old new → Obeys host opens spared at commit c two result old new
    obeys_as c one two result old new e h = subst (λ x. Obeys host opens spared at commit c x result old new) e h

    -- where more is known of where it leads
    pub obeys_at : (from : X → Type 0) (c : C) (course : Course C X) (result : Result Unit Status) (old new : D) → ((x : X) → from x → at x) → Obeys host opens spared from commit c course result old new
        → Obeys host opens spared at commit c course result old new
    obeys_at from c (Goes ds x) (Ok u) old new f h = (f x h.0, h.1, h.2)
    obeys_at from c (Goes ds x) (Err status) old new f h = h
    obeys_at from c (Ends ds end) (Ok u) old new f h = h
    obeys_at from c (Ends ds end) (Err status) old new f h = h

    -- these deeds, and then a course
    pub obeys_behind : (c : C) (ds : List (Deed C)) (course : Course C X) (result : Result Unit Status) (old mid new : D) → Did host opens spared c ds old mid → Obeys host opens spared at commit (last_of c ds) course result mid new
        → Obeys host opens spared at commit c (preceded ds course) result old new
    obeys_behind c ds (Goes es x) (Ok u) old mid new first h = (h.0, h.1 ∙ sym (last_of_both c ds es), did_join host opens spared c ds es old mid new first h.2)
    obeys_behind c ds (Goes es x) (Err status) old mid new first h = (h.0, began_after host opens spared c ds es status old mid new first h.1)
    obeys_behind c ds (Ends es end) (Ok u) old mid new first h = h
    obeys_behind c ds (Ends es end) (Err status) old mid new first h =
        ⊎_elim (λ f. inl (f.0, began_after host opens spared c ds es status old mid new first f.1)) (λ e. inr (e.0, did_join host opens spared c ds es old mid new first e.1)) h

    -- a fault in these deeds, before a course
    pub obeys_begun : (c : C) (ds : List (Deed C)) (course : Course C X) (status : Status) (old new : D) → IsFault status → Began host opens spared c ds status old new → Obeys host opens spared at commit c (preceded ds course) (Err status) old new
    obeys_begun c ds (Goes es x) status old new fault h = (fault, began_more host opens spared c ds es status old new h)
    obeys_begun c ds (Ends es end) status old new fault h = inl (fault, began_more host opens spared c ds es status old new h)

    -- whatever comes of it, some first bytes of what the course says were said
    pub obeys_says : (c : C) (course : Course C X) (result : Result Unit Status) (old new : D) → IsTrue host.is_told → Obeys host opens spared at commit c course result old new → SaidPart (host.said old) (said_of (deeds_of course)) (host.said new)
    obeys_says c (Goes ds x) (Ok u) old new told h = part_all (host.said old) (said_of ds) (host.said new) (h.2.all.is told)
    obeys_says c (Goes ds x) (Err status) old new told h = h.1.part told
    obeys_says c (Ends ds end) (Ok u) old new told h = absurd h
    obeys_says c (Ends ds end) (Err status) old new told h = ⊎_elim (λ f. f.1.part told) (λ e. part_all (host.said old) (said_of ds) (host.said new) (e.1.all.is told)) h

    -- each of its moments is one of its deeds'
    pub obeys_moments : (c : C) (course : Course C X) (result : Result Unit Status) (old new : D) → IsTrue host.is_told → Obeys host opens spared at commit c course result old new → LeavesOnly host old new (Underway opens c (host.said old) (deeds_of course))
    obeys_moments c (Goes ds x) (Ok u) old new told h = h.2.moments told
    obeys_moments c (Goes ds x) (Err status) old new told h = h.1.moments told
    obeys_moments c (Ends ds end) (Ok u) old new told h = absurd h
    obeys_moments c (Ends ds end) (Err status) old new told h = ⊎_elim (λ f. f.1.moments told) (λ e. e.1.moments told) h

    -- files of these names are left alone
    pub obeys_spares : (c : C) (course : Course C X) (result : Result Unit Status) (old new : D) → Obeys host opens spared at commit c course result old new → Spares host spared old new
    obeys_spares c (Goes ds x) (Ok u) old new h = h.2.spares
    obeys_spares c (Goes ds x) (Err status) old new h = h.1.spares
    obeys_spares c (Ends ds end) (Ok u) old new h = absurd h
    obeys_spares c (Ends ds end) (Err status) old new h = ⊎_elim (λ f. f.1.spares) (λ e. e.1.spares) h

    -- where it went well, all of its deeds were done
    pub obeys_did : (c : C) (course : Course C X) (old new : D) → Obeys host opens spared at commit c course (Ok tt) old new → Did host opens spared c (deeds_of course) old new
    obeys_did c (Goes ds x) old new h = h.2
    obeys_did c (Ends ds end) old new h = absurd h

  module _ {X Y : Type 0} (at : X → Type 0) (commit : X → C) (on : Y → Type 0) (next_commit : Y → C) where
    -- where the first went well, the second follows from where it leads
    pub obeys_then : (c : C) (course : Course C X) (f : X → Course C Y) (result : Result Unit Status) (old mid new : D) → Obeys host opens spared at commit c course (Ok tt) old mid
        → ((x : X) → at x → Obeys host opens spared on next_commit (commit x) (f x) result mid new) → Obeys host opens spared on next_commit c (and_then course f) result old new
    obeys_then c (Goes ds x) f result old mid new first next =
        obeys_behind on next_commit c ds (f x) result old mid new first.2 (subst (λ d. Obeys host opens spared on next_commit d (f x) result mid new) first.1 (next x first.0))
    obeys_then c (Ends ds end) f result old mid new first next = absurd first

    -- where it went wrong, nothing follows
    pub obeys_err : (c : C) (course : Course C X) (f : X → Course C Y) (status : Status) (old new : D) → Obeys host opens spared at commit c course (Err status) old new → Obeys host opens spared on next_commit c (and_then course f) (Err status) old new
    obeys_err c (Goes ds x) f status old new h = obeys_begun on next_commit c ds (f x) status old new h.0 h.1
    obeys_err c (Ends ds end) f status old new h = h

-- THE COUNTS OF FAULTS

module _ {D : Type 0} (host : Ghosts D) (reads : Type 0) where
  status_behind : (o m n : D) (e : Status) → host.disk_faults o ≤ host.disk_faults m → host.say_faults o ≤ host.say_faults m → StatusHasCause host reads m n e → StatusHasCause host reads o n e
  status_behind o m n status.Done disk say h = tt
  status_behind o m n status.Usage disk say h = tt
  status_behind o m n (status.Image i) disk say h = tt
  status_behind o m n (status.Script k) disk say h = tt
  status_behind o m n status.ReadFault disk say h = h
  status_behind o m n status.SayFault disk say h = rose_second (host.say_faults o) (host.say_faults m) (host.say_faults n) say h
  status_behind o m n status.DiskFault disk say h = rose_second (host.disk_faults o) (host.disk_faults m) (host.disk_faults n) disk h
  status_behind o m n (status.Store s) disk say h = tt
  status_behind o m n (status.Kernel chunk cause) disk say h = tt
  status_behind o m n status.TooLarge disk say h = tt
  status_behind o m n status.OutOfMemory disk say h = tt

  cause_behind : (o m n : D) (r : Result Unit Status) → host.disk_faults o ≤ host.disk_faults m → host.say_faults o ≤ host.say_faults m → EndHasCause host reads m n r → EndHasCause host reads o n r
  cause_behind o m n (Ok u) disk say h = tt
  cause_behind o m n (Err e) disk say h = status_behind o m n e disk say h

  -- a call behind a run of others
  pub counts_behind : (old mid new : D) (result : Result Unit Status) → host.disk_faults old ≤ host.disk_faults mid → host.say_faults old ≤ host.say_faults mid → Counts host reads mid new result → Counts host reads old new result
  counts_behind old mid new result disk say run = record {
    disk = omega (arith, disk, run.disk);
    say = omega (arith, say, run.say);
    cause = cause_behind old mid new result disk say run.cause;
  }

  -- a line that is said, behind a run of calls
  pub counts_after : (text : List ℕ) (old mid new : D) (result : Result Unit Status) → host.disk_faults old ≤ host.disk_faults mid → host.say_faults old ≤ host.say_faults mid → Says host text mid new → EndHasCause host reads mid new result → Counts host reads old new result
  counts_after text old mid new result disk say run cause = record {
    disk = omega (arith, disk, run.disk_count);
    say = omega (arith, say, run.part.say);
    cause = cause_behind old mid new result disk say cause;
  }

  status_wider : (old new : D) (e : Status) → StatusHasCause host ⊥ old new e → StatusHasCause host reads old new e
  status_wider old new status.Done h = tt
  status_wider old new status.Usage h = tt
  status_wider old new (status.Image i) h = tt
  status_wider old new (status.Script k) h = tt
  status_wider old new status.ReadFault h = absurd h
  status_wider old new status.SayFault h = h
  status_wider old new status.DiskFault h = h
  status_wider old new (status.Store s) h = tt
  status_wider old new (status.Kernel chunk cause) h = tt
  status_wider old new status.TooLarge h = tt
  status_wider old new status.OutOfMemory h = tt

  end_wider : (old new : D) (r : Result Unit Status) → EndHasCause host ⊥ old new r → EndHasCause host reads old new r
  end_wider old new (Ok u) h = tt
  end_wider old new (Err e) h = status_wider old new e h

  -- a call that asks nothing of a source
  pub counts_wider : (old new : D) (result : Result Unit Status) → Counts host ⊥ old new result → Counts host reads old new result
  counts_wider old new result run = record { disk = run.disk; say = run.say; cause = end_wider old new result run.cause }

-- and so has no fault of one
pub no_read : {D : Type 0} (host : Ghosts D) (old new : D) (result : Result Unit Status) → Counts host ⊥ old new result → IsErrOf result status.ReadFault → ⊥
no_read host old new result h e = subst (λ r. EndHasCause host ⊥ old new r) e h.cause
