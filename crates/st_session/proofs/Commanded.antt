-- A session over a store, from the opening of the store to the last line.
use Rattle.std.proofs.Common.{◌≡◌, ◌≢◌, ◌⊎◌, inl, inr, ℕ, ◌≤◌, List, [], ◌∷◌, ◌++◌, length, ◌∙◌, IsTrue, refl, sym, ap, subst, arith, append-nil, append_assoc}
use Rattle.std.specs.Prelude.{Option, Some, None, ◌+◌, slice_get}
use Rattle.std.proofs.lemmas.List.{append_cancel_left}
use Rattle.st_host.specs.Counts.{Rose}
use Rattle.st_host.specs.Files.{Files}
use Rattle.st_host.specs.Runs.{LeavesOnly, NarrowsBut, Elsewhere, ReadsAlike, ReadsAndSays, Spares, IsSynced, IsAtRest}
use Rattle.st_host.specs.Stops.{Here, SaidPart, WhileSaying}
use Rattle.st_host.specs.declared.host.Host.{Ghosts}
use Rattle.st_host.proofs.Joining.{weaker, moments_join}
use Rattle.st_host.proofs.Rising.{rose_first, rose_second}
use Rattle.st_model.specs.Machine.{State, Transition, Went}
use Rattle.st_model.specs.Births.{Births}
use Rattle.st_model.specs.View.{View}
use Rattle.st_chunk.specs.Definitions.{entries}
use Rattle.st_store.specs.Names.{roots_file, IsNoFileOf}
use Rattle.st_store.specs.Faults.{OpensSince, Settles}
use Rattle.st_store.specs.Founding.{OpensMaybe}
use Rattle.st_store.specs.Stored.{Stored, Opens, IsChosen, IsKept, IsOpening, IsReady}
use Rattle.st_store.specs.declared.root.Root.{Root}
use Rattle.st_store.specs.declared.fault.StoreFault.TheVariants as unmade
use Rattle.st_store.specs.declared.fault.StorePlace.TheVariants.{Roots, Changes}
use Rattle.st_store.proofs.Determined.{none_opens, opens_there}
use Rattle.st_store.proofs.Turning.{rests}
use Rattle.st_changes.specs.Lists.{Lists, RefusesChanges}
use Rattle.st_changes.proofs.Determined.{none_wrong, lists_back}
use Rattle.st_protocol.specs.declared.status.Status.{Status}
use Rattle.st_protocol.specs.declared.status.Status.TheVariants as status
use Rattle.st_protocol.specs.Statuses.{StatusHasCause}
use Rattle.st_protocol.specs.Acknowledged.{acknowledged, acknowledged_from, rest_from, SaysLines, Promised}
use Rattle.st_protocol.specs.Courses.{Course, deeds_of, commits_of, IsEnd}
use Rattle.st_protocol.specs.Done.{RestsAsOne}
use Rattle.st_protocol.proofs.Counting.{acknowledged_both, front_of, front_acknowledges}
use Rattle.st_protocol.proofs.Promising.{CountsNow, promise_kept, one_said}
use Rattle.st_protocol.proofs.Underways.{nothing_of}
use Rattle.st_install.specs.Defining.{installed}
use Rattle.st_protocol.specs.Installing.{Install}
use Rattle.st_recover.specs.Commits.{Commit, OpensAs, all_of, stored_of}
use Rattle.st_recover.specs.Openings.{IsFaulty, Reopens, RefusesOpening, IsOfReopening, IsOfRoots, IsOfNamed, OpeningHasCause}
use Rattle.st_recover.specs.inside.Reopened.{IsReopenedAs}
use Rattle.st_recover.specs.Replays.{Loss, Replayed, replay}
use Rattle.st_store.proofs.Determined.{one_stored}
use Rattle.st_recover.proofs.Determined.{opens_as_read, stands}
use Rattle.st_recover.specs.declared.opened.Opened.{Opened}
use Rattle.st_recover.specs.declared.fault.OpenFault.{OpenFault}
use Rattle.st_recover.specs.declared.fault.OpenFault.TheVariants as opening
use Rattle.st_call.specs.LastLines.{last_line, SaysLastLine}
use Rattle.st_session.specs.Commands.{opening_status}
use Rattle.st_session.specs.Ends.{IsCalm, SessionEnds}
use Rattle.st_call.specs.inside.Telling.{IsOfServing}
use Rattle.st_session.specs.Resting.{GateFailed, OpensFrom, RestsBroken, RestsAcknowledged}
use Rattle.st_session.specs.StoreSessions.{course_over, IsOfSession, IsRefused, KeepsPromise}
use Rattle.st_session.specs.inside.OpenSessions.{IsOpen}
use Rattle.st_chunk.specs.Scripts.{Asked}
use Rattle.st_session.specs.Opening.{session_over, session_so_far_over, session_of_over}
use Rattle.st_session.specs.Sessions.{asked_in}
use Rattle.st_session.proofs.LastLines.{quiet_line}

-- WHAT FILES OPEN AS

went_in : {A : Type 0} (a : A) → Transition A Unit → A
went_in a (Went u s) = s
went_in a t = a

-- a commit opens as one state
pub one_opening : (install : Install) (c : Commit) (r q : Replayed) → Reopens install c r → Reopens install c q → r ≡ q
unfolding went_in
one_opening install c r q x y =
    let same : x.births ≡ y.births = ap (went_in x.births) (sym x.begins ∙ y.begins) in
    x.replays ∙ ap (λ b. replay install b (length c.before) c.definitions) same ∙ sym y.replays

module _ {D : Type 0} (host : Ghosts D) (name : List ℕ) where
  -- files that open as those that were read open as the commit that each state opened as
  pub opens_still : (old : D) (c : Commit) → IsAtRest host (OpensAs name) c old → ((n : List ℕ) → host.may_leave old n (host.files old n)) → (f : Files) → IsOpening host old name f → OpensAs name c f
  opens_still old c rest reads f (inl can) = rest.opens_as f can
  opens_still old c rest reads f (inr as_read) =
      opens_as_read name c as_read.is f (host.files old) (rest.opens_as (host.files old) reads) as_read.read as_read.now

  -- they could be left before, or open as the commit that was read
  pub opened_so : (old : D) (c : Commit) → OpensAs name c (host.files old) → (f : Files) → IsOpening host old name f → ((n : List ℕ) → host.may_leave old n (f n)) ⊎ OpensAs name c f
  opened_so old c opened f (inl can) = inl can
  opened_so old c opened f (inr as_read) = inr (opens_as_read name c as_read.is f (host.files old) opened as_read.read as_read.now)

  -- from the first good sync of the roots file on they open as the commit that is kept behind the opening
  pub settled_from : (c : Commit) (k slot : ℕ) (old mid : D) → ((f : Files) (s : List ℕ) → host.left_since mid (host.moment mid) f s → Here (host.may_leave mid) (host.said mid) f s)
      → ((n : List ℕ) → host.may_leave mid n (host.files mid n)) → OpensAs name c (host.files old) → IsChosen host mid name k (stored_of slot c) → Settles host name old mid → OpensFrom host (OpensAs name) name c old mid
  settled_from c k slot old mid only_now reads opened chosen settles = by settles
    where
      as_commit : (f : Files) → Opens name (stored_of slot c) f → OpensAs name c f
      as_commit f opens = record { slot = slot; opens = opens; readable = opened.readable; good = opened.good }

      here : (f : Files) → ((n : List ℕ) → host.may_leave mid n (f n)) → Opens name (stored_of slot c) f
      here f can = rests host name mid k (stored_of slot c) f chosen can

      from : (x : Option Stored) → OpensSince host {C = Option Stored} (OpensMaybe name) name x old mid → OpensFrom host (OpensAs name) name c old mid
      from None since = absurd (since.rest.opens_as (host.files mid) reads (here (host.files mid) reads).chosen.whole.letters)
      from (Some x) since =
          let same : x ≡ stored_of slot c = one_stored name x (stored_of slot c) (host.files mid) (since.rest.opens_as (host.files mid) reads) (here (host.files mid) reads) in
          record {
            synced = since.synced;
            first = since.first;
            moments = weaker host since.synced mid (λ f s. OpensAs name c f) (λ f s. Opens name x f) since.moments (λ f s opens. as_commit f (subst (λ (y : Stored). Opens name y f) same opens));
          }

      by : Settles host name old mid → OpensFrom host (OpensAs name) name c old mid
      by (inl first) = record {
        synced = mid;
        first = first;
        moments = record { later = omega arith; each = λ f s left. as_commit f (here f (only_now f s left).0); before = λ t f s le left. inl left };
      }
      by (inr at) = from at.0 at.1

  -- nothing is acknowledged by a part of a last line
  promised_none : (c : Commit) (cs : List Commit) (e : Status) (said s : List ℕ) (f : Files) → SaidPart said (last_line e) s → OpensAs name c f → Promised (OpensAs name) (c ∷ cs) said f s
  promised_none c cs e said s f part opens =
      let front = front_of said (last_line e) s part in
      let none : 0 ≡ acknowledged front.0 = omega (arith, front_acknowledges front.0 (last_line e) front.2, quiet_line e) in
      record { words = front.0; said_is = front.1; number = 0; commit = c; is_of = refl; opens_as = opens; acknowledges = inl none }

  acknowledged_none : (c : Commit) (cs : List Commit) (e : Status) (said : List ℕ) (new : D) → SaidPart said (last_line e) (host.said new) → IsAtRest host (OpensAs name) c new → RestsAcknowledged host (OpensAs name) (c ∷ cs) said new
  acknowledged_none c cs e said new part at =
      let front = front_of said (last_line e) (host.said new) part in
      let none : acknowledged front.0 ≡ 0 = omega (arith, front_acknowledges front.0 (last_line e) front.2, quiet_line e) in
      record { words = front.0; said_is = front.1; commit = c; is_of = ap (slice_get (c ∷ cs)) none; at = at }

  -- nor behind whole lines
  acknowledged_behind : (commits : List Commit) (e : Status) (old closed new : D) → IsTrue host.is_told → SaysLines (host.said old) (host.said closed) → ReadsAndSays host (last_line e) closed new
      → RestsAcknowledged host (OpensAs name) commits (host.said old) closed → RestsAcknowledged host (OpensAs name) commits (host.said old) new
  acknowledged_behind commits e old closed new told lines line s =
      let front = front_of (host.said closed) (last_line e) (host.said new) (line.part told) in
      let same : s.words ≡ lines.words = append_cancel_left (host.said old) s.words lines.words (sym s.said_is ∙ lines.said_is) in
      let none : acknowledged front.0 ≡ 0 = omega (arith, front_acknowledges front.0 (last_line e) front.2, quiet_line e) in
      let none_from : acknowledged_from [] front.0 ≡ 0 = none in
      let whole : rest_from [] s.words ≡ [] = ap (rest_from []) same ∙ lines.whole in
      let no_more : acknowledged (s.words ++ front.0) ≡ acknowledged s.words =
      acknowledged_both [] s.words front.0 ∙ (ap (λ l. acknowledged s.words + acknowledged_from l front.0) whole ∙ omega (arith, none_from)) in
      record {
        words = s.words ++ front.0;
        said_is = front.1 ∙ (ap (λ (t : List ℕ). t ++ front.0) s.said_is ∙ append_assoc (host.said old) s.words front.0);
        commit = s.commit;
        is_of = ap (slice_get commits) no_more ∙ s.is_of;
        at = record { opens_as = λ f can. s.at.opens_as f (λ n. (line.stops told).fewer n (f n) (can n)) };
      }

  pub refused_promise : (c : Commit) (cs : List Commit) (e : Status) (old closed new : D) → IsAtRest host (OpensAs name) c old → ((n : List ℕ) → host.may_leave old n (host.files old n))
      → LeavesOnly host old closed (λ f s. (s ≡ host.said old) × IsOpening host old name f) → ((f : Files) → ((n : List ℕ) → host.may_leave closed n (f n)) → IsOpening host old name f)
      → host.said closed ≡ host.said old → IsTrue host.is_told → ReadsAndSays host (last_line e) closed new → KeepsPromise host name (c ∷ cs) old new e
  refused_promise c cs e old closed new rest reads moments leaves quiet told line = record {
    moments = moments_join host old closed new (Promised (OpensAs name) (c ∷ cs) (host.said old)) (WhileSaying (host.may_leave closed) (host.said closed) (last_line e))
        (weaker host old closed (Promised (OpensAs name) (c ∷ cs) (host.said old)) (λ f s. (s ≡ host.said old) × IsOpening host old name f) moments
        (λ f s so. promised_none c cs e (host.said old) s f (nothing_of (host.said old) (last_line e) s so.0) (opens_still old c rest reads f so.1)))
        (line.moments told)
        (λ f s w. promised_none c cs e (host.said old) s f (subst (λ (t : List ℕ). SaidPart t (last_line e) s) quiet w.1) (opens_still old c rest reads f (leaves f w.0)));
    rests = λ none. still;
    broken = λ disk. inl still;
    starved = λ none. acknowledged_none c cs e (host.said old) new (subst (λ (t : List ℕ). SaidPart t (last_line e) (host.said new)) quiet (line.part told)) still_at;
  }
    where
      still_at : IsAtRest host (OpensAs name) c new
      still_at = record { opens_as = λ f can. opens_still old c rest reads f (leaves f (λ n. (line.stops told).fewer n (f n) (can n))) }

      still : RestsAsOne host (OpensAs name) (c ∷ cs) new
      still = record { number = 0; commit = c; is_of = refl; at = still_at }

  -- behind a last line the gate has failed as before
  pub failed_said : (c : Commit) (text : List ℕ) (mid new : D) → IsTrue host.is_told → ReadsAndSays host text mid new → GateFailed host (OpensAs name) name c mid → GateFailed host (OpensAs name) name c new
  failed_said c text mid new told line gate = record {
    failed = gate.failed;
    fails = gate.fails;
    behind = record {
      fewer = λ n x can. gate.behind.fewer n x ((line.stops told).fewer n x can);
      more = λ n x could. (line.stops told).more n x (gate.behind.more n x could);
    };
  }

  -- behind a last line it is as broken as before
  broken_said : (commits : List Commit) (text : List ℕ) (mid new : D) → IsTrue host.is_told → ReadsAndSays host text mid new → RestsBroken host (OpensAs name) name commits mid → RestsBroken host (OpensAs name) name commits new
  broken_said commits text mid new told line (inl one) = inl (one_said host (OpensAs name) commits mid mid new text told line one)
  broken_said commits text mid new told line (inr two) = inr (record {
    number = two.number;
    commit = two.commit;
    next = two.next;
    is_of = two.is_of;
    follows = two.follows;
    either = λ f can. two.either f (λ n. (line.stops told).fewer n (f n) (can n));
    gate = failed_said two.commit text mid new told line two.gate;
  })

  -- a last line behind a session; after a fault in saying there is none
  line_promise : (commits : List Commit) (e : Status) (old closed new : D) → IsTrue host.is_told → CountsNow host closed → ((e ≡ status.SayFault → ⊥) → SaysLines (host.said old) (host.said closed))
      → LeavesOnly host old closed (Promised (OpensAs name) commits (host.said old)) → ReadsAndSays host (last_line e) closed new → LeavesOnly host old new (Promised (OpensAs name) commits (host.said old))
  line_promise commits e old closed new told now lines first line = over e lines line
    where
      kept : (d : Status) → (d ≡ status.SayFault → ⊥) → ((d ≡ status.SayFault → ⊥) → SaysLines (host.said old) (host.said closed)) → ReadsAndSays host (last_line d) closed new → LeavesOnly host old new (Promised (OpensAs name) commits (host.said old))
      kept d other lines line = promise_kept host (OpensAs name) commits old closed new (last_line d) (lines other) (quiet_line d) told now first line

      over : (d : Status) → ((d ≡ status.SayFault → ⊥) → SaysLines (host.said old) (host.said closed)) → ReadsAndSays host (last_line d) closed new → LeavesOnly host old new (Promised (OpensAs name) commits (host.said old))
      over status.SayFault lines line =
          moments_join host old closed new (Promised (OpensAs name) commits (host.said old)) (WhileSaying (host.may_leave closed) (host.said closed) []) first (line.moments told)
          (λ f s w.
          let front = front_of (host.said closed) [] s w.1 in
          let same : s ≡ host.said closed = front.1 ∙ ap (λ (t : List ℕ). host.said closed ++ t) (none_in front.0 (front.2).0 (front.2).1) ∙ append-nil (host.said closed) in
          subst (λ (t : List ℕ). Promised (OpensAs name) commits (host.said old) f t) (sym same) (first.each f (host.said closed) (now (host.moment old) f (host.said closed) told first.later (w.0, refl))))
        where
          none_in : (a b : List ℕ) → a ++ b ≡ [] → a ≡ []
          none_in [] b e = refl
          none_in (x ∷ a) b e = cc
      over status.Done lines line = kept status.Done (λ e. cc) lines line
      over status.Usage lines line = kept status.Usage (λ e. cc) lines line
      over (status.Image f) lines line = kept (status.Image f) (λ e. cc) lines line
      over (status.Script n) lines line = kept (status.Script n) (λ e. cc) lines line
      over status.ReadFault lines line = kept status.ReadFault (λ e. cc) lines line
      over status.DiskFault lines line = kept status.DiskFault (λ e. cc) lines line
      over (status.Store f) lines line = kept (status.Store f) (λ e. cc) lines line
      over (status.Kernel chunk cause) lines line = kept (status.Kernel chunk cause) (λ e. cc) lines line
      over status.TooLarge lines line = kept status.TooLarge (λ e. cc) lines line
      over status.OutOfMemory lines line = kept status.OutOfMemory (λ e. cc) lines line

  pub followed_promise : {X Y Z : Type 0} (c : Commit) (course : Course Commit X) (so_far : List ℕ → Course Commit Y) (answers : List Asked → Course Commit Z) (asked : List Asked) (script left : List ℕ) (e : Status) (old mid closed new : D) → IsAtRest host (OpensAs name) c old → ((n : List ℕ) → host.may_leave old n (host.files old n))
      → CountsNow host closed → LeavesOnly host old mid (λ f s. (s ≡ host.said old) × IsOpening host old name f) → host.said mid ≡ host.said old → IsTrue host.is_told
      → SessionEnds host (OpensAs name) (IsNoFileOf name) c name course so_far answers asked script left mid closed e → ReadsAndSays host (last_line e) closed new → KeepsPromise host name (c ∷ commits_of (deeds_of course)) old new e
  followed_promise c course so_far answers asked script left e old mid closed new rest reads now moments quiet told ends line =
      let commits = c ∷ commits_of (deeds_of course) in
      let first = weaker host old mid (Promised (OpensAs name) commits (host.said old)) (λ f s. (s ≡ host.said old) × IsOpening host old name f) moments
      (λ f s so. promised_none c (commits_of (deeds_of course)) e (host.said old) s f (nothing_of (host.said old) (last_line e) s so.0) (opens_still old c rest reads f so.1)) in
      let both = moments_join host old mid closed (Promised (OpensAs name) commits (host.said old)) (Promised (OpensAs name) commits (host.said mid)) first (ends.moments told)
      (λ f s p. subst (λ (t : List ℕ). Promised (OpensAs name) commits t f s) quiet p) in
      record {
        moments = line_promise commits e old closed new told now (λ other. subst (λ (t : List ℕ). SaysLines t (host.said closed)) quiet (ends.lines other told)) both line;
        rests = λ none. one_said host (OpensAs name) commits old closed new (last_line e) told line (ends.rests none told);
        broken = λ disk. broken_said commits (last_line e) closed new told line (ends.broken disk told);
        starved = λ none. acknowledged_behind commits e old closed new told (subst (λ (t : List ℕ). SaysLines t (host.said closed)) quiet (ends.lines (λ fault. let same : status.OutOfMemory ≡ status.SayFault = sym none ∙ fault in cc) told)) line
            (subst (λ (t : List ℕ). RestsAcknowledged host (OpensAs name) commits t closed) quiet (ends.starved none told));
      }

  -- LAST LINES AND COUNTS

  pub refused_line : (e : Status) (old closed new : D) → (IsTrue host.is_told → host.said closed ≡ host.said old) → host.say_faults closed ≡ host.say_faults old → SaysLastLine host e closed new → SaysLastLine host e old new
  refused_line e old closed new quiet say line = record {
    part = λ told. subst (λ (t : List ℕ). SaidPart t (last_line e) (host.said new)) (quiet told) (line.part told);
    whole = λ calm told. line.whole (λ rose. calm (subst (λ n. Rose n (host.say_faults new)) say rose)) told ∙ ap (λ (t : List ℕ). t ++ last_line e) (quiet told);
  }

  pub refused_moments : (e : Status) (old closed new : D) → LeavesOnly host old closed (λ f s. (s ≡ host.said old) × IsOpening host old name f) → ((f : Files) → ((n : List ℕ) → host.may_leave closed n (f n)) → IsOpening host old name f)
      → host.said closed ≡ host.said old → IsTrue host.is_told → ReadsAndSays host (last_line e) closed new → LeavesOnly host old new (λ f s. SaidPart (host.said old) (last_line e) s × IsOpening host old name f)
  refused_moments e old closed new moments leaves quiet told line =
      moments_join host old closed new (λ f s. SaidPart (host.said old) (last_line e) s × IsOpening host old name f) (WhileSaying (host.may_leave closed) (host.said closed) (last_line e))
      (weaker host old closed (λ f s. SaidPart (host.said old) (last_line e) s × IsOpening host old name f) (λ f s. (s ≡ host.said old) × IsOpening host old name f) moments (λ f s so. (nothing_of (host.said old) (last_line e) s so.0, so.1)))
      (line.moments told)
      (λ f s w. (subst (λ (t : List ℕ). SaidPart t (last_line e) s) quiet w.1, leaves f w.0))

  -- of every other file it leaves what it could leave
  pub refused_elsewhere : (text : List ℕ) (old closed new : D) → NarrowsBut host (roots_file name) old closed → IsTrue host.is_told → ReadsAndSays host text closed new
      → LeavesOnly host old new (λ f s. (n : List ℕ) → n ≢ roots_file name → host.may_leave old n (f n))
  refused_elsewhere text old closed new only told line =
      moments_join host old closed new (λ f s. (n : List ℕ) → n ≢ roots_file name → host.may_leave old n (f n)) (WhileSaying (host.may_leave closed) (host.said closed) text)
      (weaker host old closed (λ f s. (n : List ℕ) → n ≢ roots_file name → host.may_leave old n (f n)) (Elsewhere host (roots_file name) old) (only.moments told) (λ f s so. so.1))
      (line.moments told)
      (λ f s w n is. only.fewer told n (f n) is (w.0 n))

  -- behind a last line the store rests as before
  pub rests_line : (c : Stored) (text : List ℕ) (closed new : D) → IsTrue host.is_told → ReadsAndSays host text closed new → IsAtRest host (Opens name) c closed → IsAtRest host (Opens name) c new
  rests_line c text closed new told line rest = record { opens_as = λ f can. rest.opens_as f (λ n. (line.stops told).fewer n (f n) (can n)) }

  pub spares_then : (old mid new : D) → Spares host (IsNoFileOf name) old mid → Spares host (IsNoFileOf name) mid new → Spares host (IsNoFileOf name) old new
  spares_then old mid new first second = record {
    files = λ told n is. second.files told n is ∙ first.files told n is;
    fewer = λ told n c is can. first.fewer told n c is (second.fewer told n c is can);
    more = λ told n c is could. second.more told n c is (first.more told n c is could);
  }

  pub spares_line : (text : List ℕ) (old closed new : D) → Spares host (IsNoFileOf name) old closed → ReadsAlike host closed new → ReadsAndSays host text closed new → Spares host (IsNoFileOf name) old new
  spares_line text old closed new spares alike line = record {
    files = λ told n is. alike.same told n ∙ spares.files told n is;
    fewer = λ told n c is can. spares.fewer told n c is ((line.stops told).fewer n c can);
    more = λ told n c is could. (line.stops told).more n c (spares.more told n c is could);
  }

  -- a store isn't opened, and the last line of its fault is said
  pub refused_so : (fault : OpenFault) (e : Status) (old mid new : D) → e ≡ opening_status fault → RefusesOpening name (host.files old) fault → NarrowsBut host (roots_file name) old mid
      → LeavesOnly host old mid (λ f s. (s ≡ host.said old) × IsOpening host old name f) → ((f : Files) → ((n : List ℕ) → host.may_leave mid n (f n)) → IsOpening host old name f)
      → (IsOfNamed fault → (c : Stored) → Opens name c (host.files old) → IsAtRest host (Opens name) c mid) → (IsOfRoots fault → IsSynced host (roots_file name) mid) → (IsReady host old name → Settles host name old mid) → Spares host (IsNoFileOf name) old mid
      → IsTrue host.is_told → SaysLastLine host e mid new → ReadsAndSays host (last_line e) mid new → ReadsAlike host mid new → IsRefused host name old new e
  refused_so fault e old mid new is why only moments leaves rests synced settles spares told line reads alike = record {
    fault = fault;
    is = is;
    why = why;
    line = refused_line e old mid new only.quiet only.say line;
    moments = refused_moments e old mid new moments leaves (only.quiet told) told reads;
    elsewhere = refused_elsewhere (last_line e) old mid new only told reads;
    rests = λ named k o. rests_line k (last_line e) mid new told reads (rests named k o);
    synced = λ roots. let at = synced roots in record { is = λ t c can. at.is t c ((reads.stops told).fewer (roots_file name) c can) ∙ sym (alike.same t (roots_file name)) };
    opened = mid;
    settles = settles;
    behind = reads;
    spares = spares_line (last_line e) old mid new spares alike reads;
  }

module _ {D : Type 0} (host : Ghosts D) (reads : Type 0) where
  -- the cause of a status behind the opening and before the last line
  pub cause_between : (old mid closed new : D) (e : Status) → host.disk_faults old ≤ host.disk_faults mid → host.say_faults mid ≡ host.say_faults old → host.say_faults mid ≤ host.say_faults closed → host.say_faults closed ≤ host.say_faults new → host.disk_faults new ≡ host.disk_faults closed
      → StatusHasCause host reads mid closed e → StatusHasCause host reads old new e
  cause_between old mid closed new status.SayFault low same say high disk h =
      rose_first (host.say_faults old) (host.say_faults closed) (host.say_faults new) (subst (λ n. n ≤ host.say_faults closed) same say) high (subst (λ n. Rose n (host.say_faults closed)) same h)
  cause_between old mid closed new status.DiskFault low same say high disk h =
      subst (Rose (host.disk_faults old)) (sym disk) (rose_second (host.disk_faults old) (host.disk_faults mid) (host.disk_faults closed) low h)
  cause_between old mid closed new status.Done low same say high disk h = h
  cause_between old mid closed new status.Usage low same say high disk h = h
  cause_between old mid closed new (status.Image f) low same say high disk h = h
  cause_between old mid closed new (status.Script n) low same say high disk h = h
  cause_between old mid closed new status.ReadFault low same say high disk h = h
  cause_between old mid closed new (status.Store f) low same say high disk h = h
  cause_between old mid closed new (status.Kernel chunk cause) low same say high disk h = h
  cause_between old mid closed new status.TooLarge low same say high disk h = h
  cause_between old mid closed new status.OutOfMemory low same say high disk h = h

  pub calm_between : (old mid closed new : D) → host.disk_faults old ≤ host.disk_faults mid → host.say_faults mid ≡ host.say_faults old → host.say_faults mid ≤ host.say_faults closed → host.say_faults closed ≤ host.say_faults new → host.disk_faults new ≡ host.disk_faults closed
      → IsCalm host reads old new → IsCalm host reads mid closed
  calm_between old mid closed new low same say high disk calm = record {
    disk = λ rose. calm.disk (cause_between old mid closed new status.DiskFault low same say high disk rose);
    say = λ rose. calm.say (cause_between old mid closed new status.SayFault low same say high disk rose);
    source = calm.source;
  }

  -- that of a refused opening
  pub opening_cause : (old closed new : D) (fault : OpenFault) → IsOfReopening fault → OpeningHasCause host old closed fault → host.disk_faults new ≡ host.disk_faults closed → StatusHasCause host reads old new (opening_status fault)
  opening_cause old closed new (opening.Store unmade.Missing) kind h disk = tt
  opening_cause old closed new (opening.Store unmade.Exists) kind h disk = tt
  opening_cause old closed new (opening.Store (unmade.NotAStore at)) kind h disk = tt
  opening_cause old closed new (opening.Store unmade.Disk) kind h disk = absurd kind
  opening_cause old closed new (opening.Store unmade.OutOfMemory) kind h disk = tt
  opening_cause old closed new (opening.Image f) kind h disk = tt
  opening_cause old closed new opening.TooLarge kind h disk = tt
  opening_cause old closed new opening.Disk kind h disk = subst (Rose (host.disk_faults old)) (sym disk) h
  opening_cause old closed new opening.OutOfMemory kind h disk = tt

  -- the status has that cause too
  pub refused_cause : (old closed new : D) (fault : OpenFault) (e : Status) → e ≡ opening_status fault → IsOfReopening fault → OpeningHasCause host old closed fault → host.disk_faults new ≡ host.disk_faults closed → StatusHasCause host reads old new e
  refused_cause old closed new fault e is kind h disk = subst (StatusHasCause host reads old new) (sym is) (opening_cause old closed new fault kind h disk)

-- WHAT IS OPENED

-- what is opened holds its commit, and shows what this opens as
pub open_at : {M D : Type 0} (view : M → View) (host : Ghosts D) (install : Install) (name : List ℕ) (old new : D) (o : Opened M) (c : Commit) (at : IsReopenedAs host install view name old new o c) → IsOpen view host new o c at.replayed.state
open_at view host install name old new o c at = record {
  holds = record {
    chosen = o.store.chosen;
    slot = o.store.root.slot;
    store = λ i. Some (record { name = o.store.name; chosen = o.store.chosen; root = at.root i });
    listed = at.listed;
    good = at.opens.good;
    kept = λ told. subst (λ (r : Root). IsKept host new (record { name = o.store.name; chosen = o.store.chosen; root = r }) (stored_of o.store.root.slot c)) at.root at.kept;
    readable = at.opens.readable;
  };
  shows = at.shows;
}

module _ {D : Type 0} (host : Ghosts D) (c : Commit) (script left : List ℕ) (mid closed : D) (e : Status) where
  abbrev Ends_at : List ℕ → ℕ → List Loss → State Births → Type 0
  Ends_at name count lost s = SessionEnds host (OpensAs name) (IsNoFileOf name) c name (session_over count lost s c script) (session_so_far_over count lost s c) (session_of_over count lost s c) (asked_in script) script left mid closed e

  pub ends_at : (n m : List ℕ) (count : ℕ) (lost : List Loss) (r : Replayed) → n ≡ m → count ≡ r.count → lost ≡ r.lost → Ends_at n count lost r.state → Ends_at m r.count r.lost r.state
  ends_at n m count lost r one two three h = subst (λ (x : List Loss). Ends_at m r.count x r.state) three (subst (λ (x : ℕ). Ends_at m x lost r.state) two (subst (λ (x : List ℕ). Ends_at x count lost r.state) one h))

-- the end of a session over what was opened
pub end_at : (c d : Commit) (r q : Replayed) (count : ℕ) (lost : List Loss) (script : List ℕ) → c ≡ d → r ≡ q → count ≡ r.count → lost ≡ r.lost → IsEnd (course_over d q script) status.Done → IsEnd (session_over count lost r.state c script) status.Done
end_at c d r q count lost script one two three four h =
    subst (λ (n : ℕ). IsEnd (session_over n lost r.state c script) status.Done) (sym three) (subst (λ (l : List Loss). IsEnd (session_over r.count l r.state c script) status.Done) (sym four)
    (subst (λ (x : Replayed). IsEnd (course_over c x script) status.Done) (sym two) (subst (λ (x : Commit). IsEnd (course_over x q script) status.Done) (sym one) h)))

-- what holds of a host that tells holds of any
pub spares_told : {D : Type 0} (host : Ghosts D) (names : List ℕ → Type 0) (old new : D) → (IsTrue host.is_told → Spares host names old new) → Spares host names old new
spares_told host names old new h = record { files = λ told. (h told).files told; fewer = λ told. (h told).fewer told; more = λ told. (h told).more told }

-- KINDS

pub kind_served : (told : Type 0) (name : List ℕ) (f : Files) (e : Status) → IsOfServing e → IsOfSession told name f e
kind_served told name f status.Done h = tt
kind_served told name f status.Usage h = absurd h
kind_served told name f (status.Image x) h = absurd h
kind_served told name f (status.Script n) h = tt
kind_served told name f status.ReadFault h = tt
kind_served told name f status.SayFault h = tt
kind_served told name f status.DiskFault h = tt
kind_served told name f (status.Store x) h = absurd h
kind_served told name f (status.Kernel chunk cause) h = absurd h
kind_served told name f status.TooLarge h = tt
kind_served told name f status.OutOfMemory h = tt

pub kind_refused : (told : Type 0) (name : List ℕ) (f : Files) (fault : OpenFault) → IsOfReopening fault → (told → RefusesOpening name f fault) → IsOfSession told name f (opening_status fault)
kind_refused told name f (opening.Store unmade.Missing) h why = why
kind_refused told name f (opening.Store unmade.Exists) h why = absurd h
kind_refused told name f (opening.Store (unmade.NotAStore place)) h why = why
kind_refused told name f (opening.Store unmade.Disk) h why = absurd h
kind_refused told name f (opening.Store unmade.OutOfMemory) h why = absurd h
kind_refused told name f (opening.Image x) h why = why
kind_refused told name f opening.TooLarge h why = tt
kind_refused told name f opening.Disk h why = tt
kind_refused told name f opening.OutOfMemory h why = tt

-- COMPLETENESS

module _ (name : List ℕ) (f : Files) (c : Commit) (opens : OpensAs name c f) where
  stored_is : (x : Stored) → Opens name x f → x ≡ stored_of opens.slot c
  stored_is x o = one_stored name x (stored_of opens.slot c) f o opens.opens

  -- the changes of a commit aren't damaged
  pub changes_whole : (x : Stored) (at : ℕ) → Opens name x f → RefusesChanges x.changes x.root (unmade.NotAStore (Changes at)) → ⊥
  changes_whole x at o why =
      let lists : Lists (entries (all_of c)) (length (entries c.before)) (all_of c) = lists_back (all_of c) (length (entries c.before)) opens.good (stands c) in
      none_wrong (entries (all_of c)) (stored_of opens.slot c).root at (all_of c) lists refl (subst (λ (s : Stored). RefusesChanges s.changes s.root (unmade.NotAStore (Changes at))) (stored_is x o) why)

  -- a commit that opens isn't refused but by a fault of the disk, or for want of memory
  pub refused_whole : {D : Type 0} (host : Ghosts D) (old mid : D) (r : Replayed) (fault : OpenFault) → Reopens installed c r → IsOfReopening fault → RefusesOpening name f fault
      → OpeningHasCause host old mid fault → (Rose (host.disk_faults old) (host.disk_faults mid) → ⊥) → (opening_status fault ≡ status.Done) ⊎ (opening_status fault ≡ status.OutOfMemory)
  refused_whole host old mid r (opening.Store unmade.Missing) reopens kind why cause calm = absurd (opens_there name f (stored_of opens.slot c) opens.opens why)
  refused_whole host old mid r (opening.Store unmade.Exists) reopens kind why cause calm = absurd kind
  refused_whole host old mid r (opening.Store (unmade.NotAStore (Roots at))) reopens kind why cause calm = absurd (none_opens name f at (stored_of opens.slot c) opens.opens why)
  refused_whole host old mid r (opening.Store (unmade.NotAStore (Changes at))) reopens kind why cause calm = absurd (changes_whole why.0 at why.1 why.3)
  refused_whole host old mid r (opening.Store unmade.Disk) reopens kind why cause calm = absurd kind
  refused_whole host old mid r (opening.Store unmade.OutOfMemory) reopens kind why cause calm = inr refl
  refused_whole host old mid r (opening.Image x) reopens kind why cause calm =
      let faulty = subst (λ (s : Stored). IsFaulty s.image x) (stored_is why.0 why.1) why.2 in
      absurd (reopens.readable.formed x faulty.fault.fails)
  refused_whole host old mid r opening.TooLarge reopens kind why cause calm =
      let short = reopens.readable.short in
      let long = ap (λ (s : Stored). length s.image) (stored_is why.0 why.1) in
      let most = why.2 in
      absurd (omega (arith, short, long, most))
  refused_whole host old mid r opening.Disk reopens kind why cause calm = absurd (calm cause)
  refused_whole host old mid r opening.OutOfMemory reopens kind why cause calm = inr refl

  -- so a command that isn't to be refused, without a fault of the disk, has no memory
  pub refused_complete : {D : Type 0} (host : Ghosts D) (old mid new : D) (r : Replayed) (fault : OpenFault) (e : Status) → e ≡ opening_status fault → Reopens installed c r → IsOfReopening fault → RefusesOpening name f fault
      → OpeningHasCause host old mid fault → host.disk_faults new ≡ host.disk_faults mid → (Rose (host.disk_faults old) (host.disk_faults new) → ⊥) → (e ≡ status.Done) ⊎ (e ≡ status.OutOfMemory)
  refused_complete host old mid new r fault e is reopens kind why cause disk calm =
      subst (λ (x : Status). (x ≡ status.Done) ⊎ (x ≡ status.OutOfMemory)) (sym is)
      (refused_whole host old mid r fault reopens kind why cause (λ rose. calm (subst (Rose (host.disk_faults old)) (sym disk) rose)))
