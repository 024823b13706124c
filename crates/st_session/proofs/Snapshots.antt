-- Runs with their snapshots do what their course says.
use Rattle.std.proofs.Common.{◌≡◌, ◌∙◌, ℕ, ◌-◌, ◌≤◌, List, [], ◌++◌, length, IsTrue, refl, sym, ap, subst, arith}
use Rattle.std.specs.Prelude.{Option, Some, None, Result, Ok, Err, OnOk}
use Rattle.st_model.specs.declared.dead.Dead.{Dead}
use Rattle.st_model.specs.Machine.{State, Transition, Died, Went}
use Rattle.st_model.specs.Births.{Births, births}
use Rattle.st_model.specs.Table.{Table}
use Rattle.st_model.specs.Saving.{save}
use Rattle.st_model.specs.Show.{Shows, show}
use Rattle.st_model.specs.Text.{dead_text}
use Rattle.st_model.specs.View.{View}
use Rattle.st_host.specs.Files.{Files}
use Rattle.st_host.specs.Runs.{IsAtRest, Makes, Spares}
use Rattle.st_host.specs.declared.host.Host.{Ghosts}
use Rattle.st_host.proofs.Telling.{OnlyNow}
use Rattle.st_image.specs.inside.Back.{CanStart}
use Rattle.st_image.proofs.Saved.{saved_starts}
use Rattle.st_machine.specs.declared.machine.Machine.{Machine}
use Rattle.st_machine.specs.inside.Asked.{SavedAs}
use Rattle.st_store.specs.Faults.{RestsUnlessGate}
use Rattle.st_store.specs.Names.{IsNoFileOf}
use Rattle.st_protocol.specs.declared.status.Status.{Status}
use Rattle.st_protocol.specs.declared.status.Status.TheVariants as status
use Rattle.st_protocol.specs.Courses.{Deed, Course, Goes, Ends, said_of, last_of, preceded, and_then, replies}
use Rattle.st_protocol.specs.Done.{Did}
use Rattle.st_protocol.specs.inside.Obeying.{Obeys}
use Rattle.st_protocol.proofs.Courses.{preceded_none, preceded_both, last_of_both, last_unkept}
use Rattle.st_protocol.proofs.Joins.{did_none, did_join, said_did, said_began, kept_and_said, kept_unsaid, unkept as image_lost, obeys_none, obeys_as, obeys_behind, obeys_begun, obeys_then, obeys_err}
use Rattle.st_recover.specs.inside.Archives.{ArchiveState, Holds}
use Rattle.st_recover.specs.Commits.{Commit, OpensAs, imaged, image_with}
use Rattle.st_session.specs.Points.{Being, Alive, Gone, Point, alive, gone}
use Rattle.st_session.specs.Keeping.{in_a_store, imaging, image_of, saved}
use Rattle.st_session.specs.Answers.{going_on, watched_course}
use Rattle.st_call.specs.Replies.{snapshot_text}
use Rattle.st_session.specs.inside.Standing.{IsBeing, shown_by, IsAt}
use Rattle.st_session.specs.inside.Stretches.{Stretch, words_of, SaysStretch}
use Rattle.st_session.specs.inside.Watched.{watched_stretch}
use Rattle.st_session.specs.Watching.{Look}
use Rattle.st_call.specs.inside.Telling.{Tells}
use Rattle.st_session.proofs.Holding.{holds_said, holds_rest}
use Rattle.st_session.proofs.Points.{GoesAs}
use Rattle.st_session.proofs.Saying.{obeys_tells, when_ok}
use Rattle.st_session.proofs.Stretches.{replies_of, said_in_turn, unkept, onward, is_over_at, IsAskedAt, is_asked_at}
use Rattle.st_session.proofs.Watches.{watched_is}

-- AN IMAGE

module _ {D : Type 0} (host : Ghosts D) (opens : Commit → Files → Type 0) (spared : List ℕ → Type 0) (at : Commit → Type 0) (c : Commit) (image : List ℕ) {R E : Type 0} where
  -- an image that is kept, whose length is said, or not
  pub image_said : (old mid new : D) (value : R) (result : Result Unit Status) → (IsTrue host.is_told → Makes {E = E} host opens c (imaged c image) old mid (Ok value)) → Spares host spared old mid
      → Tells host (snapshot_text (length image)) mid new result → OnOk result (at (imaged c image)) → Obeys host opens spared at (λ (d : Commit). d) c (imaging c image) result old new
  image_said old mid new value (Ok u) makes spares tells stands =
      (stands, refl, kept_and_said host opens spared {R = R} {E = E} c (imaged c image) (snapshot_text (length image)) old mid new value makes spares tells.all tells.says)
  image_said old mid new value (Err e) makes spares tells stands =
      subst (λ (x : Status). Obeys host opens spared at (λ (d : Commit). d) c (imaging c image) (Err x) old new) (sym tells.fault)
      (tt, kept_unsaid host opens spared {R = R} {E = E} c (imaged c image) (snapshot_text (length image)) old mid new value makes spares tells.says)

  pub image_unkept : (name : List ℕ) (old new : D) (result : Result R E) → (IsTrue host.is_told → Makes host opens c (imaged c image) old new result) → (IsTrue host.is_told → RestsUnlessGate host opens name c new) → Spares host spared old new
      → Obeys host opens spared at (λ (d : Commit). d) c (imaging c image) (Err status.DiskFault) old new
  image_unkept name old new result makes broken spares = (tt, image_lost host opens spared c (imaged c image) (snapshot_text (length image)) name old new result makes broken spares)

-- A SNAPSHOT

-- a machine that was saved can start
pub saved_can_start : {M : Type 0} (view : M → View) (n : Machine M) (s : State Births) (o : Transition (State Births) Unit) → save births s ≡ o
    → SavedAs (Ok tt) (shown_by view n) o → CanStart (view n.memory)
saved_can_start view n s (Died k) is saves = absurd saves
saved_can_start view n s (Went u t) is saves = saved_starts s t (shown_by view n) (view n.memory) is saves refl

-- what is shown has this image
pub image_shown : (s : State Births) (c : State Table) → show s ≡ c → image_of s ≡ image_with c.memory c.head
image_shown s c same = ap (λ (x : State Table). image_with x.memory x.head) same

module _ {M D : Type 0} (view : M → View) (host : Ghosts D) (name : List ℕ) (n : Machine M) (b : ArchiveState) (old new : D) (c : Commit) where
  -- an image that is kept is that of the state that saving comes to
  image_kept : (t : State Births) (image : List ℕ) (result : Result Unit Status) → n.death ≡ None → Shows (shown_by view n) t
      → Obeys host (OpensAs name) (IsNoFileOf name) (Holds host new b) (λ (d : Commit). d) c (imaging c image) result old new
      → GoesAs view host name n b old new c (and_then (imaging c image) (λ d. Goes [] (alive t d))) result
  image_kept t image (Ok u) lives shows h = (record { stands = (lives, shows); holds = h.0 }, h.1, h.2)
  image_kept t image (Err e) lives shows h = h

  pub saved_kept : (done : ℕ) (o : Transition (State Births) Unit) (result : Result Unit Status) → SavedAs (Ok tt) (shown_by view n) o → n.death ≡ None → ((t : State Births) → Shows (shown_by view n) t → show t ≡ shown_by view n)
      → Obeys host (OpensAs name) (IsNoFileOf name) (Holds host new b) (λ (d : Commit). d) c (imaging c (image_with (view n.memory).objects (view n.memory).head)) result old new
      → GoesAs view host name n b old new c (saved done o c) result
  saved_kept done (Died k) result saves lives same h = absurd saves
  saved_kept done (Went u t) result saves lives same h =
      image_kept t (image_of t) result lives saves
      (subst (λ (i : List ℕ). Obeys host (OpensAs name) (IsNoFileOf name) (Holds host new b) (λ (d : Commit). d) c (imaging c i) result old new) (sym (image_shown t (shown_by view n) (same t saves))) h)

  -- saving died
  pub saved_died : (done : ℕ) (cause : Dead) (o : Transition (State Births) Unit) (result : Result Unit Status) → SavedAs (Err cause) (shown_by view n) o → n.death ≡ Some cause → name ≡ b.name → Holds host old b c
      → Tells host (dead_text done cause) old new result → GoesAs view host name n b old new c (saved done o c) result
  saved_died done cause (Died k) result saves dies named holds tells =
      subst (λ (x : Dead). GoesAs view host name n b old new c (replies (dead_text done x) (gone x c)) result) (sym saves)
      (obeys_tells host (OpensAs name) (IsNoFileOf name) (IsAt view host n b new) (λ (q : Point Commit). q.kept) c (dead_text done cause) (gone cause c) result old new tells
      (λ told. subst (λ (x : List ℕ). IsAtRest host (OpensAs x) c old) (sym named) (holds_rest host b c holds told))
      (when_ok result (record { stands = dies; holds = holds_said host b c tells.says holds })) refl)
  saved_died done cause (Went u t) result saves dies named holds tells = absurd saves

-- A RUN

-- Some first deeds of a course were done, and then commit d stands, and the rest of the course is left.
pub record DidFirst {D : Type 0} (host : Ghosts D) (name : List ℕ) (c : Commit) (course : Course Commit (Point Commit)) (d : Commit) (rest : Course Commit (Point Commit)) (old now : D) : Type 0 where
  pub deeds : List (Deed Commit)
  pub last : last_of c deeds ≡ d
  pub did : Did host (OpensAs name) (IsNoFileOf name) c deeds old now
  pub all : preceded deeds rest ≡ course

module _ {D : Type 0} (host : Ghosts D) (name : List ℕ) (c : Commit) (course : Course Commit (Point Commit)) where
  pub first_none : (now : D) → OnlyNow host now → (IsTrue host.is_told → IsAtRest host (OpensAs name) c now) → DidFirst host name c course c course now now
  first_none now only rest = record {
    deeds = [];
    last = refl;
    did = did_none host (OpensAs name) (IsNoFileOf name) c now rest only;
    all = preceded_none course;
  }

  module _ {d : Commit} {rest : Course Commit (Point Commit)} {old mid : D} (first : DidFirst host name c course d rest old mid) where
    -- deeds more
    pub first_then : (ds : List (Deed Commit)) (more : Course Commit (Point Commit)) (new : D) → Did host (OpensAs name) (IsNoFileOf name) d ds mid new → rest ≡ preceded ds more → DidFirst host name c course (last_of d ds) more old new
    first_then ds more new did is = record {
      deeds = first.deeds ++ ds;
      last = last_of_both c first.deeds ds ∙ ap (λ (x : Commit). last_of x ds) first.last;
      did = did_join host (OpensAs name) (IsNoFileOf name) c first.deeds ds old mid new first.did (subst (λ (x : Commit). Did host (OpensAs name) (IsNoFileOf name) x ds mid new) (sym first.last) did);
      all = preceded_both first.deeds ds more ∙ (ap (preceded first.deeds) (sym is) ∙ first.all);
    }

    -- the rest, done or not
    pub first_ends : (at : Point Commit → Type 0) (result : Result Unit Status) (new : D) → Obeys host (OpensAs name) (IsNoFileOf name) at (λ (q : Point Commit). q.kept) d rest result mid new
        → Obeys host (OpensAs name) (IsNoFileOf name) at (λ (q : Point Commit). q.kept) c course result old new
    first_ends at result new h =
        obeys_as host (OpensAs name) (IsNoFileOf name) at (λ (q : Point Commit). q.kept) c (preceded first.deeds rest) course result old new first.all
        (obeys_behind host (OpensAs name) (IsNoFileOf name) at (λ (q : Point Commit). q.kept) c first.deeds rest result old mid new first.did
        (subst (λ (x : Commit). Obeys host (OpensAs name) (IsNoFileOf name) at (λ (q : Point Commit). q.kept) x rest result mid new) (sym first.last) h))

-- Where so many of n cycles are finished the machine shows a state, the archive holds a commit, and what was done is the first
-- part of the run's course from s and c.
pub record RanSoFar {M D : Type 0} (view : M → View) (host : Ghosts D) (look : ℕ → State Table → Look) (name : List ℕ) (n : ℕ) (s : State Births) (c : Commit) (done : ℕ) (m : Machine M) (a : ArchiveState) (old now : D) : Type 0 where
  pub state : State Births
  pub commit : Commit
  pub shows : Shows (shown_by view m) state
  pub holds : Holds host now a commit
  pub first : DidFirst host name c (watched_course in_a_store look 0 n s c) commit (watched_course in_a_store look done (n - done) state commit) old now

pub ran_none : {M D : Type 0} (view : M → View) (host : Ghosts D) (look : ℕ → State Table → Look) (n : ℕ) (s : State Births) (c : Commit) (m : Machine M) (a : ArchiveState) (now : D) → OnlyNow host now → Shows (shown_by view m) s → Holds host now a c → RanSoFar view host look a.name n s c 0 m a now now
ran_none view host look n s c m a now only shows holds = record {
  state = s;
  commit = c;
  shows = shows;
  holds = holds;
  first = subst (λ (k : ℕ). DidFirst host a.name c (watched_course in_a_store look 0 n s c) c (watched_course in_a_store look 0 k s c) now now) (let e : n ≡ n - 0 = omega arith in e)
      (first_none host a.name c (watched_course in_a_store look 0 n s c) now only (holds_rest host a c holds));
}

module _ {M D : Type 0} (view : M → View) (host : Ghosts D) (look : ℕ → State Table → Look) {name : List ℕ} {n : ℕ} {s : State Births} {c : Commit} {done : ℕ} {m : Machine M} {a : ArchiveState} {old now : D} (far : RanSoFar view host look name n s c done m a old now) (few : done ≤ n) (named : name ≡ a.name) (m1 : Machine M) (mid : D) where
  abbrev next : Stretch
  next = watched_stretch look done (n - done) far.state

  abbrev texts : List (Deed Commit)
  texts = replies_of next.texts

  abbrev Says_next : Result (Option ℕ) Status → Type 0
  Says_next result = SaysStretch host m1.death (shown_by view m1) next now mid result

  rest_now : IsTrue host.is_told → IsAtRest host (OpensAs name) far.commit now
  rest_now told = subst (λ (x : List ℕ). IsAtRest host (OpensAs x) far.commit now) (sym named) (holds_rest host a far.commit far.holds told)

  telling : (result : Result Unit Status) → Tells host (words_of next.texts) now mid result → Tells host (said_of texts) now mid result
  telling result h = subst (λ (t : List ℕ). Tells host t now mid result) (sym (said_in_turn Commit next.texts)) h

  next_is : watched_course in_a_store look done (n - done) far.state far.commit ≡ preceded texts (onward in_a_store (watched_course in_a_store look) n far.commit next.stop)
  next_is = watched_is in_a_store look n done far.state far.commit few

  -- the stretch was said
  said_first : Tells host (words_of next.texts) now mid (Ok tt) → DidFirst host name c (watched_course in_a_store look 0 n s c) far.commit (onward in_a_store (watched_course in_a_store look) n far.commit next.stop) old mid
  said_first h =
      let all = telling (Ok tt) h in
      subst (λ (x : Commit). DidFirst host name c (watched_course in_a_store look 0 n s c) x (onward in_a_store (watched_course in_a_store look) n far.commit next.stop) old mid) (last_unkept far.commit texts (unkept Commit next.texts))
      (first_then host name c (watched_course in_a_store look 0 n s c) far.first texts (onward in_a_store (watched_course in_a_store look) n far.commit next.stop) mid
      (said_did host (OpensAs name) (IsNoFileOf name) far.commit texts now mid (unkept Commit next.texts) rest_now all.all all.says) next_is)

  held : {result : Result Unit Status} → Tells host (words_of next.texts) now mid result → Holds host mid a far.commit
  held h = holds_said host a far.commit h.says far.holds

  -- up to the run's end
  pub run_over : OnlyNow host mid → Says_next (Ok None) → GoesAs view host name m1 a old mid c (watched_course in_a_store look 0 n s c) (Ok tt)
  run_over only h =
      let o = is_over_at in_a_store (watched_course in_a_store look) m1.death (shown_by view m1) n far.commit next h.stops in
      let x : Point Commit = record { being = o.being; kept = far.commit } in
      first_ends host name c (watched_course in_a_store look 0 n s c) (said_first h.tells) (IsAt view host m1 a mid) (Ok tt) mid
      (obeys_as host (OpensAs name) (IsNoFileOf name) (IsAt view host m1 a mid) (λ (q : Point Commit). q.kept) far.commit (Goes [] x) (onward in_a_store (watched_course in_a_store look) n far.commit next.stop) (Ok tt) mid mid (sym o.follows)
      (obeys_none host (OpensAs name) (IsNoFileOf name) (IsAt view host m1 a mid) (λ (q : Point Commit). q.kept) far.commit x only
      (λ told. subst (λ (y : List ℕ). IsAtRest host (OpensAs y) far.commit mid) (sym named) (holds_rest host a far.commit (held h.tells) told))
      (record { stands = o.stands; holds = held h.tells }) refl))

  -- or it wasn't all said
  pub run_unsaid : (m2 : Machine M) (b : ArchiveState) (e : Status) → Says_next (Err e) → GoesAs view host name m2 b old mid c (watched_course in_a_store look 0 n s c) (Err e)
  run_unsaid m2 b e h =
      let cut = telling (Err e) h.tells in
      let run = watched_course in_a_store look done (n - done) far.state far.commit in
      first_ends host name c (watched_course in_a_store look 0 n s c) far.first (IsAt view host m2 b mid) (Err e) mid
      (subst (λ (x : Status). GoesAs view host name m2 b now mid far.commit run (Err x)) (sym cut.fault)
      (obeys_as host (OpensAs name) (IsNoFileOf name) (IsAt view host m2 b mid) (λ (q : Point Commit). q.kept) far.commit (preceded texts (onward in_a_store (watched_course in_a_store look) n far.commit next.stop)) run (Err status.SayFault) now mid (sym next_is)
      (obeys_begun host (OpensAs name) (IsNoFileOf name) (IsAt view host m2 b mid) (λ (q : Point Commit). q.kept) far.commit texts (onward in_a_store (watched_course in_a_store look) n far.commit next.stop) status.SayFault now mid tt
      (said_began host (OpensAs name) (IsNoFileOf name) far.commit texts now mid (unkept Commit next.texts) rest_now cut.says))))

  -- up to a snapshot
  module _ {x : Option ℕ} {j : ℕ} (is : x ≡ Some j) (says : (t : State Births) → Shows (shown_by view m) t → SaysStretch host m1.death (shown_by view m1) (watched_stretch look done (n - done) t) now mid (Ok x)) (m2 : Machine M) (b : ArchiveState) (new : D) where
    h : Says_next (Ok (Some j))
    h = subst (λ (y : Option ℕ). Says_next (Ok y)) is (says far.state far.shows)

    -- what the snapshot did, from wherever it was begun
    abbrev Snapped : Result Unit Status → Type 0
    Snapped result = (p : Point Commit) → IsAt view host m1 a mid p → GoesAs view host a.name m2 b mid new p.kept (going_on in_a_store (in_a_store.snapshot j) p.being p.kept) result

    asked : IsAskedAt in_a_store (watched_course in_a_store look) m1.death (shown_by view m1) n far.commit j next
    asked = is_asked_at in_a_store (watched_course in_a_store look) m1.death (shown_by view m1) n far.commit j next h.stops

    abbrev snap : Course Commit (Point Commit)
    snap = in_a_store.snapshot j asked.state far.commit

    abbrev cont : Point Commit → Course Commit (Point Commit)
    cont p = going_on in_a_store (watched_course in_a_store look j (n - j)) p.being p.kept

    -- where the snapshot is begun
    at_snapshot : IsAt view host m1 a mid (alive asked.state far.commit)
    at_snapshot = record { stands = (asked.lives, asked.shows); holds = held h.tells }

    to_snapshot : DidFirst host name c (watched_course in_a_store look 0 n s c) far.commit (and_then snap cont) old mid
    to_snapshot = subst (λ x. DidFirst host name c (watched_course in_a_store look 0 n s c) far.commit x old mid) asked.follows (said_first h.tells)

    here : (result : Result Unit Status) → Snapped result → GoesAs view host name m2 b mid new far.commit snap result
    here result run = subst (λ (y : List ℕ). GoesAs view host y m2 b mid new far.commit snap result) (sym named) (run (alive asked.state far.commit) at_snapshot)

    pub snapshot_failed : (e : Status) → Snapped (Err e) → GoesAs view host name m2 b old new c (watched_course in_a_store look 0 n s c) (Err e)
    snapshot_failed e run =
        first_ends host name c (watched_course in_a_store look 0 n s c) to_snapshot (IsAt view host m2 b new) (Err e) new
        (obeys_err host (OpensAs name) (IsNoFileOf name) (IsAt view host m2 b new) (λ (q : Point Commit). q.kept) (IsAt view host m2 b new) (λ (q : Point Commit). q.kept) far.commit snap cont e mid new (here (Err e) run))

    -- the machine died of saving
    pub snapshot_died : (cause : Dead) → m2.death ≡ Some cause → name ≡ b.name → OnlyNow host new → Snapped (Ok tt) → GoesAs view host name m2 b old new c (watched_course in_a_store look 0 n s c) (Ok tt)
    snapshot_died cause dies same only run =
        first_ends host name c (watched_course in_a_store look 0 n s c) to_snapshot (IsAt view host m2 b new) (Ok tt) new
        (obeys_then host (OpensAs name) (IsNoFileOf name) (IsAt view host m2 b new) (λ (q : Point Commit). q.kept) (IsAt view host m2 b new) (λ (q : Point Commit). q.kept) far.commit snap cont (Ok tt) mid new new (here (Ok tt) run) ended)
      where
        ended : (x : Point Commit) → IsAt view host m2 b new x → GoesAs view host name m2 b new new x.kept (cont x) (Ok tt)
        ended x at = over x.being at.stands
          where
            over : (being : Being) → IsBeing m2.death (shown_by view m2) being → GoesAs view host name m2 b new new x.kept (going_on in_a_store (watched_course in_a_store look j (n - j)) being x.kept) (Ok tt)
            over (Alive t) w = let none : Some cause ≡ None = sym dies ∙ w.0 in cc
            over (Gone k) w =
                obeys_none host (OpensAs name) (IsNoFileOf name) (IsAt view host m2 b new) (λ (q : Point Commit). q.kept) x.kept (gone k x.kept) only
                (λ told. subst (λ (y : List ℕ). IsAtRest host (OpensAs y) x.kept new) (sym same) (holds_rest host b x.kept at.holds told))
                (record { stands = w; holds = at.holds }) refl

    -- or the run goes on
    pub snapshot_kept : m2.death ≡ None → Snapped (Ok tt) → RanSoFar view host look name n s c j m2 b old new
    snapshot_kept lives run = over snap refl (here (Ok tt) run)
      where
        over : (course : Course Commit (Point Commit)) → snap ≡ course → GoesAs view host name m2 b mid new far.commit course (Ok tt) → RanSoFar view host look name n s c j m2 b old new
        over (Ends ds e) is r = absurd r
        over (Goes ds x) is r = at x.being refl r.0.stands
          where
            at : (being : Being) → x.being ≡ being → IsBeing m2.death (shown_by view m2) being → RanSoFar view host look name n s c j m2 b old new
            at (Gone k) same w = let none : Some k ≡ None = sym w ∙ lives in cc
            at (Alive t) same w = record {
              state = t;
              commit = x.kept;
              shows = w.1;
              holds = r.0.holds;
              first = subst (λ (d : Commit). DidFirst host name c (watched_course in_a_store look 0 n s c) d (watched_course in_a_store look j (n - j) t x.kept) old new) (sym r.1)
                  (first_then host name c (watched_course in_a_store look 0 n s c) to_snapshot ds (watched_course in_a_store look j (n - j) t x.kept) new r.2
                  (ap (λ y. and_then y cont) is ∙ ap (λ y. preceded ds (going_on in_a_store (watched_course in_a_store look j (n - j)) y x.kept)) same));
            }
