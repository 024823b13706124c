-- How the making of a store ends, from its parts: something is read, the store is made of it, and a line is said.
use Rattle.std.proofs.Common.{◌≡◌, ◌⊎◌, inl, inr, ⊎_elim, ℕ, ◌≤◌, List, ◌++◌, ◌∙◌, IsTrue, refl, sym, ap, subst}
use Rattle.std.specs.Prelude.{All}
use Rattle.st_host.specs.Counts.{Rose}
use Rattle.st_host.specs.Files.{Files, bytes_of}
use Rattle.st_host.specs.Runs.{LeavesOnly, OnlyReads, Narrows, ReadsAlike, ReadsAndSays, SaysAll, Spares, IsAtRest}
use Rattle.st_host.specs.Stops.{Here, SaidPart, WhileSaying}
use Rattle.st_host.specs.inside.Telling.{Says}
use Rattle.st_host.specs.declared.host.Host.{Ghosts}
use Rattle.st_host.proofs.Joining.{weaker, moments_join}
use Rattle.st_host.proofs.Rising.{rose_second}
use Rattle.st_chunk.specs.Definitions.{IsDefinition}
use Rattle.st_store.specs.Faults.{RestsUnlessLetters}
use Rattle.st_store.specs.Founding.{IsCleared}
use Rattle.st_store.specs.Names.{roots_file}
use Rattle.st_store.specs.Roots.{HasLetters}
use Rattle.st_store.specs.Stored.{StoreState, IsKept}
use Rattle.st_store.specs.Refusals.{RefusesNew, IsOfMaking}
use Rattle.st_store.specs.declared.fault.StoreFault.{StoreFault}
use Rattle.st_store.specs.declared.fault.StoreFault.TheVariants as unmade
use Rattle.st_protocol.specs.declared.status.Status.{Status}
use Rattle.st_protocol.specs.declared.status.Status.TheVariants as status
use Rattle.st_protocol.specs.Statuses.{StatusHasCause}
use Rattle.st_recover.specs.Images.{IsReadable}
use Rattle.st_recover.specs.Commits.{Commit, OpensAs, all_of, stored_of}
use Rattle.st_recover.specs.Creating.{IsMade, IsNoFirstFile, AreFirstFiles}
use Rattle.st_session.specs.declared.making.Origin.{Origin}
use Rattle.st_call.specs.LastLines.{last_line, SaysLastLine}
use Rattle.st_call.specs.Refusals.{store_status}
use Rattle.st_session.specs.Commands.{LeavesAlone}
use Rattle.st_session.specs.Makings.{Contents, commit_of, made_text, IsThere, IsUnread, IsMadeOf, MakingHas, IsMaking, IsUnbegun, KeepsFiles, MakingEnds}
use Rattle.st_session.specs.Resting.{LettersFailed}
use Rattle.st_session.proofs.LastLines.{part_not_made, none_not_made}

-- a store at rest opens as what it holds, where its image can be read
pub kept_rests : {D : Type 0} (host : Ghosts D) (h : D) (name : List ℕ) (c : Commit) (slot : ℕ) (store : StoreState) → store.name ≡ name → IsReadable c.image → All IsDefinition (all_of c) → IsKept host h store (stored_of slot c)
    → IsAtRest host (OpensAs name) c h
kept_rests host h name c slot store named readable good kept = record {
  opens_as = λ f can. subst (λ n. OpensAs n c f) named (record {
    slot = slot;
    opens = record {
      number = store.chosen;
      chosen = kept.is.roots (f (roots_file store.name)) (can (roots_file store.name));
      sound = kept.is.firm.sound;
      image = kept.is.firm.image (f _) (can _);
      changes = kept.is.firm.changes (f _) (can _);
    };
    readable = readable;
    good = good;
  });
}

-- what the making of a store does, whether it comes about or not
pub record Tries {D : Type 0} (host : Ghosts D) (name : List ℕ) (c : Commit) (old new : D) : Type 0 where
  pub moments : IsTrue host.is_told → LeavesOnly host old new (λ f s. (s ≡ host.said old) × IsMade host name c old f)
  pub left : (f : Files) → IsTrue host.is_told → ((n : List ℕ) → host.may_leave new n (f n)) → IsMade host name c old f
  pub quiet : IsTrue host.is_told → host.said new ≡ host.said old
  pub spares : Spares host (IsNoFirstFile name) old new
  pub say : host.say_faults new ≡ host.say_faults old
  pub disk : host.disk_faults old ≤ host.disk_faults new

-- a creation of a store that said nothing
pub tried : {D : Type 0} (host : Ghosts D) (name : List ℕ) (c : Commit) (old new : D) → (IsTrue host.is_told → LeavesOnly host old new (λ f s. (s ≡ host.said old) × IsMade host name c old f))
    → ((f : Files) → IsTrue host.is_told → ((n : List ℕ) → host.may_leave new n (f n)) → IsMade host name c old f) → (IsTrue host.is_told → host.said new ≡ host.said old) → Spares host (IsNoFirstFile name) old new
    → host.say_faults new ≡ host.say_faults old → host.disk_faults old ≤ host.disk_faults new → Tries host name c old new
tried host name c old new moments left quiet spares say disk = record { moments = moments; left = left; quiet = quiet; spares = spares; say = say; disk = disk }

-- a last line, behind calls that said nothing
line_behind : {D : Type 0} (host : Ghosts D) (e : Status) (old made new : D) → (IsTrue host.is_told → host.said made ≡ host.said old) → host.say_faults made ≡ host.say_faults old → SaysLastLine host e made new → SaysLastLine host e old new
line_behind host e old made new quiet say line = record {
  part = λ told. subst (λ (t : List ℕ). SaidPart t (last_line e) (host.said new)) (quiet told) (line.part told);
  whole = λ calm told. line.whole (λ rose. calm (subst (λ n. Rose n (host.say_faults new)) say rose)) told ∙ ap (λ (t : List ℕ). t ++ last_line e) (quiet told);
}

-- THE STORE IS MADE

module _ {D : Type 0} (host : Ghosts D) (origin : Origin) (c : Contents) (store : List ℕ) (old made : D) (tries : Tries host store (commit_of c) old made) where
  -- a stop while the store is made of these contents
  abbrev At : Files → List ℕ → Type 0
  At = IsMaking host origin (λ x. x ≡ c) (λ e. ⊥) store old

  abbrev Ends : D → Status → Type 0
  Ends = MakingEnds host origin (λ x. x ≡ c) (λ e. ⊥) store old

  made_from : (f : Files) (s : List ℕ) → IsMade host store (commit_of c) old f → (s ≡ host.said old ++ made_text origin c → ⊥) → At f s
  made_from f s is none = record {
    files = ⊎_elim (λ can. inl can) (λ new. inr (c, refl, new.0, new.1)) is;
    said = λ x same e. absurd (none (e ∙ ap (λ (y : Contents). host.said old ++ made_text origin y) same));
  }

  tried_moments : IsTrue host.is_told → LeavesOnly host old made At
  tried_moments told =
      weaker host old made At (λ f s. (s ≡ host.said old) × IsMade host store (commit_of c) old f) (tries.moments told)
      (λ f s so. made_from f s so.1 (none_not_made origin c (host.said old) s so.0))

  alone_with : (new : D) (text : List ℕ) → ReadsAlike host made new → ReadsAndSays host text made new → LeavesAlone host (IsNoFirstFile store) old new
  alone_with new text same line = record {
    alike = λ calm told n is. same.same told n ∙ tries.spares.files told n is;
    fewer = λ told n x is can. tries.spares.fewer told n x is ((line.stops told).fewer n x can);
    more = λ told n x is could. (line.stops told).more n x (tries.spares.more told n x is could);
  }

  -- or it is refused
  module _ (fault : StoreFault) (kind : IsOfMaking fault) (why : IsTrue host.is_told → RefusesNew (host.files old (roots_file store)) fault) where
    failed_has : (e : Status) (new : D) → e ≡ store_status fault → SaysLastLine host e old new → MakingHas host origin (λ x. x ≡ c) (λ e. ⊥) store old new e
    failed_has e new is line =
        subst (MakingHas host origin (λ x. x ≡ c) (λ e. ⊥) store old new) (sym is) (each fault kind why (subst (λ (x : Status). SaysLastLine host x old new) is line))
      where
        each : (r : StoreFault) → IsOfMaking r → (IsTrue host.is_told → RefusesNew (host.files old (roots_file store)) r) → SaysLastLine host (store_status r) old new → MakingHas host origin (λ x. x ≡ c) (λ e. ⊥) store old new (store_status r)
        each unmade.Missing kind why line = absurd kind
        each unmade.Exists kind why line = (λ told. (c, refl, why told), line)
        each (unmade.NotAStore place) kind why line = absurd kind
        each unmade.Disk kind why line = line
        each unmade.OutOfMemory kind why line = line

    failed_whole : (e : Status) → e ≡ store_status fault → (fault ≡ unmade.Disk → Rose (host.disk_faults old) (host.disk_faults made))
        → IsTrue host.is_told → (IsThere host store old → ⊥) → (Rose (host.disk_faults old) (host.disk_faults made) → ⊥) → (e ≡ status.Done) ⊎ (e ≡ status.OutOfMemory)
    failed_whole e is cause told none calm = each fault kind (why told) is cause
      where
        each : (r : StoreFault) → IsOfMaking r → RefusesNew (host.files old (roots_file store)) r → e ≡ store_status r → (r ≡ unmade.Disk → Rose (host.disk_faults old) (host.disk_faults made)) → (e ≡ status.Done) ⊎ (e ≡ status.OutOfMemory)
        each unmade.Missing kind why is cause = absurd kind
        each unmade.Exists kind why is cause = absurd (none why)
        each (unmade.NotAStore place) kind why is cause = absurd kind
        each unmade.Disk kind why is cause = absurd (calm (cause refl))
        each unmade.OutOfMemory kind why is cause = inr is

    failed_unbegun : (e : Status) (new : D) → e ≡ store_status fault → ((fault ≡ unmade.Disk → ⊥) → Narrows host old made) → ReadsAndSays host (last_line e) made new → ReadsAlike host made new
        → host.disk_faults new ≡ host.disk_faults made → IsUnbegun e → KeepsFiles host old new
    failed_unbegun e new is nothing line alike disk unbegun =
        let narrows = nothing (λ same. subst IsUnbegun (is ∙ ap store_status same) unbegun) in
        record {
          alike = λ calm told n. alike.same told n ∙ (narrows.alike (λ rose. calm (subst (Rose (host.disk_faults old)) (sym disk) rose))).same told n;
          fewer = λ told n x can. narrows.fewer told n x ((line.stops told).fewer n x can);
        }

    pub failed_ends : (IsTrue host.is_told → RestsUnlessLetters host {C = Unit} (λ u f. IsCleared host store old f) store tt made) → (e : Status) (new : D) → e ≡ store_status fault → (fault ≡ unmade.Disk → Rose (host.disk_faults old) (host.disk_faults made))
        → ((fault ≡ unmade.Disk → ⊥) → Narrows host old made) → SaysLastLine host e made new → ReadsAndSays host (last_line e) made new → ReadsAlike host made new → host.disk_faults new ≡ host.disk_faults made → Ends new e
    failed_ends broken e new is cause nothing says line alike disk = record {
      has = failed_has e new is (line_behind host e old made new tries.quiet tries.say says);
      moments = λ told. moments_join host old made new At (WhileSaying (host.may_leave made) (host.said made) (last_line e)) (tried_moments told) (line.moments told)
          (λ f s w. made_from f s (tries.left f told w.0) (part_not_made origin c e (host.said old) s (subst (λ (t : List ℕ). SaidPart t (last_line e) s) (tries.quiet told) w.1)));
      broken = λ fault told. ⊎_elim
          (λ rest. inl (λ f can. rest.opens_as f (λ n. (line.stops told).fewer n (f n) (can n))))
          (λ letters. inr (record { failed = made; fails = letters; behind = line.stops told }))
          (broken told);
      unbegun = failed_unbegun e new is nothing line alike disk;
      alone = alone_with new (last_line e) alike line;
      complete = λ told x same none calm say. failed_whole e is cause told none (λ rose. calm (subst (Rose (host.disk_faults old)) (sym disk) rose));
    }

  module _ (none : IsTrue host.is_told → IsThere host store old → ⊥) (rest : IsTrue host.is_told → IsAtRest host (OpensAs store) (commit_of c) made) (files : IsTrue host.is_told → AreFirstFiles store (commit_of c).image (host.files made))
      (new : D) (says : Says host (made_text origin c) made new) where
    done_moments : IsTrue host.is_told → LeavesOnly host old new At
    done_moments told =
        moments_join host old made new At (WhileSaying (host.may_leave made) (host.said made) (made_text origin c)) (tried_moments told) (says.part.moments told)
        (λ f s w. let opens = (rest told).opens_as f w.0 in record {
          files = inr (c, refl, none told, inr opens);
          said = λ x same e. subst (λ (y : Contents). OpensAs store (commit_of y) f) (sym same) opens;
        })

    is_made : IsTrue host.is_told → IsMadeOf host origin (λ x. x ≡ c) (λ e. ⊥) store c old new
    is_made told = record {
      read = refl;
      none = none told;
      files = record {
        roots = says.alike.same told _ ∙ (files told).roots;
        picture = says.alike.same told _ ∙ (files told).picture;
        changes = says.alike.same told _ ∙ (files told).changes;
      };
      rest = record { opens_as = λ f can. (rest told).opens_as f (λ n. (says.part.stops told).fewer n (f n) (can n)) };
    }

    pub done_ends : SaysAll host (made_text origin c) made new → Ends new status.Done
    done_ends all = record {
      has = λ told. (c, is_made told, all.is told ∙ ap (λ (t : List ℕ). t ++ made_text origin c) (tries.quiet told));
      moments = done_moments;
      broken = λ fault told. let e : status.Done ≡ status.DiskFault = fault in cc;
      unbegun = λ none. absurd none;
      alone = alone_with new (made_text origin c) says.alike says.part;
      complete = λ told x same none calm say. inl refl;
    }

    pub unsaid_ends : Rose (host.say_faults made) (host.say_faults new) → Ends new status.SayFault
    unsaid_ends rose = record {
      has = λ told. (c, is_made told, subst (λ (t : List ℕ). SaidPart t (made_text origin c) (host.said new)) (tries.quiet told) (says.part.part told));
      moments = done_moments;
      broken = λ fault told. let e : status.SayFault ≡ status.DiskFault = fault in cc;
      unbegun = λ none. absurd none;
      alone = alone_with new (made_text origin c) says.alike says.part;
      complete = λ told x same none calm say. absurd (say (subst (λ n. Rose n (host.say_faults new)) tries.say rose));
    }

-- BEHIND WHAT WAS READ

module _ {D : Type 0} (host : Ghosts D) (origin : Origin) (right : Contents → Type 0) (wrong : Status → Type 0) (store : List ℕ) (old mid new : D) (reads : OnlyReads host old mid) where
  -- nothing has changed
  untouched : (f : Files) (s : List ℕ) → ((n : List ℕ) → host.may_leave old n (f n)) → ((c : Contents) → s ≡ host.said old ++ made_text origin c → ⊥) → IsMaking host origin right wrong store old f s
  untouched f s can none = record { files = inl can; said = λ c is e. absurd (none c e) }

  read_moments : IsTrue host.is_told → LeavesOnly host old mid (IsMaking host origin right wrong store old)
  read_moments told =
      weaker host old mid (IsMaking host origin right wrong store old) (Here (host.may_leave old) (host.said old)) (reads.moments told)
      (λ f s here. untouched f s here.0 (λ c. none_not_made origin c (host.said old) s here.1))

  -- NOTHING WAS READ

  unread_has : (e : Status) → IsUnread wrong e → SaysLastLine host e old new → MakingHas host origin right wrong store old new e
  unread_has status.Done is line = absurd is
  unread_has status.Usage is line = (is, line)
  unread_has (status.Image f) is line = (is, line)
  unread_has (status.Script n) is line = (is, line)
  unread_has status.ReadFault is line = (is, line)
  unread_has status.SayFault is line = absurd is
  unread_has status.DiskFault is line = line
  unread_has (status.Store fault) is line = absurd is
  unread_has (status.Kernel chunk cause) is line = (is, line)
  unread_has status.TooLarge is line = (is, line)
  unread_has status.OutOfMemory is line = line

  unread_whole : (e : Status) → IsUnread wrong e → (wrong e → ⊥) → StatusHasCause host ⊥ old mid e → (Rose (host.disk_faults old) (host.disk_faults mid) → ⊥) → (e ≡ status.Done) ⊎ (e ≡ status.OutOfMemory)
  unread_whole status.Done is clash cause calm = inl refl
  unread_whole status.Usage is clash cause calm = absurd (clash is)
  unread_whole (status.Image f) is clash cause calm = absurd (clash is)
  unread_whole (status.Script n) is clash cause calm = absurd (clash is)
  unread_whole status.ReadFault is clash cause calm = absurd cause
  unread_whole status.SayFault is clash cause calm = absurd is
  unread_whole status.DiskFault is clash cause calm = absurd (calm cause)
  unread_whole (status.Store fault) is clash cause calm = absurd is
  unread_whole (status.Kernel chunk cause) is clash h calm = absurd (clash is)
  unread_whole status.TooLarge is clash cause calm = absurd (clash is)
  unread_whole status.OutOfMemory is clash cause calm = inr refl

  pub unread_ends : (e : Status) → IsUnread wrong e → (IsTrue host.is_told → (c : Contents) → right c → wrong e → ⊥) → StatusHasCause host ⊥ old mid e
      → SaysLastLine host e mid new → ReadsAndSays host (last_line e) mid new → ReadsAlike host mid new → host.disk_faults new ≡ host.disk_faults mid → MakingEnds host origin right wrong store old new e
  unread_ends e is clash cause says line alike disk = record {
    has = unread_has e is (line_behind host e old mid new reads.quiet reads.say says);
    moments = λ told. moments_join host old mid new (IsMaking host origin right wrong store old) (WhileSaying (host.may_leave mid) (host.said mid) (last_line e)) (read_moments told) (line.moments told)
        (λ f s w. untouched f s (λ n. (reads.stops told).fewer n (f n) (w.0 n))
        (λ c. part_not_made origin c e (host.said old) s (subst (λ (t : List ℕ). SaidPart t (last_line e) s) (reads.quiet told) w.1)));
    broken = λ fault told. inl (λ f can. inl (λ n. (reads.stops told).fewer n (f n) ((line.stops told).fewer n (f n) (can n))));
    unbegun = λ none. record {
      alike = λ calm told n. alike.same told n ∙ (reads.alike (λ rose. calm (subst (Rose (host.disk_faults old)) (sym disk) rose))).same told n;
      fewer = λ told n x can. (reads.stops told).fewer n x ((line.stops told).fewer n x can);
    };
    alone = record {
      alike = λ calm told n is. alike.same told n ∙ (reads.alike (λ rose. calm (subst (Rose (host.disk_faults old)) (sym disk) rose))).same told n;
      fewer = λ told n x is can. (reads.stops told).fewer n x ((line.stops told).fewer n x can);
      more = λ told n x is could. (line.stops told).more n x ((reads.stops told).more n x could);
    };
    complete = λ told c read none calm say. unread_whole e is (clash told c read) cause (λ rose. calm (subst (Rose (host.disk_faults old)) (sym disk) rose));
  }

  -- A STORE IS MADE OF IT

  module _ (alike : ReadsAlike host old mid) (read : Contents → Type 0) (so : IsTrue host.is_told → (c : Contents) → read c → right c) (back : IsTrue host.is_told → (c : Contents) → right c → read c) where
    roots_same : IsTrue host.is_told → bytes_of (host.files mid (roots_file store)) ≡ bytes_of (host.files old (roots_file store))
    roots_same told = ap bytes_of (alike.same told (roots_file store))

    there_before : IsTrue host.is_told → IsThere host store mid → IsThere host store old
    there_before told h = subst HasLetters (roots_same told) h

    none_before : IsTrue host.is_told → (IsThere host store mid → ⊥) → IsThere host store old → ⊥
    none_before told none h = none (subst HasLetters (sym (roots_same told)) h)

    none_behind : IsTrue host.is_told → (IsThere host store old → ⊥) → IsThere host store mid → ⊥
    none_behind told none h = none (there_before told h)

    cleared_before : IsTrue host.is_told → (f : Files) → IsCleared host store mid f → IsCleared host store old f
    cleared_before told f (inl can) = inl (λ n. (reads.stops told).fewer n (f n) (can n))
    cleared_before told f (inr none) = inr (none_before told none.0, none.1)

    broken_behind : IsTrue host.is_told → ((f : Files) → ((n : List ℕ) → host.may_leave new n (f n)) → IsCleared host store mid f) ⊎ LettersFailed host {C = Unit} (λ u f. IsCleared host store mid f) store tt new
        → ((f : Files) → ((n : List ℕ) → host.may_leave new n (f n)) → IsCleared host store old f) ⊎ LettersFailed host {C = Unit} (λ u f. IsCleared host store old f) store tt new
    broken_behind told (inl rest) = inl (λ f can. cleared_before told f (rest f can))
    broken_behind told (inr letters) = inr (record {
      failed = letters.failed;
      fails = record {
        before = letters.fails.before;
        rest = record { opens_as = λ f can. cleared_before told f (letters.fails.rest.opens_as f can) };
        writes = letters.fails.writes;
        fault = letters.fails.fault;
      };
      behind = letters.behind;
    })

    made_behind : IsTrue host.is_told → (c : Contents) → IsMadeOf host origin read (λ e. ⊥) store c mid new → IsMadeOf host origin right wrong store c old new
    made_behind told c made = record { read = so told c made.read; none = none_before told made.none; files = made.files; rest = made.rest }

    has_behind : (e : Status) → MakingHas host origin read (λ e. ⊥) store mid new e → MakingHas host origin right wrong store old new e
    has_behind status.Done h = λ told. let made = h told in (made.0, made_behind told made.0 made.1, made.2 ∙ ap (λ (t : List ℕ). t ++ made_text origin made.0) (reads.quiet told))
    has_behind status.SayFault h = λ told. let made = h told in (made.0, made_behind told made.0 made.1, subst (λ (t : List ℕ). SaidPart t (made_text origin made.0) (host.said new)) (reads.quiet told) made.2)
    has_behind status.DiskFault h = line_behind host status.DiskFault old mid new reads.quiet reads.say h
    has_behind (status.Store unmade.Exists) h = (
      λ told. let there = h.0 told in (there.0, so told there.0 there.1, there_before told there.2),
      line_behind host (status.Store unmade.Exists) old mid new reads.quiet reads.say h.1,
    )
    has_behind (status.Store unmade.Missing) h = absurd h
    has_behind (status.Store (unmade.NotAStore place)) h = absurd h
    has_behind (status.Store unmade.Disk) h = absurd h
    has_behind (status.Store unmade.OutOfMemory) h = absurd h
    has_behind status.OutOfMemory h = line_behind host status.OutOfMemory old mid new reads.quiet reads.say h
    has_behind status.Usage h = absurd h.0
    has_behind (status.Image f) h = absurd h.0
    has_behind (status.Script n) h = absurd h.0
    has_behind status.ReadFault h = absurd h.0
    has_behind (status.Kernel chunk cause) h = absurd h.0
    has_behind status.TooLarge h = absurd h.0

    while_made : IsTrue host.is_told → (f : Files) (s : List ℕ) → IsMaking host origin read (λ e. ⊥) store mid f s → IsMaking host origin right wrong store old f s
    while_made told f s at = record {
      files = ⊎_elim (λ can. inl (λ n. (reads.stops told).fewer n (f n) (can n))) (λ made. inr (made.0, so told made.0 made.1, none_before told made.2, made.3)) at.files;
      said = λ c is e. at.said c (back told c is) (e ∙ ap (λ (t : List ℕ). t ++ made_text origin c) (sym (reads.quiet told)));
    }

    pub read_ends : (e : Status) → MakingEnds host origin read (λ e. ⊥) store mid new e → MakingEnds host origin right wrong store old new e
    read_ends e ends = record {
      has = has_behind e ends.has;
      moments = λ told. moments_join host old mid new (IsMaking host origin right wrong store old) (IsMaking host origin read (λ e. ⊥) store mid) (read_moments told) (ends.moments told) (while_made told);
      broken = λ fault told. broken_behind told (ends.broken fault told);
      unbegun = λ none. let kept = ends.unbegun none in record {
        alike = λ calm told n. kept.alike (λ rose. calm (rose_second (host.disk_faults old) (host.disk_faults mid) (host.disk_faults new) reads.disk rose)) told n ∙ alike.same told n;
        fewer = λ told n x can. (reads.stops told).fewer n x (kept.fewer told n x can);
      };
      alone = record {
        alike = λ calm told n is. ends.alone.alike (λ rose. calm (rose_second (host.disk_faults old) (host.disk_faults mid) (host.disk_faults new) reads.disk rose)) told n is ∙ alike.same told n;
        fewer = λ told n x is can. (reads.stops told).fewer n x (ends.alone.fewer told n x is can);
        more = λ told n x is could. ends.alone.more told n x is ((reads.stops told).more n x could);
      };
      complete = λ told c is none calm say.
          ends.complete told c (back told c is) (none_behind told none) (λ rose. calm (rose_second (host.disk_faults old) (host.disk_faults mid) (host.disk_faults new) reads.disk rose))
          (λ rose. say (subst (λ n. Rose n (host.say_faults new)) reads.say rose));
    }
