-- Runs of calls that change one file.
use Rattle.std.proofs.Common.{◌≡◌, ◌≢◌, inl, inr, ⊎_elim, ℕ, ◌≤◌, List, length, Option, Result, IsTrue, refl, sym, subst, ◌∙◌, arith}
use Rattle.st_host.specs.Counts.{Rose, HasCause}
use Rattle.st_host.specs.Files.{Files, bytes_of, KeepsBelow}
use Rattle.st_host.specs.Stops.{Apart, Comes, comes, Follows, Torn, TornByWrite, TornByCut, Here, Elapses}
use Rattle.st_host.specs.inside.Names.{same_or_other}
use Rattle.st_host.specs.Runs.{ReadsAlike, OnlyReads, Narrows, Touched, Touches, Writes, Cuts, Syncs, WritesAbove, Elsewhere, ChangesOneFile, NarrowsBut, ChangesBoth, Spares}
use Rattle.st_host.specs.declared.host.Host.{Ghosts}
use Rattle.st_host.proofs.Rising.{rose_first, rose_second}
use Rattle.st_host.proofs.Joining.{weaker, moments_join, moments_once}
use Rattle.st_host.proofs.Telling.{OnlyNow}

pub torn_same : (end at n len : ℕ) (file : Option (List ℕ)) → Torn end at n len file file
torn_same end at n len file = record { absent = λ is. is; shortest = omega arith; longest = omega arith; same = λ i new was read out. refl }

pub keeps_same : (floor : ℕ) (file : Option (List ℕ)) → KeepsBelow floor file file
keeps_same floor file = record { long = λ le. le; same = λ i less le. refl }

keeps_on : (floor : ℕ) (a b c : Option (List ℕ)) → KeepsBelow floor a b → KeepsBelow floor b c → KeepsBelow floor a c
keeps_on floor a b c first second = record {
  long = λ le. second.long (first.long le);
  same = λ i less le. second.same i less (first.long le) ∙ first.same i less le;
}

write_keeps : (floor at n : ℕ) (file a b : Option (List ℕ)) → floor ≤ at → floor ≤ length (bytes_of file) → TornByWrite file at n a b → KeepsBelow floor a b
write_keeps floor at n file a b low long torn = record {
  long = λ le. omega (arith, torn.shortest);
  same = λ i less le. torn.same i (omega (arith, torn.shortest)) (omega arith) (omega arith) (inl (omega arith));
}

cut_keeps : (floor len : ℕ) (file a b : Option (List ℕ)) → floor ≤ len → floor ≤ length (bytes_of file) → TornByCut file len a b → KeepsBelow floor a b
cut_keeps floor len file a b low long torn = record {
  long = λ le. omega (arith, torn.shortest);
  same = λ i less le. torn.same i (omega (arith, torn.shortest)) (omega arith) (omega arith) (inr (omega arith));
}

-- a step after a step
follows_join : (R S T : Option (List ℕ) → Option (List ℕ) → Type 0) (a b c : Option (List ℕ) → Type 0)
    → ((x y z : Option (List ℕ)) → R x y → S y z → T x z) → Follows R a b → (d : Option (List ℕ)) → Comes S b d → Comes T a d
follows_join R S T a b c after first d (comes y could step) = onward (first y could)
  where
    onward : Comes R a y → Comes T a d
    onward (comes x was goes) = comes x was (after x y d goes step)

wider : (R T : Option (List ℕ) → Option (List ℕ) → Type 0) (a : Option (List ℕ) → Type 0) (d : Option (List ℕ))
    → ((x y : Option (List ℕ)) → R x y → T x y) → Comes R a d → Comes T a d
wider R T a d holds (comes x could step) = comes x could (holds x d step)

-- what is as before behind two runs
apart_join : (name : List ℕ) (a b c : Files) (could might can : List ℕ → Option (List ℕ) → Type 0) → Apart name a b could might → Apart name b c might can → Apart name a c could can
apart_join name a b c could might can first second = record {
  files = λ n other. second.files n other ∙ first.files n other;
  fewer = λ n c other is. first.fewer n c other (second.fewer n c other is);
  more = λ n c other was. second.more n c other (first.more n c other was);
}

stayed : (could : Option (List ℕ) → Type 0) (c : Option (List ℕ)) → Comes (λ x y. x ≡ y) could c → could c
stayed could c (comes x was same) = subst could same was

module _ {D : Type 0} (host : Ghosts D) (name : List ℕ) where
  -- a file that stays has gone on by a step which leaves it as it was
  touched_none : (R : Option (List ℕ) → Option (List ℕ) → Type 0) (old : D) (f : Files) (s : List ℕ) → ((file : Option (List ℕ)) → R file file)
      → Here (host.may_leave old) (host.said old) f s → Touched host R name old f s
  touched_none R old f s stays here = record { others = λ n other. here.0 n; own = comes (f name) (here.0 name) (stays (f name)); quiet = here.1 }

  -- no call
  pub touches_none : (R : Option (List ℕ) → Option (List ℕ) → Type 0) (old : D) → ((file : Option (List ℕ)) → R file file) → OnlyNow host old → Touches host R name old old
  touches_none R old stays only_now = record {
    disk = omega arith;
    say = refl;
    others = λ told. record { files = λ n other. refl; fewer = λ n c other can. can; more = λ n c other could. could };
    quiet = λ told. refl;
    own = λ told c can. comes c can (stays c);
    moments = λ told. record {
      later = omega arith;
      each = λ f s left. touched_none R old f s stays (only_now f s told left);
      before = λ t f s le left. inl left;
    };
  }

  -- one call
  pub touches_once : {T E : Type 0} (R : Option (List ℕ) → Option (List ℕ) → Type 0) (old new : D) (result : Result T E) → ((file : Option (List ℕ)) → R file file)
      → OnlyNow host old
      → (IsTrue host.is_told → Apart name (host.files old) (host.files new) (host.may_leave old) (host.may_leave new))
      → (IsTrue host.is_told → host.said new ≡ host.said old)
      → (IsTrue host.is_told → Follows R (host.may_leave old name) (host.may_leave new name))
      → (IsTrue host.is_told → Elapses (host.moment old) (host.moment new) (host.left_since old) (host.left_since new) (Here (host.may_leave new) (host.said new)))
      → HasCause (host.disk_faults old) (host.disk_faults new) result
      → host.say_faults new ≡ host.say_faults old
      → Touches host R name old new
  touches_once R old new result stays only_now others quiet own time cause say = record {
    disk = cause.later;
    say = say;
    others = others;
    quiet = quiet;
    own = own;
    moments = λ told. moments_once host old new (Here (host.may_leave old) (host.said old)) (Here (host.may_leave new) (host.said new)) (Touched host R name old)
        (λ f s left. only_now f s told left) (time told)
        (λ f s here. touched_none R old f s stays here)
        (λ f s here. record { others = λ n other. (others told).fewer n (f n) other (here.0 n); own = own told (f name) (here.0 name); quiet = here.1 ∙ quiet told });
  }

  -- one run more
  touches_join : (R S T : Option (List ℕ) → Option (List ℕ) → Type 0) (old mid new : D)
      → ((x y z : Option (List ℕ)) → R x y → S y z → T x z) → ((x y : Option (List ℕ)) → R x y → T x y)
      → Touches host R name old mid → Touches host S name mid new → Touches host T name old new
  touches_join R S T old mid new after holds first second = record {
    disk = omega (arith, first.disk, second.disk);
    say = second.say ∙ first.say;
    others = λ told. apart_join name (host.files old) (host.files mid) (host.files new) (host.may_leave old) (host.may_leave mid) (host.may_leave new) (first.others told) (second.others told);
    quiet = λ told. second.quiet told ∙ first.quiet told;
    own = λ told c can. follows_join R S T (host.may_leave old name) (host.may_leave mid name) (host.may_leave new name) after (first.own told) c (second.own told c can);
    moments = λ told. moments_join host old mid new (Touched host T name old) (Touched host S name mid)
        (weaker host old mid (Touched host T name old) (Touched host R name old) (first.moments told)
        (λ f s so. record { others = so.others; own = wider R T (host.may_leave old name) (f name) holds so.own; quiet = so.quiet }))
        (second.moments told)
        (λ f s so. record {
          others = λ n other. (first.others told).fewer n (f n) other (so.others n other);
          own = follows_join R S T (host.may_leave old name) (host.may_leave mid name) (host.may_leave new name) after (first.own told) (f name) so.own;
          quiet = so.quiet ∙ first.quiet told;
        });
  }

  -- a run that changes the file, seen as one that leaves its first bytes as they were
  touches_wider : (R T : Option (List ℕ) → Option (List ℕ) → Type 0) (old new : D) → (IsTrue host.is_told → (x y : Option (List ℕ)) → R x y → T x y)
      → Touches host R name old new → Touches host T name old new
  touches_wider R T old new holds run = record {
    disk = run.disk;
    say = run.say;
    others = run.others;
    quiet = run.quiet;
    own = λ told c can. wider R T (host.may_leave old name) c (holds told) (run.own told c can);
    moments = λ told. weaker host old new (Touched host T name old) (Touched host R name old) (run.moments told)
        (λ f s so. record { others = so.others; own = wider R T (host.may_leave old name) (f name) (holds told) so.own; quiet = so.quiet });
  }

  pub write_above : (floor at n : ℕ) (old new : D) → floor ≤ at → (IsTrue host.is_told → floor ≤ length (bytes_of (host.files old name))) → Writes host name at n old new → WritesAbove host floor name old new
  write_above floor at n old new low long writes = record {
    run = touches_wider (TornByWrite (host.files old name) at n) (KeepsBelow floor) old new (λ told x y torn. write_keeps floor at n (host.files old name) x y low (long told) torn) writes.run;
  }

  pub cut_above : (floor len : ℕ) (old new : D) → floor ≤ len → (IsTrue host.is_told → floor ≤ length (bytes_of (host.files old name))) → Cuts host name len old new → WritesAbove host floor name old new
  cut_above floor len old new low long cuts = record {
    run = touches_wider (TornByCut (host.files old name) len) (KeepsBelow floor) old new (λ told x y torn. cut_keeps floor len (host.files old name) x y low (long told) torn) cuts.run;
  }

  -- many changes above a floor are one
  pub above_join : (floor : ℕ) (old mid new : D) → WritesAbove host floor name old mid → WritesAbove host floor name mid new → WritesAbove host floor name old new
  above_join floor old mid new first second = record {
    run = touches_join (KeepsBelow floor) (KeepsBelow floor) (KeepsBelow floor) old mid new (keeps_on floor) (λ x y keeps. keeps) first.run second.run;
  }

  -- a sync after a change
  sync_after : (R : Option (List ℕ) → Option (List ℕ) → Type 0) (old mid new : D) → Touches host R name old mid → Syncs host name mid new → Touches host R name old new
  sync_after R old mid new first second = touches_join R (λ x y. x ≡ y) R old mid new (λ x y z step same. subst (R x) same step) (λ x y step. step) first second.run

  pub sync_write : (at n : ℕ) (old mid new : D) → Writes host name at n old mid → Syncs host name mid new → Writes host name at n old new
  sync_write at n old mid new first second = record { run = sync_after (TornByWrite (host.files old name) at n) old mid new first.run second }

  pub sync_cut : (len : ℕ) (old mid new : D) → Cuts host name len old mid → Syncs host name mid new → Cuts host name len old new
  sync_cut len old mid new first second = record { run = sync_after (TornByCut (host.files old name) len) old mid new first.run second }

  changes_of : (step : Option (List ℕ) → Option (List ℕ) → Type 0) (old new : D) → Touches host step name old new → ChangesOneFile host name old new
  changes_of step old new run = record { disk = run.disk; say = run.say; others = run.others; quiet = run.quiet; moments = λ told. weaker host old new (Elsewhere host name old) (Touched host step name old) (run.moments told) (λ f s so. (so.quiet, so.others)) }

  pub write_changes : (at n : ℕ) (old new : D) → Writes host name at n old new → ChangesOneFile host name old new
  write_changes at n old new writes = changes_of (TornByWrite (host.files old name) at n) old new writes.run

  pub cut_changes : (len : ℕ) (old new : D) → Cuts host name len old new → ChangesOneFile host name old new
  cut_changes len old new cuts = changes_of (TornByCut (host.files old name) len) old new cuts.run

  pub sync_changes : (old new : D) → Syncs host name old new → ChangesOneFile host name old new
  sync_changes old new syncs = changes_of (λ was is. was ≡ is) old new syncs.run

  pub above_changes : (floor : ℕ) (old new : D) → WritesAbove host floor name old new → ChangesOneFile host name old new
  above_changes floor old new above = changes_of (KeepsBelow floor) old new above.run

  pub changes_join : (old mid new : D) → ChangesOneFile host name old mid → ChangesOneFile host name mid new → ChangesOneFile host name old new
  changes_join old mid new first second = record {
    disk = omega (arith, first.disk, second.disk);
    say = second.say ∙ first.say;
    others = λ told. apart_join name (host.files old) (host.files mid) (host.files new) (host.may_leave old) (host.may_leave mid) (host.may_leave new) (first.others told) (second.others told);
    quiet = λ told. second.quiet told ∙ first.quiet told;
    moments = λ told. moments_join host old mid new (Elsewhere host name old) (Elsewhere host name mid) (first.moments told) (second.moments told)
        (λ f s so. (so.0 ∙ first.quiet told, λ n other. (first.others told).fewer n (f n) other (so.1 n other)));
  }

  -- a run that only reads, and reads one file
  pub reads_change : (old new : D) → OnlyReads host old new → (IsTrue host.is_told → (n : List ℕ) → n ≢ name → host.files new n ≡ host.files old n) → ChangesOneFile host name old new
  reads_change old new run others = record {
    disk = run.disk;
    say = run.say;
    others = λ told. record { files = others told; fewer = λ n c other. (run.stops told).fewer n c; more = λ n c other. (run.stops told).more n c };
    quiet = run.quiet;
    moments = λ told. weaker host old new (Elsewhere host name old) (Here (host.may_leave old) (host.said old)) (run.moments told) (λ f s here. (here.1, λ n other. here.0 n));
  }

  pub narrows_but : (old new : D) → Narrows host old new → NarrowsBut host name old new
  narrows_but old new run = record {
    disk = run.disk;
    say = run.say;
    alike = λ calm told n other. (run.alike calm).same told n;
    quiet = run.quiet;
    fewer = λ told n c other can. run.fewer told n c can;
    moments = λ told. weaker host old new (Elsewhere host name old) (Here (host.may_leave old) (host.said old)) (run.moments told) (λ f s here. (here.1, λ n other. here.0 n));
  }

  pub changes_but : (old new : D) → ChangesOneFile host name old new → NarrowsBut host name old new
  changes_but old new run = record {
    disk = run.disk;
    say = run.say;
    alike = λ calm told. (run.others told).files;
    quiet = run.quiet;
    fewer = λ told. (run.others told).fewer;
    moments = run.moments;
  }

  pub but_join : (old mid new : D) → NarrowsBut host name old mid → NarrowsBut host name mid new → NarrowsBut host name old new
  but_join old mid new first second = record {
    disk = omega (arith, first.disk, second.disk);
    say = second.say ∙ first.say;
    alike = λ calm told n other.
        second.alike (λ rose. calm (rose_second (host.disk_faults old) (host.disk_faults mid) (host.disk_faults new) first.disk rose)) told n other
        ∙ first.alike (λ rose. calm (rose_first (host.disk_faults old) (host.disk_faults mid) (host.disk_faults new) first.disk second.disk rose)) told n other;
    quiet = λ told. second.quiet told ∙ first.quiet told;
    fewer = λ told n c other can. first.fewer told n c other (second.fewer told n c other can);
    moments = λ told. moments_join host old mid new (Elsewhere host name old) (Elsewhere host name mid) (first.moments told) (second.moments told)
        (λ f s so. (so.0 ∙ first.quiet told, λ n other. first.fewer told n (f n) other (so.1 n other)));
  }

  -- Where every file reads as before unless a fault was counted, a sync narrows what a stop may leave.
  pub syncs_narrow : (old new : D) → Syncs host name old new → ((Rose (host.disk_faults old) (host.disk_faults new) → ⊥) → ReadsAlike host old new) → Narrows host old new
  syncs_narrow old new syncs alike =
      let run = syncs.run in
      let back : (c : Option (List ℕ)) → Comes (λ x y. x ≡ y) (host.may_leave old name) c → host.may_leave old name c = λ c came. stayed (host.may_leave old name) c came in
      record {
        disk = run.disk;
        say = run.say;
        alike = alike;
        quiet = run.quiet;
        fewer = λ told n c can. ⊎_elim
            (λ same. subst (λ (x : List ℕ). host.may_leave old x c) (sym same) (back c (run.own told c (subst (λ (x : List ℕ). host.may_leave new x c) same can))))
            (λ other. (run.others told).fewer n c other can)
            (same_or_other n name);
        moments = λ told. weaker host old new (Here (host.may_leave old) (host.said old)) (Touched host (λ x y. x ≡ y) name old) (run.moments told)
            (λ f s so. (
              λ n. ⊎_elim
                  (λ same. subst (λ (x : List ℕ). host.may_leave old x (f x)) (sym same) (back (f name) so.own))
                  (λ other. so.others n other)
                  (same_or_other n name),
              so.quiet,
            ));
      }

module _ {D : Type 0} (host : Ghosts D) where
  -- what changes one file leaves those of other names alone
  pub changes_spare : (name : List ℕ) (names : List ℕ → Type 0) (old new : D) → ((n : List ℕ) → names n → n ≢ name) → ChangesOneFile host name old new → Spares host names old new
  changes_spare name names old new other run = record {
    files = λ told n is. (run.others told).files n (other n is);
    fewer = λ told n c is. (run.others told).fewer n c (other n is);
    more = λ told n c is. (run.others told).more n c (other n is);
  }

  pub spares_join : (names : List ℕ → Type 0) (old mid new : D) → Spares host names old mid → Spares host names mid new → Spares host names old new
  spares_join names old mid new first second = record {
    files = λ told n is. second.files told n is ∙ first.files told n is;
    fewer = λ told n c is can. first.fewer told n c is (second.fewer told n c is can);
    more = λ told n c is could. second.more told n c is (first.more told n c is could);
  }

  pub spares_none : (names : List ℕ → Type 0) (old : D) → Spares host names old old
  spares_none names old = record { files = λ told n is. refl; fewer = λ told n c is can. can; more = λ told n c is could. could }

  -- of fewer names
  pub spares_fewer : (names fewer : List ℕ → Type 0) (old new : D) → ((n : List ℕ) → fewer n → names n) → Spares host names old new → Spares host fewer old new
  spares_fewer names fewer old new among run = record {
    files = λ told n is. run.files told n (among n is);
    fewer = λ told n c is. run.fewer told n c (among n is);
    more = λ told n c is. run.more told n c (among n is);
  }

-- changes to one file, and then to another
pub both_join : {D : Type 0} (host : Ghosts D) (one two : List ℕ) (old mid new : D) → ChangesOneFile host one old mid → ChangesOneFile host two mid new → ChangesBoth host one two old new
both_join host one two old mid new first second =
    let P : Files → List ℕ → Type 0 = λ f s. (s ≡ host.said old) × ((n : List ℕ) → n ≢ one → n ≢ two → host.may_leave old n (f n)) in
    record {
      disk = omega (arith, first.disk, second.disk);
      say = second.say ∙ first.say;
      files = λ told n a b. (second.others told).files n b ∙ (first.others told).files n a;
      fewer = λ told n c a b can. (first.others told).fewer n c a ((second.others told).fewer n c b can);
      more = λ told n c a b could. (second.others told).more n c b ((first.others told).more n c a could);
      quiet = λ told. second.quiet told ∙ first.quiet told;
      moments = λ told. moments_join host old mid new P (Elsewhere host two mid)
          (weaker host old mid P (Elsewhere host one old) (first.moments told) (λ f s so. (so.0, λ n a b. so.1 n a)))
          (second.moments told) (λ f s so. (so.0 ∙ first.quiet told, λ n a b. (first.others told).fewer n (f n) a (so.1 n b)));
    }

-- changes to one of the two, before or behind
pub both_begun : {D : Type 0} (host : Ghosts D) (one two : List ℕ) (old new : D) → ChangesOneFile host one old new → ChangesBoth host one two old new
both_begun host one two old new run =
    let P : Files → List ℕ → Type 0 = λ f s. (s ≡ host.said old) × ((n : List ℕ) → n ≢ one → n ≢ two → host.may_leave old n (f n)) in
    record {
      disk = run.disk;
      say = run.say;
      files = λ told n a b. (run.others told).files n a;
      fewer = λ told n c a b can. (run.others told).fewer n c a can;
      more = λ told n c a b could. (run.others told).more n c a could;
      quiet = run.quiet;
      moments = λ told. weaker host old new P (Elsewhere host one old) (run.moments told) (λ f s so. (so.0, λ n a b. so.1 n a));
    }

pub both_more : {D : Type 0} (host : Ghosts D) (one two : List ℕ) (old mid new : D) → ChangesBoth host one two old mid → ChangesOneFile host two mid new → ChangesBoth host one two old new
both_more host one two old mid new first second =
    let P : Files → List ℕ → Type 0 = λ f s. (s ≡ host.said old) × ((n : List ℕ) → n ≢ one → n ≢ two → host.may_leave old n (f n)) in
    record {
      disk = omega (arith, first.disk, second.disk);
      say = second.say ∙ first.say;
      files = λ told n a b. (second.others told).files n b ∙ first.files told n a b;
      fewer = λ told n c a b can. first.fewer told n c a b ((second.others told).fewer n c b can);
      more = λ told n c a b could. (second.others told).more n c b (first.more told n c a b could);
      quiet = λ told. second.quiet told ∙ first.quiet told;
      moments = λ told. moments_join host old mid new P (Elsewhere host two mid) (first.moments told) (second.moments told)
          (λ f s so. (so.0 ∙ first.quiet told, λ n a b. first.fewer told n (f n) a b (so.1 n b)));
    }
