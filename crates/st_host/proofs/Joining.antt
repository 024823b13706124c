-- Runs of calls that follow each other are one run.
use Rattle.std.proofs.Common.{◌≡◌, ◌≢◌, ◌≤◌, inl, inr, ⊎_elim, ℕ, List, [], ◌++◌, length, take, Option, IsTrue, sym, subst, ap, ◌∙◌, arith, append_assoc, length-append, length-take}
use Rattle.std.proofs.lemmas.List.{append-nil, take-append-le}
use Rattle.std.proofs.Math.Seq.{take-append_seam}
use Rattle.std.specs.Io.{StartsWith}
use Rattle.std.specs.Prelude.{◌⊎◌, Result, Ok, Err, IsErr, OnOk}
use Rattle.st_host.specs.Counts.{Rose}
use Rattle.st_host.specs.Files.{Files}
use Rattle.st_host.specs.Stops.{SameStops, Here, SaidPart, WhileSaying, Elapses}
use Rattle.st_host.specs.inside.Names.{same_or_other}
use Rattle.st_host.specs.Runs.{LeavesOnly, ReadsAlike, OnlyReads, Narrows, SaysAll, ReadsAndSays, IsSynced, Makes}
use Rattle.st_host.specs.declared.host.Host.{Ghosts}
use Rattle.st_host.proofs.Rising.{rose_first, rose_second}

begins_more : (text more now : List ℕ) → StartsWith text now → StartsWith (text ++ more) now
begins_more text more now begins =
    let short : length now ≤ length text = omega (arith, length-take (length now) text, ap length begins) in
    take-append-le (length now) text more short ∙ begins

stops_join : (a b c : List ℕ → Option (List ℕ) → Type 0) → SameStops a b → SameStops b c → SameStops a c
stops_join a b c first second = record {
  fewer = λ n x can. first.fewer n x (second.fewer n x can);
  more = λ n x could. second.more n x (first.more n x could);
}

-- the beginning of a text is one of a longer text
part_more : (before a b now : List ℕ) → SaidPart before a now → SaidPart before (a ++ b) now
part_more before a b now part = record {
  least = part.least;
  begins = ap (take (length now)) (sym (append_assoc before a b)) ∙ begins_more (before ++ a) b now part.begins;
}

-- what follows a text that was said whole follows in the joined text
part_after : (before mid a b now : List ℕ) → mid ≡ before ++ a → SaidPart mid b now → SaidPart before (a ++ b) now
part_after before mid a b now all part = record {
  least = omega (arith, part.least, ap length all, length-append before a);
  begins = ap (take (length now)) (sym (append_assoc before a b) ∙ ap (λ x. x ++ b) (sym all)) ∙ part.begins;
}

part_none : (before bytes now : List ℕ) → now ≡ before → SaidPart before bytes now
part_none before bytes now same = record {
  least = omega (arith, ap length same);
  begins = ap (λ n. take n (before ++ bytes)) (ap length same) ∙ take-append_seam before bytes ∙ sym same;
}

part_of : (before bytes mid now : List ℕ) → now ≡ mid → SaidPart before bytes mid → SaidPart before bytes now
part_of before bytes mid now same part = subst (SaidPart before bytes) (sym same) part

module _ {D : Type 0} (host : Ghosts D) where
  -- one call: what could be left before it, or at a moment of it
  pub moments_once : (old new : D) (here during P : Files → List ℕ → Type 0) → ((f : Files) (s : List ℕ) → host.left_since old (host.moment old) f s → here f s)
      → Elapses (host.moment old) (host.moment new) (host.left_since old) (host.left_since new) during
      → ((f : Files) (s : List ℕ) → here f s → P f s) → ((f : Files) (s : List ℕ) → during f s → P f s) → LeavesOnly host old new P
  moments_once old new here during P only_now time before in_call = record {
    later = time.later;
    each = λ f s left. ⊎_elim (λ was. before f s (only_now f s was)) (in_call f s) (time.nothing_else (host.moment old) f s (omega arith) left);
    before = λ t f s le left. ⊎_elim (λ was. inl was) (λ now. inr (in_call f s now)) (time.nothing_else t f s le left);
  }

  pub weaker : (old new : D) (P Q : Files → List ℕ → Type 0) → LeavesOnly host old new Q → ((f : Files) (s : List ℕ) → Q f s → P f s) → LeavesOnly host old new P
  weaker old new P Q run holds = record {
    later = run.later;
    each = λ f s left. holds f s (run.each f s left);
    before = λ t f s le left. ⊎_elim (λ was. inl was) (λ now. inr (holds f s now)) (run.before t f s le left);
  }

  -- one run more
  pub moments_join : (old mid new : D) (P Q : Files → List ℕ → Type 0) → LeavesOnly host old mid P → LeavesOnly host mid new Q
      → ((f : Files) (s : List ℕ) → Q f s → P f s) → LeavesOnly host old new P
  moments_join old mid new P Q first second holds = record {
    later = omega (arith, first.later, second.later);
    each = λ f s left. ⊎_elim (first.each f s) (holds f s) (second.before (host.moment old) f s first.later left);
    before = λ t f s le left. ⊎_elim (first.before t f s le) (λ now. inr (holds f s now)) (second.before t f s (omega (arith, le, first.later)) left);
  }

  -- one run more that says, after all of its bytes were said
  while_join : (a b : List ℕ) (old mid new : D) → SameStops (host.may_leave old) (host.may_leave mid) → host.said mid ≡ host.said old ++ a
      → LeavesOnly host old mid (WhileSaying (host.may_leave old) (host.said old) a) → LeavesOnly host mid new (WhileSaying (host.may_leave mid) (host.said mid) b)
      → LeavesOnly host old new (WhileSaying (host.may_leave old) (host.said old) (a ++ b))
  while_join a b old mid new stops all first second =
      moments_join old mid new (WhileSaying (host.may_leave old) (host.said old) (a ++ b)) (WhileSaying (host.may_leave mid) (host.said mid) b)
      (weaker old mid (WhileSaying (host.may_leave old) (host.said old) (a ++ b)) (WhileSaying (host.may_leave old) (host.said old) a)
      first (λ f s now. (now.0, part_more (host.said old) a b s now.1)))
      second
      (λ f s now. (λ n. stops.fewer n (f n) (now.0 n), part_after (host.said old) (host.said mid) a b s all now.1))

  pub alike_join : (old mid new : D) → ReadsAlike host old mid → ReadsAlike host mid new → ReadsAlike host old new
  alike_join old mid new first second = record { same = λ told n. second.same told n ∙ first.same told n }

  alike_unless : (old mid new : D) → host.disk_faults old ≤ host.disk_faults mid → host.disk_faults mid ≤ host.disk_faults new
      → ((Rose (host.disk_faults old) (host.disk_faults mid) → ⊥) → ReadsAlike host old mid)
      → ((Rose (host.disk_faults mid) (host.disk_faults new) → ⊥) → ReadsAlike host mid new)
      → (Rose (host.disk_faults old) (host.disk_faults new) → ⊥) → ReadsAlike host old new
  alike_unless old mid new low high first second calm = alike_join old mid new
      (first (λ rose. calm (rose_first (host.disk_faults old) (host.disk_faults mid) (host.disk_faults new) low high rose)))
      (second (λ rose. calm (rose_second (host.disk_faults old) (host.disk_faults mid) (host.disk_faults new) low rose)))

  -- every file reads alike where that of the call does
  pub alike_once : (name : List ℕ) (old new : D) → (IsTrue host.is_told → host.files new name ≡ host.files old name)
      → (IsTrue host.is_told → (n : List ℕ) → n ≢ name → host.files new n ≡ host.files old n) → ReadsAlike host old new
  alike_once name old new own others = record {
    same = λ told n. ⊎_elim (λ same. subst (λ x. host.files new x ≡ host.files old x) (sym same) (own told)) (λ other. others told n other) (same_or_other n name);
  }

  -- A run that only reads leaves a stop no more.
  pub reads_narrow : (old new : D) → OnlyReads host old new → Narrows host old new
  reads_narrow old new run = record {
    disk = run.disk;
    say = run.say;
    alike = run.alike;
    quiet = run.quiet;
    fewer = λ told. (run.stops told).fewer;
    moments = run.moments;
  }

  pub narrows_join : (old mid new : D) → Narrows host old mid → Narrows host mid new → Narrows host old new
  narrows_join old mid new first second = record {
    disk = omega (arith, first.disk, second.disk);
    say = second.say ∙ first.say;
    alike = alike_unless old mid new first.disk second.disk first.alike second.alike;
    quiet = λ told. second.quiet told ∙ first.quiet told;
    fewer = λ told n c can. first.fewer told n c (second.fewer told n c can);
    moments = λ told. moments_join old mid new (Here (host.may_leave old) (host.said old)) (Here (host.may_leave mid) (host.said mid))
        (first.moments told) (second.moments told) (λ f s here. (λ n. first.fewer told n (f n) (here.0 n), here.1 ∙ first.quiet told));
  }

  -- one run more
  pub reads_join : (old mid new : D) → OnlyReads host old mid → OnlyReads host mid new → OnlyReads host old new
  reads_join old mid new first second =
      let run = narrows_join old mid new (reads_narrow old mid first) (reads_narrow mid new second) in
      record {
        disk = run.disk;
        say = run.say;
        alike = run.alike;
        quiet = run.quiet;
        stops = λ told. stops_join (host.may_leave old) (host.may_leave mid) (host.may_leave new) (first.stops told) (second.stops told);
        moments = run.moments;
      }

  -- what was synced stays so while there are only reads and syncs
  pub synced_on : (name : List ℕ) (old new : D) → IsSynced host name old → Narrows host old new → ReadsAlike host old new → IsSynced host name new
  synced_on name old new synced run alike = record { is = λ told c can. synced.is told c (run.fewer told name c can) ∙ sym (alike.same told name) }

  -- two texts, each said whole, are one
  pub all_join : (a b : List ℕ) (old mid new : D) → SaysAll host a old mid → SaysAll host b mid new → SaysAll host (a ++ b) old new
  all_join a b old mid new first second = record {
    is = λ told. second.is told ∙ ap (λ x. x ++ b) (first.is told) ∙ append_assoc (host.said old) a b;
  }

  -- A run that only reads has begun to say any text.
  pub reads_begin : (bytes : List ℕ) (old new : D) → OnlyReads host old new → ReadsAndSays host bytes old new
  reads_begin bytes old new run = record {
    disk = run.disk;
    say = omega (arith, run.say);
    alike = run.alike;
    part = λ told. part_none (host.said old) bytes (host.said new) (run.quiet told);
    stops = run.stops;
    moments = λ told. weaker old new (WhileSaying (host.may_leave old) (host.said old) bytes) (Here (host.may_leave old) (host.said old))
        (run.moments told) (λ f s here. (here.0, part_none (host.said old) bytes s here.1));
  }

  -- Nothing was said by a run that only reads.
  pub reads_all : (old new : D) → OnlyReads host old new → SaysAll host [] old new
  reads_all old new run = record { is = λ told. run.quiet told ∙ sym (append-nil (host.said old)) }

  -- Where some of a text was said, a longer text was begun.
  pub says_more : (a b : List ℕ) (old new : D) → ReadsAndSays host a old new → ReadsAndSays host (a ++ b) old new
  says_more a b old new run = record {
    disk = run.disk;
    say = run.say;
    alike = run.alike;
    part = λ told. part_more (host.said old) a b (host.said new) (run.part told);
    stops = run.stops;
    moments = λ told. weaker old new (WhileSaying (host.may_leave old) (host.said old) (a ++ b)) (WhileSaying (host.may_leave old) (host.said old) a)
        (run.moments told) (λ f s now. (now.0, part_more (host.said old) a b s now.1));
  }

  -- one run more, after one that said all of its bytes
  pub says_join : (a b : List ℕ) (old mid new : D) → ReadsAndSays host a old mid → SaysAll host a old mid → ReadsAndSays host b mid new → ReadsAndSays host (a ++ b) old new
  says_join a b old mid new first all second = record {
    disk = omega (arith, first.disk, second.disk);
    say = omega (arith, first.say, second.say);
    alike = alike_unless old mid new first.disk second.disk first.alike second.alike;
    part = λ told. part_after (host.said old) (host.said mid) a b (host.said new) (all.is told) (second.part told);
    stops = λ told. stops_join (host.may_leave old) (host.may_leave mid) (host.may_leave new) (first.stops told) (second.stops told);
    moments = λ told. while_join a b old mid new (first.stops told) (all.is told) (first.moments told) (second.moments told);
  }

  -- a run that only reads, and then one that says
  pub reads_first : (bytes : List ℕ) (old mid new : D) → OnlyReads host old mid → ReadsAndSays host bytes mid new → ReadsAndSays host bytes old new
  reads_first bytes old mid new first second = says_join [] bytes old mid new (reads_begin [] old mid first) (reads_all old mid first) second

  -- a run that says, and then one that only reads
  pub reads_last : (bytes : List ℕ) (old mid new : D) → ReadsAndSays host bytes old mid → OnlyReads host mid new → ReadsAndSays host bytes old new
  reads_last bytes old mid new first second = record {
    disk = omega (arith, first.disk, second.disk);
    say = omega (arith, first.say, second.say);
    alike = alike_unless old mid new first.disk second.disk first.alike second.alike;
    part = λ told. part_of (host.said old) bytes (host.said mid) (host.said new) (second.quiet told) (first.part told);
    stops = λ told. stops_join (host.may_leave old) (host.may_leave mid) (host.may_leave new) (first.stops told) (second.stops told);
    moments = λ told. moments_join old mid new (WhileSaying (host.may_leave old) (host.said old) bytes) (Here (host.may_leave mid) (host.said mid))
        (first.moments told) (second.moments told)
        (λ f s here. (λ n. (first.stops told).fewer n (f n) (here.0 n), part_of (host.said old) bytes (host.said mid) s here.1 (first.part told)));
  }

-- a clause on success of a call that failed
pub on_err : {R E : Type 0} (result : Result R E) (P : Type 0) → IsErr result → OnOk result P
on_err (Ok x) P err = cc
on_err (Err e) P err = tt

-- a fact is a clause on success
pub on_ok : {R E : Type 0} (result : Result R E) (P : Type 0) → P → OnOk result P
on_ok (Ok x) P holds = holds
on_ok (Err e) P holds = tt

module _ {C D E : Type 0} (host : Ghosts D) (opens : C → Files → Type 0) (x y : C) (old mid new : D) where
  -- after a run that has kept what opens, one that makes something
  pub makes_then : {R S : Type 0} (first : Result R E) (second : Result S E) → Makes host opens x x old mid first → Makes host opens x y mid new second → Makes host opens x y old new second
  makes_then first second kept makes = record {
    rest = makes.rest;
    either = makes.either;
    quiet = makes.quiet ∙ kept.quiet;
    moments = moments_join host old mid new (λ f s. (s ≡ host.said old) × (opens x f ⊎ opens y f)) (λ f s. (s ≡ host.said mid) × (opens x f ⊎ opens y f))
        (weaker host old mid (λ f s. (s ≡ host.said old) × (opens x f ⊎ opens y f)) (λ f s. (s ≡ host.said old) × (opens x f ⊎ opens x f)) kept.moments
        (λ f s so. (so.0, ⊎_elim (λ is. inl is) (λ is. inl is) so.1)))
        makes.moments (λ f s so. (so.0 ∙ kept.quiet, so.1));
  }

  -- a run that failed before it made anything
  pub makes_failed : {R S : Type 0} (first : Result R E) (second : Result S E) → IsErr second → Makes host opens x x old mid first → Makes host opens x y old mid second
  makes_failed first second err kept = record {
    rest = on_err second _ err;
    either = λ f can. ⊎_elim (λ is. inl is) (λ is. inl is) (kept.either f can);
    quiet = kept.quiet;
    moments = weaker host old mid (λ f s. (s ≡ host.said old) × (opens x f ⊎ opens y f)) (λ f s. (s ≡ host.said old) × (opens x f ⊎ opens x f)) kept.moments
        (λ f s so. (so.0, ⊎_elim (λ is. inl is) (λ is. inl is) so.1));
  }

-- what a run that failed made, seen as the end of a longer one
pub makes_of : {C D R S E : Type 0} (host : Ghosts D) (opens : C → Files → Type 0) (x y : C) (old new : D) (first : Result R E) (second : Result S E)
    → IsErr second → Makes host opens x y old new first → Makes host opens x y old new second
makes_of host opens x y old new first second err makes = record { rest = on_err second _ err; either = makes.either; quiet = makes.quiet; moments = makes.moments }
