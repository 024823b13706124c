-- Runs of calls that add bytes follow each other.
use Rattle.std.proofs.Common.{◌≡◌, ℕ, ◌≤◌, List, [], ◌++◌, length, take, IsTrue, refl, sym, ap, subst, arith, append_assoc, append-nil, length-append}
use Rattle.std.specs.Prelude.{Result, Ok, Err, OnOk, IsErr}
use Rattle.st_host.specs.Files.{Files, bytes_of, KeepsBelow}
use Rattle.st_host.specs.Stops.{Here}
use Rattle.st_host.specs.Runs.{Writes, Cuts, WritesAbove}
use Rattle.st_host.specs.declared.host.Host.{Ghosts}
use Rattle.st_host.proofs.Rising.{cause_after}
use Rattle.st_host.proofs.Touching.{keeps_same, touches_none, write_above, cut_above, above_join}
use Rattle.st_host.specs.inside.Pieces.{Held, end_of, Holds, Adds, WritesFrom, Pushes}

module _ {D : Type 0} (host : Ghosts D) (name : List ℕ) where
  pub adds_join : (a b : List ℕ) (old mid new : D) (p q r : Held) → Adds host name a old mid p q → Adds host name b mid new q r → Adds host name (a ++ b) old new p r
  adds_join a b old mid new p q r first second = record {
    on = omega (arith, first.on, second.on);
    end = omega (arith, first.end, second.end, length-append a b);
    text = λ told t holds. subst (λ (x : List ℕ). Holds (host.files new name) r x) (append_assoc t a b) (second.text told (t ++ a) (first.text told t holds));
  }

  pub adds_none : (old : D) (p : Held) → Adds host name [] old old p p
  adds_none old p = record {
    on = omega arith;
    end = omega arith;
    text = λ told t holds. subst (λ (x : List ℕ). Holds (host.files old name) p x) (sym (append-nil t)) holds;
  }

  -- no call
  above_none : (floor : ℕ) (old : D) → (IsTrue host.is_told → (f : Files) (s : List ℕ) → host.left_since old (host.moment old) f s → Here (host.may_leave old) (host.said old) f s)
      → WritesAbove host floor name old old
  above_none floor old only_now = record { run = touches_none host name (KeepsBelow floor) old (keeps_same floor) (λ f s told left. only_now told f s left) }

  pub from_none : (old : D) (p : Held) → (IsTrue host.is_told → (f : Files) (s : List ℕ) → host.left_since old (host.moment old) f s → Here (host.may_leave old) (host.said old) f s)
      → WritesFrom host p name old old
  from_none old p only_now = record { above = λ floor low long. above_none floor old only_now }

  -- one write at the place of what is held back
  pub written_from : (n : ℕ) (p : Held) (at : ℕ) (old new : D) → at ≡ p.at → Writes host name at n old new → WritesFrom host p name old new
  written_from n p at old new same writes = record {
    above = λ floor low long. write_above host name floor at n old new (omega arith) (λ told. omega (arith, long told)) writes;
  }

  pub cut_from : (p : Held) (len : ℕ) (old new : D) → p.at ≤ len → Cuts host name len old new → WritesFrom host p name old new
  cut_from p len old new low cuts = record {
    above = λ floor below long. cut_above host name floor len old new (omega arith) (λ told. omega (arith, long told)) cuts;
  }

  -- what is held back begins within the file still
  still_there : (old mid : D) (p q : Held) (told : IsTrue host.is_told)
      → ((t : List ℕ) → Holds (host.files old name) p t → Holds (host.files mid name) q t) → p.at ≤ length (bytes_of (host.files old name)) → q.at ≤ length (bytes_of (host.files mid name))
  still_there old mid p q told text long = (text (take p.at (bytes_of (host.files old name)) ++ p.bytes) (record { there = long; is = refl })).there

  added_there : (bytes : List ℕ) (old mid : D) (p q : Held) → Adds host name bytes old mid p q → (IsTrue host.is_told → p.at ≤ length (bytes_of (host.files old name)))
      → IsTrue host.is_told → q.at ≤ length (bytes_of (host.files mid name))
  added_there bytes old mid p q adds long told =
      (adds.text told (take p.at (bytes_of (host.files old name)) ++ p.bytes) (record { there = long told; is = refl })).there

  -- one run more, behind a first one
  pub from_join : (old mid new : D) (p q : Held) → WritesFrom host p name old mid → p.at ≤ q.at
      → (IsTrue host.is_told → (t : List ℕ) → Holds (host.files old name) p t → Holds (host.files mid name) q t)
      → WritesFrom host q name mid new → WritesFrom host p name old new
  from_join old mid new p q first on text second = record {
    above = λ floor low long. above_join host name floor old mid new (first.above floor low long)
        (second.above floor (omega arith) (λ told. still_there old mid p q told (text told) (long told)));
  }

  -- what was held back was written, and the file cut behind it
  pub cut_behind : (old mid new : D) (p q : Held) (len : ℕ) → WritesFrom host p name old mid → q ≡ record { at = end_of p; bytes = [] } → len ≡ end_of p
      → (IsTrue host.is_told → (t : List ℕ) → Holds (host.files old name) p t → Holds (host.files mid name) q t)
      → Cuts host name len mid new → WritesFrom host p name old new
  cut_behind old mid new p q len first done same text cuts =
      let at = ap (λ (h : Held). h.at) done in
      from_join old mid new p q first (omega (arith, at)) text (cut_from q len mid new (omega (arith, at, same)) cuts)

  -- the same behind a run that added bytes
  pub from_adds : (bytes : List ℕ) (old mid new : D) (p q : Held) → WritesFrom host p name old mid → Adds host name bytes old mid p q → WritesFrom host q name mid new → WritesFrom host p name old new
  from_adds bytes old mid new p q first adds second = record {
    above = λ floor low long. above_join host name floor old mid new (first.above floor low long)
        (second.above floor (omega (arith, adds.on)) (added_there bytes old mid p q adds long));
  }

  module _ {E : Type 0} where
    pub push_none : (old : D) (p : Held) → (IsTrue host.is_told → (f : Files) (s : List ℕ) → host.left_since old (host.moment old) f s → Here (host.may_leave old) (host.said old) f s)
        → Pushes {E = E} host name [] old old p p (Ok tt)
    push_none old p only_now = record {
      adds = adds_none old p;
      writes = from_none old p only_now;
      cause = record { later = omega arith; rose = λ err. cc };
    }

    -- one run more
    pub push_then : (t a b : List ℕ) (old mid new : D) (p q r : Held) (result : Result Unit E) → Pushes {E = E} host name a old mid p q (Ok tt)
        → Pushes host name b mid new q r result → t ≡ a ++ b → Pushes host name t old new p r result
    push_then t a b old mid new p q r result first second e = rw e (record {
      adds = joined result second.adds;
      writes = from_adds a old mid new p q first.writes first.adds second.writes;
      cause = cause_after (host.disk_faults old) (host.disk_faults mid) (host.disk_faults new) result first.cause.later second.cause;
    })
      where
        joined : (result : Result Unit E) → OnOk result (Adds host name b mid new q r) → OnOk result (Adds host name (a ++ b) old new p r)
        joined (Ok x) adds = adds_join a b old mid new p q r first.adds adds
        joined (Err x) adds = adds

    -- a run that failed, of a longer text
    pub push_failed : (t a : List ℕ) (old new : D) (p q : Held) (fault : E) (result : Result Unit E) → IsErr result → Pushes {E = E} host name a old new p q (Err fault)
        → Pushes host name t old new p q result
    push_failed t a old new p q fault (Ok x) err run = cc
    push_failed t a old new p q fault (Err x) err run = record { adds = tt; writes = run.writes; cause = record { later = run.cause.later; rose = λ err. run.cause.rose refl } }

    -- one run more, which failed
    pub push_cut : (t a b : List ℕ) (old mid new : D) (p q r : Held) (fault : E) (result : Result Unit E) → IsErr result → Pushes {E = E} host name a old mid p q (Ok tt)
        → Pushes {E = E} host name b mid new q r (Err fault) → Pushes host name t old new p r result
    push_cut t a b old mid new p q r fault result err first second =
        push_failed t (a ++ b) old new p r fault result err (push_then (a ++ b) a b old mid new p q r (Err fault) first second refl)
