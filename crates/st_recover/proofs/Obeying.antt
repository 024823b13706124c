-- What an archive does, as the course of a definition tells it.
use Rattle.std.proofs.Common.{◌≡◌, ⊎_elim, ℕ, ◌+◌, ◌^◌, List, length, IsTrue, refl, sym, subst, ap, arith}
use Rattle.std.proofs.lemmas.Bool.{cases_lt, le-leb, lt-leb}
use Rattle.std.specs.Prelude.{Bool, true, false, Result, Ok, Err}
use Rattle.st_host.specs.Files.{Files}
use Rattle.st_host.specs.Runs.{Spares, IsAtRest, Makes}
use Rattle.st_host.specs.declared.host.Host.{Ghosts}
use Rattle.st_host.proofs.Telling.{OnlyNow}
use Rattle.st_chunk.specs.Definitions.{Definition, entry, entries}
use Rattle.st_store.specs.Faults.{RestsUnlessGate}
use Rattle.st_protocol.specs.inside.Obeying.{Obeys}
use Rattle.st_protocol.specs.declared.status.Status.{Status}
use Rattle.st_protocol.specs.declared.status.Status.TheVariants.{DiskFault, TooLarge, OutOfMemory}
use Rattle.st_protocol.proofs.Joins.{makes_did, makes_began, obeys_end, obeys_fault}
use Rattle.st_changes.specs.inside.States.{FitsBehind}
use Rattle.st_recover.specs.Commits.{Commit, all_of, accepted, accepted_if, accepting, fits}

-- what the list of a commit's definitions tells of one definition more
module _ (c : Commit) (d : Definition) (listed : List Definition) (is : listed ≡ all_of c) where
  same : length (entries listed) ≡ length (entries (all_of c))
  same = ap (λ (ds : List Definition). length (entries ds)) is

  pub it_fits : FitsBehind listed d → fits c d ≡ true
  it_fits low = le-leb (length (entries (all_of c)) + length (entry d)) (2 ^ 30) (omega (arith, low, same))

  pub it_is_too_long : (FitsBehind listed d → ⊥) → fits c d ≡ false
  it_is_too_long none = ⊎_elim
      (λ less. lt-leb (length (entries (all_of c)) + length (entry d)) (2 ^ 30) less)
      (λ low. absurd (none (omega (arith, low, same))))
      (cases_lt (2 ^ 30) (length (entries (all_of c)) + length (entry d)))

module _ {D : Type 0} (host : Ghosts D) (opens : Commit → Files → Type 0) (spared : List ℕ → Type 0) (at : Commit → Type 0) (c : Commit) (d : Definition) where
  as_course : (a b : D) (t : Bool) (result : Result Unit Status) → fits c d ≡ t → Obeys host opens spared at (λ x. x) c (accepted_if c d t) result a b
      → Obeys host opens spared at (λ x. x) c (accepting c d) result a b
  as_course a b t result is h = subst (λ (x : Bool). Obeys host opens spared at (λ y. y) c (accepted_if c d x) result a b) (sym is) h

  pub accept_kept : {R E : Type 0} (a b : D) (value : R) → fits c d ≡ true → at (accepted c d) → (IsTrue host.is_told → Makes {E = E} host opens c (accepted c d) a b (Ok value)) → Spares host spared a b
      → Obeys host opens spared at (λ x. x) c (accepting c d) (Ok tt) a b
  accept_kept {E = E} a b value is holds makes spares = as_course a b true (Ok tt) is (holds, refl, makes_did host opens spared {E = E} c (accepted c d) a b value makes spares)

  pub accept_failed : {R E : Type 0} (name : List ℕ) (a b : D) (result : Result R E) → fits c d ≡ true → (IsTrue host.is_told → Makes host opens c (accepted c d) a b result) → (IsTrue host.is_told → RestsUnlessGate host opens name c b)
      → Spares host spared a b → Obeys host opens spared at (λ x. x) c (accepting c d) (Err DiskFault) a b
  accept_failed name a b result is makes broken spares = as_course a b true (Err DiskFault) is (tt, makes_began host opens spared c (accepted c d) name a b result makes broken spares)

  pub accept_refused : (h : D) → OnlyNow host h → (IsTrue host.is_told → IsAtRest host opens c h) → fits c d ≡ false → Obeys host opens spared at (λ x. x) c (accepting c d) (Err TooLarge) h h
  accept_refused h only_now rest is = as_course h h false (Err TooLarge) is (obeys_end host opens spared at (λ x. x) c TooLarge only_now rest)

  -- whether it fits or not
  pub accept_starved : (h : D) → OnlyNow host h → (IsTrue host.is_told → IsAtRest host opens c h) → Obeys host opens spared at (λ x. x) c (accepting c d) (Err OutOfMemory) h h
  accept_starved h only_now rest = obeys_fault host opens spared at (λ x. x) c (accepting c d) OutOfMemory h tt only_now rest
