-- What a run of calls has done of some deeds.
use Rattle.std.specs.Prelude.{◌≡◌, ◌⊎◌, ℕ, List, ◌∷◌, ◌++◌, slice_get, Some, IsTrue, ⊤}
use Rattle.st_host.specs.Files.{Files}
use Rattle.st_host.specs.Stops.{SaidPart}
use Rattle.st_host.specs.Runs.{LeavesOnly, SaysAll, Spares, IsAtRest}
use Rattle.st_host.specs.declared.host.Host.{Ghosts}
use Rattle.st_store.specs.Faults.{GateFails}
use Rattle.st_protocol.specs.declared.status.Status.{Status}
use Rattle.st_protocol.specs.declared.status.Status.TheVariants.{DiskFault, SayFault}
use Rattle.st_protocol.specs.Courses.{Deed, Keep, said_of, last_of}
use Rattle.st_protocol.specs.Underway.{Underway}

-- what some first ones of these deeds say was said
pub record SaysFirst {C : Type 0} (ds : List (Deed C)) (before now : List ℕ) : Type 0 where
  pub first : List (Deed C)
  pub rest : List (Deed C)
  pub all : ds ≡ first ++ rest
  pub said : now ≡ before ++ said_of first

-- What was said are the words of some first deeds, whole; only a fault in saying leaves one of them in part.
abbrev pub EndsBetween : {C : Type 0} → Status → List (Deed C) → List ℕ → List ℕ → Type 0
EndsBetween SayFault ds before now = ⊤
EndsBetween _ ds before now = SaysFirst ds before now

module _ {D : Type 0} (host : Ghosts D) {C : Type 0} (opens : C → Files → Type 0) where
  -- behind some first ones of these deeds each state that a stop may leave opens as the commit that stands there
  pub record RestsBetween (c : C) (ds : List (Deed C)) (new : D) : Type 0 where
    pub first : List (Deed C)
    pub rest : List (Deed C)
    pub all : ds ≡ first ++ rest
    pub at : IsAtRest host opens (last_of c first) new

  -- A commit was being made, and it was the gate that failed: each such state opens as the one that stood before it, or as it.
  pub record RestsWithin (c : C) (ds : List (Deed C)) (new : D) : Type 0 where
    pub first : List (Deed C)
    pub next : C
    pub rest : List (Deed C)
    pub all : ds ≡ first ++ Keep next ∷ rest
    pub either : (f : Files) → ((n : List ℕ) → host.may_leave new n (f n)) → opens (last_of c first) f ⊎ opens next f
    pub name : List ℕ
    pub gate : GateFails host opens name (last_of c first) new

  -- what stands after a fault: only one of the disk may come while a commit is made
  abbrev pub Rests : C → List (Deed C) → Status → D → Type 0
  Rests c ds DiskFault new = RestsBetween c ds new ⊎ RestsWithin c ds new
  Rests c ds _ new = RestsBetween c ds new

  -- each state that a stop may leave opens as one of these commits
  pub record RestsAsOne (commits : List C) (new : D) : Type 0 where
    pub number : ℕ
    pub commit : C
    pub is_of : slice_get commits number ≡ Some commit
    pub at : IsAtRest host opens commit new

  -- `spared` are the names of files that no deed touches.
  module _ (spared : List ℕ → Type 0) where
    -- All of these deeds were done: what they say was said, and each state that a stop may leave opens as the last commit.
    pub record Did (c : C) (ds : List (Deed C)) (old new : D) : Type 0 where
      pub all : SaysAll host (said_of ds) old new
      pub rest : IsTrue host.is_told → IsAtRest host opens (last_of c ds) new
      pub moments : IsTrue host.is_told → LeavesOnly host old new (Underway opens c (host.said old) ds)
      pub spares : Spares host spared old new

    -- A fault came while these deeds were done: some first ones of them were done, or none or all, and one of them perhaps in
    -- part.
    pub record Began (c : C) (ds : List (Deed C)) (status : Status) (old new : D) : Type 0 where
      pub part : IsTrue host.is_told → SaidPart (host.said old) (said_of ds) (host.said new)
      pub between : IsTrue host.is_told → EndsBetween status ds (host.said old) (host.said new)
      pub rests : IsTrue host.is_told → Rests c ds status new
      pub moments : IsTrue host.is_told → LeavesOnly host old new (Underway opens c (host.said old) ds)
      pub spares : Spares host spared old new
