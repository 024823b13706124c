-- Loops that add bytes, a step at a time.
use Rattle.std.proofs.Common.{◌≡◌, ℕ, ◌+◌, ◌≤◌, List, [], ◌++◌, length, IsTrue, arith}
use Rattle.std.specs.Prelude.{Result, Ok, Err, IsErr}
use Rattle.st_host.specs.declared.host.HostFault.{HostFault}
use Rattle.st_host.specs.declared.host.Host.{Ghosts}
use Rattle.st_host.specs.Files.{Files}
use Rattle.st_host.specs.Stops.{Here}
use Rattle.st_host.specs.inside.Pieces.{Held, end_of, Pushes}
use Rattle.st_host.proofs.Pushing.{push_none, push_then, push_cut}

-- The steps so far added these bytes, and moved the end by at most so many places.
pub record HasAdded {D : Type 0} (host : Ghosts D) (name bytes : List ℕ) (most : ℕ) (old new : D) (p q : Held) : Type 0 where
  pub pushes : Pushes {E = HostFault} host name bytes old new p q (Ok tt)
  pub end : end_of q ≤ end_of p + most

module _ {D : Type 0} (host : Ghosts D) (name : List ℕ) where
  -- no step
  pub added_none : (old : D) (p : Held) → (IsTrue host.is_told → (f : Files) (s : List ℕ) → host.left_since old (host.moment old) f s → Here (host.may_leave old) (host.said old) f s)
      → HasAdded host name [] 0 old old p p
  added_none old p only_now = record { pushes = push_none host name old p only_now; end = omega arith }

  -- one step more
  pub added_next : (t a b : List ℕ) (n m : ℕ) (old mid new : D) (p q r : Held) → HasAdded host name a n old mid p q
      → Pushes {E = HostFault} host name b mid new q r (Ok tt) → t ≡ a ++ b → n + length b ≤ m → HasAdded host name t m old new p r
  added_next t a b n m old mid new p q r so_far step is few = record {
    pushes = push_then host name t a b old mid new p q r (Ok tt) so_far.pushes step is;
    end = omega (arith, so_far.end, step.adds.end, few);
  }

  -- one step more, which failed
  pub added_cut : (t a b : List ℕ) (n : ℕ) (old mid new : D) (p q r : Held) (fault : HostFault) (result : Result Unit HostFault) → IsErr result
      → HasAdded host name a n old mid p q → Pushes {E = HostFault} host name b mid new q r (Err fault) → Pushes host name t old new p r result
  added_cut t a b n old mid new p q r fault result err so_far step = push_cut host name t a b old mid new p q r fault result err so_far.pushes step
