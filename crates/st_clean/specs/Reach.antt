-- What an image needs: the least set of names that has the root page and the two tables of names and, with each object, what that
-- refers to. (Book, chapter 30: what can be reached from the roots.)
use Rattle.std.specs.Prelude.{◌≡◌, ℕ, Bool, Some, IsTrue, ◌↔◌}
use Rattle.st_model.specs.declared.page.PageObject.{PageObject}
use Rattle.st_model.specs.Objects.{Object, place_of}
use Rattle.st_model.specs.Machine.{Head, head_roots}
use Rattle.st_model.specs.Settled.{AnyRefTo, Refers}
use Rattle.st_model.specs.Table.{Table, entry}

-- the root page, the tables of names, and whatever an object refers to that is reached
pub data Reaches (t : Table) (h : Head) : ℕ → Type 0 where
  page : (q : PageObject) → Reaches t h (place_of q)
  table : (n : ℕ) → AnyRefTo n (head_roots h) → Reaches t h n
  onward : (n m : ℕ) (o : Object) → Reaches t h n → entry t n ≡ Some o → Refers o m → Reaches t h m

-- the set of these
abbrev pub IsReach : Table → Head → (ℕ → Bool) → Type 0
IsReach t h set = (n : ℕ) → IsTrue (set n) ↔ Reaches t h n

-- A set that has the root page and the tables of names, and is closed under referring.
pub record IsClosed (t : Table) (h : Head) (set : ℕ → Bool) : Type 0 where
  pub page : (q : PageObject) → IsTrue (set (place_of q))
  pub tables : (n : ℕ) → AnyRefTo n (head_roots h) → IsTrue (set n)
  pub onward : (n m : ℕ) (o : Object) → IsTrue (set n) → entry t n ≡ Some o → Refers o m → IsTrue (set m)
