-- What is kept when unsupported objects were reclaimed: the largest set of kept objects that supports itself, by
-- its two clauses, and computed (counting in chapter 30; nothing is counted here).
use Rattle.std.specs.Prelude.{◌≡◌, ℕ, zero, suc, List, [], ◌∷◌, ◌++◌, slice_index_or, Option, Some, None, Bool, true, false, ◌&&◌, ◌==◌, if◌then◌else◌, IsTrue, ◌⊎◌}
use Rattle.st_model.specs.Values.{Value, Small, Ref}
use Rattle.st_model.specs.Objects.{Object, PageObject, page}
use Rattle.st_model.specs.Machine.{ObjectMemory, State, roots_of}

-- the value names n
abbrev pub IsRefTo : ℕ → Value → Type 0
IsRefTo n (Small x) = ⊥
IsRefTo n (Ref x) = n ≡ x

abbrev pub AnyRefTo : ℕ → List Value → Type 0
AnyRefTo n [] = ⊥
AnyRefTo n (v ∷ vs) = IsRefTo n v ⊎ AnyRefTo n vs

-- an object refers to its class and to what stands in its fields or literals
abbrev pub Refers : Object → ℕ → Type 0
Refers o n = (n ≡ o.class) ⊎ AnyRefTo n o.fields

-- what is held, one of the two tables of names, or on the root page; roots lists the first two
pub data IsRoot {H : Type 0} (m : ObjectMemory H) (h : H) (roots : List Value) (n : ℕ) : Type 0 where
  held_root : AnyRefTo n roots → IsRoot m h roots n
  page_root : (q : PageObject) → n ≡ m.named h q → IsRoot m h roots n

-- a member of this set refers to n
pub record IsReferredFrom {H : Type 0} (m : ObjectMemory H) (h : H) (set : ℕ → Bool) (n : ℕ) : Type 0 where
  pub from : ℕ
  pub object : Object
  pub member : IsTrue (set from)
  pub is : m.read h from ≡ Some object
  pub refers : Refers object n

-- a set of kept objects of which each is a root or is referred to by a member
pub record SupportsItself {H : Type 0} (m : ObjectMemory H) (h : H) (roots : List Value) (set : ℕ → Bool) : Type 0 where
  pub kept : (n : ℕ) → IsTrue (set n) → IsTrue (m.kept h n)
  pub supported : (n : ℕ) → IsTrue (set n) → IsRoot m h roots n ⊎ IsReferredFrom m h set n

-- the largest set of kept objects that supports itself
pub record IsSettled {H : Type 0} (m : ObjectMemory H) (h : H) (roots : List Value) (set : ℕ → Bool) : Type 0 where
  pub supports : SupportsItself m h roots set
  pub largest : (other : ℕ → Bool) → SupportsItself m h roots other → (n : ℕ) → IsTrue (other n) → IsTrue (set n)

abbrev pub with_memory : {H : Type 0} → State H → H → State H
with_memory s h = record { memory = h; registers = s.registers; world = s.world; head = s.head }

-- t is s with nothing kept but its largest set that supports itself
pub record Reclaimed {H : Type 0} (m : ObjectMemory H) (s t : State H) : Type 0 where
  pub set : ℕ → Bool
  pub is_settled : IsSettled m s.memory (roots_of s) set
  pub is : t ≡ with_memory s (m.settled s.memory set)

-- the same set computed: members that nothing supports leave, round after round

abbrev pub or : Bool → Bool → Bool
or a b = if a then true else b

abbrev pub names : Value → ℕ → Bool
names (Small x) n = false
names (Ref x) n = n == x

abbrev pub any_names : List Value → ℕ → Bool
any_names [] n = false
any_names (v ∷ vs) n = or (names v n) (any_names vs n)

abbrev pub object_names : Option Object → ℕ → Bool
object_names None n = false
object_names (Some o) n = or (n == o.class) (any_names o.fields n)

abbrev pub any_below : ℕ → (ℕ → Bool) → Bool
any_below zero test = false
any_below (suc n) test = or (test n) (any_below n test)

abbrev pub any_of_page : List PageObject → (PageObject → Bool) → Bool
any_of_page [] test = false
any_of_page (q ∷ qs) test = or (test q) (any_of_page qs test)

-- the marks of the names below n
abbrev pub marks_below : ℕ → (ℕ → Bool) → List Bool
marks_below zero test = []
marks_below (suc n) test = marks_below n test ++ test n ∷ []

abbrev pub is_marked : List Bool → ℕ → Bool
is_marked marks n = slice_index_or marks n false

module _ {H : Type 0} (m : ObjectMemory H) where
  unfoldable pub is_root : H → List Value → ℕ → Bool
  is_root h roots n = or (any_names roots n) (any_of_page page (λ q. n == m.named h q))

  unfoldable pub is_supported : H → List Value → (ℕ → Bool) → ℕ → Bool
  is_supported h roots set n = or (is_root h roots n) (any_below (m.size h) (λ k. set k && object_names (m.read h k) n))

  -- the marked names that something supports
  unfoldable pub next_round : H → List Value → List Bool → List Bool
  next_round h roots marks = marks_below (m.size h) (λ n. is_marked marks n && is_supported h roots (is_marked marks) n)

  abbrev pub round : H → List Value → ℕ → List Bool
  round h roots zero = marks_below (m.size h) (m.kept h)
  round h roots (suc k) = next_round h roots (round h roots k)

  -- after one round more than there are names no member leaves
  unfoldable pub settled_set : H → List Value → ℕ → Bool
  settled_set h roots = is_marked (round h roots (suc (m.size h)))

  -- of the kept objects only those of the largest set that supports itself
  unfoldable pub reclaim : State H → State H
  reclaim s = with_memory s (m.settled s.memory (settled_set s.memory (roots_of s)))
