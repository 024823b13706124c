-- The book's object memory: all objects ever made, by birth number, with the pointers that they bear and whether they
-- are kept. Nothing is reclaimed or moved.
use Rattle.std.specs.Prelude.{◌+◌, ℕ, zero, suc, List, [], ◌∷◌, Option, Some, None, Bool, true, false, length, ◌==◌, ◌&&◌, if◌then◌else◌, max, is_some}
use Rattle.st_model.specs.Objects.{Object, place_of}
use Rattle.st_model.specs.Machine.{ObjectMemory}

pub record Birth : Type 0 where
  pub object : Object
  pub pointer : ℕ
  pub kept : Bool

abbrev pub Births : Type 0
Births = List Birth

abbrev pub object_born : Births → ℕ → Option Object
object_born [] n = None
object_born (b ∷ h) zero = Some b.object
object_born (b ∷ h) (suc n) = object_born h n

abbrev pub replaced : Births → ℕ → Object → Births
replaced [] n o = []
replaced (b ∷ h) zero o = record { object = o; pointer = b.pointer; kept = b.kept } ∷ h
replaced (b ∷ h) (suc n) o = b ∷ replaced h n o

abbrev pub exchanged_births : Births → ℕ → ℕ → Option Object → Option Object → Births
exchanged_births h a b (Some o) (Some p) = replaced (replaced h a p) b o
exchanged_births h a b o p = h

abbrev pub bears : Birth → ℕ → Bool
bears b k = b.kept && (b.pointer == k)

-- a kept object bears this pointer
abbrev pub is_borne : Births → ℕ → Bool
is_borne [] k = false
is_borne (b ∷ h) k = if bears b k then true else is_borne h k

-- the birth number of the kept object that bears it
abbrev pub bearer : Births → ℕ → ℕ
bearer [] k = 0
bearer (b ∷ h) k = if bears b k then 0 else suc (bearer h k)

-- a number above all pointers
abbrev pub above : Births → ℕ
above [] = 0
above (b ∷ h) = max (suc b.pointer) (above h)

abbrev pub first_from : (ℕ → Bool) → ℕ → ℕ → ℕ
first_from taken zero k = k
first_from taken (suc fuel) k = if taken k then first_from taken fuel (suc k) else k

-- the least pointer from 2 up that no kept object bears; pointers are halved here, as in the table
unfoldable pub least_free : Births → ℕ
least_free h = first_from (is_borne h) (above h) 1

-- the pointer that the object bears, if it is kept
abbrev pub kept_pointer : Birth → Option ℕ
kept_pointer b = if b.kept then Some b.pointer else None

abbrev pub borne : Births → ℕ → Option ℕ
borne [] n = None
borne (b ∷ h) zero = kept_pointer b
borne (b ∷ h) (suc n) = borne h n

-- the pointer of a birth, as far as there is one
abbrev pub pointer_of : Births → ℕ → ℕ
pointer_of [] n = 0
pointer_of (b ∷ h) zero = b.pointer
pointer_of (b ∷ h) (suc n) = pointer_of h n

-- the sum of a number over the kept objects
abbrev pub total_kept : (Object → ℕ) → Births → ℕ
total_kept weight [] = 0
total_kept weight (b ∷ h) = (if b.kept then weight b.object else 0) + total_kept weight h

-- a new object goes to the end, and is kept
abbrev pub born : Births → Birth → Births
born [] b = b ∷ []
born (x ∷ h) b = x ∷ born h b

-- the objects of which the test holds stay kept
abbrev pub settled_births : Births → (ℕ → Bool) → Births
settled_births [] keep = []
settled_births (b ∷ h) keep = record { object = b.object; pointer = b.pointer; kept = b.kept && keep 0 } ∷ settled_births h (λ n. keep (suc n))

abbrev pub births : ObjectMemory Births
births = record {
  read = object_born;
  replace = replaced;
  exchange = λ h a b. exchanged_births h a b (object_born h a) (object_born h b);
  append = λ h o. born h (record { object = o; pointer = least_free h; kept = true });
  next = λ h. length h;
  named = λ h q. bearer h (place_of q);
  size = λ h. length h;
  kept = λ h n. is_some (borne h n);
  settled = settled_births;
  pointer = pointer_of;
  borne_by = λ h k. if is_borne h k then Some (bearer h k) else None;
  total = total_kept;
  bounded = false;
}

abbrev pub or_object : Object → Option Object → Option Object
or_object o None = Some o
or_object o (Some a) = Some a

-- the births with this object under each name under which none was born
abbrev pub births_with : Object → ObjectMemory Births
births_with o = record births { read = λ h n. or_object o (object_born h n) }
