-- Primitives (chapter 29): how one is tried, and the numbers and fields that several of them use.
use Rattle.std.specs.Prelude.{ℕ, zero, suc, ◌+◌, ◌*◌, ◌/◌, ◌%◌, ◌==◌, List, [], ◌∷◌, length, Option, Some, None, Bool, true, false, nat_lt, nat_le, if◌then◌else◌, ℤ, pos, negsuc}
use Rattle.st_model.specs.declared.dead.Dead.TheVariants as dead
use Rattle.st_model.specs.declared.kind.Kind.TheVariants as kind
use Rattle.st_model.specs.Values.{Value, Small, Ref, small_integer}
use Rattle.st_model.specs.Objects.{PageObject, FalseObject, TrueObject, LargeClass, is_pointers, is_bytes}
use Rattle.st_model.specs.Machine.{ObjectMemory, Step, answer, die, tried, ◌>>=◌, ◌>>◌}
use Rattle.st_model.specs.Steps.{of_page, class_of, same_value, check, fetch_kind, fetch_size, fetch_field, fetch_bytes, store_bytes, make, push, pop, top, under}

-- the 15 bits of a SmallInteger
unfoldable pub bits_or_die : {H : Type 0} → Value → Step H ℕ
bits_or_die (Small n) = answer n
bits_or_die (Ref n) = die dead.NotSmall

-- a SmallInteger of at least 0
unfoldable pub positive_small : {H : Type 0} → Value → Step H ℕ
positive_small v = do
  n ← bits_or_die v
  check dead.Field (nat_lt n 16384)
  answer n

-- a SmallInteger from 0 to 255
unfoldable pub byte_or_die : {H : Type 0} → Value → Step H ℕ
byte_or_die v = do
  n ← bits_or_die v
  check dead.Field (nat_lt n 256)
  answer n

-- the number of these bytes, the low one first
abbrev pub number_of_bytes : List ℕ → ℕ
number_of_bytes [] = 0
number_of_bytes (b ∷ bs) = b + 256 * number_of_bytes bs

-- the least bytes that have this value, the low one first, and so many at most
abbrev pub bytes_within : ℕ → ℕ → List ℕ
bytes_within zero k = []
bytes_within (suc left) k = if nat_lt k 256 then k ∷ [] else k % 256 ∷ bytes_within left (k / 256)

-- of a number below 2^128
abbrev pub bytes_of_number : ℕ → List ℕ
bytes_of_number k = bytes_within 16 k

module _ {H : Type 0} (m : ObjectMemory H) where
  -- pops n words, the top one first
  unfoldable pub pop_words : ℕ → Step H Unit
  pop_words zero = answer tt
  pop_words (suc n) = do
    x ← pop m
    pop_words n

  -- receiver and n arguments are popped, and then the answer is pushed
  unfoldable pub answer_with : ℕ → Value → Step H Unit
  answer_with n v = pop_words (n + 1) >> push m v

  unfoldable pub succeed : {A : Type 0} → ℕ → (A → Step H Value) → Option A → Step H Bool
  succeed n effect None = answer false
  succeed n effect (Some a) = do
    v ← effect a
    answer_with n v
    answer true

  -- A primitive of n arguments, and whether it succeeded. Its conditions are tried: where one of them would die, the primitive
  -- fails, and has changed nothing. Else its effect is made first, which gives the answer.
  unfoldable pub primitive : {A : Type 0} → ℕ → Step H A → (A → Step H Value) → Step H Bool
  primitive n conditions effect = tried conditions >>= succeed n effect

  -- a primitive of a receiver r alone
  abbrev pub of_receiver : {A : Type 0} → (Value → Step H A) → (Value → A → Step H Value) → Step H Bool
  of_receiver conditions effect = do
    r ← top m
    primitive 0 (conditions r) (effect r)

  -- a primitive of a receiver r and an argument a
  abbrev pub of_one : {A : Type 0} → (Value → Value → Step H A) → (Value → Value → A → Step H Value) → Step H Bool
  of_one conditions effect = do
    r ← under m 1
    a ← top m
    primitive 1 (conditions r a) (effect r a)

  -- a primitive of a receiver r and two arguments a and b
  abbrev pub of_two : {A : Type 0} → (Value → Value → Value → Step H A) → (Value → Value → Value → A → Step H Value) → Step H Bool
  of_two conditions effect = do
    r ← under m 2
    a ← under m 1
    b ← top m
    primitive 2 (conditions r a b) (effect r a b)

  -- true or false, as an answer
  unfoldable pub truth : Bool → Step H Value
  truth true = of_page m TrueObject
  truth false = of_page m FalseObject

  -- an instance of this class of the page
  unfoldable pub check_class : Value → PageObject → Step H Unit
  check_class v q = do
    class ← class_of m v
    wanted ← of_page m q
    check dead.Kind (same_value class wanted)

  -- an object of kind Bytes
  unfoldable pub check_bytes : Value → Step H Unit
  check_bytes v = do
    k ← fetch_kind m v
    check dead.Kind (is_bytes k)

  -- the value of a LargePositiveInteger: an object of kind Bytes, with 1 of them and so many at most
  unfoldable pub large_value : ℕ → Value → Step H ℕ
  large_value most v = do
    check_class v LargeClass
    check_bytes v
    n ← fetch_size m v
    check dead.Field (nat_le 1 n)
    check dead.Field (nat_le n most)
    bytes ← fetch_bytes m v 0 n
    answer (number_of_bytes bytes)

  -- the value of a SmallInteger of at least 0, or of a LargePositiveInteger with so many bytes at most
  unfoldable pub positive_value : ℕ → Value → Step H ℕ
  positive_value most (Small n) = positive_small (Small n)
  positive_value most (Ref n) = large_value most (Ref n)

  -- a new LargePositiveInteger of these bytes
  unfoldable pub new_large : List ℕ → Step H Value
  new_large bytes = do
    class ← of_page m LargeClass
    o ← make m class kind.Bytes (length bytes) 0
    store_bytes m o 0 bytes
    answer o

  -- the SmallInteger of a number, or above 16383 a new LargePositiveInteger
  unfoldable pub number : ℕ → Step H Value
  number k = if nat_lt k 16384 then answer (Small k) else new_large (bytes_of_number k)

  unfoldable pub number_of : ℤ → Step H Value
  number_of (pos k) = number k
  number_of (negsuc k) = answer (small_integer (negsuc k))

-- What the instance specification of a class says, field 2, in the bits of its word: bit 0 that the instances have pointers,
-- bit 1 words, bit 2 that they are indexable, and bits 4 to 14 the number of fixed fields.

abbrev pub fixed_count : ℕ → ℕ
fixed_count specification = specification % 2048

module _ {H : Type 0} (m : ObjectMemory H) where
  -- the specification is readable where the class is of kind Pointers and field 2 holds a SmallInteger
  unfoldable pub specification : Value → Step H ℕ
  specification class = fetch_field m class 2 >>= bits_or_die

  unfoldable pub fixed_of_class : Value → Step H ℕ
  fixed_of_class v = do
    class ← class_of m v
    s ← specification class
    answer (fixed_count s)

  unfoldable pub fixed_by : Value → Bool → Step H ℕ
  fixed_by v true = fixed_of_class v
  fixed_by v false = answer 0

  -- how many fixed fields an object has: of kind Pointers those of its class, and of any other kind none
  unfoldable pub fixed_fields : Value → Step H ℕ
  fixed_fields v = do
    k ← fetch_kind m v
    fixed_by v (is_pointers k)

abbrev pub has_pointers : ℕ → Bool
has_pointers specification = specification / 16384 % 2 == 1

abbrev pub has_words : ℕ → Bool
has_words specification = specification / 8192 % 2 == 1

abbrev pub is_indexable : ℕ → Bool
is_indexable specification = specification / 4096 % 2 == 1
