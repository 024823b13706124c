-- What is wrong with an image file, in ten rows, and which of it is the file's fault: the first row that fails, and in it
-- the least pointer, then the least second pointer or index. Each row is read totally, and means what it says where the
-- rows before it hold.
use Rattle.std.specs.Prelude.{◌≡◌, ℕ, zero, suc, ◌+◌, ◌-◌, ◌*◌, ◌/◌, ◌%◌, ◌<◌, ◌≤◌, ◌==◌, ◌⊎◌, Bool, true, not, ◌&&◌, ◌||◌, nat_lt, nat_le, List, [], ◌∷◌, ◌++◌, map, length, Contains, if◌then◌else◌}
use Rattle.st_model.specs.declared.dead.Dead.{Dead}
use Rattle.st_model.specs.declared.fault.ImageFault.{ImageFault}
use Rattle.st_model.specs.declared.fault.ImageFault.TheVariants.{Short, Lengths, Capacity, Size, Overlap, Class, Field, Method, Root, Scheduler}
use Rattle.st_model.specs.declared.head.ImageHead.{ImageHead}
use Rattle.st_model.specs.Objects.{page, place_of}
use Rattle.st_model.specs.Machine.{Died}
use Rattle.st_model.specs.Image.{table_end, form_of, entries_of, has_odd_length, has_pointers, is_used, place, size, class, body, literal_count, names}
use Rattle.st_model.specs.Start.{start}

-- 1: the file has no whole head, or ends before its table does
unfoldable pub short_fails : ImageHead → List ℕ → Bool
short_fails h bytes = nat_lt (length bytes) 512 || nat_lt (length bytes) (table_end h)

-- 2: the version isn't 1 or 2, the table's length is that of no number of entries or of more than 32768, or the object space is
-- longer than the version has
unfoldable pub lengths_fail : ImageHead → Bool
lengths_fail h = not (h.version == 1 || h.version == 2) || not (h.table % (form_of h).width == 0)
    || nat_lt (32768 * (form_of h).width) h.table || nat_lt (form_of h).most h.space

-- how many of the first n entries are in use
abbrev pub used_below : ImageHead → List ℕ → ℕ → ℕ
used_below h bytes zero = 0
used_below h bytes (suc n) = used_below h bytes n + (if is_used h bytes n then 1 else 0)

-- 3: the capacity for entries is above 32767 or below the number of entries in use, or that for words is more than the version
-- has or below the length of the object space
unfoldable pub capacity_fails : ImageHead → List ℕ → Bool
capacity_fails h bytes = nat_lt 32767 h.entries || nat_lt h.entries (used_below h bytes (entries_of h))
    || nat_lt (form_of h).most h.words || nat_lt h.words h.space

-- 4: the object leaves the object space, its size is under 2, or odd length stands with pointers or with an empty body
unfoldable pub size_fails : ImageHead → List ℕ → ℕ → Bool
size_fails h bytes k = is_used h bytes k
    && (nat_lt h.space (place h bytes k + size h bytes k) || nat_lt (size h bytes k) 2
    || (has_odd_length h bytes k && (has_pointers h bytes k || (size h bytes k == 2))))

-- the word w of the object space is one of the object of entry k
abbrev pub HasWord : ImageHead → List ℕ → ℕ → ℕ → Type 0
HasWord h bytes k w = (is_used h bytes k ≡ true) × (place h bytes k ≤ w) × (w < place h bytes k + size h bytes k)

-- 5: two objects share a word
abbrev pub ShareWord : ImageHead → List ℕ → ℕ → ℕ → Type 0
ShareWord h bytes j k = (w : ℕ) × (HasWord h bytes j w × HasWord h bytes k w)

-- 6: the class is odd, 0 or no entry in use
unfoldable pub class_fails : ImageHead → List ℕ → ℕ → Bool
class_fails h bytes k = is_used h bytes k && not (names h bytes (class h bytes k))

-- Word i of the body is a field: each one of a body of pointers is, and of a method's those literals that lie in the
-- object. The header, word 0 of a method, is none.
unfoldable pub is_field : ImageHead → List ℕ → ℕ → ℕ → Bool
is_field h bytes k i = nat_lt i (size h bytes k - 2)
    && (has_pointers h bytes k || ((class h bytes k == 34) && (nat_lt 0 i && nat_le i (literal_count (body h bytes k 0)))))

-- 7: the field is even and names no entry in use
unfoldable pub field_fails : ImageHead → List ℕ → ℕ → ℕ → Bool
field_fails h bytes k i = is_used h bytes k && (is_field h bytes k i && ((body h bytes k i % 2 == 0) && not (names h bytes (body h bytes k i))))

-- 8: an object of class 34 has pointers, no header, an even header, or more literals than words after the header
unfoldable pub method_fails : ImageHead → List ℕ → ℕ → Bool
method_fails h bytes k = is_used h bytes k && ((class h bytes k == 34) && (has_pointers h bytes k || (size h bytes k == 2)
    || (body h bytes k 0 % 2 == 0) || nat_lt (size h bytes k - 3) (literal_count (body h bytes k 0))))

-- the pointers of the root page, of the global name table and of the symbol table
abbrev pub roots : ImageHead → List ℕ
roots h = map (λ q. 2 * place_of q) page ++ h.globals ∷ h.symbols ∷ []

-- 9: a root that isn't 0 is odd or names no entry in use
unfoldable pub root_fails : ImageHead → List ℕ → ℕ → Bool
root_fails h bytes p = not (p == 0) && not (names h bytes p)

-- a row that concerns the entry of an even pointer
abbrev pub At : ℕ → (ℕ → Bool) → Type 0
At p fails = (p % 2 ≡ 0) × (fails (p / 2) ≡ true)

-- the rows: what a fault says is so; 10 is that the registers cannot be fetched
unfoldable pub Fails : ImageHead → List ℕ → ImageFault → Type 0
Fails h bytes Short = short_fails h bytes ≡ true
Fails h bytes Lengths = lengths_fail h ≡ true
Fails h bytes Capacity = capacity_fails h bytes ≡ true
Fails h bytes (Size p) = At p (size_fails h bytes)
Fails h bytes (Overlap p q) = (p % 2 ≡ 0) × (q % 2 ≡ 0) × (p < q) × ShareWord h bytes (p / 2) (q / 2)
Fails h bytes (Class p) = At p (class_fails h bytes)
Fails h bytes (Field p i) = At p (λ k. field_fails h bytes k i)
Fails h bytes (Method p) = At p (method_fails h bytes)
Fails h bytes (Root p) = Contains (roots h) p × (root_fails h bytes p ≡ true)
Fails h bytes Scheduler = (cause : Dead) × (start h bytes ≡ Died cause)

-- the order of faults: by row, then pointer, then second pointer or index

-- the row of a fault
abbrev pub row : ImageFault → ℕ
row Short = 1
row Lengths = 2
row Capacity = 3
row (Size p) = 4
row (Overlap p q) = 5
row (Class p) = 6
row (Field p i) = 7
row (Method p) = 8
row (Root p) = 9
row Scheduler = 10

-- its pointer; 0 where it has none
abbrev pub first_number : ImageFault → ℕ
first_number (Size p) = p
first_number (Overlap p q) = p
first_number (Class p) = p
first_number (Field p i) = p
first_number (Method p) = p
first_number (Root p) = p
first_number f = 0

-- its second pointer or its index; 0 where it has none
abbrev pub second_number : ImageFault → ℕ
second_number (Overlap p q) = q
second_number (Field p i) = i
second_number f = 0

-- of two faults of a row the one with the lesser pointer, or with the same one and the lesser second pointer or index
abbrev pub Sooner : ImageFault → ImageFault → Type 0
Sooner f g = (first_number f < first_number g) ⊎ ((first_number f ≡ first_number g) × (second_number f < second_number g))

-- the one of the earlier row, or of the same row the sooner one
abbrev pub Before : ImageFault → ImageFault → Type 0
Before f g = (row f < row g) ⊎ ((row f ≡ row g) × Sooner f g)

-- the image's fault: it is so, and none before it is
pub record IsImageFault (h : ImageHead) (bytes : List ℕ) (f : ImageFault) : Type 0 where
  pub fails : Fails h bytes f
  pub least : (g : ImageFault) → Before g f → ¬ Fails h bytes g

-- no row fails
abbrev pub IsWellFormed : ImageHead → List ℕ → Type 0
IsWellFormed h bytes = (f : ImageFault) → ¬ Fails h bytes f
