-- The literals of a method, and the objects that are made for them: each in its turn, an array before its elements.
use Rattle.std.specs.Prelude.{ℕ, zero, suc, ◌+◌, ◌/◌, List, [], ◌∷◌, ◌++◌, length, Bool, true, false, nat_lt, negsuc}
use Rattle.st_model.specs.declared.dead.Dead.TheVariants as dead
use Rattle.st_model.specs.Values.{Value, Small, small_integer}
use Rattle.st_model.specs.declared.page.PageObject.TheVariants.{NilObject, StringClass, ArrayClass, LargeClass, Characters}
use Rattle.st_model.specs.Machine.{ObjectMemory, Step, answer, ◌>>=◌}
use Rattle.st_model.specs.Steps.{of_page, class_of, or_die, fetch_field, object_at}
use Rattle.st_model.specs.Primitives.{bytes_within}
use Rattle.st_scan.specs.declared.token.Signed.{Signed}
use Rattle.st_emit.specs.Literals.{LiteralView, LiteralsView}
use Rattle.st_emit.specs.Literals as literals
use Rattle.st_install.specs.Plans.{PlannedValue, There, Made, NewObject, pointers_object, bytes_object}
use Rattle.st_install.specs.Symbols.{NamedSymbol, symbol_part}

-- the literal, and what is made for it
pub record Placed : Type 0 where
  pub part : PlannedValue
  pub objects : List NewObject

pub record PlacedAll : Type 0 where
  pub parts : List PlannedValue
  pub objects : List NewObject

abbrev pub as_it_is : PlannedValue → Placed
as_it_is p = record { part = p; objects = [] }

-- one object, of this number
abbrev pub made_as : ℕ → NewObject → Placed
made_as next o = record { part = Made next; objects = o ∷ [] }

-- the SmallInteger of a number of this size with a minus sign
abbrev pub negated : ℕ → Value
negated zero = Small 0
negated (suc k) = small_integer (negsuc k)

-- the bytes of a LargePositiveInteger, the low one first: a literal has at most 16
abbrev pub large_bytes : ℕ → List ℕ
large_bytes k = bytes_within 16 k

-- a Symbol, as the plan for the symbols has it
unfoldable pub place_symbol : {H : Type 0} → List NamedSymbol → List ℕ → Step H Placed
place_symbol symbols text = do
  part ← or_die dead.Field (symbol_part symbols text)
  answer (as_it_is part)

-- a literal that was placed, before others
abbrev pub then_placed : Placed → PlacedAll → PlacedAll
then_placed p ps = record { parts = p.part ∷ ps.parts; objects = p.objects ++ ps.objects }

module _ {H : Type 0} (m : ObjectMemory H) where
  -- NUMBERS

  unfoldable pub place_size : ℕ → ℕ → Bool → Step H Placed
  place_size next size true = answer (as_it_is (There (Small size)))
  place_size next size false = do
    class ← of_page m LargeClass
    answer (made_as next (bytes_object class (large_bytes size)))

  unfoldable pub place_signed : ℕ → ℕ → Bool → Step H Placed
  place_signed next size true = answer (as_it_is (There (negated size)))
  place_signed next size false = place_size next size (nat_lt size 16384)

  -- a SmallInteger, or above 16383 a LargePositiveInteger
  unfoldable pub place_number : ℕ → Signed → Step H Placed
  place_number next n = place_signed next n.size n.minus

  -- OTHERS

  -- a Character is the field of its number in the table of characters
  unfoldable pub place_character : ℕ → Step H Placed
  place_character byte = do
    characters ← of_page m Characters
    v ← fetch_field m characters byte
    answer (as_it_is (There v))

  unfoldable pub place_string : ℕ → List ℕ → Step H Placed
  place_string next text = do
    class ← of_page m StringClass
    answer (made_as next (bytes_object class text))

  -- the object that bears a pointer: an association, nil, false or true
  unfoldable pub place_pointer : ℕ → Step H Placed
  place_pointer pointer = do
    found ← object_at m (pointer / 2)
    v ← or_die dead.Kind found
    answer (as_it_is (There v))

  -- an array behind which its elements were placed
  unfoldable pub place_array : ℕ → PlacedAll → Step H Placed
  place_array next elements = do
    class ← of_page m ArrayClass
    answer (record { part = Made next; objects = pointers_object class elements.parts ∷ elements.objects })

  -- OWNER: the association of the method's class

  -- on the instance side the global by which the class was found, and on the class side a new one without a key
  unfoldable pub place_owner : Value → Value → (meta : Bool) → ℕ → Step H Placed
  place_owner association class false next = answer (as_it_is (There association))
  place_owner association class true next = do
    kind ← class_of m association
    nil ← of_page m NilObject
    answer (made_as next (pointers_object kind (There nil ∷ There class ∷ [])))

-- LITERALS

abbrev pub none_placed : PlacedAll
none_placed = record { parts = []; objects = [] }

-- What is made for a literal is numbered from next on. The owner stands in no array.
module _ {H : Type 0} (m : ObjectMemory H) (symbols : List NamedSymbol) (owner : ℕ → Step H Placed) where
  unfoldable mutual
    pub place_literal : ℕ → LiteralView → Step H Placed
    place_literal next (literals.number n) = place_number m next n
    place_literal next (literals.character b) = place_character m b
    place_literal next (literals.bytes text) = place_string m next text
    place_literal next (literals.symbol text) = place_symbol symbols text
    place_literal next (literals.array ls) = place_members (next + 1) ls >>= (λ elements. place_array m next elements)
    place_literal next (literals.named pointer) = place_pointer m pointer
    place_literal next literals.owner = owner next

    pub place_members : ℕ → LiteralsView → Step H PlacedAll
    place_members next literals.no_literals = answer none_placed
    place_members next (literals.literal l ls) =
        place_literal next l >>= (λ p. place_members (next + length p.objects) ls >>= (λ ps. answer (then_placed p ps)))

  unfoldable pub place_literals : ℕ → List LiteralView → Step H PlacedAll
  place_literals next [] = answer none_placed
  place_literals next (l ∷ ls) = do
    p ← place_literal next l
    ps ← place_literals (next + length p.objects) ls
    answer (then_placed p ps)
