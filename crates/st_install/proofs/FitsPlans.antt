-- What is planned for small literals is small.
use Rattle.std.proofs.Common.{◌≡◌, ℕ, zero, suc, ◌+◌, ◌/◌, ◌%◌, ◌≤◌, Bool, true, false, List, [], ◌∷◌, ◌++◌, length, map, refl, subst, arith}
use Rattle.std.specs.Prelude.{if◌then◌else◌, nat_lt}
use Rattle.std.specs.List.{AllByRecursion}
use Rattle.st_model.specs.declared.dead.Dead.TheVariants as dead
use Rattle.st_model.specs.declared.page.PageObject.TheVariants.{NilObject, StringClass, ArrayClass, LargeClass, Characters}
use Rattle.st_model.specs.Values.{Value}
use Rattle.st_model.specs.Machine.{ObjectMemory, State, Transition, Died, Went, Step, answer, after, ◌>>=◌}
use Rattle.st_model.specs.Steps.{of_page, class_of, or_die, fetch_field, object_at}
use Rattle.st_model.specs.Primitives.{bytes_within}
use Rattle.st_scan.specs.declared.token.Signed.{Signed}
use Rattle.st_emit.specs.Literals.{LiteralView, LiteralsView}
use Rattle.st_emit.specs.Literals as literals
use Rattle.st_install.specs.Shapes.{most_of_one}
use Rattle.st_install.specs.Plans.{NewObject, bytes_object}
use Rattle.st_install.specs.Symbols.{NamedSymbol, symbol_part, symbols_of, symbols_among, symbols_in}
use Rattle.st_install.specs.Literals.{Placed, PlacedAll, place_size, place_signed, place_number, place_character, place_string, place_symbol, place_pointer, place_array, place_owner, then_placed, place_literal, place_members, place_literals}
use Rattle.st_install.specs.inside.Rooms.{AreSmall}
use Rattle.st_install.proofs.FitsLiterals.{count, IsSmall, AreSmallMembers}
use Rattle.st_install.proofs.FitsNaming.{AllSmall}

-- SYMBOLS

abbrev AreShort : List (List ℕ) → Type 0
AreShort texts = AllByRecursion (λ (text : List ℕ). length text ≤ most_of_one) texts

short_append : (xs ys : List (List ℕ)) → AreShort xs → AreShort ys → AreShort (xs ++ ys)
short_append [] ys h k = k
short_append (x ∷ xs) ys h k = (h.0, short_append xs ys h.1 k)

mutual
  symbols_short : (l : LiteralView) → IsSmall l → AreShort (symbols_of l)
  symbols_short (literals.symbol text) h = (h, tt)
  symbols_short (literals.array ls) h = among_short ls h.1
  symbols_short (literals.number n) h = tt
  symbols_short (literals.character b) h = tt
  symbols_short (literals.bytes text) h = tt
  symbols_short (literals.named pointer) h = tt
  symbols_short literals.owner h = tt

  among_short : (ls : LiteralsView) → AreSmallMembers ls → AreShort (symbols_among ls)
  among_short literals.no_literals h = tt
  among_short (literals.literal l ls) h = short_append (symbols_of l) (symbols_among ls) (symbols_short l h.0) (among_short ls h.1)

all_short : (ls : List LiteralView) → AllSmall ls → AreShort (symbols_in ls)
all_short [] h = tt
all_short (l ∷ ls) h = short_append (symbols_of l) (symbols_in ls) (symbols_short l h.0) (all_short ls h.1)

symbols_made : (class : Value) (texts : List (List ℕ)) → AreShort texts → AreSmall (map (bytes_object class) texts)
symbols_made class [] h = tt
symbols_made class (text ∷ texts) h = let k = h.0 in (omega (arith, k), symbols_made class texts h.1)

pub symbols_small : (class : Value) (selector : List ℕ) (ls : List LiteralView) → length selector ≤ most_of_one + 1 → AllSmall ls
    → AreSmall (map (bytes_object class) (selector ∷ symbols_in ls))
symbols_small class selector ls h k = (omega (arith, h), symbols_made class (symbols_in ls) (all_short ls k))

-- OTHERS

-- a number's object has at most as many bytes as are asked for
large_few : (most k : ℕ) → length (bytes_within most k) ≤ most
large_few zero k = omega arith
large_few (suc left) k = by_test (nat_lt k 256) (large_few left (k / 256))
  where
    by_test : (b : Bool) → length (bytes_within left (k / 256)) ≤ left → length (if b then k ∷ [] else k % 256 ∷ bytes_within left (k / 256)) ≤ suc left
    by_test true h = omega arith
    by_test false h = omega (arith, h)

pub small_append : (os ps : List NewObject) → AreSmall os → AreSmall ps → AreSmall (os ++ ps)
small_append [] ps h k = k
small_append (o ∷ os) ps h k = (h.0, small_append os ps h.1 k)

module _ {H : Type 0} where
  -- where it goes, this is so of its answer
  record Yields {A : Type 0} (m : Step H A) (Q : A → Type 0) : Type 0 where
    by : (s t : State H) (a : A) → m.run s ≡ Went a t → Q a

  yields_answer : {A : Type 0} (Q : A → Type 0) (b : A) → Q b → Yields (answer b) Q
  unfolding answer
  yields_answer {A = A} Q b q = record { by = λ s t a e. subst Q (same s t a e) q }
    where
      same : (s t : State H) (a : A) → Went b s ≡ Went a t → b ≡ a
      same s t a e = cc

  module _ {A B : Type 0} (P : A → Type 0) (Q : B → Type 0) where
    after_yields : (f : A → Step H B) (x : Transition (State H) A) (b : B) (w : State H) → after x (λ a t. (f a).run t) ≡ Went b w
        → ((a : A) (t : State H) → x ≡ Went a t → P a) → ((a : A) → P a → Yields (f a) Q) → Q b
    unfolding after
    after_yields f (Died c) b w e g h = cc
    after_yields f (Went a t) b w e g h = (h a (g a t refl)).by t w b e

    yields_then : (m : Step H A) (f : A → Step H B) → Yields m P → ((a : A) → P a → Yields (f a) Q) → Yields (m >>= f) Q
    unfolding ◌>>=◌
    yields_then m f g h = record { by = λ s w b e. after_yields f (m.run s) b w e (λ a t k. g.by s t a k) h }

  -- nothing need be known of the first
  yields_next : {A B : Type 0} (Q : B → Type 0) (m : Step H A) (f : A → Step H B) → ((a : A) → Yields (f a) Q) → Yields (m >>= f) Q
  yields_next {A = A} Q m f h = yields_then (λ a. Unit {0}) Q m f (record { by = λ s t a e. tt }) (λ a u. h a)

  module _ (m : ObjectMemory H) where
    abbrev YieldsSmall : Step H Placed → Type 0
    YieldsSmall step = Yields step (λ p. AreSmall p.objects)

    -- and as many parts
    abbrev YieldsAll : ℕ → Step H PlacedAll → Type 0
    YieldsAll n step = Yields step (λ p. AreSmall p.objects × (length p.parts ≡ n))

    size_yields : (next k : ℕ) (b : Bool) → YieldsSmall (place_size m next k b)
    unfolding place_size
    size_yields next k true = yields_answer _ _ tt
    size_yields next k false = yields_next _ (of_page m LargeClass) _ (λ class. yields_answer _ _ (let h = large_few 16 k in omega (arith, h), tt))

    signed_yields : (next k : ℕ) (b : Bool) → YieldsSmall (place_signed m next k b)
    unfolding place_signed
    signed_yields next k true = yields_answer _ _ tt
    signed_yields next k false = size_yields next k (nat_lt k 16384)

    number_yields : (next : ℕ) (n : Signed) → YieldsSmall (place_number m next n)
    unfolding place_number
    number_yields next n = signed_yields next n.size n.minus

    character_yields : (byte : ℕ) → YieldsSmall (place_character m byte)
    unfolding place_character
    character_yields byte = yields_next _ (of_page m Characters) _ (λ characters. yields_next _ (fetch_field m characters byte) _ (λ v. yields_answer _ _ tt))

    string_yields : (next : ℕ) (text : List ℕ) → length text ≤ most_of_one → YieldsSmall (place_string m next text)
    unfolding place_string
    string_yields next text h = yields_next _ (of_page m StringClass) _ (λ class. yields_answer _ _ (omega (arith, h), tt))

    pointer_yields : (pointer : ℕ) → YieldsSmall (place_pointer m pointer)
    unfolding place_pointer
    pointer_yields pointer = yields_next _ (object_at m (pointer / 2)) _ (λ found. yields_next _ (or_die dead.Kind found) _ (λ v. yields_answer _ _ tt))

    symbol_yields : (symbols : List NamedSymbol) (text : List ℕ) → YieldsSmall (place_symbol symbols text)
    unfolding place_symbol
    symbol_yields symbols text = yields_next _ (or_die dead.Field (symbol_part symbols text)) _ (λ part. yields_answer _ _ tt)

    array_yields : (next n : ℕ) (elements : PlacedAll) → 2 + n ≤ most_of_one → AreSmall elements.objects → length elements.parts ≡ n → YieldsSmall (place_array m next elements)
    unfolding place_array
    array_yields next n elements few h e = yields_next _ (of_page m ArrayClass) _ (λ class. yields_answer _ _ (omega (arith, few, e), h))

    owner_yields : (association class : Value) (meta : Bool) (next : ℕ) → YieldsSmall (place_owner m association class meta next)
    unfolding place_owner
    owner_yields association class false next = yields_answer _ _ tt
    owner_yields association class true next = yields_next _ (class_of m association) _ (λ kind. yields_next _ (of_page m NilObject) _ (λ nil. yields_answer _ _ (omega arith, tt)))

    then_small : (n : ℕ) (p : Placed) (ps : PlacedAll) → AreSmall p.objects → AreSmall ps.objects × (length ps.parts ≡ n) → AreSmall (then_placed p ps).objects × (length (then_placed p ps).parts ≡ suc n)
    then_small n p ps h k = let e = k.1 in (small_append p.objects ps.objects h k.0, omega (arith, e))

    module _ (symbols : List NamedSymbol) (owner : ℕ → Step H Placed) (owns : (next : ℕ) → YieldsSmall (owner next)) where
      mutual
        unfolding place_literal place_members

        literal_yields : (next : ℕ) (l : LiteralView) → IsSmall l → YieldsSmall (place_literal m symbols owner next l)
        literal_yields next (literals.number n) h = number_yields next n
        literal_yields next (literals.character b) h = character_yields b
        literal_yields next (literals.bytes text) h = string_yields next text h
        literal_yields next (literals.symbol text) h = symbol_yields symbols text
        literal_yields next (literals.array ls) h = yields_then _ _ _ _ (members_yield (next + 1) ls h.1) (λ elements k. array_yields next (count ls) elements h.0 k.0 k.1)
        literal_yields next (literals.named pointer) h = pointer_yields pointer
        literal_yields next literals.owner h = owns next

        members_yield : (next : ℕ) (ls : LiteralsView) → AreSmallMembers ls → YieldsAll (count ls) (place_members m symbols owner next ls)
        members_yield next literals.no_literals h = yields_answer _ _ (tt, refl)
        members_yield next (literals.literal l ls) h =
            yields_then _ _ _ _ (literal_yields next l h.0)
            (λ p k. yields_then _ _ _ _ (members_yield (next + length p.objects) ls h.1)
            (λ ps j. yields_answer _ _ (then_small (count ls) p ps k j)))

      literals_yield : (next : ℕ) (ls : List LiteralView) → AllSmall ls → YieldsAll (length ls) (place_literals m symbols owner next ls)
      unfolding place_literals
      literals_yield next [] h = yields_answer _ _ (tt, refl)
      literals_yield next (l ∷ ls) h =
          yields_then _ _ _ _ (literal_yields next l h.0)
          (λ p k. yields_then _ _ _ _ (literals_yield (next + length p.objects) ls h.1)
          (λ ps j. yields_answer _ _ (then_small (length ls) p ps k j)))

    pub placed_small : (symbols : List NamedSymbol) (association class : Value) (meta : Bool) (next : ℕ) (ls : List LiteralView) (s t : State H) (placed : PlacedAll) → AllSmall ls
        → (place_literals m symbols (place_owner m association class meta) next ls).run s ≡ Went placed t → AreSmall placed.objects × (length placed.parts ≡ length ls)
    placed_small symbols association class meta next ls s t placed h e =
        (literals_yield symbols (place_owner m association class meta) (owner_yields association class meta) next ls h).by s t placed e
