-- A search that finds a method in one table finds it in each table that has the objects which it meets.
use Rattle.std.proofs.Common.{◌≡◌, ℕ, ◌+◌, zero, suc, Option, Some, None, Bool, true, false, refl, sym, subst, is_some, length, arith}
use Rattle.std.specs.Prelude.{◌-◌, ◌==◌, slice_get, bit_and, nat_lt, ⊤}
use Rattle.std.proofs.lemmas.Bool.Decides.{nat_tests}
use Rattle.st_model.specs.declared.dead.Dead.{Dead}
use Rattle.st_model.specs.declared.dead.Dead.TheVariants as dead
use Rattle.st_model.specs.declared.page.PageObject.TheVariants.{NilObject}
use Rattle.st_model.specs.Values.{Value, Small, Ref}
use Rattle.st_model.specs.Objects.{Object, is_pointers, is_method}
use Rattle.st_model.specs.Machine.{State, Transition, Died, Went, Step, after, answer, die, ◌>>=◌, ◌>>◌}
use Rattle.st_model.specs.Steps.{of_page, found, object_named, object, check, or_die, same_value, fetch_field, count_fields}
use Rattle.st_model.specs.Methods.{method_header}
use Rattle.st_model.specs.Lookup.{pointer_if, half_word, checked_method, method_at, place_says, look_at_place, look_at_places, search_from, search_dictionary, or_above, method_in_class, look_in_class, unless_nil, end_at_nil, find_within, find}
use Rattle.st_model.specs.Table.{Table, entry, table}
use Rattle.st_memory.proofs.Looking.{some_state}

-- a state with another table
abbrev pub over : State Table → Table → State Table
over s t = record s { memory = t }

-- the value is a SmallInteger, or names one of these
abbrev pub IsOf : (ℕ → Type 0) → Value → Type 0
IsOf P (Small n) = ⊤
IsOf P (Ref n) = P n

-- the second table has each of these objects of the first, and they name each other alone
pub record Carries (P : ℕ → Type 0) (t u : Table) : Type 0 where
  pub has : (k : ℕ) (o : Object) → P k → entry t k ≡ Some o → entry u k ≡ Some o
  pub closed : (k : ℕ) (o : Object) (i : ℕ) (v : Value) → P k → entry t k ≡ Some o → slice_get o.fields i ≡ Some v → IsOf P v

-- a value has the same half in both
abbrev pub SameHalf : Table → Table → Value → Type 0
SameHalf t u (Small n) = ⊤
SameHalf t u (Ref n) = is_some (entry u n) ≡ is_some (entry t n)

-- where the first goes to an answer of which Q holds, so does the second
abbrev Follows : {A : Type 0} → State Table → Table → Table → (A → Type 0) → Transition (State Table) A → Transition (State Table) A → Type 0
Follows s t u Q (Died a) y = ⊤
Follows s t u Q (Went a x) (Died b) = ⊥
Follows s t u Q (Went a x) (Went b y) = (a ≡ b) × (x ≡ over s t) × (y ≡ over s u) × Q a

record Carried {A : Type 0} (t u : Table) (m : Step Table A) (Q : A → Type 0) : Type 0 where
  carried : (s : State Table) → Follows s t u Q (m.run (over s t)) (m.run (over s u))

abbrev Free : {A : Type 0} → A → Type 0
Free a = Unit {0}

same_number : (a b : ℕ) → (a == b) ≡ true → a ≡ b
same_number a b e = grind (arith, nat_tests)

module _ {A B : Type 0} (t u : Table) (P : A → Type 0) (Q : B → Type 0) where
  after_carried : (f : A → Step Table B) (s : State Table) (x y : Transition (State Table) A) → Follows s t u P x y → ((a : A) → P a → Carried t u (f a) Q)
      → Follows s t u Q (after x (λ a z. (f a).run z)) (after y (λ a z. (f a).run z))
  unfolding after
  after_carried f s (Died a) y h k = tt
  after_carried f s (Went a x) (Died b) h k = absurd h
  after_carried f s (Went a x) (Went b y) h k = rw (sym h.0, h.1, h.2) ((k a h.3).carried s)

  then_carried : (m : Step Table A) (f : A → Step Table B) → Carried t u m P → ((a : A) → P a → Carried t u (f a) Q) → Carried t u (m >>= f) Q
  unfolding ◌>>=◌
  then_carried m f g h = record { carried = λ s. after_carried f s (m.run (over s t)) (m.run (over s u)) (g.carried s) h }

  next_carried : (m : Step Table A) (n : Step Table B) → Carried t u m P → Carried t u n Q → Carried t u (m >> n) Q
  unfolding ◌>>◌
  next_carried m n g h = then_carried m (λ a. n) g (λ a p. h)

module _ (t u : Table) where
  answer_carried : {A : Type 0} (Q : A → Type 0) (a : A) → Q a → Carried t u (answer a) Q
  unfolding answer
  answer_carried Q a q = record { carried = λ s. (refl, refl, refl, q) }

  die_carried : {A : Type 0} (Q : A → Type 0) (c : Dead) → Carried t u (die c) Q
  unfolding die
  die_carried Q c = record { carried = λ s. tt }

  check_carried : (c : Dead) (b : Bool) → Carried t u (check c b) Free
  unfolding check
  check_carried c true = answer_carried Free tt tt
  check_carried c false = die_carried Free c

  or_die_carried : {A : Type 0} (Q : A → Type 0) (c : Dead) (x : Option A) → ((a : A) → x ≡ Some a → Q a) → Carried t u (or_die c x) Q
  unfolding or_die
  or_die_carried Q c None q = die_carried Q c
  or_die_carried Q c (Some a) q = answer_carried Q a (q a refl)

  nil_carried : Carried t u (of_page table NilObject) Free
  unfolding of_page
  nil_carried = record { carried = λ s. (refl, refl, refl, tt) }

module _ (P : ℕ → Type 0) (t u : Table) (c : Carries P t u) where
  -- an object that names none but these
  abbrev Names : Object → Type 0
  Names o = (i : ℕ) (v : Value) → slice_get o.fields i ≡ Some v → IsOf P v

  found_carried : (n : ℕ) (p : P n) (x y : Option Object) (s : State Table) → entry t n ≡ x → entry u n ≡ y → Follows s t u Names ((found x).run (over s t)) ((found y).run (over s u))
  unfolding found die answer
  found_carried n p None y s e f = tt
  found_carried n p (Some o) None s e f = let h = c.has n o p e in cc
  found_carried n p (Some o) (Some q) s e f =
      let h = c.has n o p e in
      let same : o ≡ q = cc in
      (same, refl, refl, λ i v g. c.closed n o i v p e g)

  object_carried : (v : Value) → IsOf P v → Carried t u (object table v) Names
  unfolding object object_named
  object_carried (Small n) p = die_carried t u _ dead.Small
  object_carried (Ref n) p = record { carried = λ s. found_carried n p (entry t n) (entry u n) s refl refl }

  field_carried : (v : Value) (i : ℕ) → IsOf P v → Carried t u (fetch_field table v i) (IsOf P)
  unfolding fetch_field
  field_carried v i p =
      then_carried t u Names (IsOf P) (object table v) _ (object_carried v p)
      (λ o names. next_carried t u Free (IsOf P) (check dead.Kind (is_pointers o.kind)) _ (check_carried t u dead.Kind (is_pointers o.kind))
      (or_die_carried t u (IsOf P) dead.Field (slice_get o.fields i) (λ x g. names i x g)))

  count_carried : (v : Value) → IsOf P v → Carried t u (count_fields table v) Free
  unfolding count_fields
  count_carried v p =
      then_carried t u Names Free (object table v) _ (object_carried v p)
      (λ o names. next_carried t u Free Free (check dead.Kind (is_pointers o.kind)) _ (check_carried t u dead.Kind (is_pointers o.kind))
      (answer_carried t u Free (length o.fields) tt))

  header_carried : (v : Value) → IsOf P v → Carried t u (method_header table v) Free
  unfolding method_header
  header_carried v p =
      then_carried t u Names Free (object table v) _ (object_carried v p)
      (λ o names. next_carried t u Free Free (check dead.Kind (is_method o.kind)) _ (check_carried t u dead.Kind (is_method o.kind))
      (or_die_carried t u Free dead.Field (slice_get o.fields 0) (λ x g. tt)))

  half_is : (n : ℕ) (x y : Option Object) → is_some y ≡ is_some x → pointer_if table t n x ≡ pointer_if table u n y
  half_is n None None e = refl
  half_is n None (Some q) e = cc
  half_is n (Some o) None e = cc
  half_is n (Some o) (Some q) e = refl

  half_carried : (x : Value) → SameHalf t u x → Carried t u (half_word table x) Free
  unfolding half_word
  half_carried (Small n) h = answer_carried t u Free n tt
  half_carried (Ref n) h = record { carried = λ s. (half_is n (entry t n) (entry u n) h, refl, refl, tt) }

  -- the selector of what is found is one of these
  abbrev Meets : Value → Option Value → Type 0
  Meets x None = ⊤
  Meets x (Some m) = IsOf P x

  same_of : (v x : Value) → IsOf P v → same_value v x ≡ true → IsOf P x
  same_of (Small a) (Small b) p e = tt
  same_of (Small a) (Ref b) p e = cc
  same_of (Ref a) (Small b) p e = cc
  same_of (Ref a) (Ref b) p e = subst P (same_number a b e) p

  module _ (x : Value) where
    checked_carried : (v : Value) → IsOf P v → IsOf P x → Carried t u (checked_method table v) (Meets x)
    unfolding checked_method
    checked_carried v p r = then_carried t u Free (Meets x) (method_header table v) _ (header_carried v p) (λ h q. answer_carried t u (Meets x) (Some v) r)

    none_carried : Carried t u (answer None) (Meets x)
    none_carried = answer_carried t u (Meets x) None tt

    module _ (d : Value) (p : IsOf P d) where
      at_carried : (k : ℕ) → IsOf P x → Carried t u (method_at table d k) (Meets x)
      unfolding method_at
      at_carried k h =
          then_carried t u (IsOf P) (Meets x) (fetch_field table d 1) _ (field_carried d 1 p)
          (λ ms q. then_carried t u (IsOf P) (Meets x) (fetch_field table ms k) _ (field_carried ms k q) (λ m r. checked_carried m r h))

      says_carried : (k : ℕ) (a b : Bool) (n : Step Table (Option Value)) → (a ≡ true → IsOf P x) → Carried t u n (Meets x) → Carried t u (place_says table d k a b n) (Meets x)
      unfolding place_says
      says_carried k true b n h g = at_carried k (h refl)
      says_carried k false true n h g = none_carried
      says_carried k false false n h g = g

      places_carried : (k left : ℕ) (n : Step Table (Option Value)) → Carried t u n (Meets x) → Carried t u (look_at_places table d x k left n) (Meets x)
      unfolding look_at_places look_at_place
      places_carried k zero n g = g
      places_carried k (suc left) n g =
          then_carried t u (IsOf P) (Meets x) (fetch_field table d (2 + k)) _ (field_carried d (2 + k) p)
          (λ v q. then_carried t u Free (Meets x) (of_page table NilObject) _ (nil_carried t u)
          (λ w r. says_carried k (same_value v x) (same_value v w) _ (same_of v x q) (places_carried (suc k) left n g)))

      search_carried : (places : ℕ) → SameHalf t u x → Carried t u (search_dictionary table d x places) (Meets x)
      unfolding search_dictionary search_from
      search_carried places h =
          then_carried t u Free (Meets x) (half_word table x) _ (half_carried x h)
          (λ half z. places_carried (bit_and half (places - 1)) (places - bit_and half (places - 1)) _ (places_carried 0 places _ none_carried))

    class_carried : (class : Value) → IsOf P class → SameHalf t u x → Carried t u (method_in_class table class x) (Meets x)
    unfolding method_in_class
    class_carried class p h =
        then_carried t u (IsOf P) (Meets x) (fetch_field table class 1) _ (field_carried class 1 p)
        (λ d q. then_carried t u Free (Meets x) (count_fields table d) _ (count_carried d q)
        (λ n z. next_carried t u Free (Meets x) (check dead.Places (nat_lt 2 n)) _ (check_carried t u dead.Places (nat_lt 2 n)) (search_carried d q (n - 2) h)))

    above_carried : (class : Value) (m : Option Value) (otherwise : Value → Step Table (Option Value)) → IsOf P class → Meets x m
        → ((v : Value) → IsOf P v → Carried t u (otherwise v) (Meets x)) → Carried t u (or_above table class m otherwise) (Meets x)
    unfolding or_above
    above_carried class (Some m) otherwise p h g = answer_carried t u (Meets x) (Some m) h
    above_carried class None otherwise p h g = then_carried t u (IsOf P) (Meets x) (fetch_field table class 0) _ (field_carried class 0 p) g

    unless_carried : (b : Bool) (n : Step Table (Option Value)) → Carried t u n (Meets x) → Carried t u (unless_nil b n) (Meets x)
    unfolding unless_nil
    unless_carried true n g = none_carried
    unless_carried false n g = g

    end_carried : (class : Value) (n : Step Table (Option Value)) → Carried t u n (Meets x) → Carried t u (end_at_nil table class n) (Meets x)
    unfolding end_at_nil
    end_carried class n g = then_carried t u Free (Meets x) (of_page table NilObject) _ (nil_carried t u) (λ v e. unless_carried (same_value class v) n g)

    within_carried : (left : ℕ) (class : Value) → IsOf P class → SameHalf t u x → Carried t u (find_within table x left class) (Meets x)
    unfolding find_within look_in_class
    within_carried zero class p h = end_carried class _ (die_carried t u (Meets x) dead.Chain)
    within_carried (suc left) class p h =
        end_carried class _
        (then_carried t u (Meets x) (Meets x) (method_in_class table class x) _ (class_carried class p h)
        (λ m z. above_carried class m (find_within table x left) p z (λ v q. within_carried left v q h)))

    find_carried : (class : Value) → IsOf P class → SameHalf t u x → Carried t u (find table class x) (Meets x)
    unfolding find
    find_carried class p h = within_carried 32767 class p h

    -- what is found
    went : (s : State Table) (m : Value) (y z : Transition (State Table) (Option Value)) → Follows s t u (Meets x) y z → y ≡ Went (Some m) (over s t)
        → (z ≡ Went (Some m) (over s u)) × IsOf P x
    went s m (Died d) z f e = cc
    went s m (Went a y) (Died d) f e = absurd f
    went s m (Went a y) (Went b z) f e =
        let g : a ≡ Some m = cc in
        (rw (sym f.0, f.2, g) refl, subst (Meets x) g f.3)

    search_carries : (class m : Value) → IsOf P class → SameHalf t u x → ((s : State Table) → s.memory ≡ t → (find table class x).run s ≡ Went (Some m) s)
        → (s : State Table) → ((find table class x).run (over s u) ≡ Went (Some m) (over s u)) × IsOf P x
    search_carries class m p h finds s = went s m ((find table class x).run (over s t)) ((find table class x).run (over s u)) ((find_carried class p h).carried s) (finds (over s t) refl)

  pub found_carried_on : (class x m : Value) → IsOf P class → SameHalf t u x
      → ((s : State Table) → s.memory ≡ t → (find table class x).run s ≡ Went (Some m) s)
      → (s : State Table) → s.memory ≡ u → (find table class x).run s ≡ Went (Some m) s
  found_carried_on class x m p h finds s e =
      subst (λ (y : Table). (find table class x).run (over s y) ≡ Went (Some m) (over s y)) (sym e) (search_carries x class m p h finds s).0

  -- the selector for which a method is found is one of these
  pub selector_met : (class x m : Value) → IsOf P class → SameHalf t u x
      → ((s : State Table) → s.memory ≡ t → (find table class x).run s ≡ Went (Some m) s) → IsOf P x
  selector_met class x m p h finds = (search_carries x class m p h finds (some_state t)).1
