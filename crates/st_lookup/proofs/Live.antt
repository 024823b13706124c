-- What a search finds is an object of the table: the search looks at its header.
use Rattle.std.proofs.Common.{◌≡◌, ℕ, ◌+◌, ◌-◌, zero, suc, Option, Some, None, Bool, true, false, refl, is_some, sym, ap, subst}
use Rattle.std.specs.Prelude.{bit_and, nat_lt, slice_get}
use Rattle.st_model.specs.declared.dead.Dead.{Dead}
use Rattle.st_model.specs.declared.dead.Dead.TheVariants as dead
use Rattle.st_model.specs.Values.{Value, Small, Ref}
use Rattle.st_model.specs.declared.page.PageObject.{PageObject}
use Rattle.st_model.specs.declared.page.PageObject.TheVariants.{NilObject}
use Rattle.st_model.specs.Objects.{Object, is_pointers, is_method}
use Rattle.st_model.specs.Machine.{State, Transition, Died, Went, Step, after, answer, die, ◌>>=◌, ◌>>◌}
use Rattle.st_model.specs.Steps.{of_page, found, object_named, object, or_die, check, fetch_field, count_fields, same_value}
use Rattle.st_model.specs.Methods.{method_header}
use Rattle.st_model.specs.Lookup.{half_word, checked_method, method_at, place_says, look_at_place, look_at_places, search_from, search_dictionary, or_above, method_in_class, look_in_class, unless_nil, end_at_nil, find_within, find}
use Rattle.st_model.specs.Table.{Table, table, entry}
use Rattle.st_model.specs.View.{is_live}

-- an answer of which P holds, over the table, or a death
abbrev Came : {A : Type 0} → Table → (A → Type 0) → Transition (State Table) A → Type 0
Came t P (Died cause) = Unit {0}
Came t P (Went a s) = (s.memory ≡ t) × P a

-- from each state over the table a step comes to such an answer, or dies
record Gives {A : Type 0} (t : Table) (P : A → Type 0) (m : Step Table A) : Type 0 where
  from : (s : State Table) → s.memory ≡ t → Came t P (m.run s)

abbrev Anything : {A : Type 0} → A → Type 0
Anything a = Unit {0}

abbrev IsFound : Table → Option Value → Type 0
IsFound t None = Unit {0}
IsFound t (Some v) = is_live t v ≡ true

module _ (t : Table) where
  answer_gives : {A : Type 0} (P : A → Type 0) (a : A) → P a → Gives t P (answer a)
  unfolding answer
  answer_gives P a p = record { from = λ s e. (e, p) }

  die_gives : {A : Type 0} (P : A → Type 0) (cause : Dead) → Gives t P (die cause)
  unfolding die
  die_gives P cause = record { from = λ s e. tt }

  after_gives : {A B : Type 0} (P : A → Type 0) (Q : B → Type 0) (x : Transition (State Table) A) (f : A → Step Table B) → Came t P x
      → ((a : A) → P a → Gives t Q (f a)) → Came t Q (after x (λ a s. (f a).run s))
  unfolding after
  after_gives P Q (Died cause) f p q = tt
  after_gives P Q (Went a s) f p q = (q a p.1).from s p.0

  then_gives : {A B : Type 0} (P : A → Type 0) (Q : B → Type 0) (m : Step Table A) (f : A → Step Table B) → Gives t P m
      → ((a : A) → P a → Gives t Q (f a)) → Gives t Q (m >>= f)
  unfolding ◌>>=◌
  then_gives P Q m f p q = record { from = λ s e. after_gives P Q (m.run s) f (p.from s e) q }

  next_gives : {A B : Type 0} (P : A → Type 0) (Q : B → Type 0) (m : Step Table A) (n : Step Table B) → Gives t P m → Gives t Q n → Gives t Q (m >> n)
  unfolding ◌>>◌
  next_gives P Q m n p q = then_gives P Q m (λ a. n) p (λ a b. q)

  check_gives : (cause : Dead) (b : Bool) → Gives t Anything (check cause b)
  unfolding check
  check_gives cause true = answer_gives Anything tt tt
  check_gives cause false = die_gives Anything cause

  or_die_gives : {A : Type 0} (P : A → Type 0) (cause : Dead) (x : Option A) → ((a : A) → P a) → Gives t P (or_die cause x)
  unfolding or_die
  or_die_gives P cause None p = die_gives P cause
  or_die_gives P cause (Some a) p = answer_gives P a (p a)

  entry_comes : (n : ℕ) (s : State Table) (x : Option Object) → s.memory ≡ t → entry t n ≡ x → Came t (λ o. is_some (entry t n) ≡ true) ((found x).run s)
  unfolding found answer die
  entry_comes n s None e f = tt
  entry_comes n s (Some o) e f = (e, ap is_some f)

  object_gives : (v : Value) → Gives t (λ o. is_live t v ≡ true) (object table v)
  unfolding object object_named is_live
  object_gives (Small n) = die_gives _ dead.Small
  object_gives (Ref n) = record { from = λ s e. entry_comes n s (entry s.memory n) e (ap (λ m. entry m n) (sym e)) }

  fetch_gives : (v : Value) (i : ℕ) → Gives t Anything (fetch_field table v i)
  unfolding fetch_field
  fetch_gives v i = then_gives _ _ _ _ (object_gives v) (λ o l. next_gives _ _ _ _ (check_gives dead.Kind (is_pointers o.kind)) (or_die_gives Anything dead.Field (slice_get o.fields i) (λ a. tt)))

  count_gives : (v : Value) → Gives t Anything (count_fields table v)
  unfolding count_fields
  count_gives v = then_gives _ _ _ _ (object_gives v) (λ o l. next_gives _ _ _ _ (check_gives dead.Kind (is_pointers o.kind)) (answer_gives Anything _ tt))

  page_gives : (q : PageObject) → Gives t Anything (of_page table q)
  unfolding of_page
  page_gives q = record { from = λ s e. (e, tt) }

  half_gives : (v : Value) → Gives t Anything (half_word table v)
  unfolding half_word
  half_gives (Small n) = answer_gives Anything n tt
  half_gives (Ref n) = record { from = λ s e. (e, tt) }

  -- a header is that of an object
  header_gives : (v : Value) → Gives t (λ h. is_live t v ≡ true) (method_header table v)
  unfolding method_header
  header_gives v = then_gives _ _ _ _ (object_gives v) (λ o l. next_gives _ _ _ _ (check_gives dead.Kind (is_method o.kind)) (or_die_gives _ dead.Field (slice_get o.fields 0) (λ a. l)))

  checked_gives : (v : Value) → Gives t (IsFound t) (checked_method table v)
  unfolding checked_method
  checked_gives v = then_gives _ _ _ _ (header_gives v) (λ h l. answer_gives (IsFound t) (Some v) l)

  method_gives : (d : Value) (k : ℕ) → Gives t (IsFound t) (method_at table d k)
  unfolding method_at
  method_gives d k = then_gives _ _ _ _ (fetch_gives d 1) (λ methods p. then_gives _ _ _ _ (fetch_gives methods k) (λ method q. checked_gives method))

  none_gives : Gives t (IsFound t) (answer None)
  none_gives = answer_gives (IsFound t) None tt

  says_gives : (d : Value) (k : ℕ) (a b : Bool) (rest : Step Table (Option Value)) → Gives t (IsFound t) rest → Gives t (IsFound t) (place_says table d k a b rest)
  unfolding place_says
  says_gives d k true b rest g = method_gives d k
  says_gives d k false true rest g = none_gives
  says_gives d k false false rest g = g

  place_gives : (d x : Value) (k : ℕ) (rest : Step Table (Option Value)) → Gives t (IsFound t) rest → Gives t (IsFound t) (look_at_place table d x k rest)
  unfolding look_at_place
  place_gives d x k rest g =
      then_gives _ _ _ _ (fetch_gives d (2 + k)) (λ s p. then_gives _ _ _ _ (page_gives NilObject) (λ nil q. says_gives d k (same_value s x) (same_value s nil) rest g))

  places_give : (d x : Value) (k left : ℕ) (rest : Step Table (Option Value)) → Gives t (IsFound t) rest → Gives t (IsFound t) (look_at_places table d x k left rest)
  unfolding look_at_places
  places_give d x k zero rest g = g
  places_give d x k (suc left) rest g = place_gives d x k _ (places_give d x (suc k) left rest g)

  search_gives : (d x : Value) (places start : ℕ) → Gives t (IsFound t) (search_from table d x places start)
  unfolding search_from
  search_gives d x places start = places_give d x start (places - start) _ (places_give d x 0 places _ none_gives)

  dictionary_gives : (d x : Value) (places : ℕ) → Gives t (IsFound t) (search_dictionary table d x places)
  unfolding search_dictionary
  dictionary_gives d x places = then_gives _ _ _ _ (half_gives x) (λ half p. search_gives d x places (bit_and half (places - 1)))

  class_gives : (class x : Value) → Gives t (IsFound t) (method_in_class table class x)
  unfolding method_in_class
  class_gives class x =
      then_gives _ _ _ _ (fetch_gives class 1) (λ d p. then_gives _ _ _ _ (count_gives d) (λ n q. next_gives _ _ _ _ (check_gives dead.Places (nat_lt 2 n)) (dictionary_gives d x (n - 2))))

  above_gives : (class : Value) (a : Option Value) (f : Value → Step Table (Option Value)) → IsFound t a → ((v : Value) → Gives t (IsFound t) (f v)) → Gives t (IsFound t) (or_above table class a f)
  unfolding or_above
  above_gives class (Some v) f l g = answer_gives (IsFound t) (Some v) l
  above_gives class None f l g = then_gives _ _ _ _ (fetch_gives class 0) (λ v p. g v)

  look_gives : (class x : Value) (f : Value → Step Table (Option Value)) → ((v : Value) → Gives t (IsFound t) (f v)) → Gives t (IsFound t) (look_in_class table class x f)
  unfolding look_in_class
  look_gives class x f g = then_gives _ _ _ _ (class_gives class x) (λ a l. above_gives class a f l g)

  unless_gives : (b : Bool) (rest : Step Table (Option Value)) → Gives t (IsFound t) rest → Gives t (IsFound t) (unless_nil b rest)
  unfolding unless_nil
  unless_gives true rest g = none_gives
  unless_gives false rest g = g

  end_gives : (class : Value) (rest : Step Table (Option Value)) → Gives t (IsFound t) rest → Gives t (IsFound t) (end_at_nil table class rest)
  unfolding end_at_nil
  end_gives class rest g = then_gives _ _ _ _ (page_gives NilObject) (λ nil p. unless_gives (same_value class nil) rest g)

  within_gives : (x : Value) (left : ℕ) (class : Value) → Gives t (IsFound t) (find_within table x left class)
  unfolding find_within
  within_gives x zero class = end_gives class _ (die_gives (IsFound t) dead.Chain)
  within_gives x (suc left) class = end_gives class _ (look_gives class x _ (within_gives x left))

  find_gives : (class x : Value) → Gives t (IsFound t) (find table class x)
  unfolding find
  find_gives class x = within_gives x 32767 class

pub found_live : (class x v : Value) (s after : State Table) → (find table class x).run s ≡ Went (Some v) after → is_live s.memory v ≡ true
found_live class x v s after e = (subst (Came s.memory (IsFound s.memory)) e ((find_gives s.memory class x).from s refl)).1
