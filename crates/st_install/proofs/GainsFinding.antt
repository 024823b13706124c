-- Two tables over which a search answers the same.
use Rattle.std.proofs.Common.{◌≡◌, ℕ, ◌+◌, zero, suc, List, [], ◌∷◌, length, Option, Some, None, Bool, true, false, refl, sym, ap, ◌∙◌, subst, inl, inr, ◌⊎◌}
use Rattle.std.specs.Prelude.{◌-◌, slice_get, bit_and, nat_lt, if◌then◌else◌}
use Rattle.std.specs.List.{AllByRecursion}
use Rattle.std.proofs.lemmas.Option.{get_or_from_slice_get}
use Rattle.st_model.specs.declared.dead.Dead.{Dead}
use Rattle.st_model.specs.declared.dead.Dead.TheVariants as dead
use Rattle.st_model.specs.declared.page.PageObject.TheVariants.{NilObject}
use Rattle.st_model.specs.Values.{Value, Small, Ref}
use Rattle.st_model.specs.Objects.{Object, nil, is_pointers, is_method}
use Rattle.st_model.specs.Machine.{State, Transition, Died, Went, Step, after, answer, die, ◌>>=◌, ◌>>◌}
use Rattle.st_model.specs.Steps.{of_page, found, object_named, object, check, or_die, same_value, fetch_field, count_fields}
use Rattle.st_model.specs.Methods.{method_header}
use Rattle.st_model.specs.Lookup.{half_word, checked_method, method_at, place_says, look_at_place, look_at_places, search_from, search_dictionary, or_above, method_in_class, look_in_class, unless_nil, end_at_nil, find_within, find}
use Rattle.st_model.specs.Table.{Table, entry, table}
use Rattle.st_model.specs.View.{object_of, field_of}
use Rattle.st_install.specs.inside.Gains.{superclasses, superclass_list, SameAnswer}
use Rattle.st_model.proofs.Runs.{run-then, run-next, after-went, after-died, run-failed}
use Rattle.st_install.proofs.Goes.{object_at, over}
use Rattle.st_install.proofs.GoesSeeking.{half_of, table_reads, half_tells}
use Rattle.st_install.proofs.GoesReading.{IsField}

-- from the same state over one and over another table both die of one cause, or both answer the same, and change nothing
abbrev pub AreAlike : {A : Type 0} → State Table → Table → Table → (A → Type 0) → Transition (State Table) A → Transition (State Table) A → Type 0
AreAlike s t u Q (Died a) (Died b) = a ≡ b
AreAlike s t u Q (Died a) (Went b y) = ⊥
AreAlike s t u Q (Went a x) (Died b) = ⊥
AreAlike s t u Q (Went a x) (Went b y) = (a ≡ b) × (x ≡ over s t) × (y ≡ over s u) × Q a

pub record Alike {A : Type 0} (t u : Table) (m : Step Table A) (Q : A → Type 0) : Type 0 where
  pub alike : (s : State Table) → AreAlike s t u Q (m.run (over s t)) (m.run (over s u))

module _ {A B : Type 0} (t u : Table) (P : A → Type 0) (Q : B → Type 0) where
  after_alike : (f : A → Step Table B) (s : State Table) (x y : Transition (State Table) A) → AreAlike s t u P x y → ((a : A) → P a → Alike t u (f a) Q)
      → AreAlike s t u Q (after x (λ a z. (f a).run z)) (after y (λ a z. (f a).run z))
  unfolding after
  after_alike f s (Died a) (Died b) h k = h
  after_alike f s (Died a) (Went b y) h k = absurd h
  after_alike f s (Went a x) (Died b) h k = absurd h
  after_alike f s (Went a x) (Went b y) h k = rw (sym h.0, h.1, h.2) ((k a h.3).alike s)

  pub alike_then : (m : Step Table A) (f : A → Step Table B) → Alike t u m P → ((a : A) → P a → Alike t u (f a) Q) → Alike t u (m >>= f) Q
  unfolding ◌>>=◌
  alike_then m f g h = record { alike = λ s. after_alike f s (m.run (over s t)) (m.run (over s u)) (g.alike s) h }

  pub alike_next : (m : Step Table A) (n : Step Table B) → Alike t u m P → ((a : A) → P a → Alike t u n Q) → Alike t u (m >> n) Q
  unfolding ◌>>◌
  alike_next m n g h = alike_then m (λ a. n) g h

-- anything may be so
abbrev pub Free : {A : Type 0} → A → Type 0
Free a = Unit {0}

module _ (t u : Table) where
  pub alike_answer : {A : Type 0} (Q : A → Type 0) (a : A) → Q a → Alike t u (answer a) Q
  unfolding answer
  alike_answer Q a q = record { alike = λ s. (refl, refl, refl, q) }

  pub alike_dead : {A : Type 0} (Q : A → Type 0) (c : Dead) → Alike t u (die c) Q
  unfolding die
  alike_dead Q c = record { alike = λ s. refl }

  -- a step that is known over both
  pub alike_told : {A : Type 0} (Q : A → Type 0) (m : Step Table A) (a : A) → ((s : State Table) → m.run (over s t) ≡ Went a (over s t)) → ((s : State Table) → m.run (over s u) ≡ Went a (over s u)) → Q a
      → Alike t u m Q
  alike_told Q m a e f q = record { alike = λ s. let x = e s in let y = f s in rw (x, y) (refl, refl, refl, q) }

  pub alike_check : (c : Dead) (b : Bool) → Alike t u (check c b) (λ a. b ≡ true)
  unfolding check
  alike_check c true = alike_answer _ tt refl
  alike_check c false = alike_dead _ c

  pub alike_or_die : {A : Type 0} (c : Dead) (x : Option A) → Alike t u (or_die c x) (λ a. x ≡ Some a)
  unfolding or_die
  alike_or_die c None = alike_dead _ c
  alike_or_die c (Some a) = alike_answer _ a refl

  pub alike_nil : Alike t u (of_page table NilObject) (λ v. v ≡ nil)
  unfolding of_page
  alike_nil = record { alike = λ s. (refl, refl, refl, refl) }

  found_alike : (x y : Option Object) (s : State Table) → y ≡ x → AreAlike s t u (λ o. x ≡ Some o) ((found x).run (over s t)) ((found y).run (over s u))
  unfolding found die answer
  found_alike None None s e = refl
  found_alike None (Some p) s e = cc
  found_alike (Some o) None s e = cc
  found_alike (Some o) (Some p) s e = let q : o ≡ p = cc in (q, refl, refl, refl)

  pub alike_object : (v : Value) → object_at u v ≡ object_at t v → Alike t u (object table v) (λ o. object_at t v ≡ Some o)
  unfolding object object_named
  alike_object (Small n) e = alike_dead _ dead.Small
  alike_object (Ref n) e = record { alike = λ s. found_alike (entry t n) (entry u n) s e }

  pub alike_field : (v : Value) (i : ℕ) → object_at u v ≡ object_at t v → Alike t u (fetch_field table v i) (λ x. IsField t v i x)
  unfolding fetch_field
  alike_field v i e =
      alike_then t u (λ o. object_at t v ≡ Some o) _ (object table v) _ (alike_object v e)
      (λ o f. alike_next t u (λ a. is_pointers o.kind ≡ true) _ (check dead.Kind (is_pointers o.kind)) _ (alike_check dead.Kind (is_pointers o.kind))
      (λ a p. weaker (alike_or_die dead.Field (slice_get o.fields i)) (λ x g. record { object = o; is = f; pointers = p; field = g })))
    where
      weaken : {A : Type 0} (P Q : A → Type 0) (s : State Table) (x y : Transition (State Table) A) → AreAlike s t u P x y → ((a : A) → P a → Q a) → AreAlike s t u Q x y
      weaken P Q s (Died a) (Died b) h k = h
      weaken P Q s (Died a) (Went b y) h k = absurd h
      weaken P Q s (Went a x) (Died b) h k = absurd h
      weaken P Q s (Went a x) (Went b y) h k = (h.0, h.1, h.2, k a h.3)

      weaker : {A : Type 0} {m : Step Table A} {P Q : A → Type 0} → Alike t u m P → ((a : A) → P a → Q a) → Alike t u m Q
      weaker {m = m} {P = P} {Q = Q} g k = record { alike = λ s. weaken P Q s (m.run (over s t)) (m.run (over s u)) (g.alike s) k }

  pub alike_count : (v : Value) → object_at u v ≡ object_at t v → Alike t u (count_fields table v) Free
  unfolding count_fields
  alike_count v e =
      alike_then t u (λ o. object_at t v ≡ Some o) Free (object table v) _ (alike_object v e)
      (λ o f. alike_next t u (λ a. is_pointers o.kind ≡ true) Free (check dead.Kind (is_pointers o.kind)) _ (alike_check dead.Kind (is_pointers o.kind))
      (λ a p. alike_answer Free (length o.fields) tt))

  -- a step that is another one over both
  pub alike_by : {A : Type 0} (Q : A → Type 0) (m n : Step Table A) → ((s : State Table) → m.run (over s t) ≡ n.run (over s t)) → ((s : State Table) → m.run (over s u) ≡ n.run (over s u))
      → Alike t u n Q → Alike t u m Q
  alike_by Q m n e f g = record { alike = λ s. let x = e s in let y = f s in rw (x, y) (g.alike s) }

pub object_told : (t : Table) (v : Value) (o : Object) (s : State Table) → object_at t v ≡ Some o → (object table v).run (over s t) ≡ Went o (over s t)
unfolding object object_named found answer
object_told t (Small n) o s e = cc
object_told t (Ref n) o s e = found_told (entry t n) e
  where
    found_told : (x : Option Object) → x ≡ Some o → (found x).run (over s t) ≡ Went o (over s t)
    found_told None f = cc
    found_told (Some p) f = let q : p ≡ o = cc in ap (λ a. Went a (over s t)) q

no_header : (t : Table) (v : Value) (o : Object) (s : State Table) → object_at t v ≡ Some o → is_method o.kind ≡ false → (method_header table v).run (over s t) ≡ Died dead.Kind
unfolding method_header
no_header t v o s e k = let q = object_told t v o s e in simp (run-then, run-next, after-went, after-died, q, run-failed dead.Kind _ (over s t) k) refl

-- what stands under a value is the same, or a Method in neither table
pub record NoMethods (t u : Table) (v : Value) : Type 0 where
  pub old : Object
  pub new : Object
  pub was : object_at t v ≡ Some old
  pub is : object_at u v ≡ Some new
  pub no_old : is_method old.kind ≡ false
  pub no_new : is_method new.kind ≡ false

abbrev pub SameMethod : Table → Table → Value → Type 0
SameMethod t u v = (object_at u v ≡ object_at t v) ⊎ NoMethods t u v

module _ (t u : Table) where
  freed : {A : Type 0} (P : A → Type 0) (s : State Table) (x y : Transition (State Table) A) → AreAlike s t u P x y → AreAlike s t u Free x y
  freed P s (Died a) (Died b) h = h
  freed P s (Died a) (Went b y) h = absurd h
  freed P s (Went a x) (Died b) h = absurd h
  freed P s (Went a x) (Went b y) h = (h.0, h.1, h.2, tt)

  free : {A : Type 0} {m : Step Table A} {P : A → Type 0} → Alike t u m P → Alike t u m Free
  free {m = m} {P = P} g = record { alike = λ s. freed P s (m.run (over s t)) (m.run (over s u)) (g.alike s) }

  both_die : (v : Value) → NoMethods t u v → Alike t u (method_header table v) Free
  both_die v n = record { alike = λ s. let x = no_header t v n.old s n.was n.no_old in let y = no_header u v n.new s n.is n.no_new in rw (x, y) refl }

  header_alike : (v : Value) → SameMethod t u v → Alike t u (method_header table v) Free
  unfolding method_header
  header_alike v (inl e) =
      alike_then t u (λ o. object_at t v ≡ Some o) Free (object table v) _ (alike_object t u v e)
      (λ o f. alike_next t u (λ a. is_method o.kind ≡ true) Free (check dead.Kind (is_method o.kind)) _ (alike_check t u dead.Kind (is_method o.kind))
      (λ a p. free (alike_or_die t u dead.Field (slice_get o.fields 0))))
  header_alike v (inr n) = both_die v n

  pub checked_alike : (v : Value) → SameMethod t u v → Alike t u (checked_method table v) Free
  unfolding checked_method
  checked_alike v h = alike_then t u Free Free (method_header table v) _ (header_alike v h) (λ x z. alike_answer t u Free (Some v) tt)

  pub half_alike : (x : Value) → half_of u x ≡ half_of t x → Alike t u (half_word table x) Free
  half_alike x e = alike_told t u Free (half_word table x) (half_of t x) (half_tells table table_reads t x) (λ s. half_tells table table_reads u x s ∙ ap (λ h. Went h (over s u)) e) tt

  -- a dictionary that is the same, with its Array and its methods
  pub record SameDictionary (d : Value) : Type 0 where
    pub itself : object_at u d ≡ object_at t d
    pub methods : (ms : Value) → IsField t d 1 ms → object_at u ms ≡ object_at t ms
    pub all : (ms : Value) (k : ℕ) (m : Value) → IsField t d 1 ms → IsField t ms k m → SameMethod t u m

  module _ (d x : Value) (h : SameDictionary d) where
    at_alike : (k : ℕ) → Alike t u (method_at table d k) Free
    unfolding method_at
    at_alike k =
        alike_then t u _ Free _ _ (alike_field t u d 1 h.itself)
        (λ ms f. alike_then t u _ Free _ _ (alike_field t u ms k (h.methods ms f)) (λ m g. checked_alike m (h.all ms k m f g)))

    says_alike : (k : ℕ) (a b : Bool) (n : Step Table (Option Value)) → Alike t u n Free → Alike t u (place_says table d k a b n) Free
    unfolding place_says
    says_alike k true b n g = at_alike k
    says_alike k false true n g = alike_answer t u Free None tt
    says_alike k false false n g = g

    places_alike : (k left : ℕ) (n : Step Table (Option Value)) → Alike t u n Free → Alike t u (look_at_places table d x k left n) Free
    unfolding look_at_places look_at_place
    places_alike k zero n g = g
    places_alike k (suc left) n g =
        alike_then t u _ Free _ _ (alike_field t u d (2 + k) h.itself)
        (λ v f. alike_then t u _ Free _ _ (alike_nil t u) (λ w e. says_alike k (same_value v x) (same_value v w) _ (places_alike (suc k) left n g)))

    search_alike : (places : ℕ) → half_of u x ≡ half_of t x → Alike t u (search_dictionary table d x places) Free
    unfolding search_dictionary search_from
    search_alike places e =
        alike_then t u Free Free _ _ (half_alike x e)
        (λ half z. places_alike (bit_and half (places - 1)) (places - bit_and half (places - 1)) _ (places_alike 0 places _ (alike_answer t u Free None tt)))

  -- a class that is the same, with all that its search meets
  pub class_alike : (c x : Value) → object_at u c ≡ object_at t c → ((d : Value) → IsField t c 1 d → SameDictionary d) → half_of u x ≡ half_of t x → Alike t u (method_in_class table c x) Free
  unfolding method_in_class
  class_alike c x e h half =
      alike_then t u _ Free _ _ (alike_field t u c 1 e)
      (λ d f. alike_then t u Free Free _ _ (alike_count t u d (h d f).itself)
      (λ n z. alike_next t u _ Free _ _ (alike_check t u dead.Places (nat_lt 2 n))
      (λ a p. search_alike d x (h d f) (n - 2) half)))

  -- SUPERCLASSES

  -- what the search asks of a class: it gives the same, and so does its superclass
  pub record SameClass (x c : Value) : Type 0 where
    pub methods : Alike t u (method_in_class table c x) Free
    pub above : Alike t u (fetch_field table c 0) (λ a. IsField t c 0 a)

  pub field_is : (c a : Value) (i : ℕ) → IsField t c i a → field_of t c i ≡ a
  unfolding field_of object_of
  field_is (Small n) a i f = let e = f.is in cc
  field_is (Ref n) a i f =
      let e = f.is in
      rw e (get_or_from_slice_get f.object.fields i a nil f.field)

  above_alike : (x c : Value) (m : Option Value) (otherwise : Value → Step Table (Option Value)) → SameClass x c → ((a : Value) → IsField t c 0 a → Alike t u (otherwise a) Free)
      → Alike t u (or_above table c m otherwise) Free
  unfolding or_above
  above_alike x c (Some m) otherwise h g = alike_answer t u Free (Some m) tt
  above_alike x c None otherwise h g = alike_then t u _ Free _ _ h.above g

  unless_alike : (b : Bool) (n : Step Table (Option Value)) → (b ≡ false → Alike t u n Free) → Alike t u (unless_nil b n) Free
  unfolding unless_nil
  unless_alike true n g = alike_answer t u Free None tt
  unless_alike false n g = g refl

  end_alike : (c : Value) (n : Step Table (Option Value)) → (same_value c nil ≡ false → Alike t u n Free) → Alike t u (end_at_nil table c n) Free
  unfolding end_at_nil
  end_alike c n g =
      alike_then t u _ Free _ _ (alike_nil t u) (λ v e. unless_alike (same_value c v) n (λ f. g (ap (λ w. same_value c w) (sym e) ∙ f)))

  all_if : (P : Value → Type 0) (b : Bool) (c : Value) (cs : List Value) → b ≡ false → AllByRecursion P (if b then [] else c ∷ cs) → P c × AllByRecursion P cs
  all_if P true c cs e h = cc
  all_if P false c cs e h = h

  pub within_alike : (x : Value) (left : ℕ) (c : Value) → AllByRecursion (λ y. SameClass x y) (superclasses t left c) → Alike t u (find_within table x left c) Free
  unfolding find_within look_in_class superclasses
  within_alike x zero c h = end_alike c _ (λ e. alike_dead t u Free dead.Chain)
  within_alike x (suc left) c h =
      end_alike c _ (λ e. let k = all_if (λ y. SameClass x y) (same_value c nil) c (superclasses t left (field_of t c 0)) e h in
      alike_then t u Free Free _ _ k.0.methods
      (λ m z. above_alike x c m (find_within table x left) k.0
      (λ a f. within_alike x left a (subst (λ y. AllByRecursion (λ z. SameClass x z) (superclasses t left y)) (field_is c a 0 f) k.1))))

  pub find_alike : (class x : Value) → AllByRecursion (λ y. SameClass x y) (superclass_list t class) → Alike t u (find table class x) Free
  unfolding find superclass_list
  find_alike class x h = within_alike x 32767 class h

  pub same_answer : {A : Type 0} (s : State Table) (x y : Transition (State Table) A) → AreAlike s t u Free x y → SameAnswer x y
  same_answer s (Died a) (Died b) h = h
  same_answer s (Died a) (Went b y) h = absurd h
  same_answer s (Went a x) (Died b) h = absurd h
  same_answer s (Went a x) (Went b y) h = h.0
