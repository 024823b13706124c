-- Steps that only read a table, and what is so of their answers where they go.
use Rattle.std.proofs.Common.{◌≡◌, ℕ, length, Option, Some, None, Bool, true, false, refl, sym, ap, ◌∙◌, subst, is_some}
use Rattle.std.specs.Prelude.{◌==◌, slice_get, if◌then◌else◌}
use Rattle.st_model.specs.declared.dead.Dead.{Dead}
use Rattle.st_model.specs.declared.dead.Dead.TheVariants as dead
use Rattle.st_model.specs.declared.page.PageObject.{PageObject}
use Rattle.st_model.specs.declared.page.PageObject.TheVariants.{SmallIntegerClass, MethodClass}
use Rattle.st_model.specs.Values.{Value, Small, Ref}
use Rattle.st_model.specs.declared.kind.Kind.{Kind}
use Rattle.st_model.specs.declared.kind.Kind.TheVariants as kind
use Rattle.st_model.specs.Objects.{Object, place_of, is_pointers, is_method}
use Rattle.st_model.specs.Machine.{State, Transition, Died, Went, Step, is_there, after, answer, die, or_left, tried, ◌>>=◌, ◌>>◌}
use Rattle.st_model.specs.Steps.{of_page, found, object_named, object, check, or_die, class_of, fetch_field, count_fields, named_or_not}
use Rattle.st_model.specs.Steps.{object_at as object_bearing}
use Rattle.st_model.specs.Primitives.{bits_or_die}
use Rattle.st_model.specs.Table.{Table, entry, table, bounded_table}
use Rattle.st_install.proofs.Goes.{object_at}
use Rattle.st_install.proofs.GoesMaking.{IsClassFor}
use Rattle.st_model.proofs.KindTests.{no_method}

-- where it goes it leaves the state as it was, and this is so of its answer
pub record Gives {A : Type 0} (s : State Table) (m : Step Table A) (Q : A → Type 0) : Type 0 where
  pub gives : (a : A) (u : State Table) → m.run s ≡ Went a u → (u ≡ s) × Q a

-- the step is known
pub gives_told : {A : Type 0} (s : State Table) (m : Step Table A) (Q : A → Type 0) (b : A) → m.run s ≡ Went b s → Q b → Gives s m Q
gives_told {A = A} s m Q b e q = record {
  gives = λ a u f. (same_state (sym f ∙ e), subst Q (same_answer (sym e ∙ f)) q);
}
  where
    same_state : {a : A} {u : State Table} → Went a u ≡ Went b s → u ≡ s
    same_state e = cc

    same_answer : {a : A} {u : State Table} → Went b s ≡ Went a u → b ≡ a
    same_answer e = cc

pub gives_answer : {A : Type 0} (s : State Table) (Q : A → Type 0) (b : A) → Q b → Gives s (answer b) Q
unfolding answer
gives_answer s Q b q = gives_told s (answer b) Q b refl q

no_step : {A : Type 0} (c : Dead) (a : A) (u : State Table) → Died c ≡ Went a u → ⊥
no_step c a u e = cc

pub gives_dead : {A : Type 0} (s : State Table) (Q : A → Type 0) (c : Dead) → Gives s (die c) Q
unfolding die
gives_dead s Q c = record { gives = λ a u e. absurd (no_step c a u e) }

module _ {A B : Type 0} (s : State Table) (P : A → Type 0) (Q : B → Type 0) where
  after_gives : (f : A → Step Table B) (x : Transition (State Table) A) (b : B) (w : State Table) → after x (λ a t. (f a).run t) ≡ Went b w
      → ((a : A) (u : State Table) → x ≡ Went a u → (u ≡ s) × P a) → ((a : A) → P a → Gives s (f a) Q) → (w ≡ s) × Q b
  unfolding after
  after_gives f (Died c) b w e g h = absurd (no_step c b w e)
  after_gives f (Went a u) b w e g h =
      let p = g a u refl in
      (h a p.1).gives b w (ap (λ t. (f a).run t) (sym p.0) ∙ e)

  pub gives_then : (m : Step Table A) (f : A → Step Table B) → Gives s m P → ((a : A) → P a → Gives s (f a) Q) → Gives s (m >>= f) Q
  unfolding ◌>>=◌
  gives_then m f g h = record { gives = λ b w e. after_gives f (m.run s) b w e g.gives h }

  pub gives_next : (m : Step Table A) (n : Step Table B) → Gives s m P → ((a : A) → P a → Gives s n Q) → Gives s (m >> n) Q
  unfolding ◌>>◌
  gives_next m n g h = gives_then m (λ a. n) g h

pub gives_less : {A : Type 0} (s : State Table) (m : Step Table A) (P Q : A → Type 0) → Gives s m P → ((a : A) → P a → Q a) → Gives s m Q
gives_less s m P Q g h = record { gives = λ a u e. ((g.gives a u e).0, h a (g.gives a u e).1) }

pub gives_both : {A : Type 0} (s : State Table) (m : Step Table A) (P Q : A → Type 0) → Gives s m P → Gives s m Q → Gives s m (λ a. P a × Q a)
gives_both s m P Q g h = record { gives = λ a u e. ((g.gives a u e).0, ((g.gives a u e).1, (h.gives a u e).1)) }

-- anything may be so
abbrev pub Any : {A : Type 0} → A → Type 0
Any a = Unit {0}

-- what is so of an answer that is there
abbrev pub IfAny : {A : Type 0} → (A → Type 0) → Option A → Type 0
IfAny Q None = Unit {0}
IfAny Q (Some a) = Q a

module _ {A : Type 0} (s : State Table) (Q : A → Type 0) where
  left_gives : (x : Transition (State Table) A) (b : Option A) (w : State Table) → or_left s x ≡ Went b w → ((a : A) (u : State Table) → x ≡ Went a u → (u ≡ s) × Q a) → (w ≡ s) × IfAny Q b
  left_gives (Died c) b w e g = (state_of e, subst (IfAny Q) (answer_of e) tt)
    where
      state_of : Went None s ≡ Went b w → w ≡ s
      state_of e = cc

      answer_of : Went None s ≡ Went b w → None ≡ b
      answer_of e = cc
  left_gives (Went a u) b w e g = (sym (state_of e) ∙ (g a u refl).0, subst (IfAny Q) (answer_of e) (g a u refl).1)
    where
      state_of : Went (Some a) u ≡ Went b w → u ≡ w
      state_of e = cc

      answer_of : Went (Some a) u ≡ Went b w → Some a ≡ b
      answer_of e = cc

  pub gives_tried : (m : Step Table A) → Gives s m Q → Gives s (tried m) (IfAny Q)
  unfolding tried
  gives_tried m g = record { gives = λ b w e. left_gives (m.run s) b w e g.gives }

-- READING

-- field i of an object of kind Pointers
pub record IsField (t : Table) (v : Value) (i : ℕ) (x : Value) : Type 0 where
  pub object : Object
  pub is : object_at t v ≡ Some object
  pub pointers : is_pointers object.kind ≡ true
  pub field : slice_get object.fields i ≡ Some x

-- how many fields it has
pub record IsCount (t : Table) (v : Value) (n : ℕ) : Type 0 where
  pub object : Object
  pub is : object_at t v ≡ Some object
  pub pointers : is_pointers object.kind ≡ true
  pub count : n ≡ length object.fields

module _ (s : State Table) where
  pub gives_check : (c : Dead) (b : Bool) → Gives s (check c b) (λ a. b ≡ true)
  unfolding check
  gives_check c true = gives_answer s _ tt refl
  gives_check c false = gives_dead s _ c

  pub gives_or_die : {A : Type 0} (c : Dead) (x : Option A) → Gives s (or_die c x) (λ a. x ≡ Some a)
  unfolding or_die
  gives_or_die c None = gives_dead s _ c
  gives_or_die c (Some a) = gives_answer s _ a refl

  pub gives_page : (q : PageObject) → Gives s (of_page table q) (λ v. v ≡ Ref (place_of q))
  unfolding of_page
  gives_page q = gives_told s (of_page table q) _ (Ref (place_of q)) refl refl

  found_gives : (x : Option Object) → Gives s (found x) (λ o. x ≡ Some o)
  unfolding found
  found_gives None = gives_dead s _ dead.Kind
  found_gives (Some o) = gives_answer s _ o refl

  named_gives : (n : ℕ) → Gives s (object_named table n) (λ o. entry s.memory n ≡ Some o)
  unfolding object_named
  named_gives n = record { gives = λ a u e. (found_gives (entry s.memory n)).gives a u e }

  pub gives_object : (v : Value) → Gives s (object table v) (λ o. object_at s.memory v ≡ Some o)
  unfolding object
  gives_object (Small n) = gives_dead s _ dead.Small
  gives_object (Ref n) = named_gives n

  pub gives_field : (v : Value) (i : ℕ) → Gives s (fetch_field table v i) (λ x. IsField s.memory v i x)
  unfolding fetch_field
  gives_field v i =
      gives_then s (λ o. object_at s.memory v ≡ Some o) _ (object table v) _ (gives_object v)
      (λ o e. gives_next s (λ a. is_pointers o.kind ≡ true) _ (check dead.Kind (is_pointers o.kind)) _ (gives_check dead.Kind (is_pointers o.kind))
      (λ a p. gives_less s _ _ _ (gives_or_die dead.Field (slice_get o.fields i)) (λ x f. record { object = o; is = e; pointers = p; field = f })))

  pub gives_count : (v : Value) → Gives s (count_fields table v) (λ n. IsCount s.memory v n)
  unfolding count_fields
  gives_count v =
      gives_then s (λ o. object_at s.memory v ≡ Some o) _ (object table v) _ (gives_object v)
      (λ o e. gives_next s (λ a. is_pointers o.kind ≡ true) _ (check dead.Kind (is_pointers o.kind)) _ (gives_check dead.Kind (is_pointers o.kind))
      (λ a p. gives_answer s _ (length o.fields) (record { object = o; is = e; pointers = p; count = refl })))

  pub gives_bits : (v : Value) → Gives s (bits_or_die v) (λ n. v ≡ Small n)
  unfolding bits_or_die
  gives_bits (Small n) = gives_answer s _ n refl
  gives_bits (Ref n) = gives_dead s _ dead.NotSmall

-- SOUND TABLES

-- the page is there, and what stands in an object is there, as is its class
pub record IsSoundTable (t : Table) : Type 0 where
  pub page : (q : PageObject) → is_some (object_at t (Ref (place_of q))) ≡ true
  pub class : (v : Value) (o : Object) → object_at t v ≡ Some o → is_some (object_at t (Ref o.class)) ≡ true
  pub methods : (v : Value) (o : Object) → object_at t v ≡ Some o → is_method o.kind ≡ (o.class == place_of MethodClass)
  pub values : (v : Value) (o : Object) → object_at t v ≡ Some o → (i : ℕ) (x : Value) → slice_get o.fields i ≡ Some x → is_there bounded_table t x ≡ true

ref_class : (t : Table) (k : Kind) (m : ℕ) → is_some (object_at t (Ref m)) ≡ true → is_method k ≡ (m == place_of MethodClass) → IsClassFor t k (Ref m)
ref_class t k m h e = record { there = h; kind = λ n q. e ∙ ap (λ i. i == place_of MethodClass) (same_name m n q) }
  where
    same_name : (m n : ℕ) → Ref m ≡ Ref n → m ≡ n
    same_name m n q = cc

module _ (s : State Table) (sound : IsSoundTable s.memory) where
  -- a class of the page
  pub page_class : (q : PageObject) (k : Kind) → is_method k ≡ (place_of q == place_of MethodClass) → (c : Value) → c ≡ Ref (place_of q) → IsClassFor s.memory k c
  page_class q k e c f = subst (λ x. IsClassFor s.memory k x) (sym f) (ref_class s.memory k (place_of q) (sound.page q) e)

  -- the class of an object of kind Pointers
  pub gives_class_of : (v : Value) (o : Object) → object_at s.memory v ≡ Some o → is_pointers o.kind ≡ true → Gives s (class_of table v) (λ c. IsClassFor s.memory kind.Pointers c)
  unfolding class_of
  gives_class_of (Small n) o e p = cc
  gives_class_of (Ref n) o e p =
      gives_then s (λ a. entry s.memory n ≡ Some a) _ (object_named table n) _ (named_gives s n)
      (λ a f. gives_answer s _ (Ref a.class)
      (ref_class s.memory kind.Pointers a.class (sound.class (Ref n) a f) (sym (no_method a.kind (pointers_too a f)) ∙ sound.methods (Ref n) a f)))
    where
      pointers_too : (a : Object) → entry s.memory n ≡ Some a → is_pointers a.kind ≡ true
      pointers_too a f = let q : o ≡ a = some_same (sym e ∙ f) in subst (λ (x : Object). is_pointers x.kind ≡ true) q p
        where
          some_same : {a b : Object} → Some a ≡ Some b → a ≡ b
          some_same q = cc

  pub field_there : (v : Value) (i : ℕ) (x : Value) → IsField s.memory v i x → is_there bounded_table s.memory x ≡ true
  field_there v i x h = sound.values v h.object h.is i x h.field

  pub page_there : (q : PageObject) → is_there bounded_table s.memory (Ref (place_of q)) ≡ true
  page_there q = sound.page q

  class_of_it : (n : ℕ) → Gives s (object_named table n >>= (λ o. answer (Ref o.class))) (λ c. is_some (object_at s.memory c) ≡ true)
  class_of_it n =
      gives_then s (λ o. entry s.memory n ≡ Some o) _ (object_named table n) _ (named_gives s n)
      (λ o e. gives_answer s _ (Ref o.class) (sound.class (Ref n) o e))

  pub gives_class : (v : Value) → Gives s (class_of table v) (λ c. is_some (object_at s.memory c) ≡ true)
  unfolding class_of
  gives_class (Small n) = gives_less s _ _ _ (gives_page s SmallIntegerClass) (λ c e. subst (λ x. is_some (object_at s.memory x) ≡ true) (sym e) (sound.page SmallIntegerClass))
  gives_class (Ref n) = class_of_it n

  borne_there : (n : ℕ) (b : Bool) (v : Value) → is_some (entry s.memory n) ≡ b → named_or_not (if b then Some n else None) ≡ Some v → is_there bounded_table s.memory v ≡ true
  unfolding named_or_not
  borne_there n true v e f = let q : Ref n ≡ v = cc in subst (λ x. is_there bounded_table s.memory x ≡ true) q e
  borne_there n false v e f = cc

  pub gives_bearing : (k : ℕ) → Gives s (object_bearing table k) (λ x. (v : Value) → x ≡ Some v → is_there bounded_table s.memory v ≡ true)
  unfolding object_bearing
  gives_bearing k = gives_told s (object_bearing table k) _ (named_or_not (table.borne_by s.memory k)) refl (λ v e. borne_there k (is_some (entry s.memory k)) v refl e)
