-- Steps over births that meet only some of the objects, and keep what is known of a state.
use Rattle.std.proofs.Common.{◌≡◌, ℕ, zero, suc, List, [], ◌∷◌, Option, Some, None, Bool, true, false, refl}
use Rattle.std.specs.Prelude.{slice_get, length}
use Rattle.st_model.specs.declared.dead.Dead.{Dead}
use Rattle.st_model.specs.declared.page.PageObject.{PageObject}
use Rattle.st_model.specs.declared.page.PageObject.TheVariants.{SchedulerAssociation, SmallIntegerClass}
use Rattle.st_model.specs.Values.{Value, Small, Ref, IsLive, AllLive}
use Rattle.st_model.specs.Objects.{Object, is_pointers, place_of}
use Rattle.st_model.specs.Machine.{State, Transition, Died, Went, Step, answer, die, after, ◌>>=◌, ◌>>◌, or_left, tried}
use Rattle.st_model.specs.Births.{Births, births, object_born, bearer}
use Rattle.st_model.specs.Steps.{found, object_named, object, of_page, class_of, or_die, check, fetch_field, count_fields, fetch_fields}
use Rattle.st_model.specs.Lookup.{half_word}
use Rattle.st_model.specs.Primitives.{check_class}
use Rattle.st_simulation.proofs.Same.{Anything, IsLiveOption}

-- what stands in an object of kind Pointers is among these, and any object's class
pub record IsIn (K : ℕ → Type 0) (o : Object) : Type 0 where
  pub class : K o.class
  pub fields : is_pointers o.kind ≡ true → AllLive K o.fields

abbrev pub IsOther : PageObject → Type 0
IsOther SchedulerAssociation = ⊥
IsOther _ = Unit {0}

-- nothing among these objects leads to another one; all of the root page but the scheduler's association is among them
pub record Leads (K : ℕ → Type 0) (h : Births) : Type 0 where
  pub objects : (n : ℕ) (o : Object) → K n → object_born h n ≡ Some o → IsIn K o
  pub page : (q : PageObject) → IsOther q → K (bearer h (place_of q))

abbrev pub Kept : {A : Type 0} → (State Births → Type 0) → (A → Type 0) → Transition (State Births) A → Type 0
Kept I P (Died cause) = Unit {0}
Kept I P (Went a t) = P a × I t

-- it dies, or answers what this holds of and leaves a state of which the same is known
pub record Keeps {A : Type 0} (I : State Births → Type 0) (P : A → Type 0) (m : Step Births A) : Type 0 where
  pub go : (s : State Births) → I s → Kept I P (m.run s)

module _ (I : State Births → Type 0) where
  after_keeps : {A B : Type 0} (P : A → Type 0) (Q : B → Type 0) (o : Transition (State Births) A) (f : A → Step Births B) → Kept I P o → ((a : A) → P a → Keeps I Q (f a))
      → Kept I Q (after o (λ a s. (f a).run s))
  unfolding after
  after_keeps P Q (Died cause) f h k = tt
  after_keeps P Q (Went a t) f h k = (k a h.0).go t h.1

  pub then_keeps : {A B : Type 0} (P : A → Type 0) (Q : B → Type 0) (m : Step Births A) (f : A → Step Births B) → Keeps I P m → ((a : A) → P a → Keeps I Q (f a)) → Keeps I Q (m >>= f)
  unfolding ◌>>=◌
  then_keeps P Q m f h k = record { go = λ s i. after_keeps P Q (m.run s) f (h.go s i) k }

  pub next_keeps : {A B : Type 0} (P : A → Type 0) (Q : B → Type 0) (m : Step Births A) (n : Step Births B) → Keeps I P m → Keeps I Q n → Keeps I Q (m >> n)
  unfolding ◌>>◌
  next_keeps P Q m n h k = then_keeps P Q m (λ a. n) h (λ a p. k)

  pub answer_keeps : {A : Type 0} (P : A → Type 0) (a : A) → P a → Keeps I P (answer a)
  unfolding answer
  answer_keeps P a p = record { go = λ s i. (p, i) }

  pub die_keeps : {A : Type 0} (P : A → Type 0) (cause : Dead) → Keeps I P (die cause)
  unfolding die
  die_keeps P cause = record { go = λ s i. tt }

  kept_as : {A : Type 0} (P Q : A → Type 0) (o : Transition (State Births) A) → ((a : A) → P a → Q a) → Kept I P o → Kept I Q o
  kept_as P Q (Died cause) f h = tt
  kept_as P Q (Went a t) f h = (f a h.0, h.1)

  pub keeps_as : {A : Type 0} (P Q : A → Type 0) (m : Step Births A) → ((a : A) → P a → Q a) → Keeps I P m → Keeps I Q m
  keeps_as P Q m f h = record { go = λ s i. kept_as P Q (m.run s) f (h.go s i) }

  left_keeps : {A : Type 0} (P : A → Type 0) (Q : Option A → Type 0) (o : Transition (State Births) A) (s : State Births) → I s → Q None → ((a : A) → P a → Q (Some a)) → Kept I P o → Kept I Q (or_left s o)
  left_keeps P Q (Died cause) s i n f h = (n, i)
  left_keeps P Q (Went a t) s i n f h = (f a h.0, h.1)

  pub tried_keeps : {A : Type 0} (P : A → Type 0) (Q : Option A → Type 0) (m : Step Births A) → Q None → ((a : A) → P a → Q (Some a)) → Keeps I P m → Keeps I Q (tried m)
  unfolding tried
  tried_keeps P Q m n f h = record { go = λ s i. left_keeps P Q (m.run s) s i n f (h.go s i) }

  -- conditions

  pub check_keeps : (cause : Dead) (b : Bool) → Keeps I Anything (check cause b)
  unfolding check
  check_keeps cause true = answer_keeps Anything tt tt
  check_keeps cause false = die_keeps Anything cause

  pub or_die_keeps : (K : ℕ → Type 0) (cause : Dead) (x : Option Value) → IsLiveOption K x → Keeps I (IsLive K) (or_die cause x)
  unfolding or_die
  or_die_keeps K cause None h = die_keeps (IsLive K) cause
  or_die_keeps K cause (Some v) h = answer_keeps (IsLive K) v h

  -- halved pointers
  pub half_keeps : (v : Value) → Keeps I Anything (half_word births v)
  unfolding half_word
  half_keeps (Small n) = answer_keeps Anything n tt
  half_keeps (Ref n) = record { go = λ s i. (tt, i) }

pub get_live : (K : ℕ → Type 0) (vs : List Value) (i : ℕ) → AllLive K vs → IsLiveOption K (slice_get vs i)
get_live K [] i h = tt
get_live K (v ∷ vs) zero h = h.0
get_live K (v ∷ vs) (suc i) h = get_live K vs i h.1

-- READING

module _ (K : ℕ → Type 0) (I : State Births → Type 0) (leads : (s : State Births) → I s → Leads K s.memory) where
  found_keeps : (s : State Births) (n : ℕ) (x : Option Object) → I s → K n → object_born s.memory n ≡ x → Kept I (IsIn K) ((found x).run s)
  unfolding found die answer
  found_keeps s n None i k e = tt
  found_keeps s n (Some o) i k e = ((leads s i).objects n o k e, i)

  named_keeps : (n : ℕ) → K n → Keeps I (IsIn K) (object_named births n)
  unfolding object_named
  named_keeps n k = record { go = λ s i. found_keeps s n (object_born s.memory n) i k refl }

  pub object_keeps : (v : Value) → IsLive K v → Keeps I (IsIn K) (object births v)
  unfolding object
  object_keeps (Small n) h = die_keeps I (IsIn K) _
  object_keeps (Ref n) h = named_keeps n h

  pub page_keeps : (q : PageObject) → IsOther q → Keeps I (IsLive K) (of_page births q)
  unfolding of_page
  page_keeps q o = record { go = λ s i. ((leads s i).page q o, i) }

  pub class_keeps : (v : Value) → IsLive K v → Keeps I (IsLive K) (class_of births v)
  unfolding class_of
  class_keeps (Small n) h = page_keeps SmallIntegerClass tt
  class_keeps (Ref n) h = then_keeps I (IsIn K) (IsLive K) _ _ (named_keeps n h) (λ o l. answer_keeps I (IsLive K) (Ref o.class) l.class)

  -- what is checked holds
  checked : {A : Type 0} (P : A → Type 0) (cause : Dead) (b : Bool) (m : Step Births A) → (b ≡ true → Keeps I P m) → Keeps I P (check cause b >> m)
  unfolding check die ◌>>◌
  checked P cause true m h = next_keeps I Anything P _ m (answer_keeps I Anything tt tt) (h refl)
  checked P cause false m h = record { go = λ s i. tt }

  pub field_keeps : (v : Value) (i : ℕ) → IsLive K v → Keeps I (IsLive K) (fetch_field births v i)
  unfolding fetch_field
  field_keeps v i h =
      then_keeps I (IsIn K) (IsLive K) _ _ (object_keeps v h)
      (λ o l. checked (IsLive K) _ _ _ (λ e. or_die_keeps I K _ (slice_get o.fields i) (get_live K o.fields i (l.fields e))))

  pub count_keeps : (v : Value) → IsLive K v → Keeps I Anything (count_fields births v)
  unfolding count_fields
  count_keeps v h = then_keeps I (IsIn K) Anything _ _ (object_keeps v h) (λ o l. checked Anything _ _ _ (λ e. answer_keeps I Anything (length o.fields) tt))

  pub fields_keep : (v : Value) (from n : ℕ) → IsLive K v → Keeps I (AllLive K) (fetch_fields births v from n)
  unfolding fetch_fields
  fields_keep v from zero h = answer_keeps I (AllLive K) [] tt
  fields_keep v from (suc n) h =
      then_keeps I (IsLive K) (AllLive K) _ _ (field_keeps v from h)
      (λ x l. then_keeps I (AllLive K) (AllLive K) _ _ (fields_keep v (suc from) n h) (λ xs k. answer_keeps I (AllLive K) (x ∷ xs) (l, k)))

  pub check_class_keeps : (v : Value) (q : PageObject) → IsOther q → IsLive K v → Keeps I Anything (check_class births v q)
  unfolding check_class
  check_class_keeps v q o h =
      then_keeps I (IsLive K) Anything _ _ (class_keeps v h) (λ c l. then_keeps I (IsLive K) Anything _ _ (page_keeps q o) (λ w k. check_keeps I _ _))
