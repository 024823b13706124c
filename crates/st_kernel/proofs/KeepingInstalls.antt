-- An installation stores only into what its plan leads to, and into what it makes.
use Rattle.std.proofs.Common.{◌≡◌, ◌≢◌, ℕ, zero, suc, ◌+◌, ◌<◌, ◌≤◌, List, [], ◌∷◌, length, Option, Some, None, Bool, true, false, refl, sym, ap, subst, ◌∙◌, arith, ◌⊎◌, inl, inr}
use Rattle.std.specs.Prelude.{replicate, get_or, if◌then◌else◌}
use Rattle.std.specs.List.{AllByRecursion}
use Rattle.std.proofs.lemmas.Bool.{cases_eq}
use Rattle.st_model.specs.declared.dead.Dead.{Dead}
use Rattle.st_model.specs.declared.kind.Kind.{Kind}
use Rattle.st_model.specs.declared.kind.Kind.TheVariants as kind
use Rattle.st_model.specs.declared.page.PageObject.{PageObject}
use Rattle.st_model.specs.declared.page.PageObject.TheVariants.{NilObject}
use Rattle.st_model.specs.Values.{Value, Small, Ref, IsLive, AllLive}
use Rattle.st_model.specs.Objects.{Object, is_pointers, is_method, place_of, with_field, with_units}
use Rattle.st_model.specs.Machine.{State, Registers, World, Head, Transition, Died, Went, Step, is_there, answer, die, after, ◌>>=◌, ◌>>◌}
use Rattle.st_model.specs.Births.{Birth, Births, births, object_born, bearer, replaced, born}
use Rattle.st_model.specs.Formed.{fresh_with}
use Rattle.st_model.specs.Steps.{found, object_named, object, of_page, stored_at, store_at, set_field, fit_units, units_set, set_units_at, set_units, made, new_of, make_named, make, check, store_field, store_fields, store_byte, store_bytes, store_method_field}
use Rattle.st_model.proofs.BirthLemmas.{replaced-born, replaced-other, length-replaced, bearer-replaced, length-born, born-last, born-other, bearer-born, object_within}
use Rattle.st_simulation.proofs.Same.{Anything, set_all_live}
use Rattle.st_install.specs.Plans.{PlannedValue, There, Made, NewObject, FieldStore, Plan}
use Rattle.st_install.specs.Dictionaries.{Ending, Holds, Vacant, Nowhere, put_method, put_at, refill_unless, refill_from, refill_among, refill, raised_tally}
use Rattle.st_install.specs.Installing.{size_by, literals_by, make_new, make_all, part_value, part_values, store_method_fields, fill_method, fill_by, fill_all, store_all, Placing, target, find_place, adopt, add_at, store_planned, fill_and_store, install}
use Rattle.st_kernel.proofs.Keeping.{IsIn, Leads, Kept, Keeps, then_keeps, next_keeps, answer_keeps, die_keeps, page_keeps, field_keeps}
use Rattle.st_kernel.proofs.KeepingPlans.{IsPartIn, IsNewIn, IsStoreIn, AreFrom, Chosen, IsPlanIn, count_places_keep, seek_keeps, place_keeps}

-- WHAT STAYS: two objects, the root page, and all of a state but its memory
pub record Fixed : Type 0 where
  pub one : ℕ
  pub other : ℕ
  pub one_object : Object
  pub other_object : Object
  pub page : PageObject → ℕ
  pub registers : Registers
  pub world : World
  pub head : Head

-- beside that nothing among these objects leads to another, and there are so many objects
pub record IsGuarded (K : ℕ → Type 0) (z : Fixed) (least : ℕ) (s : State Births) : Type 0 where
  pub leads : Leads K s.memory
  pub is_one : object_born s.memory z.one ≡ Some z.one_object
  pub is_other : object_born s.memory z.other ≡ Some z.other_object
  pub page : (q : PageObject) → bearer s.memory (place_of q) ≡ z.page q
  pub below : (q : PageObject) → bearer s.memory (place_of q) < length s.memory
  pub long : least ≤ length s.memory
  pub registers : s.registers ≡ z.registers
  pub world : s.world ≡ z.world
  pub head : s.head ≡ z.head

abbrev with_births : State Births → Births → State Births
with_births s h = record s { memory = h }

module _ (K : ℕ → Type 0) (z : Fixed) (least : ℕ) where
  abbrev I : State Births → Type 0
  I s = IsGuarded K z least s

  pub leads_at : (s : State Births) → I s → Leads K s.memory
  leads_at s i = i.leads

  -- an object takes another's place
  put : (s : State Births) (n : ℕ) (o p : Object) → I s → n ≢ z.one → n ≢ z.other → object_born s.memory n ≡ Some o → (K n → IsIn K p) → I (with_births s (replaced s.memory n p))
  put s n o p i a b e f =
      let h = replaced s.memory n p in
      let l = length-replaced s.memory n p in
      let w = object_within s.memory n o e in
      record {
        leads = record {
          objects = λ m q k g. by_name m q k g (cases_eq m n);
          page = λ q c. subst (λ m. K m) (sym (bearer-replaced s.memory n (place_of q) p)) (i.leads.page q c);
        };
        is_one = replaced-other s.memory n z.one p (λ q. a (sym q)) ∙ i.is_one;
        is_other = replaced-other s.memory n z.other p (λ q. b (sym q)) ∙ i.is_other;
        page = λ q. bearer-replaced s.memory n (place_of q) p ∙ i.page q;
        below = λ q. (let x = i.below q in let y = bearer-replaced s.memory n (place_of q) p in omega (arith, l, x, y));
        long = (let x = i.long in omega (arith, l, x));
        registers = i.registers;
        world = i.world;
        head = i.head;
      }
    where
      by_name : (m : ℕ) (q : Object) → K m → object_born (replaced s.memory n p) m ≡ Some q → ((m ≡ n) ⊎ (m ≢ n)) → IsIn K q
      by_name m q k g (inl y) =
          let r : Some p ≡ Some q = sym (replaced-born s.memory n p (object_within s.memory n o e)) ∙ (ap (object_born (replaced s.memory n p)) (sym y) ∙ g) in
          let t : p ≡ q = cc in
          subst (IsIn K) t (f (subst (λ x. K x) y k))
      by_name m q k g (inr y) = i.leads.objects m q k (sym (replaced-other s.memory n m p y) ∙ g)

  -- an object more
  more : (s : State Births) (b : Birth) → I s → (K (length s.memory) → IsIn K b.object) → I (with_births s (born s.memory b))
  more s b i f =
      let l = length-born s.memory b in
      record {
        leads = record {
          objects = λ m q k g. by_name m q k g (cases_eq m (length s.memory));
          page = λ q c. subst (λ m. K m) (sym (bearer-born s.memory b (place_of q) (i.below q))) (i.leads.page q c);
        };
        is_one = born-other s.memory b z.one (before z.one z.one_object i.is_one) ∙ i.is_one;
        is_other = born-other s.memory b z.other (before z.other z.other_object i.is_other) ∙ i.is_other;
        page = λ q. bearer-born s.memory b (place_of q) (i.below q) ∙ i.page q;
        below = λ q. (let x = i.below q in let y = bearer-born s.memory b (place_of q) (i.below q) in omega (arith, l, x, y));
        long = (let x = i.long in omega (arith, l, x));
        registers = i.registers;
        world = i.world;
        head = i.head;
      }
    where
      before : (n : ℕ) (o : Object) → object_born s.memory n ≡ Some o → n ≢ length s.memory
      before n o e q = let w = object_within s.memory n o e in omega (arith, w, q)

      by_name : (m : ℕ) (q : Object) → K m → object_born (born s.memory b) m ≡ Some q → ((m ≡ length s.memory) ⊎ (m ≢ length s.memory)) → IsIn K q
      by_name m q k g (inl y) =
          let r : Some b.object ≡ Some q = sym (born-last s.memory b) ∙ (ap (object_born (born s.memory b)) (sym y) ∙ g) in
          let t : b.object ≡ q = cc in
          subst (IsIn K) t (f (subst (λ x. K x) y k))
      by_name m q k g (inr y) = i.leads.objects m q k (sym (born-other s.memory b m y) ∙ g)

  -- STORES

  -- an object other than the two
  abbrev pub IsFree : Value → Type 0
  IsFree (Small n) = Unit {0}
  IsFree (Ref n) = (n ≢ z.one) × (n ≢ z.other)

  -- into such an object, if it is among these, only what is too
  abbrev pub Takes : Value → Value → Type 0
  Takes (Small n) x = Unit {0}
  Takes (Ref n) x = K n → IsLive K x

  seen_small : {A : Type 0} (P : A → Type 0) (n : ℕ) (f : Object → Step Births A) → Keeps I P (object births (Small n) >>= f)
  unfolding object die ◌>>=◌ after
  seen_small P n f = record { go = λ s i. tt }

  seen : {A : Type 0} (P : A → Type 0) (n : ℕ) (f : Object → Step Births A) → ((s : State Births) (o : Object) → I s → object_born s.memory n ≡ Some o → Kept I P ((f o).run s))
      → Keeps I P (object births (Ref n) >>= f)
  unfolding object object_named ◌>>=◌ found answer die after
  seen P n f h = record { go = λ s i. by_object s i (object_born s.memory n) refl }
    where
      by_object : (s : State Births) → I s → (x : Option Object) → object_born s.memory n ≡ x → Kept I P (after ((found x).run s) (λ o t. (f o).run t))
      by_object s i None e = tt
      by_object s i (Some o) e = h s o i e

  checked : {A : Type 0} (P : A → Type 0) (cause : Dead) (b : Bool) (m : Step Births A) (s : State Births) → (b ≡ true → Kept I P (m.run s)) → Kept I P ((check cause b >> m).run s)
  unfolding check answer die ◌>>◌ ◌>>=◌ after
  checked P cause true m s h = h refl
  checked P cause false m s h = tt

  set_at : (s : State Births) (n : ℕ) (o : Object) (i : ℕ) (x : Value) → I s → object_born s.memory n ≡ Some o → n ≢ z.one → n ≢ z.other → (K n → is_pointers o.kind ≡ true → IsLive K x)
      → Kept I Anything ((set_field births (Ref n) i x).run s)
  unfolding set_field store_at stored_at
  set_at s n o i x g e a b f = subst (λ y. Kept I Anything (stored_at births n i x s y (is_there births s.memory x))) (sym e) (by_there (is_there births s.memory x))
    where
      by_there : (t : Bool) → Kept I Anything (stored_at births n i x s (Some o) t)
      by_there false = tt
      by_there true = (
        tt,
        put s n o (with_field o i x) g a b e
            (λ k. let l = g.leads.objects n o k e in record { class = l.class; fields = λ q. set_all_live K o.fields i x (l.fields q) (f k q) }),
      )

  units_at : (s : State Births) (n : ℕ) (o : Object) (us : List ℕ) → I s → object_born s.memory n ≡ Some o → n ≢ z.one → n ≢ z.other → Kept I Anything ((set_units births (Ref n) us).run s)
  unfolding set_units set_units_at units_set
  units_at s n o us g e a b = subst (λ y. Kept I Anything (units_set births n us s y (fit_units us y))) (sym e) (by_fit (fit_units us (Some o)))
    where
      by_fit : (t : Bool) → Kept I Anything (units_set births n us s (Some o) t)
      by_fit false = tt
      by_fit true = (tt, put s n o (with_units o us) g a b e (λ k. let l = g.leads.objects n o k e in record { class = l.class; fields = l.fields }))

  pub store_keeps : (v : Value) (i : ℕ) (x : Value) → IsFree v → Takes v x → Keeps I Anything (store_field births v i x)
  unfolding store_field
  store_keeps (Small n) i x h t = seen_small Anything n _
  store_keeps (Ref n) i x h t =
      seen Anything n _
      (λ s o g e. checked Anything _ _ _ s (λ p. checked Anything _ _ _ s (λ b. set_at s n o i x g e h.0 h.1 (λ k q. t k))))

  fields_keep : (v : Value) (to : ℕ) (xs : List Value) → IsFree v → AllByRecursion (Takes v) xs → Keeps I Anything (store_fields births v to xs)
  unfolding store_fields
  fields_keep v to [] h t = answer_keeps I Anything tt tt
  fields_keep v to (x ∷ xs) h t = next_keeps I Anything Anything _ _ (store_keeps v to x h t.0) (fields_keep v (suc to) xs h t.1)

  -- what stands in a method leads nowhere
  no_pointers : (k : Kind) → is_method k ≡ true → is_pointers k ≡ true → ⊥
  no_pointers kind.Pointers e f = cc
  no_pointers kind.Words e f = cc
  no_pointers kind.Bytes e f = cc
  no_pointers kind.Method e f = cc

  method_field_keeps : (v : Value) (i : ℕ) (x : Value) → IsFree v → Keeps I Anything (store_method_field births v i x)
  unfolding store_method_field
  method_field_keeps (Small n) i x h = seen_small Anything n _
  method_field_keeps (Ref n) i x h =
      seen Anything n _
      (λ s o g e. checked Anything _ _ _ s (λ p. checked Anything _ _ _ s (λ b. set_at s n o i x g e h.0 h.1 (λ k q. absurd (no_pointers o.kind p q)))))

  method_fields_keep : (v : Value) (to : ℕ) (xs : List Value) → IsFree v → Keeps I Anything (store_method_fields births v to xs)
  unfolding store_method_fields
  method_fields_keep v to [] h = answer_keeps I Anything tt tt
  method_fields_keep v to (x ∷ xs) h = next_keeps I Anything Anything _ _ (method_field_keeps v to x h) (method_fields_keep v (suc to) xs h)

  byte_keeps : (v : Value) (i x : ℕ) → IsFree v → Keeps I Anything (store_byte births v i x)
  unfolding store_byte
  byte_keeps (Small n) i x h = seen_small Anything n _
  byte_keeps (Ref n) i x h =
      seen Anything n _
      (λ s o g e. checked Anything _ _ _ s (λ p. checked Anything _ _ _ s (λ b. checked Anything _ _ _ s (λ c. units_at s n o _ g e h.0 h.1))))

  bytes_keep : (v : Value) (to : ℕ) (bs : List ℕ) → IsFree v → Keeps I Anything (store_bytes births v to bs)
  unfolding store_bytes
  bytes_keep v to [] h = answer_keeps I Anything tt tt
  bytes_keep v to (b ∷ bs) h = next_keeps I Anything Anything _ _ (byte_keeps v to b h) (bytes_keep v (suc to) bs h)

  pub fill_keeps : (v : Value) (xs : List Value) (bs : List ℕ) (k : Kind) → IsFree v → (is_pointers k ≡ true → AllByRecursion (Takes v) xs) → Keeps I Anything (fill_by births v xs bs k)
  unfolding fill_by fill_method
  fill_keeps v xs bs kind.Pointers h t = fields_keep v 0 xs h (t refl)
  fill_keeps v xs bs kind.Words h t = answer_keeps I Anything tt tt
  fill_keeps v xs bs kind.Bytes h t = bytes_keep v 0 bs h
  fill_keeps v xs bs kind.Method h t = next_keeps I Anything Anything _ _ (method_fields_keep v 0 xs h) (bytes_keep v _ bs h)

  -- WHAT IS MADE

  abbrev MadeHere : State Births → Transition (State Births) Value → Type 0
  MadeHere s (Died cause) = Unit {0}
  MadeHere s (Went v t) = (v ≡ Ref (length s.memory)) × I t × (length t.memory ≡ suc (length s.memory))

  copies_live : (n : ℕ) (x : Value) → IsLive K x → AllLive K (replicate n x)
  copies_live zero x h = tt
  copies_live (suc n) x h = (h, copies_live n x h)

  fresh_in : (nil : Value) (class : ℕ) (k : Kind) (size literals : ℕ) → IsLive K nil → K class → IsIn K (fresh_with nil class k size literals)
  fresh_in nil class kind.Pointers size literals h c = record { class = c; fields = λ e. copies_live size nil h }
  fresh_in nil class kind.Words size literals h c = record { class = c; fields = λ e. tt }
  fresh_in nil class kind.Bytes size literals h c = record { class = c; fields = λ e. tt }
  fresh_in nil class kind.Method size literals h c = record { class = c; fields = λ e. absurd (no_pointers kind.Method refl e) }

  make_at : (s : State Births) (class : Value) (k : Kind) (size literals : ℕ) → I s → (K (length s.memory) → IsLive K class) → MadeHere s ((make births class k size literals).run s)
  unfolding make make_named die made
  make_at s (Small n) k size literals i f = tt
  make_at s (Ref class) k size literals i f = by_there (is_there births s.memory (Ref class))
    where
      by_there : (b : Bool) → MadeHere s (made births (new_of births s.memory class k size literals) s b true)
      by_there false = tt
      by_there true =
          (refl, more s _ i (λ h. fresh_in _ class k size literals (i.leads.page NilObject tt) (f h)), length-born s.memory _)

-- AN INSTALLATION, over so many births, of what a plan of what is among K makes: to these comes what is made for anything but literals

abbrev pub Joins : (K : ℕ → Type 0) (C : ℕ → Type 0) (from count : ℕ) → ℕ → Type 0
Joins K C from count n = K n ⊎ ((j : ℕ) × (n ≡ from + j) × (j < count) × C j)

-- as many names as objects, from one on
abbrev names : ℕ → List NewObject → List Value
names n [] = []
names n (o ∷ os) = Ref n ∷ names (suc n) os

name_or : (P : Value → Type 0) (n k : ℕ) (os : List NewObject) (nil : Value) → P nil → (k < length os → P (Ref (n + k))) → P (get_or (names n os) k nil)
name_or P n k [] nil h f = h
name_or P n zero (o ∷ os) nil h f = let e : n + 0 ≡ n = omega arith in subst (λ m. P (Ref m)) e (f (omega arith))
name_or P n (suc k) (o ∷ os) nil h f =
    let e : n + suc k ≡ suc n + k = omega arith in
    name_or P (suc n) k os nil h (λ l. subst (λ m. P (Ref m)) e (f (omega (arith, l))))

module _ (K : ℕ → Type 0) (z : Fixed) (p : Plan) (is : IsPlanIn K p) (from : ℕ) (within : (n : ℕ) → K n → n < from) (apart : (n : ℕ) → K n → (n ≢ z.one) × (n ≢ z.other))
    (one_before : z.one < from) (other_before : z.other < from) where
  abbrev C : ℕ → Type 0
  C = Chosen is.first is.last

  abbrev K' : ℕ → Type 0
  K' = Joins K C from (length p.objects)

  live_up : (v : Value) → IsLive K v → IsLive K' v
  live_up (Small n) h = tt
  live_up (Ref n) h = inl h

  is_chosen : (k : ℕ) → K' (from + k) → C k
  is_chosen k (inl h) = let l = within (from + k) h in absurd (omega (arith, l))
  is_chosen k (inr h) = let e = h.1 in let q : h.0 ≡ k = omega (arith, e) in subst C q h.3

  pub apart_up : (n : ℕ) → K' n → (n ≢ z.one) × (n ≢ z.other)
  apart_up n (inl h) = apart n h
  apart_up n (inr h) = let e = h.1 in (λ q. omega (arith, e, q, one_before), λ q. omega (arith, e, q, other_before))

  pub within_up : (n : ℕ) → K' n → n < from + length p.objects
  within_up n (inl h) = let l = within n h in omega (arith, l)
  within_up n (inr h) = let e = h.1 in let l = h.2 in omega (arith, e, l)

  -- the leads at first hold for these too
  pub joined : (s : State Births) → length s.memory ≡ from → IsGuarded K z from s → IsGuarded K' z from s
  joined s e g = record {
    leads = record {
      objects = λ n o k f. let l = g.leads.objects n o (old n o k f) f in record { class = inl l.class; fields = λ q. all_up o.fields (l.fields q) };
      page = λ q o. inl (g.leads.page q o);
    };
    is_one = g.is_one;
    is_other = g.is_other;
    page = g.page;
    below = g.below;
    long = g.long;
    registers = g.registers;
    world = g.world;
    head = g.head;
  }
    where
      all_up : (vs : List Value) → AllLive K vs → AllLive K' vs
      all_up [] h = tt
      all_up (v ∷ vs) h = (live_up v h.0, all_up vs h.1)

      old : (n : ℕ) (o : Object) → K' n → object_born s.memory n ≡ Some o → K n
      old n o (inl h) f = h
      old n o (inr h) f = let w = object_within s.memory n o f in let q = h.1 in absurd (omega (arith, w, q, e))

  abbrev M : State Births → Type 0
  M s = IsGuarded K' z from s

  -- all are made

  abbrev MadeAll : ℕ → List NewObject → Transition (State Births) (List Value) → Type 0
  MadeAll k os (Died cause) = Unit {0}
  MadeAll k os (Went vs t) = (vs ≡ names (from + k) os) × M t × (length t.memory ≡ from + k + length os)

  class_up : (k : ℕ) (o : NewObject) → (C k → IsNewIn K C o) → (n : ℕ) → n ≡ from + k → K' n → IsLive K' o.class
  class_up k o h n e c = live_up o.class (h (is_chosen k (subst (λ x. K' x) e c))).class

  first_made : (k : ℕ) (o : NewObject) → (C k → IsNewIn K C o) → (s : State Births) → M s → length s.memory ≡ from + k → MadeHere K' z from s ((make_new births o).run s)
  unfolding make_new
  first_made k o h s g e = make_at K' z from s o.class o.kind (size_by o.kind o) (literals_by o.kind o) g (λ c. class_up k o h (length s.memory) e c)

  after_rest : (k : ℕ) (o : NewObject) (os : List NewObject) (v : Value) → v ≡ Ref (from + k) → (x : Transition (State Births) (List Value)) → MadeAll (suc k) os x
      → MadeAll k (o ∷ os) (after x (λ vs t. (answer {H = Births} (v ∷ vs)).run t))
  unfolding after answer
  after_rest k o os v q (Died cause) m = tt
  after_rest k o os v q (Went vs t) m =
      let l = m.2 in
      let r : from + suc k ≡ suc (from + k) = omega arith in
      let tail : vs ≡ names (suc (from + k)) os = m.0 ∙ ap (λ n. names n os) r in
      (λ i. q i ∷ tail i, m.1, omega (arith, l))

  after_first : (k : ℕ) (o : NewObject) (os : List NewObject) (s : State Births) → length s.memory ≡ from + k
      → ((t : State Births) → M t → length t.memory ≡ from + suc k → MadeAll (suc k) os ((make_all births os).run t))
      → (x : Transition (State Births) Value) → MadeHere K' z from s x → MadeAll k (o ∷ os) (after x (λ v t. (make_all births os >>= (λ vs. answer (v ∷ vs))).run t))
  unfolding after ◌>>=◌
  after_first k o os s e rest (Died cause) m = tt
  after_first k o os s e rest (Went v t) m =
      let l = m.2 in
      after_rest k o os v (m.0 ∙ ap (λ n. Ref n) e) ((make_all births os).run t) (rest t m.1 (omega (arith, l, e)))

  make_all_at : (k : ℕ) (os : List NewObject) → AreFrom C (IsNewIn K C) k os → (s : State Births) → M s → length s.memory ≡ from + k → MadeAll k os ((make_all births os).run s)
  unfolding make_all answer ◌>>=◌
  make_all_at k [] h s g e = (refl, g, omega (arith, e))
  make_all_at k (o ∷ os) h s g e =
      after_first k o os s e (λ t m l. make_all_at (suc k) os h.1 t m l) ((make_new births o).run s) (first_made k o h.0 s g e)

  -- they are filled

  abbrev full : ℕ
  full = from + length p.objects

  abbrev J : State Births → Type 0
  J s = IsGuarded K' z full s

  free_made : (k : ℕ) → IsFree K' z full (Ref (from + k))
  free_made k = (λ q. omega (arith, q, one_before), λ q. omega (arith, q, other_before))

  module _ (nil : Value) (nil_there : IsLive K' nil) where
    abbrev all_made : List Value
    all_made = names from p.objects

    made_live : (k : ℕ) → C k → IsLive K' (get_or all_made k nil)
    made_live k c = name_or (λ v. IsLive K' v) from k p.objects nil nil_there (λ l. inr (k, refl, l, c))

    part_live : (q : PlannedValue) → IsPartIn K C q → IsLive K' (part_value nil all_made q)
    part_live (There v) h = live_up v h
    part_live (Made k) h = made_live k h

    takes_live : (v x : Value) → IsLive K' x → Takes K' z full v x
    takes_live (Small n) x h = tt
    takes_live (Ref n) x h = λ k. h

    parts_take : (v : Value) (qs : List PlannedValue) → AllByRecursion (IsPartIn K C) qs → AllByRecursion (Takes K' z full v) (part_values nil all_made qs)
    parts_take v [] h = tt
    parts_take v (q ∷ qs) h = (takes_live v _ (part_live q h.0), parts_take v qs h.1)

    -- into what was all_made for a literal goes anything
    unchosen : (k : ℕ) (qs : List PlannedValue) → ((K' (from + k)) → AllByRecursion (Takes K' z full (Ref (from + k))) (part_values nil all_made qs))
        → AllByRecursion (Takes K' z full (Ref (from + k))) (part_values nil all_made qs)
    unchosen k [] h = tt
    unchosen k (q ∷ qs) h = (λ c. (h c).0 c, unchosen k qs (λ c. (h c).1))

    fill_all_keeps : (k : ℕ) (os : List NewObject) → AreFrom C (IsNewIn K C) k os → Keeps J Anything (fill_all births nil all_made (names (from + k) os) os)
    unfolding fill_all
    fill_all_keeps k [] h = answer_keeps J Anything tt tt
    fill_all_keeps k (o ∷ os) h =
        let r : from + suc k ≡ suc (from + k) = omega arith in
        next_keeps J Anything Anything _ _
        (fill_keeps K' z full (Ref (from + k)) (part_values nil all_made o.fields) o.bytes o.kind (free_made k)
        (λ e. unchosen k o.fields (λ c. parts_take (Ref (from + k)) o.fields ((h.0 (is_chosen k c)).fields e))))
        (subst (λ n. Keeps J Anything (fill_all births nil all_made (names n os) os)) r (fill_all_keeps (suc k) os h.1))

    -- what is among these is stored into what is among these

    free_live : (v : Value) → IsLive K' v → IsFree K' z full v
    free_live (Small n) h = tt
    free_live (Ref n) h = apart_up n h

    field_stored : (v : Value) (i : ℕ) (x : Value) → IsLive K' v → IsLive K' x → Keeps J Anything (store_field births v i x)
    field_stored v i x h k = store_keeps K' z full v i x (free_live v h) (takes_live v x k)

    abbrev leads : (s : State Births) → J s → Leads K' s.memory
    leads = leads_at K' z full

    put_keeps : (d ms : Value) (k : ℕ) (x m : Value) → IsLive K' d → IsLive K' ms → IsLive K' x → IsLive K' m → Keeps J Anything (put_method births d ms k x m)
    unfolding put_method
    put_keeps d ms k x m hd hs hx hm = next_keeps J Anything Anything _ _ (field_stored d (2 + k) x hd hx) (field_stored ms k m hs hm)

    put_at_keeps : (d x m : Value) (e : Ending) → IsLive K' d → IsLive K' x → IsLive K' m → Keeps J Anything (put_at births d x m e)
    unfolding put_at
    put_at_keeps d x m (Holds k) hd hx hm = then_keeps J (IsLive K') Anything _ _ (field_keeps K' J leads d 1 hd) (λ ms l. put_keeps d ms k x m hd l hx hm)
    put_at_keeps d x m (Vacant k) hd hx hm = die_keeps J Anything _
    put_at_keeps d x m Nowhere hd hx hm = die_keeps J Anything _

    refill_unless_keeps : (old new : Value) (k : ℕ) (x : Value) (b : Bool) → IsLive K' old → IsLive K' new → IsLive K' x → Keeps J Anything (refill_unless births old new k x b)
    unfolding refill_unless
    refill_unless_keeps old new k x true ho hn hx = answer_keeps J Anything tt tt
    refill_unless_keeps old new k x false ho hn hx =
        then_keeps J (IsLive K') Anything _ _ (field_keeps K' J leads old 1 ho)
        (λ ms a. then_keeps J (IsLive K') Anything _ _ (field_keeps K' J leads ms k a)
        (λ m b. then_keeps J (IsLive K') Anything _ _ (page_keeps K' J leads NilObject tt)
        (λ n c. then_keeps J Anything Anything _ _ (seek_keeps K' J leads new n x hn) (λ e u. put_at_keeps new x m e hn hx b))))

    refill_among_keeps : (old new : Value) (k left : ℕ) → IsLive K' old → IsLive K' new → Keeps J Anything (refill_among births old new k left)
    unfolding refill_among refill_from
    refill_among_keeps old new k zero ho hn = answer_keeps J Anything tt tt
    refill_among_keeps old new k (suc left) ho hn =
        next_keeps J Anything Anything _ _
        (then_keeps J (IsLive K') Anything _ _ (field_keeps K' J leads old (2 + k) ho)
        (λ x a. then_keeps J (IsLive K') Anything _ _ (page_keeps K' J leads NilObject tt) (λ n b. refill_unless_keeps old new k x _ ho hn a)))
        (refill_among_keeps old new (suc k) left ho hn)

    target_keeps : (grown : Option ℕ) → ((k : ℕ) → grown ≡ Some k → C k) → Keeps J (IsLive K') (target births nil all_made p.dictionary grown)
    unfolding target refill
    target_keeps None h = answer_keeps J (IsLive K') p.dictionary (live_up p.dictionary is.dictionary)
    target_keeps (Some k) h =
        let d = live_up p.dictionary is.dictionary in
        let n = made_live k (h k refl) in
        next_keeps J Anything (IsLive K') _ _
        (then_keeps J Anything Anything _ _ (count_places_keep K' J leads p.dictionary d) (λ c u. refill_among_keeps p.dictionary (get_or all_made k nil) 0 c d n))
        (answer_keeps J (IsLive K') _ n)

    record IsPlacingIn (x : Placing) : Type 0 where
      dictionary : IsLive K' x.dictionary
      methods : IsLive K' x.methods
      tally : IsLive K' x.tally

    find_keeps : (d x : Value) → IsLive K' d → Keeps J IsPlacingIn (find_place births d x)
    unfolding find_place
    find_keeps d x h =
        then_keeps J (IsLive K') IsPlacingIn _ _ (field_keeps K' J leads d 1 h)
        (λ m a. then_keeps J (IsLive K') IsPlacingIn _ _ (field_keeps K' J leads d 0 h)
        (λ t b. then_keeps J Anything IsPlacingIn _ _ (place_keeps K' J leads d x h)
        (λ e u. answer_keeps J IsPlacingIn _ (record { dictionary = h; methods = a; tally = b }))))

    stores_keep : (ss : List FieldStore) → AllByRecursion (IsStoreIn K C) ss → Keeps J Anything (store_all births nil all_made ss)
    unfolding store_all
    stores_keep [] h = answer_keeps J Anything tt tt
    stores_keep (s ∷ ss) h =
        next_keeps J Anything Anything _ _ (field_stored _ s.field _ (part_live s.object h.0.object) (part_live s.value h.0.value)) (stores_keep ss h.1)

    adopt_keeps : (d : Value) (grown : Option ℕ) → IsLive K' d → Keeps J Anything (adopt births p.class d grown)
    unfolding adopt
    adopt_keeps d None h = answer_keeps J Anything tt tt
    adopt_keeps d (Some k) h = field_stored p.class 1 d (live_up p.class is.class) h

    small_if : (b : Bool) (m n : ℕ) → IsLive K' (if b then Small m else Small n)
    small_if true m n = tt
    small_if false m n = tt

    tally_live : (t : Value) → IsLive K' t → IsLive K' (raised_tally t)
    tally_live (Small n) h = small_if _ _ _
    tally_live (Ref n) h = h

    add_keeps : (x : Placing) (selector method : Value) (e : Ending) → IsPlacingIn x → IsLive K' selector → IsLive K' method → Keeps J Anything (add_at births x selector method e)
    unfolding add_at
    add_keeps x selector method (Holds k) h a b = field_stored x.methods k method h.methods b
    add_keeps x selector method (Vacant k) h a b =
        next_keeps J Anything Anything _ _ (put_keeps x.dictionary x.methods k selector method h.dictionary h.methods a b)
        (field_stored x.dictionary 0 _ h.dictionary (tally_live x.tally h.tally))
    add_keeps x selector method Nowhere h a b = die_keeps J Anything _

    stored_keeps : Keeps J Anything (fill_and_store births nil all_made p)
    unfolding fill_and_store store_planned
    stored_keeps =
        let e : from + 0 ≡ from = omega arith in
        next_keeps J Anything Anything _ _ (subst (λ n. Keeps J Anything (fill_all births nil all_made (names n p.objects) p.objects)) e (fill_all_keeps 0 p.objects is.objects))
        (then_keeps J (IsLive K') Anything _ _ (target_keeps p.grown is.grown)
        (λ d l. then_keeps J IsPlacingIn Anything _ _ (find_keeps d _ l)
        (λ x h. next_keeps J Anything Anything _ _ (stores_keep p.symbol_stores is.stores)
        (next_keeps J Anything Anything _ _ (adopt_keeps x.dictionary p.grown h.dictionary)
        (add_keeps x _ _ x.end h (part_live p.selector is.selector) (part_live p.method is.method))))))

  raised : (t : State Births) → length t.memory ≡ from + 0 + length p.objects → M t → J t
  raised t e g = record {
    leads = g.leads;
    is_one = g.is_one;
    is_other = g.is_other;
    page = g.page;
    below = g.below;
    long = omega (arith, e);
    registers = g.registers;
    world = g.world;
    head = g.head;
  }

  by_made : (nil : Value) → IsLive K' nil → (x : Transition (State Births) (List Value)) → MadeAll 0 p.objects x → Kept J Anything (after x (λ vs t. (fill_and_store births nil vs p).run t))
  unfolding after
  by_made nil h (Died cause) m = tt
  by_made nil h (Went vs t) m =
      let q : from + 0 ≡ from = omega arith in
      let names_are : vs ≡ names from p.objects = m.0 ∙ ap (λ n. names n p.objects) q in
      subst (λ ws. Kept J Anything ((fill_and_store births nil ws p).run t)) (sym names_are) ((stored_keeps nil h).go t (raised t m.2 m.1))

  pub install_keeps : (s : State Births) → length s.memory ≡ from → IsGuarded K z from s → Kept J Anything ((install births p).run s)
  unfolding install of_page ◌>>=◌ after
  install_keeps s e g =
      let j = joined s e g in
      by_made (Ref (bearer s.memory (place_of NilObject))) (j.leads.page NilObject tt) ((make_all births p.objects).run s) (make_all_at 0 p.objects is.objects s j (omega (arith, e)))
