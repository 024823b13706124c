-- What a whole memory knows of a live value, and that it stays whole where a field is stored or a value is held.
use Rattle.std.proofs.Common.{◌≡◌, ℕ, ◌<◌, ◌≤◌, zero, suc, true, List, [], ◌∷◌, length, set, refl, sym, ap, ◌∙◌, subst, arith, length-set, inl, inr}
use Rattle.std.specs.Prelude.{slice_get, slice_index_or, slice_set, unwrap_or, Some, None}
use Rattle.std.proofs.lemmas.Bool.{cases_eq}
use Rattle.st_model.specs.declared.place.RootPlace.{RootPlace}
use Rattle.st_model.specs.declared.place.RootPlace.TheVariants as place
use Rattle.st_model.specs.Values.{Value, Small, Ref, IsLive, AllLive}
use Rattle.st_model.specs.Objects.{Object, nil, one, place_of, with_field, object_with_unit, words_of, IsLiveObject}
use Rattle.st_model.specs.Formed.{IsFormed, IsHeader, IsWord, unit_limit}
use Rattle.st_model.specs.Table.{Table, entry, changed, total_used}
use Rattle.st_model.specs.Show.{IsUsed}
use Rattle.st_model.specs.View.{View, Held, IsKnown, IsWhole, is_live, object_of, nothing, held_at, with_held, with_stored, with_unit}
use Rattle.st_model.proofs.TableLemmas.{changed-some, changed-other, length-changed}
use Rattle.st_model.proofs.SettledLemmas.{some_is, is_some-of}
use Rattle.st_model.proofs.FormedLemmas.{formed_field, formed_unit, words_of-with_field, words_of-object_with_unit}

-- what a live value names

pub named : (t : Table) (x : Value) → is_live t x ≡ true → (n : ℕ) × (o : Object) × (x ≡ Ref n) × (entry t n ≡ Some o) × (object_of t x ≡ o)
unfolding is_live object_of
named t (Small n) h = cc
named t (Ref n) h = let r = some_is (entry t n) h in (n, r.0, refl, r.1, ap (λ e. unwrap_or e nothing) r.1)

pub used_live : (t : Table) (n : ℕ) → IsUsed t n → is_live t (Ref n) ≡ true
unfolding is_live
used_live t n u = is_some-of (entry t n) u.0 u.1

pub live_used : (t : Table) (n : ℕ) → is_live t (Ref n) ≡ true → IsUsed t n
unfolding is_live
live_used t n h = some_is (entry t n) h

pub known_live : (t : Table) (x : Value) → IsKnown t x → IsLive (IsUsed t) x
known_live t (Small n) k = tt
known_live t (Ref n) k = live_used t n (k refl)

pub live_known : (t : Table) (x : Value) → IsLive (IsUsed t) x → IsKnown t x
live_known t (Small n) l = λ big. cc
live_known t (Ref n) l = λ big. used_live t n l

pub live_at : (P : ℕ → Type 0) (xs : List Value) (i : ℕ) (x : Value) → AllLive P xs → slice_get xs i ≡ Some x → IsLive P x
live_at P [] i x h e = cc
live_at P (y ∷ ys) zero x h e = let q : y ≡ x = cc in subst (IsLive P) q h.0
live_at P (y ∷ ys) (suc i) x h e = live_at P ys i x h.1 e

module _ (v : View) (w : IsWhole v) (x : Value) (live : is_live v.objects x ≡ true) where
  pub formed_live : IsFormed (object_of v.objects x)
  formed_live = let r = named v.objects x live in subst IsFormed (sym r.4) (w.formed r.0 r.1 r.3)

  complete_live : IsLiveObject (IsUsed v.objects) (object_of v.objects x)
  complete_live = let r = named v.objects x live in subst (IsLiveObject (IsUsed v.objects)) (sym r.4) (w.complete.objects r.0 r.1 r.3)

  pub class_live : is_live v.objects (Ref (object_of v.objects x).class) ≡ true
  class_live = used_live v.objects (object_of v.objects x).class complete_live.class

  pub field_known : (i : ℕ) (y : Value) → slice_get (object_of v.objects x).fields i ≡ Some y → IsKnown v.objects y
  field_known i y e = live_known v.objects y (live_at (IsUsed v.objects) (object_of v.objects x).fields i y complete_live.fields e)

-- a view of the same parts is as whole
pub whole_as : (v w : View) → w.objects ≡ v.objects → w.held ≡ v.held → w.head ≡ v.head → IsWhole v → IsWhole w
whole_as v w objects held head whole = subst IsWhole (λ i. record { objects = sym objects i; held = sym held i; head = sym head i }) whole

-- storing a field

live_set : (P : ℕ → Type 0) (xs : List Value) (i : ℕ) (x : Value) → IsLive P x → AllLive P xs → AllLive P (set xs i x)
live_set P [] i x k h = tt
live_set P (y ∷ ys) zero x k h = (k, h.1)
live_set P (y ∷ ys) (suc i) x k h = (h.0, live_set P ys i x k h.1)

module _ (P Q : ℕ → Type 0) (f : (n : ℕ) → P n → Q n) where
  live_more : (x : Value) → IsLive P x → IsLive Q x
  live_more (Small n) h = h
  live_more (Ref n) h = f n h

  pub live_all : (xs : List Value) → AllLive P xs → AllLive Q xs
  live_all [] h = tt
  live_all (y ∷ ys) h = (live_more y h.0, live_all ys h.1)

pub total_used-changed : (weight : Object → ℕ) (t : Table) (n : ℕ) (a o : Object) → entry t n ≡ Some a → weight o ≡ weight a → total_used weight (changed t n o) ≡ total_used weight t
total_used-changed weight [] n a o e q = refl
total_used-changed weight (None ∷ t) zero a o e q = refl
total_used-changed weight (Some b ∷ t) zero a o e q = let r : weight o ≡ weight b = cc in omega (arith, r)
total_used-changed weight (None ∷ t) (suc n) a o e q = total_used-changed weight t n a o e q
total_used-changed weight (Some b ∷ t) (suc n) a o e q = let r = total_used-changed weight t n a o e q in omega (arith, r)

module _ (t : Table) (n : ℕ) (a o : Object) (at : entry t n ≡ Some a) where
  used_changed : (k : ℕ) → IsUsed t k → IsUsed (changed t n o) k
  used_changed k u = elim (cases_eq k n) [
    | inl e ↦ (o, subst (λ j. entry (changed t n o) j ≡ Some o) (sym e) (changed-some t n o a at))
    | inr d ↦ (u.0, changed-other t n k o d ∙ u.1)
  ]

  pub live_changed : (x : Value) → is_live t x ≡ true → is_live (changed t n o) x ≡ true
  live_changed x h =
      let r = named t x h in
      let u = used_changed r.0 (r.1, r.3) in
      subst (λ y. is_live (changed t n o) y ≡ true) (sym r.2) (used_live (changed t n o) r.0 u)

  pub known_changed : (x : Value) → IsKnown t x → IsKnown (changed t n o) x
  known_changed x h = λ big. live_changed x (h big)

  pub none_changed : (k : ℕ) → entry t k ≡ None → entry (changed t n o) k ≡ None
  none_changed k e = elim (cases_eq k n) [
    | inl q ↦ let z : entry t n ≡ None = subst (λ j. entry t j ≡ None) q e in absurd (cc)
    | inr d ↦ changed-other t n k o d ∙ e
  ]

  -- an object after the change is o, or stood there before
  pub changed_is : (P : Object → Type 0) → P o → ((k : ℕ) (b : Object) → entry t k ≡ Some b → P b) → (k : ℕ) (b : Object) → entry (changed t n o) k ≡ Some b → P b
  changed_is P new old k b h = elim (cases_eq k n) [
    | inl e ↦ let z = changed-some t n o a at in let y : entry (changed t n o) n ≡ Some b = subst (λ j. entry (changed t n o) j ≡ Some b) e h in let q : o ≡ b = cc in subst P q new
    | inr d ↦ old k b (sym (changed-other t n k o d) ∙ h)
  ]

-- a changed object that is what its kind says, refers to what is there and is as large as the old one
module _ (v : View) (whole : IsWhole v) (n : ℕ) (a b : Object) (at : entry v.objects n ≡ Some a) (formed : IsFormed b) (live : IsLiveObject (IsUsed v.objects) b) (words : words_of b ≡ words_of a) where
  abbrev t : Table
  t = changed v.objects n b

  more : (k : ℕ) → IsUsed v.objects k → IsUsed t k
  more = used_changed v.objects n a b at

  still_live : (o : Object) → IsLiveObject (IsUsed v.objects) o → IsLiveObject (IsUsed t) o
  still_live o was = record { class = more o.class was.class; fields = live_all (IsUsed v.objects) (IsUsed t) more o.fields was.fields }

  pub whole_changed : IsWhole (record { objects = t; held = v.held; head = v.head })
  whole_changed = record {
    places = length-changed v.objects n b ∙ whole.places;
    unused = none_changed v.objects n a b at 0 whole.unused;
    complete = record {
      objects = changed_is v.objects n a b at (IsLiveObject (IsUsed t)) (still_live b live) (λ k o e. still_live o (whole.complete.objects k o e));
      page = λ q. live_changed v.objects n a b at (Ref (place_of q)) (whole.complete.page q);
      globals = λ y e. live_changed v.objects n a b at y (whole.complete.globals y e);
      symbols = λ y e. live_changed v.objects n a b at y (whole.complete.symbols y e);
    };
    formed = changed_is v.objects n a b at IsFormed formed whole.formed;
    held = λ p. known_changed v.objects n a b at (held_at v.held p) (whole.held p);
    pending = whole.pending;
    entries = subst (λ m. m ≤ v.head.entries) (sym (total_used-changed one v.objects n a b at refl)) whole.entries;
    words = subst (λ m. m ≤ v.head.words) (sym (total_used-changed words_of v.objects n a b at words)) whole.words;
    most_entries = whole.most_entries;
    most_words = whole.most_words;
  }

pub whole_stored : (v w : View) (o : Value) (i : ℕ) (x : Value) → IsWhole v → is_live v.objects o ≡ true → IsKnown v.objects x → IsHeader (object_of v.objects o) i x → IsWord x
    → w.objects ≡ with_stored v.objects o i x → w.held ≡ v.held → w.head ≡ v.head → IsWhole w
unfolding with_stored
whole_stored v w o i x whole live known header word objects held head =
    let r = named v.objects o live in
    let a = r.1 in
    let is : object_of v.objects (Ref r.0) ≡ a = subst (λ y. object_of v.objects y ≡ a) r.2 r.4 in
    let t : with_stored v.objects o i x ≡ changed v.objects r.0 (with_field a i x) =
    ap (λ y. with_stored v.objects y i x) r.2 ∙ ap (λ b. changed v.objects r.0 (with_field b i x)) is in
    whole_as (record { objects = changed v.objects r.0 (with_field a i x); held = v.held; head = v.head }) w (objects ∙ t) held head
    (whole_changed v whole r.0 a (with_field a i x) r.3
    (formed_field a i x (whole.formed r.0 a r.3) (subst (λ b. IsHeader b i x) r.4 header) word)
    (let was = whole.complete.objects r.0 a r.3 in record { class = was.class; fields = live_set (IsUsed v.objects) a.fields i x (known_live v.objects x known) was.fields })
    (words_of-with_field a i x))

-- holding a value

-- what holds of x and of all that is held holds of all that is held with x at a place
held_with : (P : Value → Type 0) (h : Held) (p : RootPlace) (x : Value) → P x → ((q : RootPlace) → P (held_at h q)) → (q : RootPlace) → P (held_at (with_held h p x) q)
held_with P h place.Active x new old place.Active = new
held_with P h place.Active x new old q = old q
held_with P h place.Home x new old place.Home = new
held_with P h place.Home x new old q = old q
held_with P h place.Method x new old place.Method = new
held_with P h place.Method x new old q = old q
held_with P h place.Receiver x new old place.Receiver = new
held_with P h place.Receiver x new old q = old q
held_with P h place.NewProcess x new old place.NewProcess = new
held_with P h place.NewProcess x new old q = old q
held_with P h place.Display x new old place.Display = new
held_with P h place.Display x new old q = old q
held_with P h place.Cursor x new old place.Cursor = new
held_with P h place.Cursor x new old q = old q
held_with P h place.InputSemaphore x new old place.InputSemaphore = new
held_with P h place.InputSemaphore x new old q = old q
held_with P h place.Timer x new old place.Timer = new
held_with P h place.Timer x new old q = old q
held_with P h place.LowSpace x new old place.LowSpace = new
held_with P h place.LowSpace x new old q = old q
held_with P h (place.Pending k) x new old (place.Pending j) = pending h.devices.pending k (λ i. old (place.Pending i)) j
  where
    pending : (xs : List Value) (k : ℕ) → ((i : ℕ) → P (slice_index_or xs i nil)) → (j : ℕ) → P (slice_index_or (slice_set xs k x) j nil)
    pending [] k f j = f j
    pending (y ∷ ys) zero f zero = new
    pending (y ∷ ys) zero f (suc j) = f (suc j)
    pending (y ∷ ys) (suc k) f zero = f 0
    pending (y ∷ ys) (suc k) f (suc j) = pending ys k (λ i. f (suc i)) j
held_with P h (place.Pending k) x new old q = old q

length-pending : (h : Held) (p : RootPlace) (x : Value) → length (with_held h p x).devices.pending ≡ length h.devices.pending
length-pending h (place.Pending k) x = length-set h.devices.pending k x
length-pending h p x = refl

pub whole_held : (v w : View) (p : RootPlace) (x : Value) → IsWhole v → IsKnown v.objects x → w.objects ≡ v.objects → w.held ≡ with_held v.held p x → w.head ≡ v.head → IsWhole w
whole_held v w p x whole known objects held head = whole_as (record { objects = v.objects; held = with_held v.held p x; head = v.head }) w objects held head (record {
  places = whole.places;
  unused = whole.unused;
  complete = record { objects = whole.complete.objects; page = whole.complete.page; globals = whole.complete.globals; symbols = whole.complete.symbols };
  formed = whole.formed;
  held = held_with (IsKnown v.objects) v.held p x known whole.held;
  pending = length-pending v.held p x ∙ whole.pending;
  entries = whole.entries;
  words = whole.words;
  most_entries = whole.most_entries;
  most_words = whole.most_words;
})

-- storing a word or a byte

pub whole_unit : (v w : View) (o : Value) (i u : ℕ) → IsWhole v → is_live v.objects o ≡ true → u < unit_limit (object_of v.objects o).kind → w.objects ≡ with_unit v.objects o i u → w.held ≡ v.held → w.head ≡ v.head → IsWhole w
unfolding with_unit
whole_unit v w o i u whole live small objects held head =
    let r = named v.objects o live in
    let a = r.1 in
    let is : object_of v.objects (Ref r.0) ≡ a = subst (λ y. object_of v.objects y ≡ a) r.2 r.4 in
    let t : with_unit v.objects o i u ≡ changed v.objects r.0 (object_with_unit a i u) =
    ap (λ y. with_unit v.objects y i u) r.2 ∙ ap (λ b. changed v.objects r.0 (object_with_unit b i u)) is in
    let was = whole.complete.objects r.0 a r.3 in
    whole_as (record { objects = changed v.objects r.0 (object_with_unit a i u); held = v.held; head = v.head }) w (objects ∙ t) held head
    (whole_changed v whole r.0 a (object_with_unit a i u) r.3
    (formed_unit a i u (whole.formed r.0 a r.3) (subst (λ (b : Object). u < unit_limit b.kind) r.4 small))
    (record { class = was.class; fields = was.fields })
    (words_of-object_with_unit a i u))
