-- What a loader says of what it has placed stays so as it goes on, and makes a whole memory in the end.
use Rattle.std.proofs.Common.{◌≡◌, ◌≢◌, ℕ, ◌+◌, ◌<◌, ◌≤◌, zero, suc, true, false, [], ◌∷◌, length, set, replicate, refl, sym, ap, ◌∙◌, subst, arith, length-set, inl, inr, is_some}
use Rattle.std.specs.Prelude.{slice_index_or, Option, Some, None}
use Rattle.std.proofs.lemmas.Bool.{cases_eq}
use Rattle.std.proofs.lemmas.List.{length-replicate}
use Rattle.st_model.specs.Limits.{most_words}
use Rattle.st_model.specs.declared.place.RootPlace.{RootPlace}
use Rattle.st_model.specs.declared.place.RootPlace.TheVariants as place
use Rattle.st_model.specs.Values.{Value, Ref}
use Rattle.st_model.specs.Objects.{Object, NilObject, nil, one, words_of, with_field, object_with_unit}
use Rattle.st_model.specs.Formed.{IsFormed, IsHeader, IsWord, unit_limit}
use Rattle.st_model.specs.Machine.{Head}
use Rattle.st_model.specs.Table.{Table, entry, changed, total_used}
use Rattle.st_model.specs.View.{View, IsComplete, IsWhole, is_live, object_of, held_at, with_object, with_stored, with_unit, nothing_held, no_devices, empty_view}
use Rattle.st_model.specs.inside.Loading.{IsLoading}
use Rattle.st_model.proofs.FormedLemmas.{formed_field, formed_unit, words_of-with_field, words_of-object_with_unit}
use Rattle.st_model.proofs.TableLemmas.{length-changed}
use Rattle.st_model.proofs.WholeLemmas.{named, total_used-changed, none_changed, changed_is}

pub entry-set_same : (t : Table) (n : ℕ) (o : Object) → n < length t → entry (set t n (Some o)) n ≡ Some o
entry-set_same [] n o l = absurd (omega (arith, l))
entry-set_same (e ∷ t) zero o l = refl
entry-set_same (e ∷ t) (suc n) o l = entry-set_same t n o (omega (arith, l))

entry-set_other : (t : Table) (n k : ℕ) (o : Object) → k ≢ n → entry (set t n (Some o)) k ≡ entry t k
entry-set_other [] n k o d = refl
entry-set_other (e ∷ t) zero zero o d = absurd (d refl)
entry-set_other (e ∷ t) zero (suc k) o d = refl
entry-set_other (e ∷ t) (suc n) zero o d = refl
entry-set_other (e ∷ t) (suc n) (suc k) o d = entry-set_other t n k o (λ q. d (ap (λ x. suc x) q))

total_used-set : (weight : Object → ℕ) (t : Table) (n : ℕ) (o : Object) → n < length t → entry t n ≡ None → total_used weight (set t n (Some o)) ≡ total_used weight t + weight o
total_used-set weight [] n o l e = absurd (omega (arith, l))
total_used-set weight (None ∷ t) zero o l e = omega arith
total_used-set weight (Some a ∷ t) zero o l e = cc
total_used-set weight (None ∷ t) (suc n) o l e = total_used-set weight t n o (omega (arith, l)) e
total_used-set weight (Some a ∷ t) (suc n) o l e = let r = total_used-set weight t n o (omega (arith, l)) e in omega (arith, r)

-- a view of the same parts says the same
loading_as : (v w : View) → w.objects ≡ v.objects → w.held ≡ v.held → w.head ≡ v.head → IsLoading v → IsLoading w
loading_as v w objects held head loading = subst IsLoading (λ i. record { objects = sym objects i; held = sym held i; head = sym head i }) loading

pub none_of : (x : Option Object) → is_some x ≡ false → x ≡ None
none_of None h = refl
none_of (Some o) h = cc

pub loading_placed : (v w : View) (x : Value) (n : ℕ) (o : Object) → IsLoading v → x ≡ Ref n → n ≢ 0 → n < 32768 → is_live v.objects x ≡ false → IsFormed o
    → total_used one v.objects + 1 ≤ v.head.entries → total_used words_of v.objects + words_of o ≤ v.head.words
    → w.objects ≡ with_object v.objects x o → w.held ≡ v.held → w.head ≡ v.head → IsLoading w
unfolding is_live with_object
loading_placed v w x n o loading named borne within free formed entries words objects held head =
    loading_as (record { objects = set t n (Some o); held = v.held; head = v.head }) w (objects ∙ ap (λ y. with_object t y o) named) held head (record {
      places = length-set t n (Some o) ∙ loading.places;
      unused = entry-set_other t n 0 o (λ e. borne (sym e)) ∙ loading.unused;
      formed = λ k b e. elim (cases_eq k n) [
        | inl q ↦
            let a = entry-set_same t n o in_table in
            let c : entry (set t n (Some o)) n ≡ Some b = subst (λ j. entry (set t n (Some o)) j ≡ Some b) q e in
            let s : o ≡ b = cc in subst IsFormed s formed
        | inr d ↦ loading.formed k b (sym (entry-set_other t n k o d) ∙ e)
      ];
      held = loading.held;
      pending = loading.pending;
      entries = let a = total_used-set one t n o in_table empty in omega (arith, a, entries);
      words = let a = total_used-set words_of t n o in_table empty in omega (arith, a, words);
      most_entries = loading.most_entries;
      most_words = loading.most_words;
    })
  where
    t : Table
    t = v.objects

    in_table : n < length v.objects
    in_table = let a = loading.places in omega (arith, a, within)

    empty : entry v.objects n ≡ None
    empty = none_of (entry v.objects n) (subst (λ y. is_live v.objects y ≡ false) named free)

loading_changed : (v : View) (n : ℕ) (a b : Object) → IsLoading v → entry v.objects n ≡ Some a → IsFormed b → words_of b ≡ words_of a → IsLoading (record { objects = changed v.objects n b; held = v.held; head = v.head })
loading_changed v n a b loading at formed words = record {
  places = length-changed v.objects n b ∙ loading.places;
  unused = none_changed v.objects n a b at 0 loading.unused;
  formed = changed_is v.objects n a b at IsFormed formed loading.formed;
  held = loading.held;
  pending = loading.pending;
  entries = subst (λ m. m ≤ v.head.entries) (sym (total_used-changed one v.objects n a b at refl)) loading.entries;
  words = subst (λ m. m ≤ v.head.words) (sym (total_used-changed words_of v.objects n a b at words)) loading.words;
  most_entries = loading.most_entries;
  most_words = loading.most_words;
}

module _ (v w : View) (x : Value) (i : ℕ) (loading : IsLoading v) (live : is_live v.objects x ≡ true) (held : w.held ≡ v.held) (head : w.head ≡ v.head) where
  object : IsFormed (object_of v.objects x)
  object = let r = named v.objects x live in subst IsFormed (sym r.4) (loading.formed r.0 r.1 r.3)

  pub loading_stored : (y : Value) → IsHeader (object_of v.objects x) i y → IsWord y → w.objects ≡ with_stored v.objects x i y → IsLoading w
  unfolding with_stored
  loading_stored y header word objects =
      let r = named v.objects x live in
      let b = with_field (object_of v.objects x) i y in
      let is : object_of v.objects (Ref r.0) ≡ object_of v.objects x = ap (object_of v.objects) (sym r.2) in
      loading_as (record { objects = changed v.objects r.0 b; held = v.held; head = v.head }) w
      (objects ∙ ap (λ z. with_stored v.objects z i y) r.2 ∙ ap (λ o. changed v.objects r.0 (with_field o i y)) is) held head
      (loading_changed v r.0 r.1 b loading r.3 (formed_field (object_of v.objects x) i y object header word) (words_of-with_field (object_of v.objects x) i y ∙ ap words_of r.4))

  pub loading_unit : (u : ℕ) → u < unit_limit (object_of v.objects x).kind → w.objects ≡ with_unit v.objects x i u → IsLoading w
  unfolding with_unit
  loading_unit u small objects =
      let r = named v.objects x live in
      let b = object_with_unit (object_of v.objects x) i u in
      let is : object_of v.objects (Ref r.0) ≡ object_of v.objects x = ap (object_of v.objects) (sym r.2) in
      loading_as (record { objects = changed v.objects r.0 b; held = v.held; head = v.head }) w
      (objects ∙ ap (λ z. with_unit v.objects z i u) r.2 ∙ ap (λ o. changed v.objects r.0 (object_with_unit o i u)) is) held head
      (loading_changed v r.0 r.1 b loading r.3 (formed_unit (object_of v.objects x) i u object small) (words_of-object_with_unit (object_of v.objects x) i u ∙ ap words_of r.4))

-- how many words the objects have then

-- a change of an object that leaves its words as many
total_used-as : (change : Table → Value → Table) (f : Object → Object) (t : Table) (x : Value) → ((n : ℕ) → change t (Ref n) ≡ changed t n (f (object_of t (Ref n))))
    → ((o : Object) → words_of (f o) ≡ words_of o) → is_live t x ≡ true → total_used words_of (change t x) ≡ total_used words_of t
total_used-as change f t x changes same live =
    let r = named t x live in
    let is : object_of t (Ref r.0) ≡ r.1 = ap (object_of t) (sym r.2) ∙ r.4 in
    ap (λ z. total_used words_of (change t z)) r.2 ∙ ap (total_used words_of) (changes r.0)
    ∙ total_used-changed words_of t r.0 r.1 (f (object_of t (Ref r.0))) r.3 (same (object_of t (Ref r.0)) ∙ ap words_of is)

pub total_used-with_stored : (t : Table) (x : Value) (i : ℕ) (y : Value) → is_live t x ≡ true → total_used words_of (with_stored t x i y) ≡ total_used words_of t
unfolding with_stored
total_used-with_stored t x i y = total_used-as (λ s z. with_stored s z i y) (λ o. with_field o i y) t x (λ n. refl) (λ o. words_of-with_field o i y)

pub total_used-with_unit : (t : Table) (x : Value) (i u : ℕ) → is_live t x ≡ true → total_used words_of (with_unit t x i u) ≡ total_used words_of t
unfolding with_unit
total_used-with_unit t x i u = total_used-as (λ s z. with_unit s z i u) (λ o. object_with_unit o i u) t x (λ n. refl) (λ o. words_of-object_with_unit o i u)

pub total_used-with_object : (t : Table) (x : Value) (n : ℕ) (o : Object) → x ≡ Ref n → n < length t → is_live t x ≡ false → total_used words_of (with_object t x o) ≡ total_used words_of t + words_of o
unfolding with_object is_live
total_used-with_object t x n o named within free =
    ap (λ z. total_used words_of (with_object t z o)) named
    ∙ total_used-set words_of t n o within (none_of (entry t n) (subst (λ y. is_live t y ≡ false) named free))

-- what is complete is whole
pub whole_loaded : (v : View) → IsLoading v → IsComplete v → IsWhole v
whole_loaded v loading complete = record {
  places = loading.places;
  unused = loading.unused;
  complete = complete;
  formed = loading.formed;
  held = λ p big. subst (λ x. is_live v.objects x ≡ true) (sym (loading.held p)) (complete.page NilObject);
  pending = loading.pending;
  entries = loading.entries;
  words = loading.words;
  most_entries = loading.most_entries;
  most_words = loading.most_words;
}

-- at the beginning

length-none : (n : ℕ) → ◌≡◌ {A = ℕ} (length {A = Option Object} (replicate n None)) n
length-none n = length-replicate n None

pub entry-none : (n k : ℕ) → entry (replicate n None) k ≡ None
entry-none zero k = refl
entry-none (suc n) zero = refl
entry-none (suc n) (suc k) = entry-none n k

pub total_used-none : (weight : Object → ℕ) (n : ℕ) → total_used weight (replicate n None) ≡ 0
total_used-none weight zero = refl
total_used-none weight (suc n) = total_used-none weight n

nil_at : (n j : ℕ) → slice_index_or (replicate n nil) j nil ≡ nil
nil_at zero j = refl
nil_at (suc n) zero = refl
nil_at (suc n) (suc j) = nil_at n j

held_nothing : (p : RootPlace) → held_at nothing_held p ≡ nil
unfolding nothing_held no_devices
held_nothing (place.Pending k) = nil_at 4096 k
held_nothing p = refl

pub loading_empty : (head : Head) → head.entries ≤ 32767 → head.words ≤ most_words → IsLoading (empty_view head)
unfolding empty_view nothing_held no_devices
loading_empty head entries words = record {
  places = length-none 32768;
  unused = entry-none 32768 0;
  formed = λ k o e. let z = entry-none 32768 k in absurd (cc);
  held = held_nothing;
  pending = length-replicate 4096 nil;
  entries = subst (λ m. m ≤ head.entries) (sym (total_used-none one 32768)) (omega arith);
  words = subst (λ m. m ≤ head.words) (sym (total_used-none words_of 32768)) (omega arith);
  most_entries = entries;
  most_words = words;
}
