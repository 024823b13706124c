-- Two names that exchange their objects: what each name has then, and that a whole memory stays whole.
use Rattle.std.proofs.Common.{◌≡◌, ◌≢◌, ℕ, ◌+◌, ◌≤◌, zero, suc, Bool, true, false, [], ◌∷◌, length, refl, sym, ap, ◌∙◌, subst, arith, inl, inr}
use Rattle.std.specs.Prelude.{Some, None, ◌==◌, if◌then◌else◌}
use Rattle.std.proofs.lemmas.Bool.{cases_eq}
use Rattle.std.proofs.lemmas.Bool.Decides.{nat_tests}
use Rattle.st_model.specs.Values.{Value, Ref}
use Rattle.st_model.specs.Objects.{Object, one, place_of, words_of, IsLiveObject}
use Rattle.st_model.specs.Formed.{IsFormed}
use Rattle.st_model.specs.Table.{Table, entry, changed, exchanged, exchanged_objects, total_used}
use Rattle.st_model.specs.Show.{IsUsed}
use Rattle.st_model.specs.View.{View, IsWhole, is_live, held_at, with_exchanged}
use Rattle.st_model.proofs.TableLemmas.{changed-some, changed-other, length-changed}
use Rattle.st_model.proofs.WholeLemmas.{named, used_live, live_used, live_changed, none_changed, live_all, whole_as}

-- the name that has the object of this one after an exchange of a and b, or before
abbrev pub other_of : ℕ → ℕ → ℕ → ℕ
other_of a b n = if n == a then b else if n == b then a else n

-- a sum with another object at a name
total_used-replaced : (weight : Object → ℕ) (t : Table) (n : ℕ) (a o : Object) → entry t n ≡ Some a → total_used weight (changed t n o) + weight a ≡ total_used weight t + weight o
total_used-replaced weight [] n a o e = cc
total_used-replaced weight (None ∷ t) zero a o e = cc
total_used-replaced weight (Some b ∷ t) zero a o e = let r : weight b ≡ weight a = cc in omega (arith, r)
total_used-replaced weight (None ∷ t) (suc n) a o e = total_used-replaced weight t n a o e
total_used-replaced weight (Some b ∷ t) (suc n) a o e = let r = total_used-replaced weight t n a o e in omega (arith, r)

module _ (t : Table) (a b : ℕ) (o p : Object) (at_a : entry t a ≡ Some o) (at_b : entry t b ≡ Some p) where
  pub exchanged_is : exchanged t a b ≡ changed (changed t a p) b o
  exchanged_is = λ i. exchanged_objects t a b (at_a i) (at_b i)

  -- what b names once a names its object
  half_way : entry (changed t a p) b ≡ Some p
  half_way = elim (cases_eq b a) [
    | inl e ↦ subst (λ n. entry (changed t a p) n ≡ Some p) (sym e) (changed-some t a p o at_a)
    | inr d ↦ changed-other t a b p d ∙ at_b
  ]

  parts : (n : ℕ) (x y : Bool) → (n == a) ≡ x → (n == b) ≡ y → entry (changed (changed t a p) b o) n ≡ entry t (if x then b else if y then a else n)
  parts n true y e f =
      let is_a : n ≡ a = grind (arith, nat_tests) in
      elim (cases_eq a b) [
        | inl same ↦
            let at : entry (changed (changed t a p) b o) n ≡ Some o = subst (λ m. entry (changed (changed t a p) b o) m ≡ Some o) (sym (is_a ∙ same)) (changed-some (changed t a p) b o p half_way) in
            at ∙ sym at_a ∙ ap (entry t) same
        | inr d ↦
            subst (λ m. entry (changed (changed t a p) b o) m ≡ entry t b) (sym is_a)
            (changed-other (changed t a p) b a o d ∙ changed-some t a p o at_a ∙ sym at_b)
      ]
  parts n false true e f =
      let is_b : n ≡ b = grind (arith, nat_tests) in
      subst (λ m. entry (changed (changed t a p) b o) m ≡ entry t a) (sym is_b) (changed-some (changed t a p) b o p half_way ∙ sym at_a)
  parts n false false e f =
      let no_a : n ≢ a = grind (arith, nat_tests) in
      let no_b : n ≢ b = grind (arith, nat_tests) in
      changed-other (changed t a p) b n o no_b ∙ changed-other t a n p no_a

  -- each name has what the other one had
  pub entry-exchanged : (n : ℕ) → entry (exchanged t a b) n ≡ entry t (other_of a b n)
  entry-exchanged n = ap (λ u. entry u n) exchanged_is ∙ parts n (n == a) (n == b) refl refl

  pub length-exchanged : length (exchanged t a b) ≡ length t
  length-exchanged = ap length exchanged_is ∙ length-changed (changed t a p) b o ∙ length-changed t a p

  pub total_used-exchanged : (weight : Object → ℕ) → total_used weight (exchanged t a b) ≡ total_used weight t
  total_used-exchanged weight =
      let first = total_used-replaced weight t a o p at_a in
      let second = total_used-replaced weight (changed t a p) b p o half_way in
      let is = ap (total_used weight) exchanged_is in
      omega (arith, first, second, is)

  pub live_exchanged : (x : Value) → is_live t x ≡ true → is_live (exchanged t a b) x ≡ true
  live_exchanged x h = ap (λ u. is_live u x) exchanged_is ∙ live_changed (changed t a p) b p o half_way x (live_changed t a o p at_a x h)

  pub used_exchanged : (k : ℕ) → IsUsed t k → IsUsed (exchanged t a b) k
  used_exchanged k u = live_used (exchanged t a b) k (live_exchanged (Ref k) (used_live t k u))

  -- each object after the exchange was there before
  pub exchanged_all : (P : Object → Type 0) → ((k : ℕ) (c : Object) → entry t k ≡ Some c → P c) → (k : ℕ) (c : Object) → entry (exchanged t a b) k ≡ Some c → P c
  exchanged_all P old k c e = old (other_of a b k) c (sym (entry-exchanged k) ∙ e)

  pub none_exchanged : (k : ℕ) → entry t k ≡ None → entry (exchanged t a b) k ≡ None
  none_exchanged k e = ap (λ u. entry u k) exchanged_is ∙ none_changed (changed t a p) b p o half_way k (none_changed t a o p at_a k e)

module _ (v : View) (whole : IsWhole v) (a b : ℕ) (o p : Object) (at_a : entry v.objects a ≡ Some o) (at_b : entry v.objects b ≡ Some p) where
  abbrev t : Table
  t = exchanged v.objects a b

  more : (k : ℕ) → IsUsed v.objects k → IsUsed t k
  more = used_exchanged v.objects a b o p at_a at_b

  still : (x : Value) → is_live v.objects x ≡ true → is_live t x ≡ true
  still = live_exchanged v.objects a b o p at_a at_b

  whole_parts : IsWhole (record { objects = t; held = v.held; head = v.head })
  whole_parts = record {
    places = length-exchanged v.objects a b o p at_a at_b ∙ whole.places;
    unused = none_exchanged v.objects a b o p at_a at_b 0 whole.unused;
    complete = record {
      objects = exchanged_all v.objects a b o p at_a at_b (IsLiveObject (IsUsed t)) (λ k c e.
          let was = whole.complete.objects k c e in
          record { class = more c.class was.class; fields = live_all (IsUsed v.objects) (IsUsed t) more c.fields was.fields });
      page = λ q. still (Ref (place_of q)) (whole.complete.page q);
      globals = λ y e. still y (whole.complete.globals y e);
      symbols = λ y e. still y (whole.complete.symbols y e);
    };
    formed = exchanged_all v.objects a b o p at_a at_b IsFormed whole.formed;
    held = λ q big. still (held_at v.held q) (whole.held q big);
    pending = whole.pending;
    entries = subst (λ m. m ≤ v.head.entries) (sym (total_used-exchanged v.objects a b o p at_a at_b one)) whole.entries;
    words = subst (λ m. m ≤ v.head.words) (sym (total_used-exchanged v.objects a b o p at_a at_b words_of)) whole.words;
    most_entries = whole.most_entries;
    most_words = whole.most_words;
  }

pub whole_exchanged : (v w : View) (x y : Value) → IsWhole v → is_live v.objects x ≡ true → is_live v.objects y ≡ true
    → w.objects ≡ with_exchanged v.objects x y → w.held ≡ v.held → w.head ≡ v.head → IsWhole w
unfolding with_exchanged
whole_exchanged v w x y whole first second objects held head =
    let r = named v.objects x first in
    let s = named v.objects y second in
    let is : with_exchanged v.objects x y ≡ exchanged v.objects r.0 s.0 = λ i. with_exchanged v.objects (r.2 i) (s.2 i) in
    whole_as (record { objects = exchanged v.objects r.0 s.0; held = v.held; head = v.head }) w (objects ∙ is) held head
    (whole_parts v whole r.0 s.0 r.1 s.1 r.3 s.3)
