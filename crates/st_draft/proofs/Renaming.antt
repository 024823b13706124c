-- The word that had a word's object before an exchange, or before all of them.
use Rattle.std.proofs.Common.{◌≡◌, ◌≢◌, ℕ, ◌+◌, ◌<◌, ◌≤◌, zero, suc, true, false, List, length, set, refl, sym, ap, ◌∙◌, arith, inl, inr, get_or-set_same, get_or-set_other}
use Rattle.std.specs.Prelude.{slice_index_or, ◌==◌, if◌then◌else◌}
use Rattle.std.proofs.lemmas.Bool.{cases_eq}
use Rattle.std.proofs.lemmas.Bool.Decides.{nat_tests}
use Rattle.st_model.specs.declared.word.Word.{Word}
use Rattle.st_model.specs.Values.{Value, Small, Ref, word, value_of, is_small}
use Rattle.st_model.specs.Table.{Table}
use Rattle.st_model.specs.View.{is_live, with_exchanged}
use Rattle.st_draft.specs.declared.change.Exchange.{Exchange}
use Rattle.st_draft.specs.inside.Drafts.{no_exchange, exchanged_by, value_before, AreOf, AreEven}
use Rattle.st_draft.proofs.Replaying.{words_apart}

-- of two objects

first_is : (x y v : Value) → is_small x ≡ false → is_small y ≡ false → v ≡ x → y ≡ value_before x y v
first_is (Small a) y v e f h = cc
first_is (Ref a) (Small b) v e f h = cc
first_is (Ref a) (Ref b) (Small n) e f h = cc
first_is (Ref a) (Ref b) (Ref n) e f h =
    let q : n ≡ a = cc in
    let t : (n == a) ≡ true = grind (arith, nat_tests) in
    ap (λ c. Ref (if c then b else if n == b then a else n)) (sym t)

second_is : (x y v : Value) → is_small x ≡ false → is_small y ≡ false → v ≢ x → v ≡ y → x ≡ value_before x y v
second_is (Small a) y v e f d h = cc
second_is (Ref a) (Small b) v e f d h = cc
second_is (Ref a) (Ref b) (Small n) e f d h = cc
second_is (Ref a) (Ref b) (Ref n) e f d h =
    let q : n ≡ b = cc in
    let other : n ≢ a = λ p. d (ap Ref p) in
    let t : (n == a) ≡ false = grind (arith, nat_tests) in
    let u : (n == b) ≡ true = grind (arith, nat_tests) in
    sym (ap (λ c. Ref (if c then b else if n == b then a else n)) t ∙ ap (λ c. Ref (if c then a else n)) u)

neither_is : (x y v : Value) → v ≢ x → v ≢ y → v ≡ value_before x y v
neither_is (Small a) y v d c = refl
neither_is (Ref a) (Small b) v d c = refl
neither_is (Ref a) (Ref b) (Small n) d c = refl
neither_is (Ref a) (Ref b) (Ref n) d c =
    let other : n ≢ a = λ p. d (ap Ref p) in
    let third : n ≢ b = λ p. c (ap Ref p) in
    let t : (n == a) ≡ false = grind (arith, nat_tests) in
    let u : (n == b) ≡ false = grind (arith, nat_tests) in
    sym (ap (λ c. Ref (if c then b else if n == b then a else n)) t ∙ ap (λ c. Ref (if c then a else n)) u)

pub before_first : (x y o : Word) → is_small (word x) ≡ false → is_small (word y) ≡ false → o.0 ≡ x.0 → word y ≡ value_before (word x) (word y) (word o)
before_first x y o e f h = first_is (word x) (word y) (word o) e f (ap value_of h)

pub before_second : (x y o : Word) → is_small (word x) ≡ false → is_small (word y) ≡ false → o.0 ≢ x.0 → o.0 ≡ y.0 → word x ≡ value_before (word x) (word y) (word o)
before_second x y o e f d h = second_is (word x) (word y) (word o) e f (words_apart o x d) (ap value_of h)

pub before_neither : (x y o : Word) → o.0 ≢ x.0 → o.0 ≢ y.0 → word o ≡ value_before (word x) (word y) (word o)
before_neither x y o d c = neither_is (word x) (word y) (word o) (words_apart o x d) (words_apart o y c)

pub ruleset before = (before_first, before_second, before_neither)

-- one pair more

module _ (pairs : List Exchange) (n : ℕ) (p : Exchange) (within : n < length pairs) where
  old_pair : (k : ℕ) → k < n → slice_index_or (set pairs n p) k no_exchange ≡ slice_index_or pairs k no_exchange
  old_pair k l = let d : k ≢ n = omega (arith, l) in get_or-set_other pairs n k p no_exchange d

  new_pair : slice_index_or (set pairs n p) n no_exchange ≡ p
  new_pair = get_or-set_same pairs n p no_exchange within

  same_before : (t : Table) (k : ℕ) → k ≤ n → exchanged_by t (set pairs n p) k ≡ exchanged_by t pairs k
  unfolding exchanged_by
  same_before t zero l = refl
  same_before t (suc k) l =
      ap (λ u. with_exchanged u (word (slice_index_or (set pairs n p) k no_exchange).first) (word (slice_index_or (set pairs n p) k no_exchange).second)) (same_before t k (omega (arith, l)))
      ∙ ap (λ (q : Exchange). with_exchanged (exchanged_by t pairs k) (word q.first) (word q.second)) (old_pair k (omega (arith, l)))

  pub exchanged_more : (t : Table) → exchanged_by t (set pairs n p) (n + 1) ≡ with_exchanged (exchanged_by t pairs n) (word p.first) (word p.second)
  unfolding exchanged_by
  exchanged_more t =
      let e : n + 1 ≡ suc n = omega arith in
      ap (exchanged_by t (set pairs n p)) e
      ∙ ap (λ u. with_exchanged u (word (slice_index_or (set pairs n p) n no_exchange).first) (word (slice_index_or (set pairs n p) n no_exchange).second)) (same_before t n (omega arith))
      ∙ ap (λ (q : Exchange). with_exchanged (exchanged_by t pairs n) (word q.first) (word q.second)) new_pair

  pub of_more : (t : Table) → AreOf t pairs n → is_live t (word p.first) ≡ true → is_live t (word p.second) ≡ true → AreOf t (set pairs n p) (n + 1)
  of_more t of first second = λ k l. elim (cases_eq k n) [
    | inl e ↦ let q = ap (λ j. slice_index_or (set pairs n p) j no_exchange) e ∙ new_pair in
        (ap (λ (x : Exchange). is_live t (word x.first)) q ∙ first, ap (λ (x : Exchange). is_live t (word x.second)) q ∙ second)
    | inr d ↦ let low : k < n = omega (arith, l, d) in let q = old_pair k low in let r = of k low in
        (ap (λ (x : Exchange). is_live t (word x.first)) q ∙ r.0, ap (λ (x : Exchange). is_live t (word x.second)) q ∙ r.1)
  ]

  pub even_more : AreEven pairs n → is_small (word p.first) ≡ false → is_small (word p.second) ≡ false → AreEven (set pairs n p) (n + 1)
  even_more even first second = λ k l. elim (cases_eq k n) [
    | inl e ↦ let q = ap (λ j. slice_index_or (set pairs n p) j no_exchange) e ∙ new_pair in
        (ap (λ (x : Exchange). is_small (word x.first)) q ∙ first, ap (λ (x : Exchange). is_small (word x.second)) q ∙ second)
    | inr d ↦ let low : k < n = omega (arith, l, d) in let q = old_pair k low in let r = even k low in
        (ap (λ (x : Exchange). is_small (word x.first)) q ∙ r.0, ap (λ (x : Exchange). is_small (word x.second)) q ∙ r.1)
  ]
