-- Looking at all places of the table.
use Rattle.std.proofs.Common.{◌≡◌, ℕ, ◌+◌, ◌*◌, ◌/◌, ◌%◌, ◌<◌, ◌≤◌, List, [], ◌∷◌, zero, suc, length, take, drop, Bool, true, false, refl, ap, ◌∙◌, is_some, arith, add-one, inl, inr, ◌⊎◌, map}
use Rattle.std.specs.Prelude.{slice_get, Option, Some, None, ◌==◌, if◌then◌else◌}
use Rattle.std.proofs.lemmas.Bool.Decides.{nat_tests}
use Rattle.std.proofs.lemmas.List.{length-take, length-drop, length-map}
use Rattle.st_model.specs.declared.oop.Oop.{Oop}
use Rattle.st_model.specs.Values.{Small, Ref, value, value_of}
use Rattle.st_model.specs.Objects.{Object, words_of, is_words}
use Rattle.st_model.specs.Table.{total_used}
use Rattle.st_model.specs.View.{is_live}
use Rattle.st_model.proofs.Pointers.{value_of-pointer}
use Rattle.st_plain.specs.declared.entry.Entry.{Entry}
use Rattle.st_plain.specs.inside.Lists.{listed_table, entry_object, slot, entry_of, entry_total, entry_words, slot_number}
use Rattle.st_plain.proofs.Slots.{is_live-listed}

module _ (p : List Oop) (u : List ℕ) (es : List (Option Entry)) where
  live_name : (n : ℕ) → is_live (listed_table p u es) (Ref n) ≡ is_some (slot es n)
  unfolding entry_of
  live_name n = is_live-listed p u es (Ref n)

  pub live_word : (k : ℕ) → is_some (slot es k) ≡ true → is_live (listed_table p u es) (value_of (2 * k)) ≡ true
  live_word k h = ap (is_live (listed_table p u es)) (value_of-pointer k) ∙ (live_name k ∙ h)

  dead_if : (a b w : ℕ) (odd : Bool) → (w % 2 == 1) ≡ odd → ((j : ℕ) → a / 2 + 1 ≤ j → j < b → is_some (slot es j) ≡ false) → a < w → w < 2 * b
      → is_live (listed_table p u es) (if odd then Small (w / 2) else Ref (w / 2)) ≡ false
  unfolding is_live
  dead_if a b w true e f l m = refl
  dead_if a b w false e f l m =
      let even : w % 2 ≡ 0 = grind (arith, nat_tests) in
      live_name (w / 2) ∙ f (w / 2) (omega (arith, even, l)) (omega (arith, m))

  -- no word above a and below 2 * b is live, where the places between have no entry
  pub dead_word : (a b w : ℕ) → ((j : ℕ) → a / 2 + 1 ≤ j → j < b → is_some (slot es j) ≡ false) → a < w → w < 2 * b → is_live (listed_table p u es) (value_of w) ≡ false
  unfolding value_of
  dead_word a b w f l m = dead_if a b w (w % 2 == 1) refl f l m

order_cases : (j k : ℕ) → (j < k) ⊎ (k ≤ j)
order_cases j k = grind arith

-- no place from a on has an entry, where those up to k have none and all after it are empty
pub none_from : (es : List (Option Entry)) (a k end j : ℕ) → end ≤ k → ((i : ℕ) → a ≤ i → i < k → is_some (slot es i) ≡ false) → ((i : ℕ) → end ≤ i → slot es i ≡ None) → a ≤ j → is_some (slot es j) ≡ false
none_from es a k end j l f g h = elim (order_cases j k) [ inl m ↦ f j h m | inr m ↦ ap is_some (g j (omega (arith, l, m))) ]

total_next : (w : Entry → ℕ) (es : List (Option Entry)) (k : ℕ) → k < length es → entry_total w (take (suc k) es) ≡ entry_total w (take k es) + slot_number w (slot es k)
total_next w [] k l = absurd (omega (arith, l))
total_next w (None ∷ es) zero l = refl
total_next w (Some e ∷ es) zero l = omega arith
total_next w (None ∷ es) (suc k) l = total_next w es k (omega (arith, l))
total_next w (Some e ∷ es) (suc k) l = let a = total_next w es k (omega (arith, l)) in omega (arith, a)

pub total_more : (w : Entry → ℕ) (es : List (Option Entry)) (k : ℕ) → k < length es → entry_total w (take (k + 1) es) ≡ entry_total w (take k es) + slot_number w (slot es k)
total_more w es k l = ap (λ n. entry_total w (take n es)) (add-one k) ∙ total_next w es k l

-- the places that are empty add nothing
pub total_rest : (w : Entry → ℕ) (es : List (Option Entry)) (k : ℕ) → ((i : ℕ) → k ≤ i → slot es i ≡ None) → entry_total w (take k es) ≡ entry_total w es
total_rest w [] zero f = refl
total_rest w [] (suc k) f = refl
total_rest w (None ∷ es) zero f = total_rest w es zero (λ i l. f (suc i) (omega arith))
total_rest w (Some e ∷ es) zero f = let q : Some e ≡ None = f zero (omega arith) in cc
total_rest w (None ∷ es) (suc k) f = total_rest w es k (λ i l. f (suc i) (omega (arith, l)))
total_rest w (Some e ∷ es) (suc k) f = ap (λ n. w e + n) (total_rest w es k (λ i l. f (suc i) (omega (arith, l))))

-- a sum over the objects is one over the entries
pub total_used-listed : (w : Object → ℕ) (v : Entry → ℕ) (p : List Oop) (u : List ℕ) (es : List (Option Entry)) → ((i : ℕ) (e : Entry) → slice_get es i ≡ Some (Some e) → w (entry_object p u e) ≡ v e)
    → total_used w (listed_table p u es) ≡ entry_total v es
total_used-listed w v p u [] f = refl
total_used-listed w v p u (None ∷ es) f = total_used-listed w v p u es (λ i. f (suc i))
total_used-listed w v p u (Some e ∷ es) f = let a = f 0 e refl in let b = total_used-listed w v p u es (λ i. f (suc i)) in omega (arith, a, b)

length-run : {A : Type 0} (xs : List A) (a n : ℕ) → a + n ≤ length xs → length (take n (drop a xs)) ≡ n
length-run xs a n h = simp (length-take, length-drop) (omega arith)

pub words_of-entry : (p : List Oop) (u : List ℕ) (e : Entry) → e.fields_at + e.fields ≤ length p → e.units_at + e.units ≤ length u → words_of (entry_object p u e) ≡ entry_words e
words_of-entry p u e fields_end units_end =
    let a : length (map value (take e.fields (drop e.fields_at p))) ≡ e.fields = length-map (take e.fields (drop e.fields_at p)) value ∙ length-run p e.fields_at e.fields fields_end in
    let b = length-run u e.units_at e.units units_end in
    λ i. if is_words e.kind then 2 + b i else 2 + a i + (b i + 1) / 2
