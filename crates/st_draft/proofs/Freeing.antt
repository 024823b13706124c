-- The free places of a table, counted, and the half of a word over a draft.
use Rattle.std.proofs.Common.{◌≡◌, ℕ, ◌+◌, ◌*◌, ◌-◌, ◌<◌, ◌≤◌, inl, inr, zero, suc, true, false, List, [], ◌∷◌, length, take, drop, Ok, refl, sym, ap, ◌∙◌, arith, is_some}
use Rattle.std.specs.Prelude.{nat_lt, Option, Some, None, if◌then◌else◌}
use Rattle.std.proofs.lemmas.Bool.{cases_lt}
use Rattle.std.proofs.lemmas.Bool.Decides.{nat_tests}
use Rattle.std.proofs.lemmas.List.{length-take}
use Rattle.st_model.specs.Values.{Value, Small, Ref, value_of}
use Rattle.st_model.specs.Objects.{Object}
use Rattle.st_model.specs.Machine.{Went, answer}
use Rattle.st_model.specs.Lookup.{half_word, pointer_if}
use Rattle.st_model.specs.Table.{Table, entry, apart, bounded_table, free_place, without_first, pointer_apart}
use Rattle.st_model.specs.View.{is_live}
use Rattle.st_model.specs.inside.Calls.{Reads, itself}
use Rattle.st_model.proofs.Pointers.{value_of-pointer}
use Rattle.st_memory.specs.declared.made.Made.{Made}
use Rattle.st_draft.specs.declared.change.Change.{Change}
use Rattle.st_draft.specs.inside.Drafts.{with_made, draft_table, named_object, no_made}
use Rattle.st_memory.proofs.Looking.{some_state}
use Rattle.st_draft.proofs.Replaying.{replayed_like}
use Rattle.st_draft.proofs.Behind.{base_entry, made_entry, draft_length}
use Rattle.st_model.proofs.TableLemmas.{entry_past}

-- counting on past one place

pub free_past : (t : Table) (k j i : ℕ) → is_some (entry t k) ≡ true → free_place (drop k t) j i ≡ free_place (drop (suc k) t) (suc j) i
free_past [] k j i e = cc
free_past (None ∷ t) zero j i e = cc
free_past (Some o ∷ t) zero j i e = refl
free_past (e ∷ t) (suc k) j i h = free_past t k j i h

pub free_next : (t : Table) (k j i : ℕ) → k < length t → is_some (entry t k) ≡ false → free_place (drop k t) j (suc i) ≡ free_place (drop (suc k) t) (suc j) i
free_next [] k j i l e = absurd (omega (arith, l))
free_next (None ∷ t) zero j i l e = refl
free_next (Some o ∷ t) zero j i l e = cc
free_next (e ∷ t) (suc k) j i l h = free_next t k j i (omega (arith, l)) h

pub free_here : (t : Table) (k j : ℕ) → k < length t → is_some (entry t k) ≡ false → free_place (drop k t) j 0 ≡ j
free_here [] k j l e = absurd (omega (arith, l))
free_here (None ∷ t) zero j l e = refl
free_here (Some o ∷ t) zero j l e = cc
free_here (e ∷ t) (suc k) j l h = free_here t k j (omega (arith, l)) h

pub free_end : (t : Table) (k j i : ℕ) → length t ≤ k → free_place (drop k t) j i ≡ j + i
free_end [] zero j i l = refl
free_end [] (suc k) j i l = refl
free_end (e ∷ t) zero j i l = absurd (omega (arith, l))
free_end (e ∷ t) (suc k) j i l = free_end t k j i (omega (arith, l))

pub first_dropped : (t : Table) → without_first t ≡ drop 1 t
first_dropped [] = refl
first_dropped (e ∷ t) = refl

-- where the same places are free, the numbers are the same

free_same : (t u : Table) (j i : ℕ) → length t ≡ length u → ((k : ℕ) → k < length t → is_some (entry t k) ≡ is_some (entry u k)) → free_place t j i ≡ free_place u j i
free_same [] [] j i l same = refl
free_same [] (f ∷ u) j i l same = absurd (omega (arith, l))
free_same (e ∷ t) [] j i l same = absurd (omega (arith, l))
free_same (None ∷ t) (Some b ∷ u) j i l same = let e = same 0 (omega arith) in cc
free_same (Some a ∷ t) (None ∷ u) j i l same = let e = same 0 (omega arith) in cc
free_same (None ∷ t) (None ∷ u) j zero l same = refl
free_same (None ∷ t) (None ∷ u) j (suc i) l same = free_same t u (suc j) i (omega (arith, l)) (λ k m. same (suc k) (omega (arith, m)))
free_same (Some a ∷ t) (Some b ∷ u) j i l same = free_same t u (suc j) i (omega (arith, l)) (λ k m. same (suc k) (omega (arith, m)))

pub free_rest : (t u : Table) (j i : ℕ) → length t ≡ length u → ((k : ℕ) → k < length t → is_some (entry t k) ≡ is_some (entry u k)) → free_place (without_first t) j i ≡ free_place (without_first u) j i
free_rest [] [] j i l same = refl
free_rest [] (f ∷ u) j i l same = absurd (omega (arith, l))
free_rest (e ∷ t) [] j i l same = absurd (omega (arith, l))
free_rest (e ∷ t) (f ∷ u) j i l same = free_same t u j i (omega (arith, l)) (λ k m. same (suc k) (omega (arith, m)))

pub entry_taken : (t : Table) (n k : ℕ) → k < n → entry (take n t) k ≡ entry t k
entry_taken [] zero k l = refl
entry_taken [] (suc n) k l = refl
entry_taken (e ∷ t) zero k l = absurd (omega (arith, l))
entry_taken (e ∷ t) (suc n) zero l = refl
entry_taken (e ∷ t) (suc n) (suc k) l = entry_taken t n k (omega (arith, l))

module _ (t : Table) (ms : List Made) (n : ℕ) (cs : List Change) (k : ℕ) (places : length t ≡ 32768) (few : n ≤ length ms) where
  abbrev now : Table
  now = draft_table t ms n cs k

  live_now : (j : ℕ) → is_some (entry now j) ≡ is_some (entry (with_made t ms n) j)
  unfolding is_live
  live_now j = (replayed_like (with_made t ms n) cs k).live (Ref j)

  same_places : (j : ℕ) → free_place (without_first (take 32768 now)) 1 j ≡ free_place (without_first t) 1 j
  same_places j =
      let long = draft_length t ms n cs k places few in
      let cut : length (take 32768 now) ≡ 32768 = length-take 32768 now ∙ omega (arith, long) in
      free_rest (take 32768 now) t 1 j (cut ∙ sym places)
      (λ i l. ap is_some (entry_taken now 32768 i (omega (arith, l, cut))) ∙ live_now i ∙ ap is_some (base_entry t ms n few i (omega (arith, l, cut, places))))

  half_if : (e : Option Object) (i h : ℕ) → is_some e ≡ true → pointer_apart now i ≡ h → pointer_if apart now i e ≡ h
  half_if None i h s q = cc
  half_if (Some o) i h s q = q

  half_of_made : (i : ℕ) → i < n → pointer_if apart now (32768 + i) (entry now (32768 + i)) ≡ free_place (without_first t) 1 i
  half_of_made i l =
      let there = live_now (32768 + i) ∙ ap (λ p. is_some (entry (with_made t ms n) (p + i))) (sym places) ∙ ap is_some (made_entry t ms n few i (no_made) l) in
      let high : nat_lt (32768 + i) 32768 ≡ false = grind (arith, nat_tests) in
      let off : 32768 + i - 32768 ≡ i = omega arith in
      half_if (entry now (32768 + i)) (32768 + i) _ there
      (ap (λ b. if b then 32768 + i else free_place (without_first (take 32768 now)) 1 (32768 + i - 32768)) high
      ∙ ap (free_place (without_first (take 32768 now)) 1) off ∙ same_places i)

  half_of_base : (i : ℕ) (a b : Option Object) → is_some a ≡ is_some b → (is_some b ≡ true → i < 32768) → pointer_if apart now i a ≡ pointer_if bounded_table t i b
  half_of_base i None None s l = refl
  half_of_base i None (Some b) s l = cc
  half_of_base i (Some a) None s l = cc
  half_of_base i (Some a) (Some b) s l =
      let low : nat_lt i 32768 ≡ true = let m = l refl in grind (arith, nat_tests, m) in
      ap (λ c. if c then i else free_place (without_first (take 32768 now)) 1 (i - 32768)) low

  half_base_is : (i : ℕ) → entry (with_made t ms n) i ≡ entry t i → pointer_if apart now i (entry now i) ≡ pointer_if bounded_table t i (entry t i)
  half_base_is i e = half_of_base i (entry now i) (entry t i) (live_now i ∙ ap is_some e) (λ h. low h)
    where
      low : is_some (entry t i) ≡ true → i < 32768
      low h = elim (cases_lt i 32768) [
        | inl l ↦ l
        | inr l ↦ let q = ap is_some (entry_past t i (omega (arith, l, places))) in absurd (cc)
      ]

  pub half_made : (v : Value) (i r : ℕ) → v ≡ Ref (32768 + i) → i < n → r ≡ free_place (without_first t) 1 i → Reads (half_word apart v) itself now (Ok r)
  unfolding half_word
  half_made (Small j) i r e l q = cc
  half_made (Ref j) i r e l q = λ s over.
      let name : j ≡ 32768 + i = cc in
      ap (λ u. Went (pointer_if apart u j (entry u j)) s) over
      ∙ ap (λ m. Went (pointer_if apart now m (entry now m)) s) name
      ∙ ap (λ h. Went h s) (half_of_made i l ∙ sym q)

  pub half_base : (v : Value) (r : ℕ) → named_object (with_made t ms n) v ≡ named_object t v → Reads (half_word bounded_table v) itself t (Ok r) → Reads (half_word apart v) itself now (Ok r)
  unfolding half_word answer
  half_base (Small j) r e h = λ s over. let q = h (some_state t) refl in let p : j ≡ r = cc in ap (λ a. Went a s) p
  half_base (Ref j) r e h = λ s over.
      let q = h (some_state t) refl in
      let p : pointer_if bounded_table t j (entry t j) ≡ r = cc in
      ap (λ u. Went (pointer_if apart u j (entry u j)) s) over ∙ ap (λ a. Went a s) (half_base_is j e ∙ p)

module _ (t u : Table) (long : length t ≡ length u) (live : (v : Value) → is_live t v ≡ is_live u v) where
  some_alike : (j : ℕ) → is_some (entry t j) ≡ is_some (entry u j)
  unfolding is_live
  some_alike j = live (Ref j)

  pointer_alike : (j : ℕ) → pointer_apart t j ≡ pointer_apart u j
  pointer_alike j =
      let a = length-take 32768 t in
      let b = length-take 32768 u in
      let cut : length (take 32768 t) ≡ length (take 32768 u) = omega (arith, a, b, long) in
      ap (λ p. if nat_lt j 32768 then j else p)
      (free_rest (take 32768 t) (take 32768 u) 1 (j - 32768) cut
      (λ k l. let low : k < 32768 = omega (arith, l, a) in ap is_some (entry_taken t 32768 k low) ∙ some_alike k ∙ sym (ap is_some (entry_taken u 32768 k low))))

  if_alike : (j : ℕ) (a b : Option Object) → is_some a ≡ is_some b → pointer_if apart t j a ≡ pointer_if apart u j b
  if_alike j None None e = refl
  if_alike j None (Some b) e = cc
  if_alike j (Some a) None e = cc
  if_alike j (Some a) (Some b) e = pointer_alike j

  -- where the same names have objects the half of a word is the same
  pub half_alike : (v : Value) (r : ℕ) → Reads (half_word apart v) itself u (Ok r) → Reads (half_word apart v) itself t (Ok r)
  unfolding half_word answer
  half_alike (Small j) r h = λ s over. let q = h (some_state u) refl in let p : j ≡ r = cc in ap (λ a. Went a s) p
  half_alike (Ref j) r h = λ s over.
      let q = h (some_state u) refl in
      let p : pointer_if apart u j (entry u j) ≡ r = cc in
      ap (λ w. Went (pointer_if apart w j (entry w j)) s) over ∙ ap (λ a. Went a s) (if_alike j (entry t j) (entry u j) (some_alike j) ∙ p)
