-- The sums over the entries as entries come and go.
use Rattle.std.proofs.Common.{◌≡◌, ℕ, ◌+◌, ◌*◌, ◌/◌, ◌<◌, ◌≤◌, zero, suc, Bool, true, false, List, [], ◌∷◌, length, set, refl, sym, ◌∙◌, arith}
use Rattle.std.specs.Prelude.{slice_get, Option, Some, None, if◌then◌else◌}
use Rattle.st_model.specs.Objects.{one, words_of, is_words}
use Rattle.st_model.specs.Table.{total_used}
use Rattle.st_plain.specs.declared.entry.Entry.{Entry}
use Rattle.st_plain.specs.declared.objects.Objects.{Objects}
use Rattle.st_plain.specs.inside.Lists.{slot, entry_object, entry_total, one_entry, entry_words, IsLaidOut, IsCounted}
use Rattle.st_plain.specs.inside.ListsPlain.{objects_of}
use Rattle.st_plain.proofs.Looking.{total_used-listed, words_of-entry}

pub total-with : (w : Entry → ℕ) (es : List (Option Entry)) (k : ℕ) (e : Entry) → k < length es → slot es k ≡ None → entry_total w (set es k (Some e)) ≡ entry_total w es + w e
total-with w [] k e l h = absurd (omega (arith, l))
total-with w (None ∷ es) zero e l h = omega arith
total-with w (Some d ∷ es) zero e l h = cc
total-with w (None ∷ es) (suc k) e l h = total-with w es k e (omega (arith, l)) h
total-with w (Some d ∷ es) (suc k) e l h = let a = total-with w es k e (omega (arith, l)) h in omega (arith, a)

pub total-without : (w : Entry → ℕ) (es : List (Option Entry)) (k : ℕ) (e : Entry) → slot es k ≡ Some e → entry_total w (set es k None) + w e ≡ entry_total w es
total-without w [] k e h = cc
total-without w (None ∷ es) zero e h = cc
total-without w (Some d ∷ es) zero e h = let same : w d ≡ w e = cc in omega (arith, same)
total-without w (None ∷ es) (suc k) e h = total-without w es k e h
total-without w (Some d ∷ es) (suc k) e h = let a = total-without w es k e h in omega (arith, a)

-- a sum of numbers that are not above a bound
total_most : (w : Entry → ℕ) (most : ℕ) (es : List (Option Entry)) → ((i : ℕ) (e : Entry) → slice_get es i ≡ Some (Some e) → w e ≤ most) → entry_total w es ≤ most * length es
total_most w most [] f = omega arith
total_most w most (None ∷ es) f = let a = total_most w most es (λ i. f (suc i)) in grind (arith)
total_most w most (Some e ∷ es) f = let a = total_most w most es (λ i. f (suc i)) in let b = f 0 e refl in grind (arith)

words_most : (e : Entry) → 2 * e.fields + e.units ≤ 131066 → entry_words e ≤ 131068
words_most e small = by_kind (is_words e.kind)
  where
    by_kind : (b : Bool) → (if b then 2 + e.units else 2 + e.fields + (e.units + 1) / 2) ≤ 131068
    by_kind true = omega (arith, small)
    by_kind false = omega (arith, small)

pub words_bound : (es : List (Option Entry)) (fields units end nf nu : ℕ) → IsLaidOut es fields units end nf nu → entry_total entry_words es ≤ 4294836224
words_bound es fields units end nf nu laid =
    let a = total_most entry_words 131068 es (λ i e h. words_most e (laid.placed i e h).small) in
    let b = laid.places in
    omega (arith, a, b)

pub count_bound : (es : List (Option Entry)) (fields units end nf nu : ℕ) → IsLaidOut es fields units end nf nu → entry_total one_entry es ≤ 32768
count_bound es fields units end nf nu laid =
    let a = total_most one_entry 1 es (λ i e h. omega arith) in
    let b = laid.places in
    omega (arith, a, b)

-- the sums are those over the objects
pub used_is : (o : Objects) → o.used ≡ record { entries = total_used one (objects_of o); words = total_used words_of (objects_of o) }
used_is o =
    let p = o.pointers.items in
    let u = o.units.items in
    let es = o.entries.items in
    let sized : (i : ℕ) (e : Entry) → slice_get es i ≡ Some (Some e) → words_of (entry_object p u e) ≡ entry_words e = λ i e h.
    let at = o.laid_out.placed i e h in
    let f = o.laid_out.fields_end in
    let g = o.laid_out.units_end in
    words_of-entry p u e (omega arith) (omega arith)
    in
    let entries = o.counted.count ∙ sym (total_used-listed one one_entry p u es (λ i e h. refl)) in
    let words = o.counted.words ∙ sym (total_used-listed words_of entry_words p u es sized) in
    λ i. record { entries = entries i; words = words i }

-- nothing is counted where all places are empty
none_total : (w : Entry → ℕ) (es : List (Option Entry)) → ((k : ℕ) → slot es k ≡ None) → entry_total w es ≡ 0
none_total w [] f = refl
none_total w (None ∷ es) f = none_total w es (λ k. f (suc k))
none_total w (Some e ∷ es) f = let h = f 0 in cc

pub none_counted : (es : List (Option Entry)) → ((k : ℕ) → slot es k ≡ None) → IsCounted es (record { entries = 0; words = 0 })
none_counted es f = record { count = sym (none_total one_entry es f); words = sym (none_total entry_words es f) }
