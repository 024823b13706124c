-- The spans of the objects, and the words that objects share.
use Rattle.std.proofs.Common.{◌≡◌, ℕ, ◌+◌, ◌*◌, ◌/◌, ◌<◌, ◌≤◌, ◌⊎◌, true, false, List, length, arith, refl, subst, ◌∙◌, inl, inr, Some, None}
use Rattle.std.proofs.lemmas.Bool.{cases_lt, both_ways, cases_Bool}
use Rattle.st_image.specs.declared.spans.Span.{Span}
use Rattle.st_image.specs.inside.Spans.{span, Shares, IsFirstShared, AreWithin, IsWithin}
use Rattle.st_model.specs.declared.head.ImageHead.{ImageHead}
use Rattle.st_model.specs.declared.fault.ImageFault.{ImageFault}
use Rattle.st_model.specs.declared.fault.ImageFault.TheVariants.{Overlap}
use Rattle.st_model.specs.Image.{entries_of, is_used, place, size}
use Rattle.st_model.specs.Faults.{Fails, row, Sooner, HasWord, ShareWord}
use Rattle.st_image.specs.inside.Sizes.{span_of, AreInside}
use Rattle.st_image.specs.inside.Rows.{IsClean, IsFirstOf}
use Rattle.st_image.proofs.FaultRows.{beyond}

pub span_used : (h : ImageHead) (bytes : List ℕ) (k : ℕ) → is_used h bytes k ≡ true
    → span_of h bytes k ≡ record { from = place h bytes k; to = place h bytes k + size h bytes k }
unfolding span_of
span_used h bytes k used = rw used refl

pub span_free : (h : ImageHead) (bytes : List ℕ) (k : ℕ) → is_used h bytes k ≡ false → span_of h bytes k ≡ record { from = 0; to = 0 }
unfolding span_of
span_free h bytes k free = rw free refl

-- the list of the spans of all entries
pub record AreSpans (h : ImageHead) (bytes : List ℕ) (spans : List Span) : Type 0 where
  pub length : length spans ≡ entries_of h
  pub each : (k : ℕ) → k < entries_of h → span spans k ≡ span_of h bytes k

pub has_to : (h : ImageHead) (bytes : List ℕ) (spans : List Span) (k w : ℕ) → AreSpans h bytes spans → k < entries_of h
    → HasWord h bytes k w → ((span spans k).from ≤ w) × (w < (span spans k).to)
has_to h bytes spans k w are k_in has = rw (are.each k k_in ∙ span_used h bytes k has.0) (has.1, has.2)

pub has_from : (h : ImageHead) (bytes : List ℕ) (spans : List Span) (k w : ℕ) → AreSpans h bytes spans → k < entries_of h
    → (span spans k).from ≤ w → w < (span spans k).to → HasWord h bytes k w
has_from h bytes spans k w are k_in from to = last (cases_Bool (is_used h bytes k))
  where
    last : ((is_used h bytes k ≡ true) ⊎ (is_used h bytes k ≡ false)) → HasWord h bytes k w
    last (inl used) =
        let e = are.each k k_in ∙ span_used h bytes k used in
        (used, rw e at from, rw e at to)
    last (inr free) =
        let e = are.each k k_in ∙ span_free h bytes k free in
        absurd (let a : w < 0 = rw e at to in omega arith)

pub in_table : (h : ImageHead) (bytes : List ℕ) (k w : ℕ) → HasWord h bytes k w → k < entries_of h
in_table h bytes k w has = last (cases_lt k (entries_of h))
  where
    last : ((k < entries_of h) ⊎ (entries_of h ≤ k)) → k < entries_of h
    last (inl e) = e
    last (inr e) = absurd (both_ways _ (beyond h bytes k e) has.0)

pub share_to : (h : ImageHead) (bytes : List ℕ) (spans : List Span) (j k : ℕ) → AreSpans h bytes spans → ShareWord h bytes j k → Shares spans j k
share_to h bytes spans j k are share =
    let w = share.0 in
    let a = has_to h bytes spans j w are (in_table h bytes j w share.1.0) share.1.0 in
    let b = has_to h bytes spans k w are (in_table h bytes k w share.1.1) share.1.1 in
    (w, (a.0, a.1, b.0, b.1))

pub share_from : (h : ImageHead) (bytes : List ℕ) (spans : List Span) (j k : ℕ) → AreSpans h bytes spans → j < entries_of h → k < entries_of h
    → Shares spans j k → ShareWord h bytes j k
share_from h bytes spans j k are j_in k_in both =
    (both.0, (has_from h bytes spans j both.0 are j_in both.1.0 both.1.1, has_from h bytes spans k both.0 are k_in both.1.2 both.1.3))

pub overlap_clean : (h : ImageHead) (bytes : List ℕ) (spans : List Span) → AreSpans h bytes spans → IsFirstShared spans None → IsClean h bytes 5
unfolding Fails
overlap_clean h bytes spans are none (Overlap p q) e fails =
    let k_in : q / 2 < entries_of h = in_table h bytes (q / 2) fails.3.0 fails.3.1.1 in
    none (p / 2) (q / 2) (let a = fails.0 in let b = fails.1 in let d = fails.2 in omega arith) (let a = are.length in omega arith) (share_to h bytes spans (p / 2) (q / 2) are fails.3)
overlap_clean h bytes spans are none g e fails = absurd (omega arith)

overlap_fails : (h : ImageHead) (bytes : List ℕ) (spans : List Span) (found : ℕ × ℕ) → AreSpans h bytes spans → IsFirstShared spans (Some found)
    → Fails h bytes (Overlap (2 * found.0) (2 * found.1))
unfolding Fails
overlap_fails h bytes spans f are found =
    let a : f.0 ≡ 2 * f.0 / 2 = omega arith in
    let b : f.1 ≡ 2 * f.1 / 2 = omega arith in
    let d = are.length in
    let s : ShareWord h bytes f.0 f.1 = share_from h bytes spans f.0 f.1 are (let x = found.0 in let y = found.1 in omega arith) (let y = found.1 in omega arith) found.2 in (
      omega arith,
      omega arith,
      (let x = found.0 in omega arith),
      subst (λ (x : ℕ). ShareWord h bytes x (2 * f.1 / 2)) a (subst (λ (y : ℕ). ShareWord h bytes f.0 y) b s),
    )

pub overlap_first : (h : ImageHead) (bytes : List ℕ) (spans : List Span) (found : ℕ × ℕ) → AreSpans h bytes spans → IsFirstShared spans (Some found)
    → IsFirstOf h bytes 5 (Overlap (2 * found.0) (2 * found.1))
unfolding Fails
overlap_first h bytes spans f are found = record { at = refl; fails = overlap_fails h bytes spans f are found; least = least }
  where
    least : (g : ImageFault) → row g ≡ 5 → Sooner g (Overlap (2 * f.0) (2 * f.1)) → ¬ Fails h bytes g
    least (Overlap p q) e (inl s) fails =
        let k_in : q / 2 < entries_of h = in_table h bytes (q / 2) fails.3.0 fails.3.1.1 in
        found.3 (p / 2) (q / 2) (omega arith) (let a = fails.0 in let b = fails.1 in let d = fails.2 in omega arith) (let a = are.length in omega arith)
        (share_to h bytes spans (p / 2) (q / 2) are fails.3)
    least (Overlap p q) e (inr s) fails =
        let a : p / 2 ≡ f.0 = omega (arith, s.0) in
        let share : Shares spans f.0 (q / 2) = subst (λ (x : ℕ). Shares spans x (q / 2)) a (share_to h bytes spans (p / 2) (q / 2) are fails.3) in
        found.4 (q / 2) (let x = fails.0 in let y = fails.1 in let z = fails.2 in omega (arith, s.0)) (omega (arith, s.1)) share
    least g e s fails = absurd (omega arith)

pub spans_within : (h : ImageHead) (bytes : List ℕ) (spans : List Span) → AreSpans h bytes spans → AreInside h bytes → AreWithin h.space spans
spans_within h bytes spans are inside k k_in = last (cases_Bool (is_used h bytes k))
  where
    k_in' : k < entries_of h
    k_in' = let a = are.length in omega arith

    last : ((is_used h bytes k ≡ true) ⊎ (is_used h bytes k ≡ false)) → IsWithin h.space (span spans k)
    last (inl used) = rw (are.each k k_in' ∙ span_used h bytes k used) (record { ordered = omega arith; inside = (inside k k_in' used).space })
    last (inr free) = rw (are.each k k_in' ∙ span_free h bytes k free) (record { ordered = omega arith; inside = omega arith })
