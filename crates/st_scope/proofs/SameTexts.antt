-- Bytes of an object compared with a text, one after the other.
use Rattle.std.proofs.Common.{◌≡◌, ◌≢◌, ℕ, zero, suc, ◌+◌, ◌-◌, ◌≤◌, ◌<◌, List, [], ◌∷◌, ◌++◌, length, take, true, Some, refl, ap, ◌∙◌, sym, subst, arith}
use Rattle.std.specs.Prelude.{slice_get, slice_index_or}
use Rattle.std.proofs.lemmas.List.{take_all}
use Rattle.std.proofs.lemmas.Option.{slice_get-get_or}
use Rattle.st_model.specs.Values.{Value}
use Rattle.st_model.specs.Objects.{is_bytes, first_unit, size_of}
use Rattle.st_model.specs.View.{View, IsWhole, is_live, object_of}
use Rattle.st_memory.proofs.Bodies.{no_fields}
use Rattle.st_model.proofs.KindTests.{text_fields, text_pointers}

one_more : (us ts : List ℕ) (i b : ℕ) → slice_get us i ≡ Some b → slice_get ts i ≡ Some b → take i us ≡ take i ts → take (suc i) us ≡ take (suc i) ts
one_more [] ts i b e f same = cc
one_more (u ∷ us) [] i b e f same = cc
one_more (u ∷ us) (t ∷ ts) zero b e f same = let q : u ≡ t = cc in ap (λ x. x ∷ []) q
one_more (u ∷ us) (t ∷ ts) (suc i) b e f same = let q : u ≡ t = cc in let r : take i us ≡ take i ts = cc in rw (q, one_more us ts i b e f r) refl

other_byte : (us ts : List ℕ) (i a b : ℕ) → slice_get us i ≡ Some a → slice_get ts i ≡ Some b → a ≢ b → us ≢ ts
other_byte us ts i a b e f differ same = let q : Some a ≡ Some b = sym e ∙ (ap (λ xs. slice_get xs i) same ∙ f) in differ (cc)

module _ {v : View} (whole : IsWhole v) (x : Value) (live : is_live v.objects x ≡ true) (kind : is_bytes (object_of v.objects x).kind ≡ true) where
  first_none : first_unit (object_of v.objects x) ≡ 0
  first_none = let f = no_fields x whole live (text_fields (object_of v.objects x).kind kind) in omega (arith, f)

  size_is : size_of (object_of v.objects x) ≡ length (object_of v.objects x).units
  size_is = rw (text_pointers (object_of v.objects x).kind kind) (let f = first_none in omega (arith, f))

  byte_is : (i b : ℕ) → slice_get (object_of v.objects x).units (i - first_unit (object_of v.objects x)) ≡ Some b → slice_get (object_of v.objects x).units i ≡ Some b
  byte_is i b e = let f = first_none in let z : i ≡ i - first_unit (object_of v.objects x) = omega (arith, f) in ap (slice_get (object_of v.objects x).units) z ∙ e

  pub next_same : (ts : List ℕ) (i b : ℕ) → slice_get (object_of v.objects x).units (i - first_unit (object_of v.objects x)) ≡ Some b → i < length ts → b ≡ slice_index_or ts i 0
      → take i (object_of v.objects x).units ≡ take i ts → take (i + 1) (object_of v.objects x).units ≡ take (i + 1) ts
  next_same ts i b e l q same =
      let n : suc i ≡ i + 1 = omega arith in
      subst (λ k. take k (object_of v.objects x).units ≡ take k ts) n
      (one_more (object_of v.objects x).units ts i b (byte_is i b e) (slice_get-get_or ts i 0 l ∙ ap Some (sym q)) same)

  taken_more : (us : List ℕ) (i b : ℕ) → slice_get us i ≡ Some b → take i us ++ b ∷ [] ≡ take (suc i) us
  taken_more [] i b e = cc
  taken_more (u ∷ us) zero b e = let q : u ≡ b = cc in ap (λ x. x ∷ []) (sym q)
  taken_more (u ∷ us) (suc i) b e = ap (λ xs. u ∷ xs) (taken_more us i b e)

  -- one byte more is copied
  pub next_copied : (text : List ℕ) (i b : ℕ) → slice_get (object_of v.objects x).units (i - first_unit (object_of v.objects x)) ≡ Some b → text ≡ take i (object_of v.objects x).units
      → text ++ b ∷ [] ≡ take (i + 1) (object_of v.objects x).units
  next_copied text i b e same =
      let n : suc i ≡ i + 1 = omega arith in
      ap (λ us. us ++ b ∷ []) same ∙ (taken_more (object_of v.objects x).units i b (byte_is i b e) ∙ ap (λ k. take k (object_of v.objects x).units) n)

  pub differs : (ts : List ℕ) (i b : ℕ) → slice_get (object_of v.objects x).units (i - first_unit (object_of v.objects x)) ≡ Some b → i < length ts → b ≢ slice_index_or ts i 0
      → (object_of v.objects x).units ≢ ts
  differs ts i b e l d = other_byte (object_of v.objects x).units ts i b (slice_index_or ts i 0) (byte_is i b e) (slice_get-get_or ts i 0 l) d

  pub all_same : (ts : List ℕ) (n i : ℕ) → n ≡ size_of (object_of v.objects x) → n ≡ length ts → n ≤ i → take i (object_of v.objects x).units ≡ take i ts → (object_of v.objects x).units ≡ ts
  all_same ts n i e f l same =
      let s = size_is in
      sym (take_all i (object_of v.objects x).units (omega (arith, s, e, l))) ∙ (same ∙ take_all i ts (omega (arith, f, l)))

  pub other_size : (ts : List ℕ) (n : ℕ) → n ≡ size_of (object_of v.objects x) → n ≢ length ts → (object_of v.objects x).units ≢ ts
  other_size ts n e d same = d (e ∙ (size_is ∙ ap length same))
