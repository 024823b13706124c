-- The inside of a string, byte by byte.
use Rattle.std.proofs.Common.{◌≡◌, ℕ, ◌+◌, ◌<◌, ◌≤◌, Bool, true, false, eqb, List, [], ◌∷◌, length, get_or, drop, Option, Some, None, refl, sym, ap, ◌∙◌, arith, add-one, drop-cons, length-drop}
use Rattle.std.specs.Option.{option_map}
use Rattle.std.specs.Str.{byte}
use Rattle.std.proofs.lemmas.List.{nil_from_length, drop-drop}
use Rattle.st_scan.specs.Pieces.{doubled, begins}
use Rattle.st_scan.specs.Fronts.{inside_of}

abbrev quote : ℕ → Bool
quote b = eqb b (byte "'")

pub inside-other : (b : ℕ) (bs : List ℕ) → quote b ≡ false → inside_of (b ∷ bs) ≡ option_map (λ cs. b ∷ cs) (inside_of bs)
unfolding inside_of
inside-other b [] e = rw e refl
inside-other b (c ∷ bs) e = rw e refl

pub inside-pair : (b c : ℕ) (bs : List ℕ) → quote b ≡ true → quote c ≡ true → inside_of (b ∷ c ∷ bs) ≡ option_map (λ cs. b ∷ cs) (inside_of bs)
unfolding inside_of
inside-pair b c bs e f = rw (e, f) refl

pub inside-end : (b : ℕ) (bs : List ℕ) → quote b ≡ true → begins quote bs ≡ false → inside_of (b ∷ bs) ≡ Some []
unfolding inside_of
inside-end b [] e f = rw e refl
inside-end b (c ∷ bs) e f = rw (e, f) refl

-- what stands between the quotes, i bytes further on
abbrev pub longer : ℕ → Option (List ℕ) → Option ℕ
longer i o = option_map (λ bs. i + length (doubled bs)) o

-- the same at once
abbrev pub inside_length : List ℕ → Option ℕ
inside_length text = option_map (λ bs. length (doubled bs)) (inside_of text)

longer-0 : (o : Option (List ℕ)) → longer 0 o ≡ option_map (λ bs. length (doubled bs)) o
longer-0 None = refl
longer-0 (Some bs) = let same : 0 + length (doubled bs) ≡ length (doubled bs) = omega arith in ap (λ (n : ℕ). Some n) same

pub record Kept (text : List ℕ) (i : ℕ) : Type 0 where
  pub within : i ≤ length text
  pub so_far : longer i (inside_of (drop i text)) ≡ inside_length text

longer-more : (i k b : ℕ) (o : Option (List ℕ)) → ((bs : List ℕ) → length (doubled (b ∷ bs)) ≡ k + length (doubled bs)) → longer i (option_map (λ cs. b ∷ cs) o) ≡ longer (i + k) o
longer-more i k b None e = refl
longer-more i k b (Some bs) e = let same : i + length (doubled (b ∷ bs)) ≡ (i + k) + length (doubled bs) = omega (arith, e bs) in ap (λ (n : ℕ). Some n) same

one : (b : ℕ) → quote b ≡ false → (bs : List ℕ) → length (doubled (b ∷ bs)) ≡ 1 + length (doubled bs)
one b e bs = rw e (omega arith)

two : (b : ℕ) → quote b ≡ true → (bs : List ℕ) → length (doubled (b ∷ bs)) ≡ 2 + length (doubled bs)
two b e bs = rw e (omega arith)

pub first_of : (text : List ℕ) (i : ℕ) → i < length text → drop i text ≡ get_or text i 0 ∷ drop (i + 1) text
first_of text i lt = rw (add-one, drop-cons text i 0) refl

pub kept_first : (text : List ℕ) → Kept text 0
kept_first text = record { within = omega arith; so_far = longer-0 (inside_of text) }

pub kept_one : (text : List ℕ) (i : ℕ) → Kept text i → i < length text → quote (get_or text i 0) ≡ false → Kept text (i + 1)
kept_one text i kept lt e = record {
  within = omega arith;
  so_far =
      sym (longer-more i 1 (get_or text i 0) (inside_of (drop (i + 1) text)) (one _ e))
      ∙ sym (ap (longer i) (ap inside_of (first_of text i lt) ∙ inside-other (get_or text i 0) (drop (i + 1) text) e))
      ∙ kept.so_far;
}

-- a quote stands first, and then there are others
behind_quote : (bs : List ℕ) → begins quote bs ≡ true → (c : ℕ) × (bs ≡ c ∷ drop 1 bs) × (quote c ≡ true)
behind_quote [] e = absurd cc
behind_quote (c ∷ bs) e = (c, refl, e)

pub kept_two : (text : List ℕ) (i : ℕ) → Kept text i → i < length text → quote (get_or text i 0) ≡ true → begins quote (drop (i + 1) text) ≡ true → Kept text (i + 2)
kept_two text i kept lt e f =
    let behind = behind_quote (drop (i + 1) text) f in
    let rest : drop 1 (drop (i + 1) text) ≡ drop (i + 2) text = drop-drop 1 (i + 1) text ∙ ap (λ (j : ℕ). drop j text) (omega arith) in
    let here : drop i text ≡ get_or text i 0 ∷ behind.0 ∷ drop (i + 2) text =
    first_of text i lt ∙ ap (λ (l : List ℕ). get_or text i 0 ∷ l) (behind.1 ∙ ap (λ (l : List ℕ). behind.0 ∷ l) rest) in
    record {
      within = omega (arith, ap length here, length-drop i text);
      so_far =
          sym (longer-more i 2 (get_or text i 0) (inside_of (drop (i + 2) text)) (two _ e))
          ∙ sym (ap (longer i) (ap inside_of here ∙ inside-pair (get_or text i 0) behind.0 (drop (i + 2) text) e behind.2))
          ∙ kept.so_far;
    }

pub kept_closed : (text : List ℕ) (i : ℕ) → Kept text i → i < length text → quote (get_or text i 0) ≡ true → begins quote (drop (i + 1) text) ≡ false → Some i ≡ inside_length text
kept_closed text i kept lt e f =
    let nothing : i ≡ i + 0 = omega arith in
    ap (λ (n : ℕ). Some n) nothing
    ∙ sym (ap (longer i) (ap inside_of (first_of text i lt) ∙ inside-end (get_or text i 0) (drop (i + 1) text) e f)) ∙ kept.so_far

pub kept_unclosed : (text : List ℕ) (i : ℕ) → Kept text i → length text ≤ i → None ≡ inside_length text
unfolding inside_of
kept_unclosed text i kept le = sym (ap (λ (l : List ℕ). longer i (inside_of l)) (nil_from_length (drop i text) (omega (arith, length-drop i text)))) ∙ kept.so_far
