-- Numbers that are read back from bytes.
use Rattle.std.proofs.Common.{◌≡◌, ℕ, zero, suc, ◌+◌, ◌*◌, ◌/◌, ◌%◌, ◌<◌, ◌≤◌, ◌⊎◌, inl, inr, List, [], ◌∷◌, ◌++◌, length, get_or, refl, ap, ◌∙◌, arith, length-append}
use Rattle.std.specs.List.{flat_map}
use Rattle.std.proofs.lemmas.Bool.{cases_lt}
use Rattle.std.proofs.lemmas.List.{get_or-append-add, get_or_append_left}
use Rattle.st_model.specs.Image.{number16}
use Rattle.st_writer.specs.Written.{word_bytes, joined}

-- a word of two bytes
pub halves : (w : ℕ) → 256 * (w / 256) + w % 256 ≡ w
halves w = omega arith

-- a number past a part, and within one

pub number16-after : (xs ys : List ℕ) (n i : ℕ) → length xs ≡ n → number16 (xs ++ ys) (n + i) ≡ number16 ys i
unfolding number16
number16-after xs ys n i e =
    let a : n + i ≡ length xs + i = omega arith in
    let b : n + i + 1 ≡ length xs + (i + 1) = omega arith in
    λ k. 256 * (ap (λ (j : ℕ). get_or (xs ++ ys) j 0) a ∙ get_or-append-add xs ys i 0) k
    + (ap (λ (j : ℕ). get_or (xs ++ ys) j 0) b ∙ get_or-append-add xs ys (i + 1) 0) k

pub number16-within : (xs ys : List ℕ) (i : ℕ) → i + 2 ≤ length xs → number16 (xs ++ ys) i ≡ number16 xs i
unfolding number16
number16-within xs ys i inside =
    λ k. 256 * get_or_append_left xs ys 0 i (omega arith) k + get_or_append_left xs ys 0 (i + 1) (omega arith) k

pub number16-word : (w : ℕ) (rest : List ℕ) → number16 (word_bytes w ++ rest) 0 ≡ w
unfolding number16
number16-word w rest = halves w

-- words one after the other

pub length-words : (ws : List ℕ) → length (flat_map word_bytes ws) ≡ 2 * length ws
length-words [] = refl
length-words (w ∷ ws) = let e = length-words ws in omega arith

pub words_back : (ws rest : List ℕ) (i : ℕ) → i < length ws → number16 (flat_map word_bytes ws ++ rest) (2 * i) ≡ get_or ws i 0
words_back [] rest i inside = absurd (omega arith)
words_back (w ∷ ws) rest zero inside = number16-word w (flat_map word_bytes ws ++ rest)
words_back (w ∷ ws) rest (suc i) inside =
    let e : 2 * suc i ≡ 2 + 2 * i = omega arith in
    ap (number16 (word_bytes w ++ (flat_map word_bytes ws ++ rest))) e
    ∙ number16-after (word_bytes w) (flat_map word_bytes ws ++ rest) 2 (2 * i) refl
    ∙ words_back ws rest i (omega arith)

-- pieces end to end

pub joined_next : (f : ℕ → List ℕ) (n : ℕ) → joined f (n + 1) ≡ joined f n ++ f n
joined_next f n = let e : n + 1 ≡ suc n = omega arith in ap (joined f) e

pub joined_longer : (f : ℕ → List ℕ) (k n : ℕ) → k < n → length (joined f k) + length (f k) ≤ length (joined f n)
joined_longer f k zero k_in = absurd (omega arith)
joined_longer f k (suc n) k_in = last (cases_lt k n) (joined_longer f k n)
  where
    last : ((k < n) ⊎ (n ≤ k)) → (k < n → length (joined f k) + length (f k) ≤ length (joined f n))
        → length (joined f k) + length (f k) ≤ length (joined f n ++ f n)
    last (inl e) more = let a = more e in let l = length-append (joined f n) (f n) in omega arith
    last (inr e) more = let a : k ≡ n = omega arith in let l = length-append (joined f n) (f n) in rw a (omega arith)

-- byte i of piece k
pub joined_at : (f : ℕ → List ℕ) (n k i : ℕ) → k < n → i < length (f k) → get_or (joined f n) (length (joined f k) + i) 0 ≡ get_or (f k) i 0
joined_at f zero k i k_in i_in = absurd (omega arith)
joined_at f (suc n) k i k_in i_in = last (cases_lt k n) (λ e. joined_at f n k i e i_in)
  where
    last : ((k < n) ⊎ (n ≤ k)) → (k < n → get_or (joined f n) (length (joined f k) + i) 0 ≡ get_or (f k) i 0)
        → get_or (joined f n ++ f n) (length (joined f k) + i) 0 ≡ get_or (f k) i 0
    last (inl e) more = get_or_append_left (joined f n) (f n) 0 (length (joined f k) + i) (let a = joined_longer f k n e in omega arith) ∙ more e
    last (inr e) more = let a : k ≡ n = omega arith in rw a (get_or-append-add (joined f n) (f n) i 0)

-- the word at byte i of piece k
pub joined_word : (f : ℕ → List ℕ) (n k i at : ℕ) → k < n → i + 2 ≤ length (f k) → length (joined f k) ≡ at → number16 (joined f n) (at + i) ≡ number16 (f k) i
unfolding number16
joined_word f n k i at k_in i_in e =
    let a : at + i ≡ length (joined f k) + i = omega arith in
    let b : at + i + 1 ≡ length (joined f k) + (i + 1) = omega arith in
    λ j. 256 * (ap (λ (x : ℕ). get_or (joined f n) x 0) a ∙ joined_at f n k i k_in (omega arith)) j
    + (ap (λ (x : ℕ). get_or (joined f n) x 0) b ∙ joined_at f n k (i + 1) k_in (omega arith)) j
