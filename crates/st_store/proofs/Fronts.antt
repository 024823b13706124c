-- The first bytes of a roots file tell what the file chooses, or where it is wrong.
use Rattle.std.proofs.Common.{◌≡◌, inl, inr, ⊎_elim, ℕ, ◌+◌, ◌%◌, ◌<◌, ◌≤◌, min, List, length, take, drop, slice_index, Option, Some, Bool, true, false, IsTrue, unwrap_or, refl, sym, subst, ◌∙◌, ap, arith, lit<, length-take}
use Rattle.std.proofs.Math.Nat.{mod-lt}
use Rattle.std.proofs.lemmas.List.{get_or-take, get_or-drop, get_or_past}
use Rattle.std.proofs.lemmas.Bool.{cases_lt}
use Rattle.std.specs.Prelude.{◌↔◌, None, IsSome, MatchOption, is_some, not}
use Rattle.st_host.specs.Files.{bytes_of, length_of, IsRead}
use Rattle.st_store.specs.Roots.{HasLetters, place, root_at, chosen_number, Chooses}
use Rattle.st_store.specs.Refusals.{IsWrongLetter, IsWrongFront}
use Rattle.st_store.specs.declared.root.Root.{Root}
use Rattle.st_store.proofs.Bytes.{root_same}

-- a file that has a length is there
pub is_there : (l : Option ℕ) (file : Option (List ℕ)) → l ≡ length_of file → IsSome l → IsSome file
is_there l None is some = subst IsSome is some
is_there l (Some bytes) is some = refl

-- the length of a file, and 0 where it is absent
pub length_read : (l : Option ℕ) (now was : Option (List ℕ)) → l ≡ length_of now → now ≡ was → unwrap_or l 0 ≡ length (bytes_of was)
length_read l now None is same = ap (λ (x : Option ℕ). unwrap_or x 0) (is ∙ ap length_of same)
length_read l now (Some bytes) is same = ap (λ (x : Option ℕ). unwrap_or x 0) (is ∙ ap length_of same)

module _ (n : ℕ) (file : List ℕ) (k : ℕ) (into : List ℕ) (long : length into ≡ n) (read : IsRead file 0 k into) where
  -- the bytes that were read are those of the file
  read_same : (i : ℕ) → i < n → slice_index (take k into) i ≡ slice_index file i
  read_same i low = ⊎_elim
      (λ within.
      let there : 0 + i ≡ i = omega arith in
      ap (λ (x : List ℕ). slice_index x i) read.bytes ∙ get_or-take k (drop 0 file) i 0 within ∙ get_or-drop 0 file i 0 ∙ ap (λ (j : ℕ). slice_index file j) there)
      (λ past. get_or_past (take k into) i 0 (omega (arith, length-take k into, read.count)) ∙ sym (get_or_past file i 0 (omega (arith, read.count))))
      (cases_lt i k)

module _ (file : List ℕ) (k : ℕ) (into : List ℕ) (long : length into ≡ 8) (read : IsRead file 0 k into) where
  -- whether the file has the letters, as the bytes read tell
  pub letters_found : (wrong : Option ℕ) (there : Bool) → MatchOption wrong (HasLetters (take k into)) (IsWrongLetter (take k into)) → is_some wrong ≡ not there
      → IsTrue there ↔ HasLetters file
  letters_found None true letters is = (λ so i low. sym (read_same 8 file k into long read i low) ∙ letters i low, λ has. refl)
  letters_found None false letters is = (λ so. cc, λ has. cc)
  letters_found (Some at) true wrong is = (λ so. cc, λ has. refl)
  letters_found (Some at) false wrong is = (λ so. cc, λ has. absurd (wrong.wrong (read_same 8 file k into long read at wrong.below ∙ has at wrong.below)))

module _ (file : List ℕ) (k : ℕ) (into : List ℕ) (long : length into ≡ 80) (read : IsRead file 0 k into) where
  front_long : length (take k into) ≡ min 80 (length file)
  front_long = omega (arith, length-take k into, read.count)

  same : (i : ℕ) → i < 80 → slice_index (take k into) i ≡ slice_index file i
  same = read_same 80 file k into long read

  pub chooses_front : (j : ℕ) (root : Root) (f : Option (List ℕ)) → bytes_of f ≡ file → j ≤ 1 → Chooses j root (Some (take k into)) → Chooses j root f
  chooses_front j root f is one chosen =
      let each : (i : ℕ) → i < 80 → slice_index (bytes_of f) i ≡ slice_index (take k into) i = λ i low. ap (λ (x : List ℕ). slice_index x i) is ∙ sym (same i low) in
      record {
        whole = record { long = omega (arith, chosen.whole.long, front_long, ap length is); letters = λ i low. each i (omega arith) ∙ chosen.whole.letters i low };
        gate = ap (λ (x : ℕ). x % 2) (each 8 (lit< tt)) ∙ chosen.gate;
        names = root_same (place j) (bytes_of f) (take k into) (λ i l u. each i (omega arith)) ∙ chosen.names;
      }

  pub wrong_front : (at : ℕ) → IsWrongFront (take k into) at → IsWrongFront file at
  wrong_front at (inl letter) = inl (record {
    below = letter.below;
    right = λ i low. sym (same i (omega (arith, letter.below))) ∙ letter.right i low;
    wrong = λ is. letter.wrong (same at (omega (arith, letter.below)) ∙ is);
  })
  wrong_front at (inr (inl early)) = inr (inl (
    λ i low. sym (same i (omega arith)) ∙ early.0 i low,
    omega (arith, early.1, front_long),
    omega (arith, early.2, early.1, front_long),
  ))
  wrong_front at (inr (inr slot)) =
      let gate : chosen_number (take k into) ≡ chosen_number file = ap (λ (x : ℕ). x % 2) (same 8 (lit< tt)) in
      let small : slice_index (take k into) 8 % 2 < 2 = mod-lt (slice_index (take k into) 8) (lit< tt) in
      let root : root_at at (take k into) ≡ root_at at file = root_same at (take k into) file (λ i l u. same i (omega (arith, slot.1, small))) in
      inr (inr (
        record { long = omega (arith, slot.0.long, front_long); letters = λ i low. sym (same i (omega arith)) ∙ slot.0.letters i low },
        slot.1 ∙ ap place gate,
        subst (λ (r : Root). 3 < r.slot) root slot.2,
      ))
