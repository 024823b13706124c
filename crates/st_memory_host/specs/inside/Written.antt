-- The bytes of a file after a write and after a cut.
use Rattle.std.specs.Prelude.{◌≡◌, ℕ, ◌+◌, ◌-◌, ◌<◌, List, ◌++◌, length, take, drop, min, replicate, slice_index, Option, Some, refl}
use Rattle.std.proofs.Common.{⊎_elim, inl, inr, sym, ◌∙◌, ap, arith, length-append, length-drop, length-take}
use Rattle.std.proofs.lemmas.List.{get_or_append_left, get_or-append_right, get_or-take, get_or-drop, get_or-replicate, get_or_past, length-replicate}
use Rattle.std.proofs.lemmas.Bool.{cases_lt}
use Rattle.st_host.specs.Files.{bytes_of, IsWritten, IsCut}
use Rattle.st_host.specs.Stops.{TornByWrite, TornByCut}

-- these bytes written at a place, with zero bytes up to it
abbrev pub written : ℕ → List ℕ → List ℕ → List ℕ
written at bytes old = take at old ++ (replicate (at - length old) 0 ++ (bytes ++ drop (at + length bytes) old))

-- the same cut to a length, or with zero bytes added up to it
abbrev pub resized : ℕ → List ℕ → List ℕ
resized len old = take len old ++ replicate (len - length old) 0

zeros : (n : ℕ) → length (replicate {A = ℕ} n 0) ≡ n
zeros n = length-replicate {A = ℕ} n 0

module _ (at : ℕ) (old tail : List ℕ) where
  -- the first part is as long as the place says
  past_front : (i : ℕ) → slice_index (take at old ++ (replicate (at - length old) 0 ++ tail)) (at + i) ≡ slice_index tail i
  past_front i =
      let z : List ℕ = replicate (at - length old) 0 in
      let m = min at (length old) in
      let there : at + i - m - (at - length old) ≡ i = omega arith in
      get_or-append_right (take at old) (z ++ tail) m (at + i) 0 (length-take at old) (omega arith)
      ∙ get_or-append_right z tail (at - length old) (at + i - m) 0 (zeros (at - length old)) (omega arith)
      ∙ ap (λ (k : ℕ). slice_index tail k) there

  -- the first part is that of the file
  in_front : (i : ℕ) → i < at → slice_index (take at old ++ (replicate (at - length old) 0 ++ tail)) i ≡ slice_index old i
  in_front i less =
      let z : List ℕ = replicate (at - length old) 0 in
      let m = min at (length old) in
      ⊎_elim
      (λ inside. get_or_append_left (take at old) (z ++ tail) 0 i (omega (arith, length-take at old)) ∙ get_or-take at old i 0 less)
      (λ past.
      get_or-append_right (take at old) (z ++ tail) m i 0 (length-take at old) (omega arith)
      ∙ get_or_append_left z tail 0 (i - m) (omega (arith, zeros (at - length old)))
      ∙ get_or-replicate (at - length old) (i - m) 0 0 (omega arith)
      ∙ sym (get_or_past old i 0 past))
      (cases_lt i (length old))

pub written_is : (at : ℕ) (bytes : List ℕ) (old : Option (List ℕ)) → IsWritten at bytes old (Some (written at bytes (bytes_of old)))
written_is at bytes file =
    let old = bytes_of file in
    let n = length bytes in
    let rest = drop (at + n) old in
    let z : List ℕ = replicate (at - length old) 0 in
    record {
      there = refl;
      long = omega (arith, length-take at old, zeros (at - length old), length-drop (at + n) old, length-append bytes rest, length-append z (bytes ++ rest), length-append (take at old) (z ++ (bytes ++ rest)));
      inside = λ i less. past_front at old (bytes ++ rest) i ∙ get_or_append_left bytes rest 0 i less;
      outside = λ i out. ⊎_elim
          (λ before. in_front at old (bytes ++ rest) i before)
          (λ after.
          let there : at + (i - at) ≡ i = omega arith in
          let same : at + n + (i - at - n) ≡ i = omega arith in
          ap (λ (k : ℕ). slice_index (written at bytes old) k) (sym there)
          ∙ past_front at old (bytes ++ rest) (i - at)
          ∙ get_or-append_right bytes rest n (i - at) 0 refl (omega arith)
          ∙ get_or-drop (at + n) old (i - at - n) 0
          ∙ ap (λ (k : ℕ). slice_index old k) same)
          out;
    }

pub resized_is : (len : ℕ) (old : Option (List ℕ)) → IsCut len old (Some (resized len (bytes_of old)))
resized_is len file =
    let old = bytes_of file in
    let z : List ℕ = replicate (len - length old) 0 in
    let m = min len (length old) in
    record {
      there = refl;
      long = omega (arith, length-take len old, zeros (len - length old), length-append (take len old) z);
      same = λ i less. ⊎_elim
          (λ inside. get_or_append_left (take len old) z 0 i (omega (arith, length-take len old)) ∙ get_or-take len old i 0 less)
          (λ past.
          get_or-append_right (take len old) z m i 0 (length-take len old) (omega arith)
          ∙ get_or-replicate (len - length old) (i - m) 0 0 (omega arith)
          ∙ sym (get_or_past old i 0 past))
          (cases_lt i (length old));
    }

-- What a write or a cut makes of a file is one of the states that a stop may leave.
pub written_torn : (at : ℕ) (bytes : List ℕ) (old : Option (List ℕ)) → TornByWrite old at (length bytes) old (Some (written at bytes (bytes_of old)))
written_torn at bytes old =
    let is = written_is at bytes old in
    record { absent = λ none. cc; shortest = omega (arith, is.long); longest = omega (arith, is.long); same = λ i new was read out. is.outside i out }

pub resized_torn : (len : ℕ) (old : Option (List ℕ)) → TornByCut old len old (Some (resized len (bytes_of old)))
resized_torn len old =
    let is = resized_is len old in
    record { absent = λ none. cc; shortest = omega (arith, is.long); longest = omega (arith, is.long); same = λ i new was read out. is.same i (omega (arith, is.long, new)) }

-- What a write of some first bytes makes of a file is one of the states that a stop within the whole may leave.
pub begun_torn : (at : ℕ) (bytes : List ℕ) (done : ℕ) (old : Option (List ℕ)) → TornByWrite old at (length bytes) old (Some (written at (take done bytes) (bytes_of old)))
begun_torn at bytes done old =
    let is = written_is at (take done bytes) old in
    let less = length-take done bytes in
    record {
      absent = λ none. cc;
      shortest = omega (arith, is.long, less);
      longest = omega (arith, is.long, less);
      same = λ i new was read out. is.outside i (⊎_elim (λ before. inl before) (λ behind. inr (omega (arith, behind, less))) out);
    }
