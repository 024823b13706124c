-- Texts with their marks doubled, piece by piece.
use Rattle.std.proofs.Common.{◌≡◌, ℕ, ◌+◌, ◌-◌, ◌<◌, ◌≤◌, true, false, List, [], ◌∷◌, ◌++◌, length, take, drop, get_or, set, refl, sym, ap, ◌∙◌, arith, add-one, append_assoc, inl, inr, length-append}
use Rattle.std.specs.Prelude.{◌==◌, ◌*◌, Option, if◌then◌else◌}
use Rattle.std.proofs.lemmas.List.{length-set, get_or_append_left, get_or-append_right}
use Rattle.std.proofs.lemmas.Bool.{cases_lt}
use Rattle.std.proofs.Math.Seq.{take-suc, take-suc-set, take-add}
use Rattle.st_host.specs.Files.{bytes_of, IsWritten}
use Rattle.st_chunk.specs.Texts.{mark, doubled}
use Rattle.st_chunk.proofs.Joined.{doubled-one, doubled-append}

doubled-more : (piece : List ℕ) (i : ℕ) → i < length piece → doubled (take (i + 1) piece) ≡ doubled (take i piece) ++ doubled (get_or piece i 0 ∷ [])
doubled-more piece i less = rw add-one (ap doubled (take-suc piece i 0 less) ∙ doubled-append (take i piece) (get_or piece i 0 ∷ []))

put : (buffer : List ℕ) (used b : ℕ) → used < length buffer → take (used + 1) (set buffer used b) ≡ take used buffer ++ b ∷ []
put buffer used b less = rw add-one (take-suc-set buffer used b less)

pub one_byte : (buffer piece : List ℕ) (used i : ℕ) → used < length buffer → i < length piece → take used buffer ≡ doubled (take i piece) → (get_or piece i 0 == mark) ≡ false
    → take (used + 1) (set buffer used (get_or piece i 0)) ≡ doubled (take (i + 1) piece)
one_byte buffer piece used i room less so_far other =
    let b = get_or piece i 0 in
    put buffer used b room
    ∙ ap (λ (x : List ℕ). x ++ b ∷ []) so_far
    ∙ sym (doubled-more piece i less ∙ ap (λ (x : List ℕ). doubled (take i piece) ++ x) (doubled-one b other))

pub two_bytes : (buffer piece : List ℕ) (used i : ℕ) → used + 1 < length buffer → i < length piece → take used buffer ≡ doubled (take i piece) → (get_or piece i 0 == mark) ≡ true
    → take (used + 1 + 1) (set (set buffer used (get_or piece i 0)) (used + 1) (get_or piece i 0)) ≡ doubled (take (i + 1) piece)
two_bytes buffer piece used i room less so_far is =
    let b = get_or piece i 0 in
    let two : doubled (b ∷ []) ≡ b ∷ b ∷ [] = twice b is in
    put (set buffer used b) (used + 1) b (omega (arith, length-set buffer used b))
    ∙ ap (λ (x : List ℕ). x ++ b ∷ []) (put buffer used b (omega arith))
    ∙ append_assoc (take used buffer) (b ∷ []) (b ∷ [])
    ∙ ap (λ (x : List ℕ). x ++ b ∷ b ∷ []) so_far
    ∙ sym (doubled-more piece i less ∙ ap (λ (x : List ℕ). doubled (take i piece) ++ x) two)
  where
    twice : (b : ℕ) → (b == mark) ≡ true → doubled (b ∷ []) ≡ b ∷ b ∷ []
    twice b e = rw e refl

-- a piece more of a text
pub doubled-piece : (text : List ℕ) (done end : ℕ) → done ≤ end → doubled (take end text) ≡ doubled (take done text) ++ doubled (take (end - done) (drop done text))
doubled-piece text done end le =
    let sum : end ≡ done + (end - done) = omega arith in
    ap (λ n. doubled (take n text)) sum
    ∙ ap doubled (take-add done (end - done) text)
    ∙ doubled-append (take done text) (take (end - done) (drop done text))

-- bytes written behind bytes
pub written_more : (at : ℕ) (xs ys : List ℕ) (a b c : Option (List ℕ)) → IsWritten at xs a b → IsWritten (at + length xs) ys b c → IsWritten at (xs ++ ys) a c
written_more at xs ys a b c first second = record {
  there = second.there;
  long = omega (arith, first.long, second.long, length-append xs ys);
  inside = λ i less. elim (cases_lt i (length xs)) [
    | inl before ↦ second.outside (at + i) (inl (omega arith)) ∙ first.inside i before ∙ sym (get_or_append_left xs ys 0 i before)
    | inr behind ↦
        let place : at + i ≡ at + length xs + (i - length xs) = omega arith in
        ap (λ n. get_or (bytes_of c) n 0) place
        ∙ second.inside (i - length xs) (omega (arith, length-append xs ys))
        ∙ sym (get_or-append_right xs ys (length xs) i 0 refl behind)
  ];
  outside = λ i out. elim out [
    | inl below ↦ second.outside i (inl (omega arith)) ∙ first.outside i (inl below)
    | inr above ↦
        let far = length-append xs ys in
        second.outside i (inr (omega arith)) ∙ first.outside i (inr (omega arith))
  ];
}

pub doubled-short : (text : List ℕ) → length (doubled text) ≤ 2 * length text
doubled-short [] = omega arith
doubled-short (b ∷ text) =
    let more = doubled-short text in
    elim (b == mark) as (λ t. length (if t then b ∷ b ∷ doubled text else b ∷ doubled text) ≤ 2 * length (b ∷ text)) [ true ↦ omega arith | false ↦ omega arith ]
