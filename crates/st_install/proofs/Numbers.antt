-- Pointers and bytes of literals.
use Rattle.std.proofs.Common.{◌≡◌, ℕ, ◌+◌, ◌*◌, ◌<◌, ◌≤◌, zero, suc, List, [], ◌∷◌, ◌++◌, Bool, true, false, refl, sym, ap, ◌∙◌, arith}
use Rattle.std.specs.Prelude.{◌==◌, ◌/◌, ◌%◌, nat_lt, if◌then◌else◌}
use Rattle.std.proofs.lemmas.Bool.Decides.{nat_tests}
use Rattle.std.proofs.lemmas.List.{append_assoc}
use Rattle.st_model.specs.Values.{Small, Ref, value_of}
use Rattle.st_model.specs.Primitives.{bytes_within}
use Rattle.st_frames.proofs.Counted.{one_byte, more_bytes}

odd_if : (n w : ℕ) (b : Bool) → (w % 2 == 1) ≡ b → w ≡ 2 * n + 1 → (if b then Small (w / 2) else Ref (w / 2)) ≡ Small n
odd_if n w true e q = let z : w / 2 ≡ n = omega (arith, q) in ap Small z
odd_if n w false e q = let z : w % 2 ≡ 1 = omega (arith, q) in absurd (grind (arith, nat_tests))

pub small_bits : (n w : ℕ) → w ≡ 2 * n + 1 → value_of w ≡ Small n
unfolding value_of
small_bits n w q = odd_if n w (w % 2 == 1) refl q

even_if : (n w : ℕ) (b : Bool) → (w % 2 == 1) ≡ b → w ≡ n * 2 → (if b then Small (w / 2) else Ref (w / 2)) ≡ Ref n
even_if n w false e q = let z : w / 2 ≡ n = omega (arith, q) in ap Ref z
even_if n w true e q = let z : w % 2 ≡ 0 = omega (arith, q) in absurd (grind (arith, nat_tests))

pub even_value : (n w : ℕ) → w ≡ n * 2 → value_of w ≡ Ref n
unfolding value_of
even_value n w q = even_if n w (w % 2 == 1) refl q

-- below this number are those of one byte more than so many
abbrev pub byte_limit : ℕ → ℕ
byte_limit zero = 256
byte_limit (suc n) = 256 * byte_limit n

-- the bytes so far, and those of what is left, of which there are few enough
pub record LeftBytes (size : ℕ) (bytes : List ℕ) (left : ℕ) : Type 0 where
  pub more : ℕ
  pub small : left < byte_limit more
  pub same : bytes_within 16 size ≡ bytes ++ bytes_within (suc more) left

pub bytes_begin : (size : ℕ) (bytes : List ℕ) → size < byte_limit 15 → bytes ≡ [] → LeftBytes size bytes size
bytes_begin size bytes l q = record { more = 15; small = l; same = ap (λ xs. xs ++ bytes_within 16 size) (sym q) }

pub bytes_end : (size : ℕ) (bytes : List ℕ) (left : ℕ) → left < 256 → LeftBytes size bytes left → bytes ++ left ∷ [] ≡ bytes_within 16 size
bytes_end size bytes left l h = ap (λ xs. bytes ++ xs) (sym (one_byte h.more left (nat_lt left 256) refl l)) ∙ sym h.same

fewer : (left p : ℕ) → left < 256 * p → left / 256 < p
fewer left p l = omega arith

one_more : (size : ℕ) (bytes : List ℕ) (left more : ℕ) → 256 ≤ left → left < byte_limit more → bytes_within 16 size ≡ bytes ++ bytes_within (suc more) left → LeftBytes size (bytes ++ left % 256 ∷ []) (left / 256)
one_more size bytes left zero l small same = absurd (omega arith)
one_more size bytes left (suc more) l small same =
    record {
      more = more;
      small = fewer left (byte_limit more) small;
      same = same ∙ ap (λ xs. bytes ++ xs) (more_bytes (suc more) left (nat_lt left 256) refl l) ∙ sym (append_assoc bytes (left % 256 ∷ []) (bytes_within (suc more) (left / 256)));
    }

pub bytes_more : (size : ℕ) (bytes : List ℕ) (left : ℕ) → 256 ≤ left → LeftBytes size bytes left → LeftBytes size (bytes ++ left % 256 ∷ []) (left / 256)
bytes_more size bytes left l h = one_more size bytes left h.more l h.small h.same
