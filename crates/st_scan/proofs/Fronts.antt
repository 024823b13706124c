-- The front of a text that has one, by its first byte and those behind it.
use Rattle.std.proofs.Common.{◌≡◌, ℕ, ◌≤◌, Bool, true, false, ◌&&◌, List, [], ◌∷◌, length, get_or, drop, refl, ap, arith}
use Rattle.st_scan.specs.Fronts.{front_of}

pub first_behind : (text : List ℕ) → 1 ≤ length text → get_or text 0 0 ∷ drop 1 text ≡ text
first_behind [] some = absurd (omega arith)
first_behind (b ∷ bs) some = refl

pub front_behind : (signs : Bool) (text : List ℕ) → 1 ≤ length text → front_of signs text ≡ front_of signs (get_or text 0 0 ∷ drop 1 text)
front_behind signs [] some = absurd (omega arith)
front_behind signs (b ∷ bs) some = refl

-- no sign stands here, or none may
pub no_sign : (x s : Bool) → x ≡ false → (x && s) ≡ false
no_sign x s e = ap (λ b. b && s) e

pub no_signs : (x s : Bool) → s ≡ false → (x && s) ≡ false
no_signs true s e = e
no_signs false s e = refl
