-- Instructions are cut by their bytes.
use Rattle.std.proofs.Common.{◌≡◌, ℕ, ◌+◌, ◌-◌, ◌==◌, Bool, false, List, [], ◌∷◌, ◌++◌, refl, ap, ◌∙◌, arith, ne_eqb}
use Rattle.std.specs.Prelude.{if◌then◌else◌}
use Rattle.st_emit.specs.declared.instruction.Instruction.{Instruction}
use Rattle.st_emit.specs.Steps.{size, size_of}
use Rattle.st_resolved.proofs.Sizes.{step_some}
use Rattle.st_decompile.specs.Reading.{front, behind}

pub not_none : (s : Instruction) (n : ℕ) → size_of s + n == 0 ≡ false
not_none s n = ne_eqb (size_of s + n) 0 (λ e. absurd (omega (arith, e, step_some s)))

pub front_is : (a b : List Instruction) → front (size a) (a ++ b) ≡ a
front_is [] [] = refl
front_is [] (s ∷ b) = refl
front_is (s ∷ a) b =
    let less : size_of s + size a - size_of s ≡ size a = omega arith in
    ap (λ (c : Bool). if c then [] else s ∷ front (size_of s + size a - size_of s) (a ++ b)) (not_none s (size a))
    ∙ ap (λ (n : ℕ). s ∷ front n (a ++ b)) less ∙ ap (λ (l : List Instruction). s ∷ l) (front_is a b)

pub behind_is : (a b : List Instruction) → behind (size a) (a ++ b) ≡ b
behind_is [] [] = refl
behind_is [] (s ∷ b) = refl
behind_is (s ∷ a) b =
    let less : size_of s + size a - size_of s ≡ size a = omega arith in
    ap (λ (c : Bool). if c then s ∷ (a ++ b) else behind (size_of s + size a - size_of s) (a ++ b)) (not_none s (size a))
    ∙ ap (λ (n : ℕ). behind n (a ++ b)) less ∙ behind_is a b
