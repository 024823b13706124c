-- The turns of reading bytes as instructions.
use Rattle.std.proofs.Common.{◌≡◌, ℕ, suc, ◌<◌, List, [], ◌∷◌, ◌++◌, drop, length, Option, Some, None, refl, sym, ap, ◌∙◌, append-nil, append_assoc, arith}
use Rattle.std.specs.Prelude.{option_map}
use Rattle.st_emit.specs.declared.instruction.Instruction.{Instruction}
use Rattle.st_resolved.specs.declared.reading.Found.{Found}
use Rattle.st_resolved.specs.Instructions.{on_some, instruction, steps_up}

pub steps_end : (f : ℕ) (done : List Instruction) (rest : List ℕ) → rest ≡ [] → option_map (λ (ss : List Instruction). done ++ ss) (steps_up f rest) ≡ Some done
steps_end f done rest e = ap (λ (bs : List ℕ). option_map (λ (ss : List Instruction). done ++ ss) (steps_up f bs)) e ∙ ap (λ (l : List Instruction). Some l) (append-nil done)

pub steps_short : (f : ℕ) (done : List Instruction) (rest : List ℕ) → f ≡ 0 → 0 < length rest → option_map (λ (ss : List Instruction). done ++ ss) (steps_up f rest) ≡ None
steps_short f done [] e h = absurd (omega (arith, h))
steps_short f done (b ∷ bs) e h = ap (λ (n : ℕ). option_map (λ (ss : List Instruction). done ++ ss) (steps_up n (b ∷ bs))) e

pub steps_none : (f m : ℕ) (done : List Instruction) (rest : List ℕ) → f ≡ suc m → 0 < length rest → instruction rest ≡ None → option_map (λ (ss : List Instruction). done ++ ss) (steps_up f rest) ≡ None
steps_none f m done [] k h e = absurd (omega (arith, h))
steps_none f m done (b ∷ bs) k h e =
    ap (λ (n : ℕ). option_map (λ (ss : List Instruction). done ++ ss) (steps_up n (b ∷ bs))) k
    ∙ ap (λ (o : Option Found). option_map (λ (ss : List Instruction). done ++ ss) (on_some o (λ x. option_map (λ (ss : List Instruction). x.step ∷ ss) (steps_up m (drop x.size (b ∷ bs)))))) e

moved : (done : List Instruction) (s : Instruction) (o : Option (List Instruction)) → option_map (λ (ss : List Instruction). (done ++ s ∷ []) ++ ss) o ≡ option_map (λ (ss : List Instruction). done ++ ss) (option_map (λ (ss : List Instruction). s ∷ ss) o)
moved done s None = refl
moved done s (Some ss) = ap (λ (l : List Instruction). Some l) (append_assoc done (s ∷ []) ss)

pub steps_turn : (f m : ℕ) (done : List Instruction) (rest : List ℕ) (x : Found) → f ≡ suc m → 0 < length rest → instruction rest ≡ Some x
    → option_map (λ (ss : List Instruction). (done ++ x.step ∷ []) ++ ss) (steps_up m (drop x.size rest)) ≡ option_map (λ (ss : List Instruction). done ++ ss) (steps_up f rest)
steps_turn f m done [] x k h e = absurd (omega (arith, h))
steps_turn f m done (b ∷ bs) x k h e =
    moved done x.step (steps_up m (drop x.size (b ∷ bs)))
    ∙ sym (ap (λ (n : ℕ). option_map (λ (ss : List Instruction). done ++ ss) (steps_up n (b ∷ bs))) k
    ∙ ap (λ (o : Option Found). option_map (λ (ss : List Instruction). done ++ ss) (on_some o (λ y. option_map (λ (ss : List Instruction). y.step ∷ ss) (steps_up m (drop y.size (b ∷ bs)))))) e)
