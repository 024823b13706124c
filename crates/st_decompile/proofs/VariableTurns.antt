-- The turns of what variables are called.
use Rattle.std.proofs.Common.{◌≡◌, ℕ, suc, zero, ◌+◌, List, [], ◌∷◌, ◌++◌, map, refl, sym, ap, ap₂, ◌∙◌, arith}
use Rattle.std.proofs.lemmas.List.{map-append}
use Rattle.st_scan.specs.declared.tree.Name.{Name}
use Rattle.st_scan.specs.Views.{NameView, name_view, names_view}
use Rattle.st_emit.specs.declared.instruction.InstructionOperand.{InstructionOperand}
use Rattle.st_emit.specs.declared.instruction.InstructionOperand.TheVariants.{Temporary}
use Rattle.st_expression_stack.specs.Choosing.{called}
use Rattle.st_decompile.specs.Back.{places_from}

pub places_behind : (first n : ℕ) (ps : List InstructionOperand) → places_from first n ps ≡ places_from first n [] ++ ps
places_behind first zero ps = refl
places_behind first (suc n) ps =
    places_behind first n (Temporary (first + n) ∷ ps) ∙ two (places_from first n []) (Temporary (first + n)) ps ∙ ap (λ (l : List InstructionOperand). l ++ ps) (sym (places_behind first n (Temporary (first + n) ∷ [])))
  where
    two : (a : List InstructionOperand) (p : InstructionOperand) (qs : List InstructionOperand) → a ++ p ∷ qs ≡ (a ++ p ∷ []) ++ qs
    two [] p qs = refl
    two (x ∷ a) p qs = ap (λ (l : List InstructionOperand). x ∷ l) (two a p qs)

pub places_push : (first n : ℕ) → places_from first (suc n) [] ≡ places_from first n [] ++ Temporary (first + n) ∷ []
places_push first n = places_behind first n (Temporary (first + n) ∷ [])

module _ (f : InstructionOperand → List ℕ) where
  own_called : InstructionOperand → NameView
  own_called p = called (f p)

  pub variables_turn : (first i number : ℕ) (ns new : List Name) (n : Name) → names_view ns ≡ map (λ p. called (f p)) (places_from first i []) → new ≡ ns ++ n ∷ [] → name_view n ≡ called (f (Temporary number)) → number ≡ first + i
      → names_view new ≡ map (λ p. called (f p)) (places_from first (i + 1) [])
  unfolding own_called
  variables_turn first i number ns new n before pushed is e =
      let more : suc i ≡ i + 1 = omega arith in
      ap names_view pushed ∙ map-append name_view ns (n ∷ [])
      ∙ ap₂ (λ (a : List NameView) (b : NameView). a ++ b ∷ []) before (is ∙ ap (λ (k : ℕ). called (f (Temporary k))) e)
      ∙ sym (map-append own_called (places_from first i []) (Temporary (first + i) ∷ []))
      ∙ ap (map own_called) (sym (places_push first i) ∙ ap (λ (k : ℕ). places_from first k []) more)
