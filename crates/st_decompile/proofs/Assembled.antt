-- The method that is read, of its parts.
use Rattle.std.proofs.Common.{◌≡◌, ℕ, suc, List, Option, Some, None, refl, sym, ap, ap₂, ◌∙◌}
use Rattle.st_scan.specs.declared.token.Signed.{Signed}
use Rattle.st_scan.specs.Views.{NameView, StatementsView, MethodView}
use Rattle.st_emit.specs.declared.instruction.InstructionOperand.{InstructionOperand}
use Rattle.st_emit.specs.declared.instruction.Instruction.{Instruction}
use Rattle.st_emit.specs.Literals.{LiteralView}
use Rattle.st_code.specs.Methods.{PartsView}
use Rattle.st_resolved.specs.Instructions.{on_some, steps_of}
use Rattle.st_expression_stack.specs.Items.{Item, most_high, statements_of}
use Rattle.st_decompile.specs.Reading.{region}
use Rattle.st_decompile.specs.Whole.{method_of, candidate}

abbrev method_with : List ℕ → (arguments temporaries : List NameView) → Option Signed → StatementsView → MethodView
method_with s a t p b = record { selector = s; arguments = a; temporaries = t; primitive = p; body = b }

pub method_is : (s s' : List ℕ) (a a' t t' : List NameView) (p p' : Option Signed) (b b' : StatementsView) → s ≡ s' → a ≡ a' → t ≡ t' → p ≡ p' → b ≡ b' → method_with s a t p b ≡ method_with s' a' t' p' b'
method_is s s' a a' t t' p p' b b' e f g h i =
    ap₂ (λ (x : List ℕ) (y : List NameView). method_with x y t p b) e f ∙ ap₂ (λ (x : List NameView) (y : Option Signed). method_with s' a' x y b) g h ∙ ap (method_with s' a' t' p') i

on_both : {A B C : Type 0} (o : Option A) (f : A → Option B) (g : B → Option C) → on_some (on_some o f) g ≡ on_some o (λ x. on_some (f x) g)
on_both None f g = refl
on_both (Some x) f g = refl

pub candidate_by : (f : InstructionOperand → List ℕ) (p : PartsView) (literals : List LiteralView) (bytes : List ℕ) (items : Option (List Item)) → literals ≡ p.literals → bytes ≡ p.bytes → items ≡ on_some (steps_of bytes) (λ ss. region f literals (suc most_high) 0 ss)
    → on_some items (λ xs. Some (method_of f p (statements_of xs))) ≡ candidate f p
candidate_by f p literals bytes items e b h =
    ap (λ (o : Option (List Item)). on_some o (λ xs. Some (method_of f p (statements_of xs))))
    (h ∙ ap₂ (λ (ls : List LiteralView) (bs : List ℕ). on_some (steps_of bs) (λ ss. region f ls (suc most_high) 0 ss)) e b)
    ∙ on_both (steps_of p.bytes) (λ (ss : List Instruction). region f p.literals (suc most_high) 0 ss) (λ (xs : List Item). Some (method_of f p (statements_of xs)))
