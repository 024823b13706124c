-- The turns of reading: instructions are cut by their bytes, and each is done or passed.
use Rattle.std.proofs.Common.{◌≡◌, ℕ, zero, suc, ◌+◌, ◌-◌, ◌<◌, ◌==◌, Bool, true, false, List, [], ◌∷◌, ◌++◌, map, take, drop, length, Option, Some, None, refl, sym, ap, ap₂, ◌∙◌, subst, arith}
use Rattle.std.specs.Prelude.{if◌then◌else◌}
use Rattle.st_emit.specs.declared.instruction.InstructionOperand.{InstructionOperand}
use Rattle.st_emit.specs.declared.instruction.Instruction.{Instruction}
use Rattle.st_emit.specs.Steps.{size_of}
use Rattle.st_emit.specs.Literals.{LiteralView}
use Rattle.st_resolved.specs.Instructions.{on_some}
use Rattle.st_expression_stack.specs.declared.item.Item.{Item as KeptItem}
use Rattle.st_expression_stack.specs.Items.{Item, Acted}
use Rattle.st_decompile.specs.Reading.{front, behind, act, run, region}
use Rattle.st_expression_stack.specs.inside.Stacks.{stack_view, acted_by}

pub front_none : (ss : List Instruction) → front 0 ss ≡ []
front_none [] = refl
front_none (s ∷ ss) = refl

pub front_turn : (d : ℕ) (s : Instruction) (ss : List Instruction) → (d == 0) ≡ false → front d (s ∷ ss) ≡ s ∷ front (d - size_of s) ss
front_turn d s ss e = ap (λ (b : Bool). if b then [] else s ∷ front (d - size_of s) ss) e

pub behind_none : (ss : List Instruction) → behind 0 ss ≡ ss
behind_none [] = refl
behind_none (s ∷ ss) = refl

pub behind_turn : (d : ℕ) (s : Instruction) (ss : List Instruction) → (d == 0) ≡ false → behind d (s ∷ ss) ≡ behind (d - size_of s) ss
behind_turn d s ss e = ap (λ (b : Bool). if b then s ∷ ss else behind (d - size_of s) ss) e

module _ (name_of : InstructionOperand → List ℕ) (literals : List LiteralView) (inner : ℕ → List Instruction → Option (List Item)) where
  -- what is left gives what the whole gives
  abbrev pub Left : ℕ → ℕ → List Instruction → List Item → Option (List Item) → Type 0
  Left skip at ss xs whole = run name_of literals inner skip at ss xs ≡ whole

  pub passed_turn : (skip at : ℕ) (s : Instruction) (ss : List Instruction) (xs : List Item) (whole : Option (List Item)) → (skip == 0) ≡ false → Left skip at (s ∷ ss) xs whole → Left (skip - size_of s) (at + size_of s) ss xs whole
  passed_turn skip at s ss xs whole e h =
      sym (ap (λ (b : Bool). if b then on_some (act name_of literals inner s at (at + size_of s) ss xs) (λ a. run name_of literals inner a.skip (at + size_of s) ss a.items) else run name_of literals inner (skip - size_of s) (at + size_of s) ss xs) e) ∙ h

  act_turn : (skip at : ℕ) (s : Instruction) (ss : List Instruction) (xs : List Item) (whole : Option (List Item)) → (skip == 0) ≡ true → Left skip at (s ∷ ss) xs whole
      → on_some (act name_of literals inner s at (at + size_of s) ss xs) (λ a. run name_of literals inner a.skip (at + size_of s) ss a.items) ≡ whole
  act_turn skip at s ss xs whole e h =
      sym (ap (λ (b : Bool). if b then on_some (act name_of literals inner s at (at + size_of s) ss xs) (λ a. run name_of literals inner a.skip (at + size_of s) ss a.items) else run name_of literals inner (skip - size_of s) (at + size_of s) ss xs) e) ∙ h

  pub done_turn : (skip at k : ℕ) (s : Instruction) (ss : List Instruction) (xs : List Item) (new : List KeptItem) (whole : Option (List Item)) → (skip == 0) ≡ true → Left skip at (s ∷ ss) xs whole
      → acted_by (Some k) new ≡ act name_of literals inner s at (at + size_of s) ss xs → Left k (at + size_of s) ss (stack_view new) whole
  done_turn skip at k s ss xs new whole e h a = ap (λ (o : Option Acted). on_some o (λ x. run name_of literals inner x.skip (at + size_of s) ss x.items)) a ∙ act_turn skip at s ss xs whole e h

  pub none_turn : (skip at : ℕ) (s : Instruction) (ss : List Instruction) (xs : List Item) (new : List KeptItem) (whole : Option (List Item)) → (skip == 0) ≡ true → Left skip at (s ∷ ss) xs whole
      → acted_by None new ≡ act name_of literals inner s at (at + size_of s) ss xs → None ≡ whole
  none_turn skip at s ss xs new whole e h a = ap (λ (o : Option Acted). on_some o (λ x. run name_of literals inner x.skip (at + size_of s) ss x.items)) a ∙ act_turn skip at s ss xs whole e h

  pub run_end : (skip at : ℕ) (xs : List Item) → run name_of literals inner skip at [] xs ≡ Some xs
  run_end skip at xs = refl

pub region_none : (name_of : InstructionOperand → List ℕ) (literals : List LiteralView) (d at : ℕ) (ss : List Instruction) → d ≡ 0 → region name_of literals d at ss ≡ None
region_none name_of literals d at ss e = ap (λ (k : ℕ). region name_of literals k at ss) e

pub region_some : (name_of : InstructionOperand → List ℕ) (literals : List LiteralView) (d at : ℕ) (ss : List Instruction) → 0 < d → region name_of literals d at ss ≡ run name_of literals (region name_of literals (d - 1)) 0 at ss []
region_some name_of literals zero at ss h = absurd (omega (arith, h))
region_some name_of literals (suc d) at ss h =
    let e : suc d - 1 ≡ d = omega arith in
    ap (λ (k : ℕ). run name_of literals (region name_of literals k) 0 at ss []) (sym e)
