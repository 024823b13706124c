-- One instruction, row by row: what is done doesn't depend on how regions are read, but for jumps on a boolean and blocks.
use Rattle.std.proofs.Common.{◌≡◌, ℕ, ◌-◌, ◌==◌, Bool, true, false, List, [], ◌∷◌, Option, Some, None, refl, sym, ap, ◌∙◌}
use Rattle.std.specs.Prelude.{if◌then◌else◌, slice_get}
use Rattle.st_scan.specs.Views.{ExpressionView}
use Rattle.st_emit.specs.declared.instruction.InstructionOperand.{InstructionOperand}
use Rattle.st_emit.specs.declared.instruction.InstructionOperand.TheVariants.{Field, Temporary, Literal, Shared}
use Rattle.st_emit.specs.declared.instruction.Instruction.{Instruction}
use Rattle.st_emit.specs.declared.instruction.Instruction.TheVariants.{Push, PopStore, SendSpecial}
use Rattle.st_emit.specs.Resolving.{special_selectors, first_special}
use Rattle.st_emit.specs.Literals.{LiteralView}
use Rattle.st_resolved.specs.Instructions.{on_some}
use Rattle.st_decompile.specs.declared.reading.Reading.{Reading}
use Rattle.st_expression_stack.specs.Items.{Item, piece, leaf, Acted, goes_on}
use Rattle.st_expression_stack.specs.Items as items
use Rattle.st_expression_stack.specs.Messages.{sends}
use Rattle.st_decompile.specs.Reading.{pushed_tree, popped_into, makes_block}
use Rattle.st_decompile.specs.inside.Read.{name_by, literals_by, region_by, act_by, makes_block_by, pushes_by, popped_into_by, special_sends_by}

module _ (name_of : InstructionOperand → List ℕ) (literals : List LiteralView) (a b : ℕ → List Instruction → Option (List Item)) where
  pushed_any : (p : InstructionOperand) → pushed_tree name_of literals a p ≡ pushed_tree name_of literals b p
  pushed_any (Field n) = refl
  pushed_any (Temporary n) = refl
  pushed_any (Literal n) = refl
  pushed_any (Shared n) = refl

  popped_any : (p : InstructionOperand) (xs : List Item) → popped_into name_of literals a p xs ≡ popped_into name_of literals b p xs
  popped_any p [] = refl
  popped_any p (piece x ∷ xs) = refl
  popped_any p (items.cascade x ms ∷ xs) = refl
  popped_any p (items.again ∷ xs) = refl
  popped_any p (items.answered ∷ xs) = refl
  popped_any p (items.argument x ∷ xs) = refl
  popped_any p (items.over d ∷ xs) = refl
  popped_any p (items.back d ∷ xs) = refl

module _ (r : Reading) (depth at next : ℕ) (rest : List Instruction) (xs : List Item) where
  pub row_push : (p : InstructionOperand) → act_by r depth (Push p) at next rest xs ≡ pushes_by r p at xs
  row_push p = ap (λ (o : Option ExpressionView). on_some o (λ e. goes_on (piece (leaf e at) ∷ xs))) (pushed_any (name_by r) (literals_by r) (region_by r depth) (region_by r 0) p)

  pub row_pop : (p : InstructionOperand) → act_by r depth (PopStore p) at next rest xs ≡ popped_into_by r p xs
  row_pop p = popped_any (name_by r) (literals_by r) (region_by r depth) (region_by r 0) p xs

  pub row_special : (code : ℕ) → (code == 200) ≡ false → act_by r depth (SendSpecial code) at next rest xs ≡ special_sends_by code xs
  row_special code e = ap (λ (b : Bool). if b then makes_block_by r depth next rest xs else on_some (slice_get special_selectors (code - first_special)) (λ s. sends false s xs)) e

  pub row_block : (code : ℕ) → (code == 200) ≡ true → act_by r depth (SendSpecial code) at next rest xs ≡ makes_block_by r depth next rest xs
  row_block code e = ap (λ (b : Bool). if b then makes_block_by r depth next rest xs else on_some (slice_get special_selectors (code - first_special)) (λ s. sends false s xs)) e
