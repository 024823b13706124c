-- How code is read, piece by piece.
use Rattle.std.proofs.Common.{◌≡◌, ℕ, suc, ◌+◌, ◌-◌, Bool, List, [], ◌∷◌, ◌++◌, Option, Some, refl, sym, ap, ◌∙◌, arith, append_assoc, append-nil}
use Rattle.std.specs.Prelude.{if◌then◌else◌}
use Rattle.st_emit.specs.declared.instruction.InstructionOperand.{InstructionOperand}
use Rattle.st_emit.specs.declared.instruction.Instruction.{Instruction}
use Rattle.st_emit.specs.Steps.{size, size_of}
use Rattle.st_emit.specs.Literals.{LiteralView}
use Rattle.st_resolved.specs.Instructions.{on_some}
use Rattle.st_resolved.proofs.Sizes.{size-append}
use Rattle.st_decompile.proofs.Cuts.{not_none}
use Rattle.st_expression_stack.specs.Items.{Item, Acted, goes_on}
use Rattle.st_decompile.specs.Reading.{act, run, region}

module _ (name_of : InstructionOperand → List ℕ) (literals : List LiteralView) where
  abbrev pub within : ℕ → ℕ → List Instruction → Option (List Item)
  within f = region name_of literals f

  -- with regions in one another up to f
  abbrev pub go : ℕ → (skip at : ℕ) → List Instruction → List Item → Option (List Item)
  go f = run name_of literals (within f)

  abbrev pub acts : ℕ → Instruction → ℕ → List Instruction → List Item → Option Acted
  acts f s at ss items = act name_of literals (within f) s at (at + size_of s) ss items

  -- this code at a place changes what has been read so far
  abbrev pub Follows : ℕ → ℕ → List Instruction → (old new : List Item) → Type 0
  Follows f at code old new = (rest : List Instruction) (end : ℕ) → end ≡ at + size code → go f 0 at (code ++ rest) old ≡ go f 0 end rest new

  pub nothing_follows : (f at : ℕ) (items : List Item) → Follows f at [] items items
  nothing_follows f at items rest end e = let same : at ≡ end = omega (arith, e) in ap (λ (n : ℕ). go f 0 n rest items) same

  pub then_follows : (f at at1 : ℕ) (a b : List Instruction) (old mid new : List Item) → at1 ≡ at + size a → Follows f at a old mid → Follows f at1 b mid new → Follows f at (a ++ b) old new
  then_follows f at at1 a b old mid new h p q rest end e =
      let there : end ≡ at1 + size b = omega (arith, e, h, size-append a b) in
      ap (λ (l : List Instruction). go f 0 at l old) (append_assoc a b rest) ∙ p (b ++ rest) at1 h ∙ q rest end there

  -- one instruction that goes on behind it
  pub one_follows : (f at : ℕ) (s : Instruction) (old new : List Item) → ((ss : List Instruction) → acts f s at ss old ≡ goes_on new) → Follows f at (s ∷ []) old new
  one_follows f at s old new h rest end e =
      let same : at + size_of s ≡ end = omega (arith, e) in
      ap (λ (o : Option Acted). on_some o (λ a. go f a.skip (at + size_of s) rest a.items)) (h rest) ∙ ap (λ (n : ℕ). go f 0 n rest new) same

  -- instructions that are passed
  pub skips : (f at : ℕ) (a b : List Instruction) (items : List Item) (end : ℕ) → end ≡ at + size a → go f (size a) at (a ++ b) items ≡ go f 0 end b items
  skips f at [] b items end e = let same : at ≡ end = omega (arith, e) in ap (λ (n : ℕ). go f 0 n b items) same
  skips f at (s ∷ a) b items end e =
      let less : size_of s + size a - size_of s ≡ size a = omega arith in
      let there : end ≡ at + size_of s + size a = omega (arith, e) in
      ap (λ (c : Bool). if c then on_some (acts f s at (a ++ b) items) (λ x. go f x.skip (at + size_of s) (a ++ b) x.items) else go f (size_of s + size a - size_of s) (at + size_of s) (a ++ b) items) (not_none s (size a))
      ∙ ap (λ (n : ℕ). go f n (at + size_of s) (a ++ b) items) less
      ∙ skips f (at + size_of s) a b items end there

  -- an instruction that passes some behind it
  pub passing_follows : (f at : ℕ) (s : Instruction) (inside : List Instruction) (old new : List Item) (skip : ℕ) → skip ≡ size inside
      → ((rest : List Instruction) → acts f s at (inside ++ rest) old ≡ Some (record { skip = skip; items = new })) → Follows f at (s ∷ inside) old new
  passing_follows f at s inside old new skip k h rest end e =
      let there : end ≡ at + size_of s + size inside = omega (arith, e) in
      ap (λ (o : Option Acted). on_some o (λ a. go f a.skip (at + size_of s) (inside ++ rest) a.items)) (h rest)
      ∙ ap (λ (n : ℕ). go f n (at + size_of s) (inside ++ rest) new) k
      ∙ skips f (at + size_of s) inside rest new end there

  -- a region
  pub region_is : (f at : ℕ) (code : List Instruction) (items : List Item) → Follows f at code [] items → within (suc f) at code ≡ Some items
  region_is f at code items h = ap (λ (l : List Instruction). go f 0 at l []) (sym (append-nil code)) ∙ h [] (at + size code) refl
