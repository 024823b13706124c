-- What is added to a draft.
use Rattle.std.specs.Prelude.{◌≡◌, List, [], ◌∷◌, ◌++◌}
use Rattle.st_emit.specs.declared.instruction.Instruction.{Instruction}
use Rattle.st_emit.specs.declared.level.Level.{Level}
use Rattle.st_emit.specs.declared.draft.Draft.{Draft}
use Rattle.st_emit.specs.Literals.{LiteralView, Naming}
use Rattle.st_emit.specs.inside.Views.{literals_view}

-- instructions and what they do to the level, and the literals then
pub record Part : Type 0 where
  pub steps : List Instruction
  pub literals : List LiteralView
  pub level : Level → Level

-- what is made behind these literals
abbrev pub part_of : {A : Type 0} → (code : A → List Instruction) → (level : A → Level → Level) → Naming A → List LiteralView → Part
part_of code level naming ls = let n = naming ls in record { steps = code n.part; literals = n.literals; level = level n.part }

-- one instruction more, which does this to the level
abbrev pub step_part : Instruction → (Level → Level) → List LiteralView → Part
step_part step level ls = record { steps = step ∷ []; literals = ls; level = level }

-- a draft with a part more
pub record Adds (part : List LiteralView → Part) (old new : Draft) : Type 0 where
  pub steps : new.steps.items ≡ old.steps.items ++ (part (literals_view old.literals.items)).steps
  pub literals : literals_view new.literals.items ≡ (part (literals_view old.literals.items)).literals
  pub level : new.level ≡ (part (literals_view old.literals.items)).level old.level

-- a draft in which something was named, with no instruction more
pub record Resolves {A : Type 0} (naming : Naming A) (old new : Draft) (x : A) : Type 0 where
  pub part : x ≡ (naming (literals_view old.literals.items)).part
  pub literals : literals_view new.literals.items ≡ (naming (literals_view old.literals.items)).literals
  pub steps : new.steps.items ≡ old.steps.items
  pub level : new.level ≡ old.level

-- what is left to be added to a draft gives what the whole gave
pub record Goes (rest : List LiteralView → Part) (draft : Draft) (whole : List LiteralView → Part) (old : Draft) : Type 0 where
  pub steps : draft.steps.items ++ (rest (literals_view draft.literals.items)).steps ≡ old.steps.items ++ (whole (literals_view old.literals.items)).steps
  pub literals : (rest (literals_view draft.literals.items)).literals ≡ (whole (literals_view old.literals.items)).literals
  pub level : (rest (literals_view draft.literals.items)).level draft.level ≡ (whole (literals_view old.literals.items)).level old.level
