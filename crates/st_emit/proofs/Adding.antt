-- Parts that are added one after the other.
use Rattle.std.proofs.Common.{◌≡◌, ℕ, ◌+◌, List, [], ◌∷◌, ◌++◌, length, drop, ap, ◌∙◌, append_assoc, length-append, arith}
use Rattle.std.specs.Prelude.{slice_set}
use Rattle.std.proofs.Math.Seq.{set-append_seam}
use Rattle.std.proofs.lemmas.List.{drop_at}
use Rattle.st_emit.specs.declared.instruction.Instruction.{Instruction}
use Rattle.st_emit.specs.declared.level.Level.{Level}
use Rattle.st_emit.specs.declared.draft.Draft.{Draft}
use Rattle.st_emit.specs.Literals.{LiteralView}
use Rattle.st_emit.specs.inside.Views.{literals_view}
use Rattle.st_emit.specs.Steps.{size}
use Rattle.st_emit.specs.inside.Drafts.{Part, Adds, Goes}

-- one part, and another one behind it
abbrev pub then_part : (first second : List LiteralView → Part) → List LiteralView → Part
then_part first second ls =
    let a = first ls in
    let b = second a.literals in
    record { steps = a.steps ++ b.steps; literals = b.literals; level = λ l. b.level (a.level l) }

pub record IsSamePart (p q : Part) : Type 0 where
  pub steps : p.steps ≡ q.steps
  pub literals : p.literals ≡ q.literals
  pub level : (l : Level) → p.level l ≡ q.level l

pub adds_same : (p q : List LiteralView → Part) (old new : Draft) → IsSamePart (p (literals_view old.literals.items)) (q (literals_view old.literals.items)) → Adds p old new → Adds q old new
adds_same p q old new same a = record {
  steps = a.steps ∙ ap (λ s. old.steps.items ++ s) same.steps;
  literals = a.literals ∙ same.literals;
  level = a.level ∙ same.level old.level;
}

pub adds_then : (p q : List LiteralView → Part) (old mid new : Draft) → Adds p old mid → Adds q mid new → Adds (then_part p q) old new
adds_then p q old mid new a b =
    let ls = (p (literals_view old.literals.items)).literals in
    let same : q (literals_view mid.literals.items) ≡ q ls = ap q a.literals in
    record {
      steps =
          b.steps ∙ ap (λ (x : Part). mid.steps.items ++ x.steps) same ∙ ap (λ s. s ++ (q ls).steps) a.steps
          ∙ append_assoc old.steps.items (p (literals_view old.literals.items)).steps (q ls).steps;
      literals = b.literals ∙ ap (λ (x : Part). x.literals) same;
      level = b.level ∙ ap (λ (x : Part). x.level mid.level) same ∙ ap (q ls).level a.level;
    }

-- a part of what is left was added
pub goes_on : (p rest rest' whole : List LiteralView → Part) (old draft draft' : Draft)
    → Goes rest draft whole old → Adds p draft draft' → IsSamePart (then_part p rest' (literals_view draft.literals.items)) (rest (literals_view draft.literals.items)) → Goes rest' draft' whole old
goes_on p rest rest' whole old draft draft' g a same =
    let ls = (p (literals_view draft.literals.items)).literals in
    let now : rest' (literals_view draft'.literals.items) ≡ rest' ls = ap rest' a.literals in
    record {
      steps =
          ap (λ (x : Part). draft'.steps.items ++ x.steps) now ∙ ap (λ s. s ++ (rest' ls).steps) a.steps
          ∙ append_assoc draft.steps.items (p (literals_view draft.literals.items)).steps (rest' ls).steps
          ∙ ap (λ s. draft.steps.items ++ s) same.steps ∙ g.steps;
      literals = ap (λ (x : Part). x.literals) now ∙ same.literals ∙ g.literals;
      level = ap (λ (x : Part). x.level draft'.level) now ∙ ap (rest' ls).level a.level ∙ same.level draft.level ∙ g.level;
    }

-- PATCHES

-- an instruction is written again behind these
pub set_behind : (base behind : List Instruction) (x y : Instruction) (n : ℕ) → n ≡ length base → slice_set ((base ++ x ∷ []) ++ behind) n y ≡ base ++ y ∷ behind
set_behind base behind x y n e =
    ap (λ l. slice_set l n y) (append_assoc base (x ∷ []) behind) ∙ ap (λ i. slice_set (base ++ x ∷ behind) i y) e ∙ set-append_seam base x behind y

-- the instructions behind one
pub drop_behind : (base behind : List Instruction) (x : Instruction) (n : ℕ) → n ≡ length base → drop (n + 1) ((base ++ x ∷ []) ++ behind) ≡ behind
drop_behind base behind x n e =
    let long : length (base ++ x ∷ []) ≡ n + 1 = omega (arith, length-append base (x ∷ []), e) in
    drop_at (base ++ x ∷ []) behind (n + 1) long

pub size-append : (a b : List Instruction) → size (a ++ b) ≡ size a + size b
size-append [] b = omega arith
size-append (x ∷ a) b = omega (arith, size-append a b)
