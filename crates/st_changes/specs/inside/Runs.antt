-- Bytes up to a mark that stands alone, where two marks stand for one.
use Rattle.std.specs.Prelude.{◌≡◌, ℕ, ◌≤◌, ◌==◌, List, [], ◌∷◌, ◌++◌, length, drop, if◌then◌else◌, Option, Some, None, IsFalse}
use Rattle.st_chunk.specs.Groups.{begins}
use Rattle.st_changes.specs.declared.run.Run.{Run}

-- each mark stands twice
abbrev pub doubled_by : ℕ → List ℕ → List ℕ
doubled_by mark [] = []
doubled_by mark (b ∷ text) = if b == mark then b ∷ b ∷ doubled_by mark text else b ∷ doubled_by mark text

-- the text is these bytes, each mark doubled, a mark that stands alone, and this
pub record IsRun (mark : ℕ) (text bytes behind : List ℕ) : Type 0 where
  pub is : text ≡ doubled_by mark bytes ++ mark ∷ behind
  pub alone : IsFalse (begins (λ b. b == mark) behind)

pub record IsFoundRun (mark : ℕ) (text : List ℕ) (run : Run) : Type 0 where
  pub is : IsRun mark text run.bytes.items (drop run.length text)
  pub within : run.length ≤ length text

-- the bytes before the first mark that stands alone were found, or none does
abbrev pub FindsRun : ℕ → List ℕ → Option Run → Type 0
FindsRun mark text None = (bytes behind : List ℕ) → IsRun mark text bytes behind → ⊥
FindsRun mark text (Some run) = IsFoundRun mark text run
