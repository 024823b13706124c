-- How many commits are acknowledged by what was said: the number of whole lines that begin with `accepted ` or `snapshot `.
use Rattle.std.specs.Prelude.{◌≡◌, ◌⊎◌, ℕ, suc, ◌+◌, ◌==◌, ◌||◌, nat_eq, List, [], ◌∷◌, ◌++◌, codes, slice_get, Some, if◌then◌else◌}
use Rattle.std.specs.List.{starts_with}
use Rattle.st_host.specs.Files.{Files}
use Rattle.st_protocol.specs.Courses.{Deed, Reply, Keep}

-- a whole line, without its end
abbrev pub counts : List ℕ → ℕ
counts line = if starts_with nat_eq line (codes "accepted ") || starts_with nat_eq line (codes "snapshot ") then 1 else 0

-- of the line so far and the bytes that follow
abbrev pub acknowledged_from : List ℕ → List ℕ → ℕ
acknowledged_from line [] = 0
acknowledged_from line (b ∷ bs) = if b == 10 then counts line + acknowledged_from [] bs else acknowledged_from (line ++ b ∷ []) bs

-- of all that was said
abbrev pub acknowledged : List ℕ → ℕ
acknowledged said = acknowledged_from [] said

-- what stands behind the last whole line
abbrev pub rest_from : List ℕ → List ℕ → List ℕ
rest_from line [] = line
rest_from line (b ∷ bs) = if b == 10 then rest_from [] bs else rest_from (line ++ b ∷ []) bs

-- whole lines, of which so many acknowledge a commit
pub record IsLines (n : ℕ) (text : List ℕ) : Type 0 where
  pub whole : rest_from [] text ≡ []
  pub count : acknowledged text ≡ n

-- what was said since are whole lines, or nothing
pub record SaysLines (before now : List ℕ) : Type 0 where
  pub words : List ℕ
  pub said_is : now ≡ before ++ words
  pub whole : rest_from [] words ≡ []

-- Each commit is acknowledged by what is said next, and nothing else is acknowledged.
abbrev pub AcknowledgesEach : {C : Type 0} → List (Deed C) → Type 0
AcknowledgesEach [] = Unit {0}
AcknowledgesEach (Reply text ∷ ds) = IsLines 0 text × AcknowledgesEach ds
AcknowledgesEach (Keep c ∷ []) = ⊥
AcknowledgesEach (Keep c ∷ Keep d ∷ ds) = ⊥
AcknowledgesEach (Keep c ∷ Reply text ∷ ds) = IsLines 1 text × AcknowledgesEach ds

-- Of these commits the files open as the one whose number is that of the commits acknowledged, or as the next.
pub record Promised {C : Type 0} (opens : C → Files → Type 0) (commits : List C) (said : List ℕ) (f : Files) (s : List ℕ) : Type 0 where
  pub words : List ℕ
  pub said_is : s ≡ said ++ words
  pub number : ℕ
  pub commit : C
  pub is_of : slice_get commits number ≡ Some commit
  pub opens_as : opens commit f
  pub acknowledges : (number ≡ acknowledged words) ⊎ (number ≡ suc (acknowledged words))
