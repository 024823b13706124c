-- Instructions with the places where they stand.
use Rattle.std.specs.Prelude.{◌≡◌, ℕ, ◌+◌, List, [], ◌∷◌, map, take, drop, Option, Some, None}
use Rattle.std.specs.Borrow.{Bor}
use Rattle.st_emit.specs.declared.instruction.Instruction.{Instruction}
use Rattle.st_emit.specs.Steps.{size_of}
use Rattle.st_decompile.specs.declared.located.Located.{Located}
use Rattle.st_decompile.specs.Reading.{front, behind}

abbrev pub steps_in : List Located → List Instruction
steps_in ls = map (λ l. l.step) ls

-- the place behind instructions that begin at one
abbrev pub end_of : ℕ → List Instruction → ℕ
end_of at [] = at
end_of at (s ∷ ss) = end_of (at + size_of s) ss

-- each instruction stands where the one before it ends, from a place on
abbrev pub AreFrom : ℕ → List Located → Type 0
AreFrom at [] = Unit {0}
AreFrom at (l ∷ ls) = (l.at ≡ at) × AreFrom (at + size_of l.step) ls

-- wherever the first one stands
abbrev pub AreSpaced : List Located → Type 0
AreSpaced [] = Unit {0}
AreSpaced (l ∷ ls) = AreFrom (l.at + size_of l.step) ls

-- instructions that stand one behind the other from a place on
abbrev pub located_from : ℕ → List Instruction → List Located
located_from at [] = []
located_from at (s ∷ ss) = record { at = at; step = s } ∷ located_from (at + size_of s) ss

-- the place of the first one, or else another
abbrev pub place_or : ℕ → List Located → ℕ
place_or at [] = at
place_or at (l ∷ ls) = l.at

-- the first one, and the others
abbrev pub split_of : List Located → Option (Located × List Located)
split_of [] = None
split_of (l ∷ ls) = Some (l, ls)

abbrev pub split_now : Located × Bor (List Located) → Located × List Located
split_now p = (p.0, p.1.now)

-- so many instructions stand in the first bytes
abbrev pub AreWithin : ℕ → List Located → ℕ → Type 0
AreWithin distance ls n = (front distance (steps_in ls) ≡ steps_in (take n ls)) × (behind distance (steps_in ls) ≡ steps_in (drop n ls))

abbrev pub AreFront : ℕ → (whole part : List Located) → Type 0
AreFront distance whole part = (steps_in part ≡ front distance (steps_in whole)) × AreSpaced part

-- those behind the first bytes stand behind the first instructions
abbrev pub AreBehind : ℕ → (whole part : List Located) → Type 0
AreBehind distance whole part =
    (steps_in part ≡ behind distance (steps_in whole)) × ((at : ℕ) → AreFrom at whole → AreFrom (end_of at (front distance (steps_in whole))) part)
