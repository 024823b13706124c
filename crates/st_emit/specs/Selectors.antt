-- Selectors that have a code of their own, and how many arguments a selector has.
use Rattle.std.specs.Prelude.{ℕ, ◌+◌, ◌==◌, List, [], ◌∷◌, map, if◌then◌else◌, codes}
use Rattle.std.specs.Borrow.{Bor}
use Rattle.std.specs.Char.{is_ascii_alphabetic}

-- the special selectors in the order of their codes, each with its number of arguments
abbrev pub special_sends : List (List ℕ × ℕ)
special_sends =
    (codes "+", 1) ∷ (codes "-", 1) ∷ (codes "<", 1) ∷ (codes ">", 1) ∷ (codes "<=", 1) ∷ (codes ">=", 1) ∷ (codes "=", 1) ∷ (codes "~=", 1)
    ∷ (codes "*", 1) ∷ (codes "/", 1) ∷ (codes "\\\\", 1) ∷ (codes "@", 1) ∷ (codes "bitShift:", 1) ∷ (codes "//", 1) ∷ (codes "bitAnd:", 1) ∷ (codes "bitOr:", 1)
    ∷ (codes "at:", 1) ∷ (codes "at:put:", 2) ∷ (codes "size", 0) ∷ (codes "next", 0) ∷ (codes "nextPut:", 1) ∷ (codes "atEnd", 0) ∷ (codes "==", 1) ∷ (codes "class", 0)
    ∷ (codes "blockCopy:", 1) ∷ (codes "value", 0) ∷ (codes "value:", 1) ∷ (codes "do:", 1) ∷ (codes "new", 0) ∷ (codes "new:", 1) ∷ (codes "x", 0) ∷ (codes "y", 0)
    ∷ []

-- such a table in the code
abbrev pub sends_now : List (Bor (List ℕ) × ℕ) → List (List ℕ × ℕ)
sends_now ss = map (λ s. (s.0.now, s.1)) ss

-- how many bytes of a text are colons
abbrev pub colons : List ℕ → ℕ
colons [] = 0
colons (b ∷ bs) = if b == 58 then colons bs + 1 else colons bs

-- how many arguments a selector has: as many as colons where it begins with a letter; an operator has one
abbrev pub arity : List ℕ → ℕ
arity [] = 0
arity (b ∷ bs) = if is_ascii_alphabetic b then colons (b ∷ bs) else 1
