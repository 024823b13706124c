-- The bytes of a method, cut into bytecodes.
use Rattle.std.specs.Prelude.{ℕ, zero, suc, ◌-◌, ◌==◌, ◌||◌, ◌&&◌, nat_le, nat_lt, List, [], ◌∷◌, take, if◌then◌else◌}

-- how many bytes a bytecode with this first byte has
abbrev pub code_length : ℕ → ℕ
code_length b =
    if (b == 132) || (b == 134) then 3 else
    if (nat_le 128 b && nat_lt b 134) || (nat_le 160 b && nat_lt b 176) then 2 else 1

-- the bytecodes behind so many bytes that belong to the one before; the last one may be cut off
abbrev pub codes_behind : ℕ → List ℕ → List (List ℕ)
codes_behind k [] = []
codes_behind zero (b ∷ bs) = (b ∷ take (code_length b - 1) bs) ∷ codes_behind (code_length b - 1) bs
codes_behind (suc k) (b ∷ bs) = codes_behind k bs

abbrev pub codes_of : List ℕ → List (List ℕ)
codes_of bytes = codes_behind 0 bytes
