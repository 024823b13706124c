-- Worked rows of the primitives on integers from 0 up, computed from the definitions.
use Rattle.std.proofs.Common.{◌≡◌, ℕ, List, [], ◌∷◌, Option, None, Bool, refl}
use Rattle.std.specs.Prelude.{length, replicate, ◌++◌}
use Rattle.st_model.specs.Values.{Value, Small, Ref}
use Rattle.st_model.specs.Objects.{Object}
use Rattle.st_model.specs.Machine.{State, Transition}
use Rattle.st_model.specs.Table.{Table, table}
use Rattle.st_model.specs.Arithmetic.{large_arithmetic, shift_large}
use Rattle.st_model.proofs.Opened.{opened}
use Rattle.st_model.proofs.StorageRows.{pointers, bytes, large, string, class, objects, state, done, made, failed}

-- primitive k of these two words
unfoldable pub computing : ℕ → List Value → List (Option Object) → Transition (State Table) Bool
unfolding state objects
computing k stack others = (large_arithmetic table k).run (state (length stack) (objects None stack others))

unfoldable pub shifting : List Value → List (Option Object) → Transition (State Table) Bool
unfolding state objects
shifting stack others = (shift_large table).run (state (length stack) (objects None stack others))

-- a product of four bytes; a difference that is a SmallInteger; what 7 leaves of 1,000,000
numbers : (computing 29 (Ref 31 ∷ Ref 31 ∷ []) (large (255 ∷ 255 ∷ []) ∷ [])
    ≡ made (large (1 ∷ 0 ∷ 254 ∷ 255 ∷ [])) (Ref 5 ∷ Ref 31 ∷ []) (large (255 ∷ 255 ∷ []) ∷ []))
    × (computing 22 (Ref 31 ∷ Ref 32 ∷ []) (large (0 ∷ 0 ∷ 1 ∷ []) ∷ large (255 ∷ 255 ∷ []) ∷ [])
    ≡ done (Small 1 ∷ Ref 32 ∷ []) (large (0 ∷ 0 ∷ 1 ∷ []) ∷ large (255 ∷ 255 ∷ []) ∷ []))
    × (computing 31 (Ref 31 ∷ Small 7 ∷ []) (large (64 ∷ 66 ∷ 15 ∷ []) ∷ [])
    ≡ done (Small 1 ∷ Small 7 ∷ []) (large (64 ∷ 66 ∷ 15 ∷ []) ∷ []))
unfolding opened computing done made state objects pointers class large bytes
numbers = (refl, refl, refl)

-- the greatest number, as a sum and as a product of 2^64 + 1 and 2^64 - 1; and a product one above it, which fails
edges : (computing 21 (Ref 31 ∷ Small 1 ∷ []) (large (254 ∷ replicate 15 255) ∷ [])
    ≡ made (large (replicate 16 255)) (Ref 5 ∷ Small 1 ∷ []) (large (254 ∷ replicate 15 255) ∷ []))
    × (computing 29 (Ref 31 ∷ Ref 32 ∷ []) (large (1 ∷ replicate 7 0 ++ 1 ∷ []) ∷ large (replicate 8 255) ∷ [])
    ≡ made (large (replicate 16 255)) (Ref 5 ∷ Ref 32 ∷ []) (large (1 ∷ replicate 7 0 ++ 1 ∷ []) ∷ large (replicate 8 255) ∷ []))
    × (computing 29 (Ref 31 ∷ Ref 31 ∷ []) (large (replicate 8 0 ++ 1 ∷ []) ∷ [])
    ≡ failed (Ref 31 ∷ Ref 31 ∷ []) (large (replicate 8 0 ++ 1 ∷ []) ∷ []))
unfolding opened computing made failed state objects pointers class large bytes
edges = (refl, refl, refl)

-- a sum past 2^128 - 1, a quotient that isn't exact, by 0, of 17 bytes, of no bytes, of a String, and of a number below 0
failing : (computing 21 (Ref 31 ∷ Small 1 ∷ []) (large (replicate 16 255) ∷ []) ≡ failed (Ref 31 ∷ Small 1 ∷ []) (large (replicate 16 255) ∷ []))
    × (computing 30 (Ref 31 ∷ Small 3 ∷ []) (large (0 ∷ 0 ∷ 1 ∷ []) ∷ []) ≡ failed (Ref 31 ∷ Small 3 ∷ []) (large (0 ∷ 0 ∷ 1 ∷ []) ∷ []))
    × (computing 32 (Ref 31 ∷ Small 0 ∷ []) (large (1 ∷ []) ∷ []) ≡ failed (Ref 31 ∷ Small 0 ∷ []) (large (1 ∷ []) ∷ []))
    × (computing 34 (Ref 31 ∷ Small 1 ∷ []) (large (replicate 17 0) ∷ []) ≡ failed (Ref 31 ∷ Small 1 ∷ []) (large (replicate 17 0) ∷ []))
    × (computing 23 (Ref 31 ∷ Small 1 ∷ []) (large [] ∷ []) ≡ failed (Ref 31 ∷ Small 1 ∷ []) (large [] ∷ []))
    × (computing 21 (Ref 31 ∷ Small 1 ∷ []) (string (1 ∷ []) ∷ []) ≡ failed (Ref 31 ∷ Small 1 ∷ []) (string (1 ∷ []) ∷ []))
    × (computing 21 (Small 32767 ∷ Small 1 ∷ []) [] ≡ failed (Small 32767 ∷ Small 1 ∷ []) [])
unfolding opened computing failed state objects pointers class large string bytes
failing = (refl, refl, refl, refl, refl, refl, refl)

-- zeros above are none of the answer
least_bytes : computing 35 (Ref 31 ∷ Ref 31 ∷ []) (large (0 ∷ 64 ∷ 0 ∷ 0 ∷ []) ∷ [])
    ≡ made (large (0 ∷ 64 ∷ [])) (Ref 5 ∷ Ref 31 ∷ []) (large (0 ∷ 64 ∷ 0 ∷ 0 ∷ []) ∷ [])
unfolding opened computing made state objects pointers class large bytes
least_bytes = refl

shifts : (shifting (Small 1 ∷ Small 127 ∷ []) [] ≡ made (large (replicate 15 0 ++ 128 ∷ [])) (Ref 5 ∷ Small 127 ∷ []) [])
    × (shifting (Small 1 ∷ Small 128 ∷ []) [] ≡ failed (Small 1 ∷ Small 128 ∷ []) [])
    × (shifting (Ref 31 ∷ Small 32640 ∷ []) (large (255 ∷ 255 ∷ []) ∷ []) ≡ done (Small 0 ∷ Small 32640 ∷ []) (large (255 ∷ 255 ∷ []) ∷ []))
    × (shifting (Small 1 ∷ Ref 31 ∷ []) (large (1 ∷ []) ∷ []) ≡ failed (Small 1 ∷ Ref 31 ∷ []) (large (1 ∷ []) ∷ []))
unfolding opened shifting done made failed state objects pointers class large bytes
shifts = (refl, refl, refl, refl)
