-- Words and bytes that are written, worked out.
use Rattle.std.proofs.Common.{◌≡◌, [], ◌∷◌, refl}
use Rattle.st_cells.specs.inside.Words.{byte_of, with_run, with_bytes}

two_words : with_run (1 ∷ 2 ∷ 3 ∷ 4 ∷ []) 1 (7 ∷ 8 ∷ []) ≡ 1 ∷ 7 ∷ 8 ∷ 4 ∷ []
two_words = refl

-- 258 has the bytes 1 and 2
first_byte : byte_of 258 0 ≡ 1
first_byte = refl

second_byte : byte_of 258 1 ≡ 2
second_byte = refl

-- of the words behind the first one the bytes are 1, 2, 3 and 4, and then 1, 5, 6 and 4
two_bytes : with_bytes (9 ∷ 258 ∷ 772 ∷ []) 1 1 (5 ∷ 6 ∷ []) ≡ 9 ∷ 261 ∷ 1540 ∷ []
two_bytes = refl
