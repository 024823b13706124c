-- Worked headers: what the bits of the book's figure say, which are 3 of the flag, 5 of the number of temporaries, 1 for a large
-- context and 6 of the number of literals; the last one is that of a SmallInteger.
use Rattle.std.proofs.Common.{◌≡◌, true, false, List, [], ◌∷◌, refl}
use Rattle.std.specs.Prelude.{map}
use Rattle.st_model.specs.Values.{Value, value_of}
use Rattle.st_model.specs.Methods.{flag_of, temporary_count, is_large, literal_count}
use Rattle.st_method.specs.inside.Headers.{first_byte}

-- 000 00001 0 000000 1, 000 00000 0 000001 1, 010 00011 1 000101 1 and 111 11111 0 111111 1
abbrev headers : List Value
headers = map value_of (257 ∷ 3 ∷ 17291 ∷ 65407 ∷ [])

flags : map flag_of headers ≡ 0 ∷ 0 ∷ 2 ∷ 7 ∷ []
unfolding value_of
flags = refl

temporaries : map temporary_count headers ≡ 1 ∷ 0 ∷ 3 ∷ 31 ∷ []
unfolding value_of
temporaries = refl

large_contexts : map is_large headers ≡ false ∷ false ∷ true ∷ false ∷ []
unfolding value_of
large_contexts = refl

literals : map literal_count headers ≡ 0 ∷ 1 ∷ 5 ∷ 63 ∷ []
unfolding value_of
literals = refl

-- the first bytecode stands behind the header and the literals
first_bytes : map first_byte headers ≡ 2 ∷ 4 ∷ 12 ∷ 128 ∷ []
unfolding value_of
first_bytes = refl
