-- Words of which none is held yet.
use Rattle.std.proofs.Common.{◌≡◌, ℕ, zero, suc, List, [], ◌∷◌, length, map, replicate, refl, arith}
use Rattle.std.specs.Prelude.{slice_index_or}
use Rattle.st_model.specs.declared.oop.Oop.{Oop}
use Rattle.st_model.specs.Values.{value, value_of}
use Rattle.st_model.specs.Objects.{nil}
use Rattle.st_model.specs.View.{nothing_held, no_devices}
use Rattle.st_counted.specs.inside.Held.{held_words}
use Rattle.st_counted.specs.inside.Words.{nil_word}

pub all_nil : (xs : List Oop) (n : ℕ) → length xs ≡ n → ((k : ℕ) → slice_index_or xs k nil_word ≡ nil_word) → map value xs ≡ replicate n nil
unfolding value_of
all_nil [] zero l f = refl
all_nil [] (suc n) l f = absurd (omega (arith, l))
all_nil (x ∷ xs) zero l f = absurd (omega (arith, l))
all_nil (x ∷ xs) (suc n) l f = λ i. value (f 0 i) ∷ all_nil xs n (omega (arith, l)) (λ k. f (suc k)) i

pub nothing_words : (xs : List Oop) → length xs ≡ 4096 → ((k : ℕ) → slice_index_or xs k nil_word ≡ nil_word)
    → held_words (record { active = nil_word; home = nil_word; method = nil_word; receiver = nil_word; new_process = nil_word; display = nil_word; cursor = nil_word; input_semaphore = nil_word; timer = nil_word; low_space = nil_word }) xs ≡ nothing_held
unfolding value_of nothing_held no_devices
nothing_words xs long nils =
    let pending = all_nil xs 4096 long nils in
    λ i. record { active = nil; home = nil; method = nil; receiver = nil; devices = record { new_process = nil; display = nil; cursor = nil; input_semaphore = nil; timer = nil; low_space = nil; pending = pending i } }
