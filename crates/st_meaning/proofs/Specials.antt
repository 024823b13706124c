-- Selectors by their places in a table of the code.
use Rattle.std.proofs.Common.{◌≡◌, ℕ, zero, suc, ◌<◌, ◌≤◌, List, [], ◌∷◌, length, get_or, Some, None, refl, sym, ap, ◌∙◌, arith}
use Rattle.std.proofs.lemmas.Option.{slice_get_read}
use Rattle.std.specs.Prelude.{map, slice_get, option_map}
use Rattle.std.specs.Borrow.{Bor}
use Rattle.st_emit.specs.Selectors.{sends_now}

pub selector_there : (ss : List (Bor (List ℕ) × ℕ)) (k : ℕ) → slice_get (map (λ (s : List ℕ × ℕ). s.0) (sends_now ss)) k ≡ option_map (λ (s : Bor (List ℕ) × ℕ). s.0.now) (slice_get ss k)
selector_there [] k = refl
selector_there (s ∷ ss) zero = refl
selector_there (s ∷ ss) (suc k) = selector_there ss k

pub some_there : (ss : List (Bor (List ℕ) × ℕ)) (k : ℕ) (x : Bor (List ℕ) × ℕ) → k < length ss → x ≡ get_or ss k x → Some x.0.now ≡ slice_get (map (λ (s : List ℕ × ℕ). s.0) (sends_now ss)) k
some_there ss k x within is =
    sym (selector_there ss k ∙ ap (option_map (λ (s : Bor (List ℕ) × ℕ). s.0.now)) (slice_get_read ss (length ss) k x refl within is))

pub none_there : (ss : List (Bor (List ℕ) × ℕ)) (k : ℕ) → length ss ≤ k → None ≡ slice_get (map (λ (s : List ℕ × ℕ). s.0) (sends_now ss)) k
none_there [] k h = refl
none_there (s ∷ ss) zero h = absurd (omega (arith, h))
none_there (s ∷ ss) (suc k) h = none_there ss k (omega (arith, h))
