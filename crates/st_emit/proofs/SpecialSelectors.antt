-- Special selectors stand at their places, with as many arguments as their texts say.
use Rattle.std.proofs.Common.{◌≡◌, ℕ, zero, suc, ◌+◌, ◌-◌, ◌≤◌, ◌==◌, Bool, true, false, ◌&&◌, List, [], ◌∷◌, Option, Some, None, refl, sym, ap, ◌∙◌, arith}
use Rattle.std.proofs.lemmas.Bool.{and_parts}
use Rattle.std.proofs.lemmas.Slice.Eq.{bytes_eq-Decides}
use Rattle.std.specs.Prelude.{if◌then◌else◌, slice_get, bytes_eq, map}
use Rattle.st_emit.specs.Names.{field_from}
use Rattle.st_emit.specs.Selectors.{special_sends, arity}
use Rattle.st_emit.specs.Resolving.{special_selectors, special_selector}
use Rattle.st_emit.specs.inside.Laws.{HasItsArguments}

-- the first of these names that is this text stands at its place
found_from : (names : List (List ℕ)) (n k : ℕ) (text : List ℕ) → field_from n names text ≡ Some k → (n ≤ k) × (slice_get names (k - n) ≡ Some text)
found_from [] n k text e = absurd cc
found_from (name ∷ names) n k text e = by_test (bytes_eq name text) refl e (λ h. found_from names (n + 1) k text h)
  where
    by_test : (b : Bool) → bytes_eq name text ≡ b → (if b then Some n else field_from (n + 1) names text) ≡ Some k
        → (field_from (n + 1) names text ≡ Some k → (n + 1 ≤ k) × (slice_get names (k - (n + 1)) ≡ Some text)) → (n ≤ k) × (slice_get (name ∷ names) (k - n) ≡ Some text)
    by_test true t h later =
        let same : n ≡ k = cc in
        let here : k - n ≡ 0 = omega (arith, same) in
        let is : name ≡ text = (bytes_eq-Decides name text).0 t in
        (omega (arith, same), ap (slice_get (name ∷ names)) here ∙ ap Some is)
    by_test false t h later =
        let r = later h in
        let more : k - n ≡ suc (k - (n + 1)) = omega (arith, r.0) in
        (omega (arith, r.0), ap (slice_get (name ∷ names)) more ∙ r.1)

pub special_there : (text : List ℕ) (k : ℕ) → special_selector text ≡ Some k → slice_get special_selectors k ≡ Some text
special_there text k e = let r = found_from special_selectors 0 k text e in let same : k - 0 ≡ k = omega arith in ap (slice_get special_selectors) (sym same) ∙ r.1

-- each with as many arguments as its text says
abbrev Told : List (List ℕ × ℕ) → Type 0
Told [] = Unit {0}
Told (s ∷ ss) = (arity s.0 ≡ s.1) × Told ss

told_at : (ss : List (List ℕ × ℕ)) (k : ℕ) (text : List ℕ) → Told ss → slice_get (map (λ s. s.0) ss) k ≡ Some text → slice_get ss k ≡ Some (text, arity text)
told_at [] k text h e = absurd cc
told_at (s ∷ ss) zero text h e =
    let is : s.0 ≡ text = cc in
    ap (λ t. Some (t, s.1)) is ∙ ap (λ n. Some (text, n)) (sym h.0 ∙ ap arity is)
told_at (s ∷ ss) (suc k) text h e = told_at ss k text h.1 e

told : Told special_sends
told = search

pub special-arguments : (text : List ℕ) → HasItsArguments text
special-arguments text k e = told_at special_sends k text told (special_there text k e)
