-- The first of some parts, and the others.
use Rattle.std.proofs.Common.{◌≡◌, ◌≤◌, ◌<◌, ◌+◌, ◌-◌, ◌∙◌, List, [], ◌∷◌, length, take, drop, get_or, refl, sym, ap, arith}
use Rattle.std.proofs.lemmas.List.{drop_more, take_rest}
use Rattle.st_kernel_text.specs.declared.part.Part as declared
use Rattle.st_kernel_text.specs.inside.Views.{part_of, parts_of}

module _ (rest : List declared.Part) (x : declared.Part) (there : 1 ≤ length rest) (is : x ≡ get_or rest 0 x) where
  rest_is : rest ≡ x ∷ take (length rest - 1) (drop 1 rest)
  rest_is =
      drop_more rest 0 x (omega (arith, there))
      ∙ ap (λ y. y ∷ drop 1 rest) (sym is)
      ∙ ap (λ ys. x ∷ ys) (sym (take_rest rest 1))

  pub rest_parts : parts_of rest ≡ part_of x ∷ parts_of (take (length rest - 1) (drop 1 rest))
  rest_parts = ap parts_of rest_is

  pub rest_length : length (take (length rest - 1) (drop 1 rest)) + 1 ≡ length rest
  rest_length = let e = ap length rest_is in omega (arith, e)

pub rest_none : (rest : List declared.Part) → length rest < 1 → parts_of rest ≡ []
rest_none [] less = refl
rest_none (x ∷ rest) less = absurd (omega (arith, less))
