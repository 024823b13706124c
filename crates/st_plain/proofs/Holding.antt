-- The marks of what is held.
use Rattle.std.proofs.Common.{◌≡◌, ℕ, ◌≤◌, zero, suc, Bool, true, false, List, [], ◌∷◌, map, take, refl, sym, ap, ◌∙◌, arith}
use Rattle.std.specs.Prelude.{slice_index_or, ◌==◌}
use Rattle.st_model.specs.declared.oop.Oop.{Oop}
use Rattle.st_model.specs.Values.{value, value_of}
use Rattle.st_model.specs.Settled.{or, names, any_names}
use Rattle.st_counted.specs.inside.Words.{nil_word}
use Rattle.st_plain.proofs.Marking.{or_step}

pub twice : (a b : Bool) → or a (or a b) ≡ or a b
twice true b = refl
twice false b = refl

nil_name : (n : ℕ) → names (value nil_word) n ≡ (n == 1)
unfolding value_of
nil_name n = refl

-- beside nil, the words past the end name nothing more
pub any_names-end : (xs : List Oop) (end n : ℕ) (b : Bool) → ((k : ℕ) → end ≤ k → slice_index_or xs k nil_word ≡ nil_word)
    → or (any_names (map value (take end xs)) n) (or (n == 1) b) ≡ or (any_names (map value xs) n) (or (n == 1) b)
any_names-end [] zero n b f = refl
any_names-end [] (suc end) n b f = refl
any_names-end (x ∷ xs) zero n b f =
    let c = or (n == 1) b in
    let rest = any_names (map value xs) n in
    let named : names (value x) n ≡ (n == 1) = ap (λ (w : Oop). names (value w) n) (f 0 (omega arith)) ∙ nil_name n in
    sym (twice (n == 1) b) ∙ ap (or (n == 1)) (any_names-end xs zero n b (λ k l. f (suc k) (omega arith))) ∙ or_step (n == 1) rest c ∙ ap (λ a. or (or a rest) c) (sym named)
any_names-end (x ∷ xs) (suc end) n b f =
    let c = or (n == 1) b in
    let a = names (value x) n in
    sym (or_step a (any_names (map value (take end xs)) n) c) ∙ ap (or a) (any_names-end xs end n b (λ k l. f (suc k) (omega (arith, l)))) ∙ or_step a (any_names (map value xs) n) c
