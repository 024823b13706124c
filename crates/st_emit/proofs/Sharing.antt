-- What is shared is found by its text.
use Rattle.std.proofs.Common.{◌≡◌, ℕ, Bool, true, false, List, [], ◌∷◌, Some, refl, ◌∙◌, cond, find}
use Rattle.std.specs.Prelude.{bytes_eq, option_map}
use Rattle.std.specs.Global.{Vec}
use Rattle.std.specs.Ordering.{is_eq, nat_cmp}
use Rattle.std.specs.Map.{lookup}
use Rattle.std.specs.Cmp.Lexicographic.{slice_cmp, nat_list_eq_equiv}
use Rattle.std.proofs.lemmas.Map.Text.{is_eq-slice_cmp}
use Rattle.st_model.specs.declared.oop.Oop.{Oop}
use Rattle.st_emit.specs.inside.NameViews.{shared_view, pointer_of}

tests_same : (a b : List ℕ) → is_eq (slice_cmp nat_cmp a b) ≡ bytes_eq b a
tests_same a b = is_eq-slice_cmp a b ∙ nat_list_eq_equiv.symm a b

pub shared_found : (entries : List (Vec ℕ × Oop)) (text : List ℕ)
    → option_map pointer_of (lookup (λ k. is_eq (slice_cmp nat_cmp text k.items)) entries) ≡ option_map (λ s. s.association) (find (λ s. bytes_eq s.text text) (shared_view entries))
shared_found [] text = refl
shared_found (e ∷ es) text = by (is_eq (slice_cmp nat_cmp text e.0.items)) (bytes_eq e.0.items text) (tests_same text e.0.items) (shared_found es text)
  where
    by : (a b : Bool) → a ≡ b → option_map pointer_of (lookup (λ k. is_eq (slice_cmp nat_cmp text k.items)) es) ≡ option_map (λ s. s.association) (find (λ s. bytes_eq s.text text) (shared_view es))
        → option_map pointer_of (cond a (Some e.1) (lookup (λ k. is_eq (slice_cmp nat_cmp text k.items)) es))
        ≡ option_map (λ s. s.association) (cond b (Some (record { text = e.0.items; association = e.1.0 })) (find (λ s. bytes_eq s.text text) (shared_view es)))
    by true true t h = refl
    by false false t h = h
    by true false t h = cc
    by false true t h = cc
