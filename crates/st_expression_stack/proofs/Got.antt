-- What is got of a list by its place.
use Rattle.std.proofs.Common.{◌≡◌, ℕ, List, map, Option, Some, None, refl, sym, ap, ◌∙◌}
use Rattle.std.proofs.lemmas.Option.{slice_get-map, slice_get_past, slice_get-get_or}
use Rattle.std.specs.Borrow.{Bor}
use Rattle.std.specs.Global.{Vec}
use Rattle.std.specs.Prelude.{slice_get, option_map}
use Rattle.std.specs.Slice.{IsItemAt}
use Rattle.st_emit.specs.inside.NameViews.{texts_view}
use Rattle.st_expression_stack.specs.inside.Called.{items_now}
use Rattle.st_expression_stack.proofs.NameTurns.{texts_map}

module _ {X : Type 0} (xs : List X) (i : ℕ) where
  pub got : (r : Option (Bor X)) → IsItemAt xs i r → slice_get xs i ≡ option_map (λ (x : Bor X). x.now) r
  got None h = slice_get_past xs i h.3
  got (Some x) h = slice_get-get_or xs i x.now h.3.0 ∙ ap (λ (y : X). Some y) (sym h.1)

  pub got_as : {Y : Type 0} (f : X → Y) (r : Option (Bor X)) → IsItemAt xs i r → slice_get (map f xs) i ≡ option_map (λ (x : Bor X). f x.now) r
  got_as f r h = slice_get-map f xs i ∙ ap (option_map f) (got r h) ∙ same r
    where
      same : (o : Option (Bor X)) → option_map f (option_map (λ (x : Bor X). x.now) o) ≡ option_map (λ (x : Bor X). f x.now) o
      same None = refl
      same (Some x) = refl

pub text_got : (ts : List (Vec ℕ)) (i : ℕ) (r : Option (Bor (Vec ℕ))) → IsItemAt ts i r → slice_get (texts_view ts) i ≡ option_map items_now r
text_got ts i r h = ap (λ (l : List (List ℕ)). slice_get l i) (texts_map ts) ∙ got_as ts i (λ (t : Vec ℕ). t.items) r h
