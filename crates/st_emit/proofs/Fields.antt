-- Instance variables past the ones that have numbers.
use Rattle.std.proofs.Common.{◌≡◌, ℕ, ◌+◌, ◌≤◌, ◌<◌, Bool, true, false, List, [], ◌∷◌, length, drop, get_or, Some, None, refl, sym, ap, ◌∙◌, cond, arith}
use Rattle.std.specs.Prelude.{bytes_eq}
use Rattle.std.specs.Global.{Vec}
use Rattle.std.proofs.lemmas.Bool.Decides.{nat_tests}
use Rattle.std.proofs.lemmas.List.{at_drop_more}
use Rattle.st_emit.specs.Bounds.{most_fields}
use Rattle.st_emit.specs.Names.{if_named, field_from}
use Rattle.st_emit.specs.inside.NameViews.{texts_view}

pub field_late : (k : ℕ) → most_fields ≤ k → (names : List (List ℕ)) (text : List ℕ) → None ≡ if_named (field_from k names text)
field_late k le [] text = refl
field_late k le (x ∷ xs) text = by (bytes_eq x text) (field_late (k + 1) (omega arith) xs text)
  where
    by : (b : Bool) → None ≡ if_named (field_from (k + 1) xs text) → None ≡ if_named (cond b (Some k) (field_from (k + 1) xs text))
    by true h = grind (arith, nat_tests)
    by false h = h

-- one that has a number
pub field_number : (k : ℕ) → k < most_fields → Some k ≡ if_named (Some k)
field_number k lt = grind (arith, nat_tests)

pub field_here : (fields : List (Vec ℕ)) (i : ℕ) (x : Vec ℕ) (text : List ℕ) → i < length fields → x ≡ get_or fields i x → bytes_eq x.items text ≡ true → Some i ≡ field_from i (texts_view (drop i fields)) text
field_here fields i x text lt e h =
    sym
    (at_drop_more (λ ts. field_from i (texts_view ts) text) fields i x lt
    ∙ ap (λ y. field_from i (texts_view (y ∷ drop (i + 1) fields)) text) (sym e)
    ∙ ap (λ b. cond b (Some i) (field_from (i + 1) (texts_view (drop (i + 1) fields)) text)) h)
