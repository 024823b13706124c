-- The object under the pointer of a place.
use Rattle.std.proofs.Common.{◌≡◌, ℕ, ◌*◌, true, false, refl, sym, ap, ◌∙◌, is_some}
use Rattle.std.specs.Prelude.{unwrap_or, Option, Some, None}
use Rattle.st_model.specs.Values.{Value, Ref, value_of}
use Rattle.st_model.specs.Objects.{Object}
use Rattle.st_model.specs.Table.{Table, entry}
use Rattle.st_model.specs.View.{nothing, is_live, object_of}
use Rattle.st_model.proofs.Pointers.{value_of-pointer}
use Rattle.st_model.proofs.LoadingLemmas.{none_of}

pub place_value : (w k : ℕ) → w ≡ 2 * k → value_of w ≡ Ref k
place_value w k e = ap value_of e ∙ value_of-pointer k

some_is : (x : Option Object) → is_some x ≡ true → x ≡ Some (unwrap_or x nothing)
some_is None h = cc
some_is (Some o) h = refl

pub live_entry : (t : Table) (v : Value) (k : ℕ) → v ≡ Ref k → is_live t v ≡ true → entry t k ≡ Some (object_of t v)
unfolding is_live object_of
live_entry t v k e h = some_is (entry t k) (ap (is_live t) (sym e) ∙ h) ∙ ap (λ x. Some (object_of t x)) (sym e)

pub dead_entry : (t : Table) (v : Value) (k : ℕ) → v ≡ Ref k → is_live t v ≡ false → entry t k ≡ None
unfolding is_live
dead_entry t v k e h = none_of (entry t k) (ap (is_live t) (sym e) ∙ h)
