-- What a memory or a loader says of itself can hold in one way only, so that a struct can keep it.
use Rattle.std.specs.Prelude.{◌≡◌, ℕ, List, [], ◌∷◌, Option, Some, unwrap_or}
use Rattle.std.proofs.Common.{ap}
use Rattle.std.proofs.Props.{props}
use mathlib.Core.HLevel.{Σ_prop_path, Unit-prop, ×_prop}
use native.Mathlib.Bridge.{le_prop}
use Rattle.st_model.specs.Values.{Value, Small, Ref, AllLive}
use Rattle.st_model.specs.Objects.{Object}
use Rattle.st_model.specs.Formed.{IsWord, IsFormed}
use Rattle.st_model.specs.Table.{Table}
use Rattle.st_model.specs.Show.{IsUsed}
use Rattle.st_model.specs.View.{View, IsComplete, IsWhole}
use Rattle.st_model.specs.inside.Loading.{IsLoading}

IsWord-prop : (v : Value) → IsProp (IsWord v)
IsWord-prop (Small n) = le_prop
IsWord-prop (Ref n) = Unit-prop

IsFormed-prop : (o : Object) → IsProp (IsFormed o)
IsFormed-prop o = Prim.hlevel (props, IsWord-prop)

IsUsed-prop : (t : Table) (k : ℕ) → IsProp (IsUsed t k)
IsUsed-prop t k a b = Σ_prop_path (λ o. Prim.hlevel props) (ap (λ (x : Option Object). unwrap_or x a.0) same)
  where
    same : Some a.0 ≡ Some b.0
    same = cc

AllLive-prop : (t : Table) (vs : List Value) → IsProp (AllLive (IsUsed t) vs)
AllLive-prop t [] = Unit-prop
AllLive-prop t (Small n ∷ vs) = ×_prop Unit-prop (AllLive-prop t vs)
AllLive-prop t (Ref n ∷ vs) = ×_prop (IsUsed-prop t n) (AllLive-prop t vs)

IsComplete-prop : (v : View) → IsProp (IsComplete v)
IsComplete-prop v = Prim.hlevel (props, IsUsed-prop, AllLive-prop)

pub IsWhole-prop : (v : View) → IsProp (IsWhole v)
IsWhole-prop v = Prim.hlevel (props, IsComplete-prop, IsFormed-prop)

pub IsLoading-prop : (v : View) → IsProp (IsLoading v)
IsLoading-prop v = Prim.hlevel (props, IsFormed-prop)
