-- Worked rows: a chain goes from its first object on, and an object that refers to itself stays.
use Rattle.std.proofs.Common.{◌≡◌, ℕ, List, [], ◌∷◌, Some, None, Bool, true, false, refl, inl, inr}
use Rattle.st_model.specs.Values.{Value, Ref}
use Rattle.st_model.specs.Objects.{Object}
use Rattle.st_model.specs.declared.kind.Kind.TheVariants as kind
use Rattle.st_model.specs.Table.{Table, table}
use Rattle.st_model.specs.Settled.{is_root, is_supported}
use Rattle.st_counted.specs.inside.Taking.{IsUnsupported, without, TakesAway}
use Rattle.st_counted.proofs.Taking.{unsupported, without_below}
use Rattle.st_model.proofs.Reclaiming.{table_finite}

-- an object of the class at place 9, with these fields
of_nine : List Value → Object
of_nine fields = record { class = 9; kind = kind.Pointers; fields = fields; units = [] }

-- 10 refers to 5, all to 9, and 9 to itself
objects : Table
objects = None ∷ None ∷ None ∷ None ∷ None ∷ Some (of_nine []) ∷ None ∷ None ∷ None ∷ Some (of_nine []) ∷ Some (of_nine (Ref 5 ∷ [])) ∷ []

kept : ℕ → Bool
kept = table.kept objects

no_ten : ℕ → Bool
no_ten = without kept 10

left : ℕ → Bool
left = without no_ten 5

ten_first : IsUnsupported table objects [] kept 10
unfolding is_root is_supported objects of_nine kept
ten_first = unsupported table objects [] kept (table_finite objects) 10 refl refl

then_five : IsUnsupported table objects [] no_ten 5
unfolding is_root is_supported objects of_nine kept no_ten
then_five = unsupported table objects [] no_ten (λ n t. table_finite objects n (without_below kept 10 n t)) 5 refl refl

chain_goes : TakesAway table objects [] kept (10 ∷ 5 ∷ []) left
unfolding no_ten left
chain_goes = (ten_first, (then_five, λ n. refl))

-- five can't go first
not_five : IsUnsupported table objects [] kept 5 → ⊥
unfolding objects of_nine kept
not_five a = a.no_referred (record { from = 10; object = of_nine (Ref 5 ∷ []); member = refl; is = refl; refers = inr (inl refl) })

-- nine can't go at all
not_nine : IsUnsupported table objects [] left 9 → ⊥
unfolding objects of_nine kept no_ten left
not_nine a = a.no_referred (record { from = 9; object = of_nine []; member = refl; is = refl; refers = inl refl })

gone : (left 5 ≡ false) × (left 9 ≡ true) × (left 10 ≡ false)
unfolding objects kept no_ten left
gone = (refl, refl, refl)
