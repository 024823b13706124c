-- When two things are the same.
use Rattle.std.proofs.Common.{◌≡◌, ℕ, ◌+◌, Bool, true, false, List, [], ◌∷◌, ◌++◌, cond, refl, sym, ap, ◌∙◌}
use Rattle.std.specs.Prelude.{◌||◌, Some}
use Rattle.std.specs.List.{list_any, position, position_from}
use Rattle.std.proofs.lemmas.Iterator.Adapters.{position_from-zero}
use Rattle.st_first_objects.specs.contracts.thing.ThingPartialEq.TheImpl as derived
use Rattle.st_first_objects.specs.declared.thing.Thing as declared_thing
use Rattle.st_first_objects.specs.Things.{Thing, same}
use Rattle.st_first_objects.specs.Orders.{Order, put}
use Rattle.st_first_objects.specs.inside.Views.{thing_of, things_of}

pub made_is : (a : declared_thing.Thing) → (ts : List declared_thing.Thing) → list_any ((derived.eq-value).it a) ts ≡ list_any (same (thing_of a)) (things_of ts)
made_is a [] = refl
made_is a (t ∷ ts) = ap (λ b. same (thing_of a) (thing_of t) || b) (made_is a ts)

things_last : (ts : List declared_thing.Thing) → (t : declared_thing.Thing) → things_of (ts ++ t ∷ []) ≡ things_of ts ++ thing_of t ∷ []
things_last [] t = refl
things_last (x ∷ ts) t = ap (λ xs. thing_of x ∷ xs) (things_last ts t)

abbrev ordered : (symbols places : ℕ) → List Thing → Order
ordered symbols places things = record { things = things; symbols = symbols; places = places }

put_by : (ts : List declared_thing.Thing) → (t : declared_thing.Thing) → (symbols places : ℕ) → (b : Bool)
    → ordered symbols places (things_of (cond b ts (ts ++ t ∷ []))) ≡ cond b (ordered symbols places (things_of ts)) (ordered symbols places (things_of ts ++ thing_of t ∷ []))
put_by ts t symbols places true = refl
put_by ts t symbols places false = ap (ordered symbols places) (things_last ts t)

pub put_is : (ts new : List declared_thing.Thing) → (t : declared_thing.Thing) → (symbols places : ℕ)
    → new ≡ cond (list_any ((derived.eq-value).it t) ts) ts (ts ++ t ∷ [])
    → ordered symbols places (things_of new) ≡ put (ordered symbols places (things_of ts)) (thing_of t)
put_is ts new t symbols places is =
    ap (λ xs. ordered symbols places (things_of xs)) is
    ∙ put_by ts t symbols places (list_any ((derived.eq-value).it t) ts)
    ∙ ap (λ b. cond b (ordered symbols places (things_of ts)) (ordered symbols places (things_of ts ++ thing_of t ∷ []))) (made_is t ts)

position_from_is : (a : declared_thing.Thing) (i : ℕ) → (ts : List declared_thing.Thing) → position_from ((derived.eq-value).it a) i ts ≡ position_from (same (thing_of a)) i (things_of ts)
position_from_is a i [] = refl
position_from_is a i (t ∷ ts) = ap (cond (same (thing_of a) (thing_of t)) (Some i)) (position_from_is a (i + 1) ts)

pub position_is : (a : declared_thing.Thing) → (ts : List declared_thing.Thing) → position ((derived.eq-value).it a) ts ≡ position (same (thing_of a)) (things_of ts)
position_is a ts = position_from-zero ((derived.eq-value).it a) ts ∙ position_from_is a 0 ts ∙ sym (position_from-zero (same (thing_of a)) (things_of ts))
