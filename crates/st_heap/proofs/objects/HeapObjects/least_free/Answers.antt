use Rattle.std.proofs.Common.{◌≡◌, ◌*◌, true, List, Option, Some, None, is_some, refl, sym, ap, ◌∙◌, subst, arith}
use Rattle.std.specs.Prelude.{IfSome, IfNone}
use Rattle.st_model.specs.declared.oop.Oop.{Oop}
use Rattle.st_model.specs.Values.{Ref}
use Rattle.st_model.specs.Table.{first_free}
use Rattle.st_heap.specs.inside.Stored.{Stored, IsUnused, IsLeastUnused}
use Rattle.st_heap.specs.inside.Forms.{objects_in}
use Rattle.st_heap.proofs.Living.{even_value}
use Rattle.st_heap.proofs.Changing.{least_place, free_unused}
use Rattle.st_heap.proofs.Placing.{length-stored}
use Rattle.st_heap.specs.inside.Stores.{stored_of}
use Rattle.st_heap.proofs.objects.HeapObjects.least_free.Goals as goal

some_unused : (all : List (Option Stored)) (x : Option Oop) → IfNone x ((p : Oop) → ¬ IsUnused all p) → (p : Oop) → IsUnused all p → is_some x ≡ true
some_unused all None h p unused = absurd (h p unused)
some_unused all (Some o) h p unused = refl

pub unwrap-requires : goal.unwrap-requires
unwrap-requires c =
    let all = stored_of c.args.self.now.store in
    let long = length-stored c.args.self.now.store in
    let left = c.requires in
    some_unused all c.least_free.result c.least_free.ensures.none (record { 0 = 2 * first_free (objects_in all) }) (free_unused all (omega (arith, left, long)))

least_of : (all : List (Option Stored)) (x : Option Oop) (o : Oop) → IfSome x (IsLeastUnused all) → x ≡ Some o → IsLeastUnused all o
least_of all None o h is = cc
least_of all (Some p) o h is = subst (IsLeastUnused all) (same is) h
  where
    same : {a b : Oop} → Some a ≡ Some b → a ≡ b
    same e = cc

pub returns-clause-least : goal.returns-clause-least
returns-clause-least c =
    let all = stored_of c.args.self.now.store in
    let least = least_of all c.least_free.result c.unwrap.result c.least_free.ensures.least c.unwrap.ensures in
    even_value all c.unwrap.result.0 least.unused.even ∙ ap Ref (sym (least_place all c.unwrap.result least))

pub returns-clause-borne : goal.returns-clause-borne
returns-clause-borne c = (least_of (stored_of c.args.self.now.store) c.least_free.result c.unwrap.result c.least_free.ensures.least c.unwrap.ensures).unused.some
