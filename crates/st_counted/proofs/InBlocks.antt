-- How a memory's objects stand in its heap, and what its counts say.
use Rattle.std.proofs.Common.{◌≡◌, ◌∙◌, ◌+◌, ◌/◌, ℕ, List, [], Option, is_some, refl, sym, ap, arith}
use Rattle.std.specs.Prelude.{Some, None, if◌then◌else◌}
use Rattle.std.specs.Option.{option_map}
use Rattle.st_model.specs.Objects.{Object}
use Rattle.st_model.specs.Table.{Table, entry}
use Rattle.st_model.specs.Values.{Value}
use Rattle.st_heap.specs.inside.Stored.{Stored, slot}
use Rattle.st_heap.specs.inside.Forms.{cell, object_from, objects_in, AllSound}
use Rattle.st_heap.proofs.Living.{entry-stored}
use Rattle.st_counted.specs.inside.Counts.{count_at}
use Rattle.st_counted.specs.inside.References.{times, uses, references, IsCounted}
use Rattle.st_counted.specs.inside.Standing.{StandsInBlock}

none_is : (o : Object) → None ≡ Some o → ⊥
none_is o e = cc

pub stands : (all : List (Option Stored)) → AllSound all → (k : ℕ) (o : Object) → entry (objects_in all) k ≡ Some o → StandsInBlock all k o
stands all sound k o is = over (slot all k) refl (sym (entry-stored all k) ∙ is)
  where
    over : (x : Option Stored) → slot all k ≡ x → option_map object_from x ≡ Some o → StandsInBlock all k o
    over None there e = absurd (none_is o e)
    over (Some s) there e =
        let whole = sound k s there in
        let body : object_from s ≡ o = cc in
        let half : cell s 1 / 2 ≡ o.class = ap (λ (x : Object). x.class) body in
        let even = whole.class in
        record { block = s; stored = there; size = whole.size; class = omega (arith, half, even); body = body }

-- with no reference in hand
pub counts : (t : Table) (roots : List Value) (numbers : List (Option ℕ)) → IsCounted t roots [] numbers → (k : ℕ) → count_at numbers k ≡ (if is_some (entry t k) then Some (times k roots + uses k t) else None)
counts t roots numbers counted k =
    let none : references t roots [] k ≡ times k roots + uses k t = omega arith in
    counted.tallied k ∙ ap (λ (n : ℕ). if is_some (entry t k) then Some n else None) none
