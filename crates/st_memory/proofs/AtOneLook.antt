-- Fields of an object that is looked at once.
use Rattle.std.proofs.Common.{◌≡◌, ◌<◌, ℕ, Bool, true, false, Some, refl, subst}
use Rattle.std.specs.Prelude.{slice_get}
use Rattle.st_model.specs.declared.dead.Dead.TheVariants as dead
use Rattle.st_model.specs.Values.{Value, value_of, is_small}
use Rattle.st_model.specs.Objects.{is_pointers}
use Rattle.st_model.specs.Machine.{State, Went, is_there}
use Rattle.st_model.specs.Steps.{fetch_field}
use Rattle.st_model.specs.Table.{Table, table, bounded_table}
use Rattle.st_model.specs.View.{IsKnown, is_live, object_of}
use Rattle.st_model.proofs.Runs.{run-then, run-next, after-went, run-live, run-passed, run-some}
use Rattle.st_memory.proofs.Wide.{fetch_field-bounded, there_small, there_live}

fetch_went : (v x : Value) (i : ℕ) (s : State Table) → is_live s.memory v ≡ true → is_pointers (object_of s.memory v).kind ≡ true
    → slice_get (object_of s.memory v).fields i ≡ Some x → (fetch_field table v i).run s ≡ Went x s
unfolding fetch_field
fetch_went v x i s live kind is =
    simp (run-then, run-next, after-went, run-live v s live, run-passed dead.Kind _ s kind, run-some dead.Field _ x s is) refl

-- a field of a live object of kind Pointers, which the value v names
pub field_read : (t : Table) (v o x y : Value) (i : ℕ) → o ≡ v → is_live t o ≡ true → is_pointers (object_of t o).kind ≡ true
    → slice_get (object_of t o).fields i ≡ Some x → y ≡ x → (s : State Table) → s.memory ≡ t → (fetch_field bounded_table v i).run s ≡ Went y s
field_read t v o x y i same live kind is word s over =
    rw (fetch_field-bounded v i, word)
    (subst (λ (w : Value). (fetch_field table w i).run s ≡ Went x s) same (fetch_went o x i s (rw over live) (rw over kind) (rw over is)))

-- what is known and has 16 bits is there, under whatever word names it
pub known_is_there : (t : Table) (w : ℕ) → w < 65536 → IsKnown t (value_of w) → is_there bounded_table t (value_of w) ≡ true
known_is_there t w small known = by_size (is_small (value_of w)) refl
  where
    by_size : (b : Bool) → is_small (value_of w) ≡ b → is_there bounded_table t (value_of w) ≡ true
    by_size true e = there_small t w small e
    by_size false e = there_live t (value_of w) (known e)
