-- Primitives on Methods, whose conditions hold.
use Rattle.std.proofs.Common.{◌≡◌, ◌≤◌, ℕ, Bool, true, refl, arith}
use Rattle.std.specs.Prelude.{◌%◌, nat_le}
use Rattle.std.proofs.lemmas.Bool.Decides.{nat_tests}
use Rattle.st_model.specs.declared.dead.Dead.{Dead}
use Rattle.st_model.specs.Values.{Value}
use Rattle.st_model.specs.Machine.{ObjectMemory, State, Transition, Died, Went, answer, after, ◌>>=◌, ◌>>◌}
use Rattle.st_model.specs.Table.{Table}
use Rattle.st_model.specs.Steps.{of_page, same_value, check, top, under}
use Rattle.st_model.specs.declared.page.PageObject.TheVariants.{MethodClass}
use Rattle.st_model.specs.Primitives.{primitive, positive_small, bits_or_die}
use Rattle.st_model.specs.Storage.{method_shape, new_method, place_to_store, store_in_method, method_words, primitive_new_method, primitive_object_at_put, MethodShape}
use Rattle.st_frames.specs.inside.Answering.{succeed_by, succeed_with}
use Rattle.st_storage.specs.inside.Storing.{put_operands}
use Rattle.st_storage.proofs.PutTries.{ungiven}
use Rattle.st_frames.proofs.Tries.{primitive-died, primitive-held, primitive-done}

pub tried-object_at_put : (m : ObjectMemory Table) (v w x : Value) (a : ℕ) (s : State Table) (y : Transition (State Table) Bool) → (under m 2).run s ≡ Went v s → (under m 1).run s ≡ Went w s → (top m).run s ≡ Went x s
    → (place_to_store m v w x).run s ≡ Went a s → (succeed_by m 2 (store_in_method m v x a)).run s ≡ y
    → (primitive_object_at_put m).run s ≡ y
unfolding primitive_object_at_put ◌>>=◌ after
tried-object_at_put m v w x a s y e0 e1 e2 h k = rw (e0, e1, e2) (primitive-done m 2 (place_to_store m v w x) (λ (a : ℕ). store_in_method m v x a) s a y h k)

pub died-object_at_put : (m : ObjectMemory Table) (k : Dead) (s : State Table) → (put_operands m).run s ≡ Died k → (primitive_object_at_put m).run s ≡ Died k
unfolding primitive_object_at_put
died-object_at_put m k s e = ungiven m (λ v w x. primitive m 2 (place_to_store m v w x) (λ a. store_in_method m v x a)) k s e

pub tried-new_method : (m : ObjectMemory Table) (v w x z : Value) (a : MethodShape) (s t : State Table) (y : Transition (State Table) Bool) → (under m 2).run s ≡ Went v s → (under m 1).run s ≡ Went w s → (top m).run s ≡ Went x s
    → (method_shape m v w x).run s ≡ Went a s → (new_method m v a).run s ≡ Went z t → (succeed_with m 2 z).run t ≡ y
    → (primitive_new_method m).run s ≡ y
unfolding primitive_new_method ◌>>=◌ after
tried-new_method m v w x z a s t y e0 e1 e2 h d k = rw (e0, e1, e2) (primitive-held m 2 (method_shape m v w x) (λ (a : MethodShape). new_method m v a) s a z t y h d k)

pub died-new_method : (m : ObjectMemory Table) (v w x : Value) (a : MethodShape) (s : State Table) (k : Dead) → (under m 2).run s ≡ Went v s → (under m 1).run s ≡ Went w s → (top m).run s ≡ Went x s
    → (method_shape m v w x).run s ≡ Went a s → (new_method m v a).run s ≡ Died k
    → (primitive_new_method m).run s ≡ Died k
unfolding primitive_new_method ◌>>=◌ after
died-new_method m v w x a s k e0 e1 e2 h d = rw (e0, e1, e2) (primitive-died m 2 (method_shape m v w x) (λ (a : MethodShape). new_method m v a) s a k h d)

-- the shape of a new Method
pub shape-is : (m : ObjectMemory Table) (v a b w : Value) (bytes header : ℕ) (s : State Table) → (of_page m MethodClass).run s ≡ Went w s → same_value v w ≡ true → (positive_small a).run s ≡ Went bytes s
    → (bits_or_die b).run s ≡ Went header s → method_words (header % 64) bytes ≤ 65533 → (method_shape m v a b).run s ≡ Went (record { header = header; bytes = bytes }) s
unfolding method_shape ◌>>=◌ ◌>>◌ after check answer
shape-is m v a b w bytes header s e f g h l =
    let k : nat_le (method_words (header % 64) bytes) 65533 ≡ true = grind (arith, nat_tests) in
    rw (e, f, g, h, k) refl
