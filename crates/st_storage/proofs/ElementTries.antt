-- Primitives that read and store elements, whose conditions hold.
use Rattle.std.proofs.Common.{◌≡◌, ℕ, Bool}
use Rattle.std.specs.Prelude.{ℤ}
use Rattle.st_model.specs.declared.dead.Dead.{Dead}
use Rattle.st_model.specs.Values.{Value}
use Rattle.st_model.specs.Machine.{ObjectMemory, State, Transition, Died, Went, after, ◌>>=◌}
use Rattle.st_model.specs.Table.{Table}
use Rattle.st_model.specs.Steps.{top, under}
use Rattle.st_model.specs.Primitives.{primitive, number_of}
use Rattle.st_model.specs.Storage.{count_elements, fetch_element, place_at, place_behind_fixed, store_and_answer, storing_behind_fixed, storing_by_index, storing_character, primitive_at, primitive_at_put, primitive_instance_variable_at, primitive_instance_variable_at_put, primitive_size, primitive_string_at_put, Storing}
use Rattle.st_frames.specs.inside.Answering.{succeed_by}
use Rattle.st_storage.specs.inside.Storing.{put_operands}
use Rattle.st_storage.proofs.PutTries.{ungiven}
use Rattle.st_frames.proofs.Tries.{primitive-done}

pub tried-at : (m : ObjectMemory Table) (v w : Value) (a : ℕ) (s : State Table) (y : Transition (State Table) Bool) → (under m 1).run s ≡ Went v s → (top m).run s ≡ Went w s
    → (place_behind_fixed m v w).run s ≡ Went a s → (succeed_by m 1 (fetch_element m v a)).run s ≡ y
    → (primitive_at m).run s ≡ y
unfolding primitive_at ◌>>=◌ after
tried-at m v w a s y e0 e1 h k = rw (e0, e1) (primitive-done m 1 (place_behind_fixed m v w) (λ (a : ℕ). fetch_element m v a) s a y h k)

pub tried-instance_variable_at : (m : ObjectMemory Table) (v w : Value) (a : ℕ) (s : State Table) (y : Transition (State Table) Bool) → (under m 1).run s ≡ Went v s → (top m).run s ≡ Went w s
    → (place_at m v 0 w).run s ≡ Went a s → (succeed_by m 1 (fetch_element m v a)).run s ≡ y
    → (primitive_instance_variable_at m).run s ≡ y
unfolding primitive_instance_variable_at ◌>>=◌ after
tried-instance_variable_at m v w a s y e0 e1 h k = rw (e0, e1) (primitive-done m 1 (place_at m v 0 w) (λ (a : ℕ). fetch_element m v a) s a y h k)

pub tried-size : (m : ObjectMemory Table) (v : Value) (a b : ℤ) (s : State Table) (y : Transition (State Table) Bool) → b ≡ a → (top m).run s ≡ Went v s
    → (count_elements m v).run s ≡ Went a s → (succeed_by m 0 (number_of m b)).run s ≡ y
    → (primitive_size m).run s ≡ y
unfolding primitive_size ◌>>=◌ after
tried-size m v a b s y q e0 h k = rw e0 (primitive-done m 0 (count_elements m v) (λ (a : ℤ). number_of m a) s a y h (rw q at k))

pub tried-at_put : (m : ObjectMemory Table) (v w x : Value) (a : Storing) (s : State Table) (y : Transition (State Table) Bool) → (under m 2).run s ≡ Went v s → (under m 1).run s ≡ Went w s → (top m).run s ≡ Went x s
    → (storing_behind_fixed m v w x).run s ≡ Went a s → (succeed_by m 2 (store_and_answer m v x a)).run s ≡ y
    → (primitive_at_put m).run s ≡ y
unfolding primitive_at_put ◌>>=◌ after
tried-at_put m v w x a s y e0 e1 e2 h k = rw (e0, e1, e2) (primitive-done m 2 (storing_behind_fixed m v w x) (λ (a : Storing). store_and_answer m v x a) s a y h k)

pub tried-instance_variable_at_put : (m : ObjectMemory Table) (v w x : Value) (a : Storing) (s : State Table) (y : Transition (State Table) Bool) → (under m 2).run s ≡ Went v s → (under m 1).run s ≡ Went w s → (top m).run s ≡ Went x s
    → (storing_by_index m v w x).run s ≡ Went a s → (succeed_by m 2 (store_and_answer m v x a)).run s ≡ y
    → (primitive_instance_variable_at_put m).run s ≡ y
unfolding primitive_instance_variable_at_put ◌>>=◌ after
tried-instance_variable_at_put m v w x a s y e0 e1 e2 h k = rw (e0, e1, e2) (primitive-done m 2 (storing_by_index m v w x) (λ (a : Storing). store_and_answer m v x a) s a y h k)

pub tried-string_at_put : (m : ObjectMemory Table) (v w x : Value) (a : Storing) (s : State Table) (y : Transition (State Table) Bool) → (under m 2).run s ≡ Went v s → (under m 1).run s ≡ Went w s → (top m).run s ≡ Went x s
    → (storing_character m v w x).run s ≡ Went a s → (succeed_by m 2 (store_and_answer m v x a)).run s ≡ y
    → (primitive_string_at_put m).run s ≡ y
unfolding primitive_string_at_put ◌>>=◌ after
tried-string_at_put m v w x a s y e0 e1 e2 h k = rw (e0, e1, e2) (primitive-done m 2 (storing_character m v w x) (λ (a : Storing). store_and_answer m v x a) s a y h k)

pub died-at_put : (m : ObjectMemory Table) (k : Dead) (s : State Table) → (put_operands m).run s ≡ Died k → (primitive_at_put m).run s ≡ Died k
unfolding primitive_at_put
died-at_put m k s e = ungiven m (λ v w x. primitive m 2 (storing_behind_fixed m v w x) (λ a. store_and_answer m v x a)) k s e

pub died-instance_variable_at_put : (m : ObjectMemory Table) (k : Dead) (s : State Table) → (put_operands m).run s ≡ Died k → (primitive_instance_variable_at_put m).run s ≡ Died k
unfolding primitive_instance_variable_at_put
died-instance_variable_at_put m k s e = ungiven m (λ v w x. primitive m 2 (storing_by_index m v w x) (λ a. store_and_answer m v x a)) k s e

pub died-string_at_put : (m : ObjectMemory Table) (k : Dead) (s : State Table) → (put_operands m).run s ≡ Died k → (primitive_string_at_put m).run s ≡ Died k
unfolding primitive_string_at_put
died-string_at_put m k s e = ungiven m (λ v w x. primitive m 2 (storing_character m v w x) (λ a. store_and_answer m v x a)) k s e
