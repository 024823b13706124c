-- Primitives that make and exchange objects, whose conditions hold.
use Rattle.std.proofs.Common.{◌≡◌, ℕ, Bool, false, Ok, refl, ap, ◌∙◌}
use Rattle.st_model.specs.declared.dead.Dead.{Dead}
use Rattle.st_model.specs.declared.demand.Demand.{Demand}
use Rattle.st_model.specs.Values.{Value, Small}
use Rattle.st_model.specs.Machine.{ObjectMemory, Head, State, Transition, Died, Went, after, ◌>>=◌}
use Rattle.st_model.specs.Table.{Table}
use Rattle.st_model.specs.Steps.{get_free, make, top, under}
use Rattle.st_model.specs.Primitives.{number, fixed_count}
use Rattle.st_model.specs.Storage.{check_objects, exchange_and_answer, fixed_specification, indexed_shape, kind_of_fixed, primitive_become, primitive_new, primitive_new_with, half_pointer, primitive_as_oop, primitive_core_left, primitive_oops_left, replacing, replace_and_answer, primitive_replace, Shape, Replacing}
use Rattle.st_model.specs.inside.Calls.{Changes, itself}
use Rattle.st_frames.specs.declared.registers.Registers.{Registers as Words}
use Rattle.st_frames.specs.inside.Rows.{row_state}
use Rattle.st_frames.proofs.Doing.{row-memory, row-head, row-stored}
use Rattle.st_frames.specs.inside.Answering.{succeed_by, succeed_with}
use Rattle.st_frames.proofs.Tries.{primitive-failed, primitive-died, primitive-done, primitive-held, primitive-small}

pub tried-new : (m : ObjectMemory Table) (v : Value) (a : ℕ) (s : State Table) (y : Transition (State Table) Bool) → (top m).run s ≡ Went v s
    → (fixed_specification m v).run s ≡ Went a s → (succeed_by m 0 (make m v (kind_of_fixed a) (fixed_count a) 0)).run s ≡ y
    → (primitive_new m).run s ≡ y
unfolding primitive_new ◌>>=◌ after
tried-new m v a s y e0 h k = rw (e0) (primitive-done m 0 (fixed_specification m v) (λ (a : ℕ). make m v (kind_of_fixed a) (fixed_count a) 0) s a y h k)

pub tried-new_with : (m : ObjectMemory Table) (v w : Value) (a : Shape) (s : State Table) (y : Transition (State Table) Bool) → (under m 1).run s ≡ Went v s → (top m).run s ≡ Went w s
    → (indexed_shape m v w).run s ≡ Went a s → (succeed_by m 1 (make m v a.kind a.size 0)).run s ≡ y
    → (primitive_new_with m).run s ≡ y
unfolding primitive_new_with ◌>>=◌ after
tried-new_with m v w a s y e0 e1 h k = rw (e0, e1) (primitive-done m 1 (indexed_shape m v w) (λ (a : Shape). make m v a.kind a.size 0) s a y h k)

pub tried-become : (m : ObjectMemory Table) (v w : Value) (a : Unit {0}) (s : State Table) (y : Transition (State Table) Bool) → (under m 1).run s ≡ Went v s → (top m).run s ≡ Went w s
    → (check_objects m v w).run s ≡ Went a s → (succeed_by m 1 (exchange_and_answer m v w)).run s ≡ y
    → (primitive_become m).run s ≡ y
unfolding primitive_become ◌>>=◌ after
tried-become m v w a s y e0 e1 h k = rw (e0, e1) (primitive-done m 1 (check_objects m v w) (λ (a : Unit {0}). exchange_and_answer m v w) s a y h k)

pub tried-as_oop : (m : ObjectMemory Table) (v w : Value) (n : ℕ) (s : State Table) (y : Transition (State Table) Bool) → (top m).run s ≡ Went v s → (half_pointer m v).run s ≡ Went n s
    → w ≡ Small n → (succeed_with m 0 w).run s ≡ y → (primitive_as_oop m).run s ≡ y
unfolding primitive_as_oop ◌>>=◌ after
tried-as_oop m v w n s y e h q k = rw e (primitive-small m 0 (half_pointer m v) s n y h (rw q at k))

-- numbers of what is free
pub tried-core_left : (m : ObjectMemory Table) (d : Demand) (s : State Table) (y : Transition (State Table) Bool) → (get_free m).run s ≡ Went d s → (succeed_by m 0 (number m d.words)).run s ≡ y
    → (primitive_core_left m).run s ≡ y
unfolding primitive_core_left
tried-core_left m d s y h k = primitive-done m 0 (get_free m) (λ (a : Demand). number m a.words) s d y h k

pub tried-oops_left : (m : ObjectMemory Table) (d : Demand) (s : State Table) (y : Transition (State Table) Bool) → (get_free m).run s ≡ Went d s → (succeed_by m 0 (number m d.entries)).run s ≡ y
    → (primitive_oops_left m).run s ≡ y
unfolding primitive_oops_left
tried-oops_left m d s y h k = primitive-done m 0 (get_free m) (λ (a : Demand). number m a.entries) s d y h k

-- bytes that are replaced
pub tried-replace : (m : ObjectMemory Table) (v w x u z o : Value) (a : Replacing) (s t : State Table) (y : Transition (State Table) Bool) → (under m 4).run s ≡ Went v s → (under m 3).run s ≡ Went w s
    → (under m 2).run s ≡ Went x s → (under m 1).run s ≡ Went u s → (top m).run s ≡ Went z s → (replacing m v w x u z).run s ≡ Went a s → (replace_and_answer m v u a).run s ≡ Went o t → (succeed_with m 4 o).run t ≡ y
    → (primitive_replace m).run s ≡ y
unfolding primitive_replace ◌>>=◌ after
tried-replace m v w x u z o a s t y e f g i j h d k = rw (e, f, g, i, j) (primitive-held m 4 (replacing m v w x u z) (λ (a : Replacing). replace_and_answer m v u a) s a o t y h d k)

pub lost-replace : (m : ObjectMemory Table) (v w x u z : Value) (a : Replacing) (s : State Table) (c : Dead) → (under m 4).run s ≡ Went v s → (under m 3).run s ≡ Went w s → (under m 2).run s ≡ Went x s
    → (under m 1).run s ≡ Went u s → (top m).run s ≡ Went z s → (replacing m v w x u z).run s ≡ Went a s → (replace_and_answer m v u a).run s ≡ Died c → (primitive_replace m).run s ≡ Died c
unfolding primitive_replace ◌>>=◌ after
lost-replace m v w x u z a s c e f g i j h d = rw (e, f, g, i, j) (primitive-died m 4 (replacing m v w x u z) (λ (a : Replacing). replace_and_answer m v u a) s a c h d)

pub died-replace : (m : ObjectMemory Table) (v w x u : Value) (s : State Table) (c : Dead) → (under m 4).run s ≡ Went v s → (under m 3).run s ≡ Went w s → (under m 2).run s ≡ Went x s
    → (under m 1).run s ≡ Went u s → (top m).run s ≡ Died c → (primitive_replace m).run s ≡ Died c
unfolding primitive_replace ◌>>=◌ after
died-replace m v w x u s c e f g i j = rw (e, f, g, i, j) refl

pub failed-replace : (m : ObjectMemory Table) (v w x u z : Value) (s : State Table) (c : Dead) → (under m 4).run s ≡ Went v s → (under m 3).run s ≡ Went w s → (under m 2).run s ≡ Went x s
    → (under m 1).run s ≡ Went u s → (top m).run s ≡ Went z s → (replacing m v w x u z).run s ≡ Died c → (primitive_replace m).run s ≡ Went false s
unfolding primitive_replace ◌>>=◌ after
failed-replace m v w x u z s c e f g i j h = rw (e, f, g, i, j) (primitive-failed m 4 (replacing m v w x u z) (λ (a : Replacing). replace_and_answer m v u a) s c h)

-- a free space, of the state that a row has
pub free-is : (m : ObjectMemory Table) (t : Table) (a : Head) (r : Words) (d : Demand) → Changes (get_free m) itself t a (Ok d) t → (get_free m).run (row_state t a r) ≡ Went d (row_state t a r)
free-is m t a r d h = h (row_state t a r) (row-memory t a r) (row-head t a r) ∙ ap (λ s. Went d s) (row-stored t t a a r refl)
