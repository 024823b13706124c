-- Primitives on streams, whose conditions hold.
use Rattle.std.proofs.Common.{◌≡◌, Bool}
use Rattle.st_model.specs.declared.dead.Dead.{Dead}
use Rattle.st_model.specs.Values.{Value}
use Rattle.st_model.specs.Machine.{ObjectMemory, State, Transition, Died, Went, after, ◌>>=◌}
use Rattle.st_model.specs.Table.{Table}
use Rattle.st_model.specs.Steps.{top, under}
use Rattle.st_model.specs.Storage.{put_next, stream_putting, stream_standing, take_next, primitive_next, primitive_next_put, Standing, Putting}
use Rattle.st_frames.specs.inside.Answering.{succeed_by, succeed_with}
use Rattle.st_frames.proofs.Tries.{primitive-died, primitive-done, primitive-held}

pub tried-next : (m : ObjectMemory Table) (v z : Value) (a : Standing) (s t : State Table) (y : Transition (State Table) Bool) → (top m).run s ≡ Went v s
    → (stream_standing m v 2).run s ≡ Went a s → (take_next m v a).run s ≡ Went z t → (succeed_with m 0 z).run t ≡ y
    → (primitive_next m).run s ≡ y
unfolding primitive_next ◌>>=◌ after
tried-next m v z a s t y e0 h d k = rw (e0) (primitive-held m 0 (stream_standing m v 2) (λ (a : Standing). take_next m v a) s a z t y h d k)

pub died-next : (m : ObjectMemory Table) (v : Value) (a : Standing) (s : State Table) (k : Dead) → (top m).run s ≡ Went v s
    → (stream_standing m v 2).run s ≡ Went a s → (take_next m v a).run s ≡ Died k → (primitive_next m).run s ≡ Died k
unfolding primitive_next ◌>>=◌ after
died-next m v a s k e0 h d = rw (e0) (primitive-died m 0 (stream_standing m v 2) (λ (a : Standing). take_next m v a) s a k h d)

pub tried-next_put : (m : ObjectMemory Table) (v w : Value) (a : Putting) (s : State Table) (y : Transition (State Table) Bool) → (under m 1).run s ≡ Went v s → (top m).run s ≡ Went w s
    → (stream_putting m v w).run s ≡ Went a s → (succeed_by m 1 (put_next m v w a)).run s ≡ y
    → (primitive_next_put m).run s ≡ y
unfolding primitive_next_put ◌>>=◌ after
tried-next_put m v w a s y e0 e1 h k = rw (e0, e1) (primitive-done m 1 (stream_putting m v w) (λ (a : Putting). put_next m v w a) s a y h k)
