-- 128, by its condition.
use Rattle.std.proofs.Common.{◌≡◌, false, true, refl}
use Rattle.st_model.specs.declared.dead.Dead.{Dead}
use Rattle.st_model.specs.Values.{Value}
use Rattle.st_model.specs.Machine.{ObjectMemory, State, Died, Went, answer, after, tried, ◌>>=◌, ◌>>◌}
use Rattle.st_model.specs.Primitives.{answer_with, succeed, primitive, check_bytes}
use Rattle.st_model.specs.Storage.{primitive_say}
use Rattle.st_model.specs.Table.{Table}
use Rattle.st_frames.proofs.Doing.{rows}

pub say-held : (m : ObjectMemory Table) (v : Value) (s : State Table) → (check_bytes m v).run s ≡ Went tt s
    → (primitive_say m v).run s ≡ after ((answer_with m 0 v).run s) (λ u t. Went true t)
unfolding primitive_say primitive succeed tried ◌>>=◌ ◌>>◌ after answer
say-held m v s e = rw e refl

pub say-fails : (m : ObjectMemory Table) (v : Value) (s : State Table) (k : Dead) → (check_bytes m v).run s ≡ Died k → (primitive_say m v).run s ≡ Went false s
unfolding primitive_say primitive succeed tried ◌>>=◌ after answer
say-fails m v s k e = rw e refl

pub ruleset says = (rows, say-held, say-fails)
