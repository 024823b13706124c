-- Where there is no BitBlt, nothing is copied.
use Rattle.std.proofs.Common.{◌≡◌, false, Option, Some, None, is_some, refl}
use Rattle.st_model.specs.declared.dead.Dead.{Dead}
use Rattle.st_model.specs.declared.dead.Dead.TheVariants as dead
use Rattle.st_model.specs.Values.{Value, Small, Ref}
use Rattle.st_model.specs.Objects.{Object}
use Rattle.st_model.specs.Machine.{State, Died, die, after, ◌>>=◌, ◌>>◌}
use Rattle.st_model.specs.Table.{Table, table, entry}
use Rattle.st_model.specs.Steps.{found, object_named, object, fetch_field}
use Rattle.st_model.specs.View.{is_live}
use Rattle.st_model.specs.Deeds.{over_table, table_after}
use Rattle.st_model.specs.BitBlt.{fetch_destination, read_copy, copy_bits}

found_none : (e : Option Object) (s : State Table) → is_some e ≡ false → (found e).run s ≡ Died dead.Kind
unfolding found die
found_none None s h = refl
found_none (Some o) s h = cc

object_gone : (v : Value) (s : State Table) → is_live s.memory v ≡ false → (cause : Dead) × ((object table v).run s ≡ Died cause)
unfolding object object_named die is_live
object_gone (Small n) s h = (dead.Small, refl)
object_gone (Ref n) s h = (dead.Kind, found_none (entry s.memory n) s h)

pub untold : (t : Table) (v : Value) → is_live t v ≡ false → t ≡ table_after (copy_bits table v) t
unfolding table_after copy_bits read_copy fetch_destination fetch_field ◌>>=◌ ◌>>◌ after
untold t v h = let d = object_gone v (over_table t) h in rw d.1 refl
