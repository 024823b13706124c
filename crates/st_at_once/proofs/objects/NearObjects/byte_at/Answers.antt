use Rattle.std.proofs.Common.{rules, ◌≡◌, ◌-◌}
use Rattle.std.specs.Prelude.{slice_get, Some, nat_abs}
use Rattle.st_model.specs.Values.{value, word}
use Rattle.st_model.specs.Objects.{first_unit}
use Rattle.st_model.specs.View.{object_of}
use Rattle.st_at_once.specs.inside.Known.{IsCodeAt}
use Rattle.st_at_once.proofs.Direct.{code_read}
use Rattle.st_at_once.proofs.objects.NearObjects.byte_at.Goals as goal

pub returns-in-Some : goal.returns-in-Some
returns-in-Some g c =
    let t = (g.M.Memory.view c.args.self.now.memory.now).objects in
    let o = object_of t (value c.in-Some.method.object) in
    let e : slice_get o.units (nat_abs c.args.ip - first_unit o) ≡ Some c.placed_byte.result = search rules in
    let k : IsCodeAt t (value c.in-Some.method.object) c.args.ip = search rules in
    code_read t (value c.in-Some.method.object) (word c.args.method) c.args.ip c.placed_byte.result c.in-Some.ensures.same k e
