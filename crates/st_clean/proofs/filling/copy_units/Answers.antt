use Rattle.std.proofs.Common.{◌≡◌, true, length, subst, ap, arith}
use Rattle.std.proofs.lemmas.Grind.{common_steps}
use Rattle.st_model.specs.Values.{value}
use Rattle.st_model.specs.Objects.{is_pointers}
use Rattle.st_model.specs.View.{object_of}
use Rattle.st_model.proofs.WholeLemmas.{formed_live}
use Rattle.st_clean.specs.Filling.{PutsPart}
use Rattle.st_clean.proofs.Places.{puts_itself}
use Rattle.st_clean.proofs.filling.copy_units.Goals as goal

pub returns-else-not-is_pointers : goal.returns-else-not-is_pointers
returns-else-not-is_pointers g c =
    let v = g.M.Memory.view c.args.m.now in
    let o = object_of v.objects (value c.args.o) in
    let p : is_pointers o.kind ≡ true = grind (arith, common_steps, c.kind-kind.ensures.kind, c.is_pointers.ensures, c.if-not-is_pointers.ensures, c.if-not-is_pointers.false) in
    let none = ap length ((formed_live v (g.met.M.Memory.whole c.args.m.now) (value c.args.o) c.requires.live).unitless p) in
    let u = c.requires.units in
    let loaded = g.L.Loader.loaded c.args.loader.now in
    subst (λ n. PutsPart loaded loaded (value c.args.o) c.args.fields n o) (omega (arith, none, u)) (puts_itself loaded (value c.args.o) c.args.fields 0 o c.requires.placed)
