use Rattle.std.proofs.Common.{◌≡◌, ◌==◌, true, false, Ok, Err, sym, ap, subst, ◌∙◌, arith}
use Rattle.std.proofs.lemmas.Bool.Decides.{nat_tests}
use Rattle.st_model.specs.Values.{value}
use Rattle.st_parts.proofs.Owning.{owner-told, owner-died}
use Rattle.st_parts.proofs.owner.is_owner.Goals as goal

pub returns-in-Ok : goal.returns-in-Ok
returns-in-Ok g c =
    let v = g.M.Memory.view c.args.m.now in
    let other : (c.globals-globals.result.0 == 0) ≡ false = let z = c.if-globals-eq0.false in grind (arith, nat_tests, z) in
    owner-told v.objects c.globals-globals.result.0 v.head.globals c.globals-globals.ensures c.args.of.name.now (value c.args.of.class) (value c.args.v) c.args.of.meta other _ c.in-Ok.ensures

pub returns-in-Err : goal.returns-in-Err
returns-in-Err g c =
    let v = g.M.Memory.view c.args.m.now in
    let other : (c.globals-globals.result.0 == 0) ≡ false = let z = c.if-globals-eq0.false in grind (arith, nat_tests, z) in
    owner-died v.objects c.globals-globals.result.0 v.head.globals c.globals-globals.ensures c.args.of.name.now (value c.args.of.class) (value c.args.v) c.args.of.meta other _ c.in-Err.ensures
