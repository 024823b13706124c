use Rattle.std.proofs.Common.{◌≡◌, false, arith}
use Rattle.std.specs.Prelude.{◌==◌}
use Rattle.std.proofs.lemmas.Bool.Decides.{nat_tests}
use Rattle.st_scope.proofs.ClassesOf.{named-died, named-found, named}
use Rattle.st_scope.proofs.classes.class_of_name.Goals as goal

pub returns-then-globals-eq0-clause-class : goal.returns-then-globals-eq0-clause-class
returns-then-globals-eq0-clause-class g c = grind (arith, named)

pub returns-in-Err-clause-class : goal.returns-in-Err-clause-class
returns-in-Err-clause-class g c =
    let v = g.M.Memory.view c.args.m.now in
    let n = c.if-globals-eq0.false in
    let z : (c.globals-globals.result.0 == 0) ≡ false = grind (arith, nat_tests, n) in
    named-died v.head c.args.name.now c.args.meta v.objects c.globals-globals.result.0 c.globals-globals.ensures z c.in-Err.field-0 c.in-Err.ensures.class

pub returns-in-Ok-clause-class : goal.returns-in-Ok-clause-class
returns-in-Ok-clause-class g c =
    let v = g.M.Memory.view c.args.m.now in
    let n = c.if-globals-eq0.false in
    let z : (c.globals-globals.result.0 == 0) ≡ false = grind (arith, nat_tests, n) in
    named-found v.head c.args.name.now c.args.meta v.objects c.globals-globals.result.0 c.globals-globals.ensures z c.in-Ok.class c.in-Ok.ensures.class
