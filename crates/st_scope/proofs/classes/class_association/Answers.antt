use Rattle.std.proofs.Common.{◌≡◌, Ok, Err, Option, rules, subst, arith}
use Rattle.st_model.specs.declared.oop.Oop.{Oop}
use Rattle.st_model.specs.Values.{value}
use Rattle.st_model.specs.Table.{table}
use Rattle.st_model.specs.inside.Calls.{Reads}
use Rattle.st_scope.specs.Tables.{member_named}
use Rattle.st_scope.specs.Texts.{found}
use Rattle.st_scope.proofs.ClassesOf.{value_dies, no_class, is_class}
use Rattle.st_model.proofs.Runs.{runs}
use Rattle.st_scope.specs.Classes.{class_association}
use Rattle.st_scope.proofs.classes.class_association.Goals as goal

pub returns-in_err-class-in-Some : goal.returns-in_err-class-in-Some
returns-in_err-class-in-Some g c =
    let t = (g.M.Memory.view c.args.m.now).objects in
    let r = subst (λ (x : Option Oop). Reads (member_named table (value c.args.globals) c.args.name.now) found t (Ok x)) c.in-Some.is c.in_ok-association.ensures.member in
    let e : c.from_residual-in_err-class-in-Some.result ≡ Err c.in_err-class-in-Some.field-0.0 = search rules in
    rw e (value_dies c.args.globals c.args.name.now t c.in-Some.association r c.in_err-class-in-Some.field-0.0 c.in_err-class-in-Some.ensures.fetches)

pub returns-in_err-check_fields-in-Some : goal.returns-in_err-check_fields-in-Some
returns-in_err-check_fields-in-Some g c =
    let t = (g.M.Memory.view c.args.m.now).objects in
    let r = subst (λ (x : Option Oop). Reads (member_named table (value c.args.globals) c.args.name.now) found t (Ok x)) c.in-Some.is c.in_ok-association.ensures.member in
    let e : c.from_residual-in_err-check_fields-in-Some.result ≡ Err c.in_err-check_fields-in-Some.field-0.0 = search rules in
    rw e (no_class c.args.globals c.args.name.now t c.in-Some.association r c.in_ok-class-in-Some.class c.in_err-check_fields-in-Some.field-0.0 c.in_ok-class-in-Some.ensures.fetches c.in_err-check_fields-in-Some.ensures)

pub returns-in_ok-check_fields-in-Some : goal.returns-in_ok-check_fields-in-Some
returns-in_ok-check_fields-in-Some g c =
    let t = (g.M.Memory.view c.args.m.now).objects in
    let r = subst (λ (x : Option Oop). Reads (member_named table (value c.args.globals) c.args.name.now) found t (Ok x)) c.in-Some.is c.in_ok-association.ensures.member in
    is_class c.args.globals c.args.name.now t c.in-Some.association r c.in_ok-class-in-Some.class c.in_ok-check_fields-in-Some.field-0 c.in_ok-class-in-Some.ensures.fetches c.in_ok-check_fields-in-Some.ensures

pub returns-in_err-association : goal.returns-in_err-association
unfolding class_association
returns-in_err-association g c = grind (arith, runs)

pub returns-in-None : goal.returns-in-None
unfolding class_association
returns-in-None g c = grind (arith, runs)
