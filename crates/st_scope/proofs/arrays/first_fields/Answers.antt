use Rattle.std.proofs.Common.{◌+◌, ◌≤◌, sym, subst, arith, rules}
use Rattle.st_model.specs.Values.{value}
use Rattle.st_scope.proofs.Finding.{finds_death}
use Rattle.st_scope.proofs.FieldsOf.{LeftFields, fields_begin, fields_end, field_dies, field_passed}
use Rattle.st_scope.proofs.arrays.first_fields.Goals as goal

pub loop-i-init : goal.loop-i-init
loop-i-init g c =
    let t = (g.M.Memory.view c.args.m.now).objects in
    subst (λ os. LeftFields (value c.args.o) c.args.count t 0 os) (sym c.new-fields.ensures.items) (fields_begin (value c.args.o) c.args.count t)

pub returns-in_err-fetch_field : goal.returns-in_err-fetch_field
returns-in_err-fetch_field g c =
    finds_death _ _ _ _ c.in_err-fetch_field.field-0.0 (search rules)
    (field_dies (value c.args.o) c.args.count (g.M.Memory.view c.args.m.now).objects c.loop-i.i c.loop-i.fields.items c.loop-i.invariant c.loop-i-test.true c.in_err-fetch_field.field-0.0 c.in_err-fetch_field.ensures.fetches)

pub loop-i-preserved : goal.loop-i-preserved
loop-i-preserved g c =
    let t = (g.M.Memory.view c.args.m.now).objects in
    subst (λ os. LeftFields (value c.args.o) c.args.count t (c.loop-i.i + 1) os) (sym c.in_ok-push.ensures.items)
    (field_passed (value c.args.o) c.args.count t c.loop-i.i c.loop-i.fields.items c.loop-i.invariant c.loop-i-test.true c.in_ok-fetch_field.field-0 c.in_ok-fetch_field.ensures.fetches)

pub returns : goal.returns
returns g c =
    let l = c.loop-i-test.false in
    let last : c.args.count ≤ c.loop-i.i = omega (arith, l) in
    fields_end (value c.args.o) c.args.count (g.M.Memory.view c.args.m.now).objects c.loop-i.i c.loop-i.fields.items c.loop-i.invariant last
