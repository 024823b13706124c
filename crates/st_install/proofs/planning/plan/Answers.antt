use Rattle.std.proofs.Common.{◌≡◌, Err, length, refl, sym, ap, ◌∙◌, rules}
use Rattle.std.specs.Prelude.{option_map}
use Rattle.st_model.specs.Values.{value}
use Rattle.st_install.specs.declared.planning.PlanDraft.{PlanDraft}
use Rattle.st_install.specs.inside.Readies.{part_of}
use Rattle.st_install.proofs.Readying.{unnamed_fails, all_named, unplaced_fails, unselected, whole}
use Rattle.st_install.proofs.planning.plan.Goals as goal

pub returns-in_err-named-clause-plan : goal.returns-in_err-named-clause-plan
returns-in_err-named-clause-plan g c =
    let e : c.from_residual.result ≡ Err c.in_err-named.field-0.0 = search rules in
    rw e (unnamed_fails (value c.args.symbol_table) c.args.of (g.M.Memory.view c.args.m.now).objects c.args.parts c.deref.result.now c.deref-2.result.now c.deref.ensures.value c.deref-2.ensures.value c.in_err-named.field-0.0 c.in_err-named.ensures)

pub returns-in_err-literals-clause-plan : goal.returns-in_err-literals-clause-plan
returns-in_err-literals-clause-plan g c =
    let t = (g.M.Memory.view c.args.m.now).objects in
    let e : c.from_residual-in_err-literals.result ≡ Err c.in_err-literals.field-0.0 = search rules in
    rw e (unplaced_fails (value c.args.symbol_table) c.args.of t c.args.parts c.in_ok-named.named
    (all_named (value c.args.symbol_table) c.args.of t c.args.parts c.deref.result.now c.deref-2.result.now c.deref.ensures.value c.deref-2.ensures.value c.in_ok-named.named c.in_ok-named.ensures)
    c.deref-3.result.now c.deref-3.ensures.value c.in_err-literals.field-0.0 c.place_literals.new.objects.items c.in_err-literals.ensures)

pub returns-in_default-clause-plan : goal.returns-in_default-clause-plan
returns-in_default-clause-plan g c =
    let t = (g.M.Memory.view c.args.m.now).objects in
    unselected (value c.args.symbol_table) c.args.of t c.args.parts c.in_ok-named.named
    (all_named (value c.args.symbol_table) c.args.of t c.args.parts c.deref.result.now c.deref-2.result.now c.deref.ensures.value c.deref-2.ensures.value c.in_ok-named.named c.in_ok-named.ensures)
    c.deref-3.result.now c.deref-3.ensures.value c.place_literals.new.objects.items c.in_ok-literals.literals.items c.in_ok-literals.ensures c.deref-4.result.now c.deref-4.ensures.value
    (sym c.named_symbol.ensures ∙ ap (option_map part_of) c.in_default.is)

pub returns-clause-plan : goal.returns-clause-plan
returns-clause-plan g c =
    let t = (g.M.Memory.view c.args.m.now).objects in
    let d : PlanDraft = record { objects = c.place_literals.new.objects; stores = c.in_ok-named.named.stores; literals = c.in_ok-literals.literals; selector = c.in-Some.selector } in
    whole (value c.args.symbol_table) c.args.of t c.args.parts c.in_ok-named.named
    (all_named (value c.args.symbol_table) c.args.of t c.args.parts c.deref.result.now c.deref-2.result.now c.deref.ensures.value c.deref-2.ensures.value c.in_ok-named.named c.in_ok-named.ensures)
    c.deref-3.result.now c.deref-3.ensures.value c.place_literals.new.objects.items c.in_ok-literals.literals.items c.in_ok-literals.ensures c.deref-4.result.now c.deref-4.ensures.value
    d c.in_ok-method.method (sym c.named_symbol.ensures ∙ ap (option_map part_of) c.in-Some.is) c.args.parts.bytes.items c.deref-5.result.now
    refl refl c.deref-5.ensures.value refl c.in_ok-method.ensures
    c.plan_objects.result c.plan_objects.ensures.plan
