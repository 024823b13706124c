use Rattle.std.proofs.Common.{rules, ◌≡◌, Err, subst, sym, ap, ◌∙◌, arith}
use Rattle.std.proofs.lemmas.Int.{ints}
use Rattle.st_model.specs.Values.{small_integer}
use Rattle.st_model.specs.Contexts.{store_context_registers}
use Rattle.st_model.specs.Table.{table}
use Rattle.st_model.specs.inside.Calls.{itself}
use Rattle.st_frames.specs.inside.Shown.{FrameDoes}
use Rattle.st_frames.proofs.Stored.{store_dies, store_goes}
use Rattle.st_frames.proofs.frame.Frame.store.Goals as goal

pub returns-in_err-store_field-clause-stores : goal.returns-in_err-store_field-clause-stores
returns-in_err-store_field-clause-stores g c =
    let v = g.M.Memory.view c.args.m.now in
    let u = g.M.Memory.view c.store_field.new.self in
    let f = c.args.self.now in
    let cause = c.in_err-store_field.field-0.0 in
    let e : c.from_residual.result ≡ Err cause = search rules in
    subst (λ x. FrameDoes (store_context_registers table) itself v f x u f) (sym e)
    (store_dies v u f _ _ cause c.from-context.ensures (c.small_integer.ensures ∙ ap small_integer (omega (arith, ints))) c.in_err-store_field.ensures.stores)

pub returns-clause-stores : goal.returns-clause-stores
returns-clause-stores g c =
    let v = g.M.Memory.view c.args.m.now in
    let u = g.M.Memory.view c.store_field.new.self in
    let z = g.M.Memory.view c.store_field-2.new.self in
    let first = c.in_ok-store_field.ensures in
    let second = c.store_field-2.ensures in
    store_goes v u c.args.self.now z _ _ _ c.store_field-2.result c.from-context.ensures (c.small_integer.ensures ∙ ap small_integer (omega (arith, ints))) c.small.ensures first.stores first.head second.stores second.head
