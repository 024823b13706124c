use Rattle.std.proofs.Common.{ap, sym, ◌∙◌, arith, drop}
use Rattle.std.specs.Prelude.{bytes_eq}
use Rattle.st_emit.specs.Names.{if_named, field_from}
use Rattle.st_emit.specs.inside.NameViews.{texts_view}
use Rattle.st_emit.proofs.Fields.{field_late, field_number, field_here}
use Rattle.st_emit.proofs.names.field_named.Goals as goal

pub returns-then-i-eq-MOST_FIELDS : goal.returns-then-i-eq-MOST_FIELDS
returns-then-i-eq-MOST_FIELDS c = field_late c.loop-i.i (omega arith) (texts_view (drop c.loop-i.i c.args.names.now.fields.items)) c.args.text.now ∙ ap if_named c.loop-i.invariant.same

pub returns-then-eq : goal.returns-then-eq
returns-then-eq c =
    let i = c.loop-i.i in
    let text = c.args.text.now in
    let same = sym (c.if-eq.ensures ∙ ap (λ s. bytes_eq s text) c.as_slice.ensures.value) in
    let here = field_here c.deref-name-items.result.now i c.name-item.result text c.loop-i-test.true c.name-item.is same in
    field_number i (omega (arith, c.loop-i.invariant.within))
    ∙ ap if_named (here ∙ ap (λ fs. field_from i (texts_view (drop i fs)) text) c.deref-name-items.ensures.value ∙ c.loop-i.invariant.same)
