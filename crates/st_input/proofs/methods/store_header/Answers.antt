use Rattle.std.proofs.Common.{refl, sym, ap, ◌∙◌}
use Rattle.st_model.specs.Values.{value, word}
use Rattle.st_model.specs.Machine.{is_there}
use Rattle.st_model.specs.Table.{table}
use Rattle.st_model.specs.Deeds.{changed_by, header_stored}
use Rattle.st_input.proofs.Done.{unchanged}
use Rattle.st_input.proofs.Headers.{no_header, absent_header, no_small_header, other_header, same_header}
use Rattle.st_input.proofs.methods.store_header.Goals as goal

pub returns-in_default : goal.returns-in_default
returns-in_default g c =
    unchanged (g.M.Memory.view c.args.m.now) _ _
    (no_header (g.M.Memory.view c.args.m.now).objects (word c.args.method) c.in_default.ensures.named.none (word c.args.header))

pub returns-in_default-live_value : goal.returns-in_default-live_value
returns-in_default-live_value g c =
    unchanged (g.M.Memory.view c.args.m.now) _ _
    (absent_header (g.M.Memory.view c.args.m.now).objects (word c.args.method) (word c.args.header) c.in_default-live_value.ensures.gone)

pub returns-then-not-is_small : goal.returns-then-not-is_small
returns-then-not-is_small g c =
    let t = (g.M.Memory.view c.args.m.now).objects in
    let v = word c.args.method in
    unchanged (g.M.Memory.view c.args.m.now) _ _
    (no_small_header t v (value c.in-Some-live_value.header) (sym c.if-not-is_small.ensures) ∙ ap (λ x. changed_by (header_stored x) t v) c.in-Some-live_value.ensures.same)

pub returns-then-literals : goal.returns-then-literals
returns-then-literals g c =
    let t = (g.M.Memory.view c.args.m.now).objects in
    let a = c.in-Some.ensures.named in
    let b = c.in-Some-live_value.ensures in
    let l = sym c.literals.ensures.count ∙ c.if-literals.true ∙ c.literals-2.ensures.count in
    record {
      objects = c.set_pointer.ensures.objects
          ∙ same_header t (value c.in-Some.target) (value c.in-Some-live_value.header) (value c.pointer.result) a.live a.kind c.pointer.ensures.field (ap (is_there table t) b.same ∙ b.there) (sym c.if-not-is_small.ensures) (c.pointer.ensures.header a.kind refl).0 l
          ∙ (λ i. changed_by (header_stored (b.same i)) t (a.same i));
      held = c.set_pointer.ensures.held;
      head = c.set_pointer.ensures.head;
    }

pub returns-else-literals : goal.returns-else-literals
returns-else-literals g c =
    let t = (g.M.Memory.view c.args.m.now).objects in
    let a = c.in-Some.ensures.named in
    let b = c.in-Some-live_value.ensures in
    unchanged (g.M.Memory.view c.args.m.now) _ _
    (other_header t (value c.in-Some.target) (value c.in-Some-live_value.header) (value c.pointer.result) c.pointer.ensures.field (sym c.if-not-is_small.ensures) (c.pointer.ensures.header a.kind refl).0
    (λ e. c.if-literals.false (c.literals.ensures.count ∙ e ∙ sym c.literals-2.ensures.count))
    ∙ (λ i. changed_by (header_stored (b.same i)) t (a.same i)))
