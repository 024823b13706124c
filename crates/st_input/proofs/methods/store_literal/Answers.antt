use Rattle.std.proofs.Common.{◌+◌, ◌≤◌, refl, ◌∙◌, arith, length}
use Rattle.st_model.specs.Values.{value, word}
use Rattle.st_model.specs.Machine.{is_there}
use Rattle.st_model.specs.Table.{table}
use Rattle.st_model.specs.View.{object_of}
use Rattle.st_model.specs.Deeds.{changed_by, literal_stored}
use Rattle.st_input.proofs.Done.{unchanged}
use Rattle.st_input.proofs.Headers.{no_literal, absent_literal, literal_past, literal_here}
use Rattle.st_input.proofs.methods.store_literal.Goals as goal

pub returns-in_default : goal.returns-in_default
returns-in_default g c =
    let t = (g.M.Memory.view c.args.m.now).objects in
    unchanged (g.M.Memory.view c.args.m.now) _ _
    (no_literal t (word c.args.method) c.in_default.ensures.named.none c.args.number (word c.args.stored) (is_there table t (word c.args.stored)))

pub returns-in_default-live_value : goal.returns-in_default-live_value
returns-in_default-live_value g c =
    let t = (g.M.Memory.view c.args.m.now).objects in
    unchanged (g.M.Memory.view c.args.m.now) _ _
    (absent_literal t (word c.args.method) (word c.args.stored) c.args.number (is_there table t (word c.args.stored)) c.in_default-live_value.ensures.gone)

pub returns-then-number-literals : goal.returns-then-number-literals
returns-then-number-literals g c =
    let t = (g.M.Memory.view c.args.m.now).objects in
    let a = c.in-Some.ensures.named in
    let b = c.in-Some-live_value.ensures in
    let known = is_there table t (word c.args.stored) in
    record {
      objects = c.set_pointer.ensures.objects
          ∙ literal_here t (value c.in-Some.target) (value c.in-Some-live_value.literal) c.args.number known a.live a.kind b.there
          ∙ (λ i. changed_by (literal_stored c.args.number (b.same i) known) t (a.same i));
      held = c.set_pointer.ensures.held;
      head = c.set_pointer.ensures.head;
    }

pub returns-else-number-literals : goal.returns-else-number-literals
returns-else-number-literals g c =
    let t = (g.M.Memory.view c.args.m.now).objects in
    let a = c.in-Some.ensures.named in
    let count = (c.pointer.ensures.header a.kind refl).1 in
    let past : length (object_of t (value c.in-Some.target)).fields ≤ c.args.number + 1 = let l = c.if-number-literals.false in let n = c.literals.ensures.count in omega (arith, l, n, count) in
    let known = is_there table t (word c.args.stored) in
    unchanged (g.M.Memory.view c.args.m.now) _ _
    (literal_past t (value c.in-Some.target) (word c.args.stored) c.args.number known past ∙ (λ i. changed_by (literal_stored c.args.number (word c.args.stored) known) t (a.same i)))
