use Rattle.std.proofs.Common.{◌≡◌, true, ap, sym, ◌∙◌, subst, arith}
use Rattle.st_model.specs.Values.{Value, value, word}
use Rattle.st_model.specs.Objects.{is_pointers}
use Rattle.st_model.specs.Machine.{is_there}
use Rattle.st_model.specs.Table.{bounded_table}
use Rattle.st_memory.proofs.Wide.{there_live, bounded}
use Rattle.st_memory.proofs.AtOneLook.{field_read, known_is_there}
use Rattle.st_model.proofs.Runs.{runs}
use Rattle.st_model.specs.Steps.{fetch_field, count_fields}
use Rattle.st_memory.proofs.live.AnyObjects.context_fields.Goals as goal

pub returns-clause-stack_pointer : goal.returns-clause-stack_pointer
returns-clause-stack_pointer g c =
    let o = c.in-Ok.ensures in
    field_read _ (word c.args.context) (value c.in-Ok.object) (value c.placed_pointer-2.result) (word c.from-2.result) 2 o.same o.live
    (ap is_pointers (sym c.kind.ensures.kind) ∙ sym c.if-not-is_pointers.ensures) c.placed_pointer-2.ensures.field c.from-2.ensures

pub returns-clause-method : goal.returns-clause-method
returns-clause-method g c =
    let o = c.in-Ok.ensures in
    field_read _ (word c.args.context) (value c.in-Ok.object) (value c.placed_pointer-3.result) (word c.from-3.result) 3 o.same o.live
    (ap is_pointers (sym c.kind.ensures.kind) ∙ sym c.if-not-is_pointers.ensures) c.placed_pointer-3.ensures.field c.from-3.ensures

pub returns-clause-context_there : goal.returns-clause-context_there
returns-clause-context_there g c =
    let t = (g.M.Memory.view c.args.self.now).objects in
    let o = c.in-Ok.ensures in
    subst (λ (v : Value). is_there bounded_table t v ≡ true) o.same (there_live t (value c.in-Ok.object) o.live)

pub returns-clause-method_there : goal.returns-clause-method_there
returns-clause-method_there g c =
    let t = (g.M.Memory.view c.args.self.now).objects in
    subst (λ (v : Value). is_there bounded_table t v ≡ true) (sym c.from-3.ensures) (known_is_there t c.placed_pointer-3.result.0 (omega arith) c.placed_pointer-3.ensures.known)

pub returns-clause-receiver_there : goal.returns-clause-receiver_there
returns-clause-receiver_there g c =
    let t = (g.M.Memory.view c.args.self.now).objects in
    subst (λ (v : Value). is_there bounded_table t v ≡ true) (sym c.from-4.ensures) (known_is_there t c.placed_pointer-4.result.0 (omega arith) c.placed_pointer-4.ensures.known)

pub returns-clause-instruction_pointer : goal.returns-clause-instruction_pointer
unfolding fetch_field count_fields
returns-clause-instruction_pointer g c = grind (arith, runs, bounded)

pub returns-clause-receiver : goal.returns-clause-receiver
unfolding fetch_field count_fields
returns-clause-receiver g c = grind (arith, runs, bounded)

pub returns-clause-count : goal.returns-clause-count
unfolding fetch_field count_fields
returns-clause-count g c = grind (arith, runs, bounded)
