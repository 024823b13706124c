use Rattle.std.proofs.Common.{sym, ap, ◌∙◌, arith}
use Rattle.st_model.specs.Objects.{is_pointers}
use Rattle.st_model.specs.Values.{value}
use Rattle.st_memory.proofs.Bodies.{most_fields}
use Rattle.st_model.proofs.Runs.{runs}
use Rattle.st_memory.proofs.Wide.{bounded}
use Rattle.st_model.specs.Steps.{count_fields}
use Rattle.st_memory.proofs.live.AnyObjects.count_fields.Goals as goal

pub returns-then-is_pointers-clause-small : goal.returns-then-is_pointers-clause-small
returns-then-is_pointers-clause-small g c =
    let whole = g.met.M.Memory.whole c.args.self.now in
    let few = most_fields (value c.in_ok-object.object) whole c.in_ok-object.ensures.live (ap is_pointers (sym c.kind.ensures.kind) ∙ sym c.is_pointers.ensures ∙ c.if-is_pointers.true) in
    rw c.size.ensures.size few

pub returns-in_err-object-clause-counts : goal.returns-in_err-object-clause-counts
unfolding count_fields
returns-in_err-object-clause-counts g c = grind (arith, runs, bounded)

pub returns-then-is_pointers-clause-counts : goal.returns-then-is_pointers-clause-counts
unfolding count_fields
returns-then-is_pointers-clause-counts g c = grind (arith, runs, bounded)

pub returns-else-is_pointers-clause-counts : goal.returns-else-is_pointers-clause-counts
unfolding count_fields
returns-else-is_pointers-clause-counts g c = grind (arith, runs, bounded)
