use Rattle.std.proofs.Common.{rules, ◌≡◌, Err, sym, subst, arith}
use Rattle.st_model.specs.Values.{word}
use Rattle.st_model.specs.Contexts.{context_registers}
use Rattle.st_model.specs.inside.Calls.{Reads}
use Rattle.st_frames.specs.inside.Rows.{fetched_in}
use Rattle.st_frames.proofs.Unfetched.{fetched-dead, fetches}
use Rattle.st_frames.proofs.reading.read_by_fields.Goals as goal

pub returns-in_err-new-clause-dead : goal.returns-in_err-new-clause-dead
returns-in_err-new-clause-dead g c =
    let m = g.O.Objects.names in
    let t = g.O.Objects.table c.args.m.now in
    let e : c.from_residual.result ≡ Err c.in_err-new.field-0.0 = search rules in
    fetched-dead m t (word c.args.context) c.from_residual.result (subst (λ x. Reads (context_registers m (word c.args.context)) fetched_in t x) (sym e) c.in_err-new.ensures)

pub returns-in_err-new-clause-registers : goal.returns-in_err-new-clause-registers
returns-in_err-new-clause-registers g c = grind (arith, fetches)

pub returns-then-not-are_there-clause-registers : goal.returns-then-not-are_there-clause-registers
returns-then-not-are_there-clause-registers g c = grind (arith, fetches)

pub returns-then-not-are_there-clause-dead : goal.returns-then-not-are_there-clause-dead
returns-then-not-are_there-clause-dead g c = grind (arith, fetches)

pub returns-clause-registers : goal.returns-clause-registers
returns-clause-registers g c = grind (arith, fetches)

pub returns-clause-dead : goal.returns-clause-dead
returns-clause-dead g c = grind (arith, fetches)
