use Rattle.std.proofs.Common.{rules, subst}
use Rattle.st_model.specs.Values.{Value, word}
use Rattle.st_model.specs.View.{Has}
use Rattle.st_memory.proofs.Moving.{moves_unread, moves_unwritten}
use Rattle.st_memory.proofs.stores.transfer_live_fields.Goals as goal

pub returns-in_err-source-clause-transfers : goal.returns-in_err-source-clause-transfers
returns-in_err-source-clause-transfers g c = λ s e a. search (rules, moves_unread (g.M.Memory.view c.args.m.now) (g.met.M.Memory.whole c.args.m.now) c.args.n (word c.args.source) c.args.from (word c.args.target) c.args.to s c.in_err-source.field-0.0 e c.if-n-eq0.false c.in_err-source.ensures.lacks)

pub returns-in_err-target-clause-transfers : goal.returns-in_err-target-clause-transfers
returns-in_err-target-clause-transfers g c = λ s e a.
    let has = subst (λ (v : Value). Has (g.M.Memory.view c.args.m.now).objects v c.args.from c.args.n) c.in_ok-source.ensures.same c.in_ok-source.ensures.has in
    search (rules, moves_unwritten (g.M.Memory.view c.args.m.now) (g.met.M.Memory.whole c.args.m.now) c.args.n (word c.args.source) c.args.from (word c.args.target) c.args.to s c.in_err-target.field-0.0 e c.if-n-eq0.false has c.in_err-target.ensures.lacks)
