use Rattle.std.proofs.Common.{◌≡◌, rules, Err, arith}
use Rattle.st_model.specs.Values.{word}
use Rattle.st_process.proofs.Highest.{none_left, list-died, first-died, list-found, list-passed}
use Rattle.st_process.proofs.ready.highest_list.Goals as goal

pub returns-in_err-list : goal.returns-in_err-list
returns-in_err-list g c = λ s q.
    let e : c.from_residual.result ≡ Err c.in_err-list.field-0.0 = search rules in
    rw e (list-died g.O.Objects.names (word c.args.lists) c.args.n c.loop-left.left (g.O.Objects.table c.args.m.now) _ c.loop-left.invariant (omega arith) c.in_err-list.ensures s q)

pub returns-in_err-is_empty : goal.returns-in_err-is_empty
returns-in_err-is_empty g c = λ s q.
    let e : c.from_residual-in_err-is_empty.result ≡ Err c.in_err-is_empty.field-0.0 = search rules in
    rw e (first-died g.O.Objects.names (word c.args.lists) c.args.n c.loop-left.left (g.O.Objects.table c.args.m.now) _ _ c.loop-left.invariant (omega arith) c.in_ok-list.ensures c.in_err-is_empty.ensures s q)

pub returns-then-not-branch : goal.returns-then-not-branch
returns-then-not-branch g c =
    let h = c.in_ok-is_empty.ensures in
    list-found g.O.Objects.names (word c.args.lists) c.args.n c.loop-left.left (g.O.Objects.table c.args.m.now) _ c.loop-left.invariant (omega arith) c.in_ok-list.ensures (rw c.if-not-branch.true at h)

pub loop-left-preserved : goal.loop-left-preserved
loop-left-preserved g c =
    let h = c.in_ok-is_empty.ensures in
    list-passed g.O.Objects.names (word c.args.lists) c.args.n c.loop-left.left (g.O.Objects.table c.args.m.now) _ c.loop-left.invariant (omega arith) c.in_ok-list.ensures (rw c.if-not-branch.false at h)

pub returns : goal.returns
returns g c = none_left g.O.Objects.names (word c.args.lists) c.args.n c.loop-left.left (g.O.Objects.table c.args.m.now) c.loop-left.invariant (omega arith)
