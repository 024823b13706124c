use Rattle.std.proofs.Common.{◌≡◌, true, false, arith, rules}
use Rattle.st_scan.specs.Views.{expression_view}
use Rattle.st_decompile.specs.Back.{is_self}
use Rattle.st_decompile.proofs.SelfTurns.{count_here, count_next, count_turn, count_end}
use Rattle.st_decompile.proofs.whole.count_without_self.Goals as goal

pub returns-then-is_self : goal.returns-then-is_self
returns-then-is_self c =
    let s = c.index-statements-i.result in
    let self : is_self (expression_view s.value) ≡ true = search rules in
    count_here c.args.statements.now c.loop-i.i s c.loop-i-test.true c.index-statements-i.is c.loop-i.invariant (search rules) self

pub returns-else-is_self : goal.returns-else-is_self
returns-else-is_self c =
    let s = c.index-statements-i.result in
    let other : is_self (expression_view s.value) ≡ false = search rules in
    count_next c.args.statements.now c.loop-i.i s c.loop-i-test.true c.index-statements-i.is c.loop-i.invariant (search rules) other

pub loop-i-preserved : goal.loop-i-preserved
loop-i-preserved c = count_turn c.args.statements.now c.loop-i.i c.index-statements-i.result c.loop-i-test.true c.index-statements-i.is c.loop-i.invariant (search rules)

pub returns : goal.returns
returns c = count_end c.args.statements.now c.loop-i.i (omega arith) c.loop-i.invariant
