use Rattle.std.proofs.Common.{arith}
use Rattle.st_expression_stack.proofs.TreeTurns.{element_turn, elements_end}
use Rattle.st_expression_stack.proofs.make.+contents.Goals as goal

pub elements_of-loop-member-preserved : goal.elements_of-loop-member-preserved
elements_of-loop-member-preserved t c =
    element_turn c.loop-member.elements.items c.push.new.self.items c.in_ok-what.what c.args.members.now c.loop-member.member-index c.member-item.result c.loop-member.invariant c.in_ok-push.ensures.items c.in_ok-what.ensures c.loop-member-test.true c.member-item.is

pub elements_of-returns : goal.elements_of-returns
elements_of-returns t c = elements_end c.loop-member.elements.items c.args.members.now c.loop-member.member-index c.loop-member.invariant (omega arith)
