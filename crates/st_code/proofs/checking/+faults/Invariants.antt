use Rattle.std.proofs.Common.{◌≡◌, ◌+◌, ◌*◌, max, drop}
use denote.Param.Weighed.{most}
use Rattle.st_scan.specs.declared.tree.Expression.{size-Expression}
use Rattle.st_scan.specs.declared.tree.Message.{size-Message}
use Rattle.st_scan.specs.declared.tree.Statement.{size-Statement}
use Rattle.st_scan.specs.Views.{expressions_view, messages_view, statements_view}
use Rattle.st_scan.specs.inside.Chains.{links_view, links_size}
use Rattle.st_emit.specs.inside.NameViews.{names_view, scope_view}
use Rattle.st_code.specs.Faults.{expressions_fault, messages_fault, statements_fault}
use Rattle.st_code.specs.inside.ChainFaults.{all_sent_fault}
use Rattle.st_code.proofs.checking.+faults.Given as goal

abbrev pub decreases-block : goal.decreases-block
decreases-block l = 16 * most size-Statement l.body.now + 9

abbrev pub decreases-statements : goal.decreases-statements
decreases-statements l = 16 * most size-Statement l.ss.now + 8

abbrev pub decreases-expressions : goal.decreases-expressions
decreases-expressions l = 16 * most size-Expression l.es.now + 8

abbrev pub decreases-expression : goal.decreases-expression
decreases-expression l = 16 * size-Expression l.e.now + 6

abbrev pub decreases-chain : goal.decreases-chain
decreases-chain l = 16 * max (size-Expression l.first.now) (links_size l.links.now) + 5

abbrev pub decreases-start : goal.decreases-start
decreases-start l = 16 * size-Expression l.e.now + 4

abbrev pub decreases-sent : goal.decreases-sent
decreases-sent l = 16 * links_size l.links.now + 4

abbrev pub decreases-messages : goal.decreases-messages
decreases-messages l = 16 * most size-Message l.ms.now + 3

abbrev pub invariant-expressions-loop-e : goal.invariant-expressions-loop-e
invariant-expressions-loop-e l =
    expressions_fault (names_view l.around.names.now) (expressions_view (drop l.e-index l.es)) (scope_view l.around.scope.now) ≡ expressions_fault (names_view l.around.names.now) (expressions_view l.es) (scope_view l.around.scope.now)

abbrev pub invariant-messages-loop-m : goal.invariant-messages-loop-m
invariant-messages-loop-m l =
    messages_fault (names_view l.around.names.now) (messages_view (drop l.m-index l.ms)) (scope_view l.around.scope.now) ≡ messages_fault (names_view l.around.names.now) (messages_view l.ms) (scope_view l.around.scope.now)

abbrev pub invariant-sent-loop-link : goal.invariant-sent-loop-link
invariant-sent-loop-link l =
    all_sent_fault (names_view l.around.names.now) (scope_view l.around.scope.now) (links_view (drop l.link-index l.links)) ≡ all_sent_fault (names_view l.around.names.now) (scope_view l.around.scope.now) (links_view l.links)

abbrev pub invariant-statements-loop-s : goal.invariant-statements-loop-s
invariant-statements-loop-s l =
    statements_fault (names_view l.around.names.now) (statements_view (drop l.s-index l.ss)) (scope_view l.around.scope.now) ≡ statements_fault (names_view l.around.names.now) (statements_view l.ss) (scope_view l.around.scope.now)
