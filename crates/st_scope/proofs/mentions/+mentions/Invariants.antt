use Rattle.std.proofs.Common.{◌≡◌, ◌+◌, ◌*◌, ◌++◌, max, drop}
use denote.Param.Weighed.{most}
use Rattle.st_scan.specs.declared.tree.Expression.{size-Expression}
use Rattle.st_scan.specs.declared.tree.Message.{size-Message}
use Rattle.st_scan.specs.declared.tree.Statement.{size-Statement}
use Rattle.st_scan.specs.Views.{expressions_view, messages_view, statements_view}
use Rattle.st_scan.specs.inside.Chains.{links_view, links_size}
use Rattle.st_scope.specs.Mentions.{mentioned_among, mentioned_by, mentioned_in}
use Rattle.st_scope.specs.inside.Walks.{mentions_of, all_sent_mentioned}
use Rattle.st_scope.proofs.mentions.+mentions.Given as goal

abbrev pub decreases-statements : goal.decreases-statements
decreases-statements l = 16 * most size-Statement l.ss.now + 8

abbrev pub decreases-expressions : goal.decreases-expressions
decreases-expressions l = 16 * most size-Expression l.es.now + 8

abbrev pub decreases-expression : goal.decreases-expression
decreases-expression l = 16 * size-Expression l.e.now + 6

abbrev pub decreases-chain : goal.decreases-chain
decreases-chain l = 16 * max (size-Expression l.first.now) (links_size l.links.now) + 5

abbrev pub decreases-start : goal.decreases-start
decreases-start l = 16 * size-Expression l.e.now + 4

abbrev pub decreases-sent : goal.decreases-sent
decreases-sent l = 16 * links_size l.links.now + 4

abbrev pub decreases-messages : goal.decreases-messages
decreases-messages l = 16 * most size-Message l.ms.now + 3

abbrev pub invariant-expressions-loop-e : goal.invariant-expressions-loop-e
invariant-expressions-loop-e l = mentions_of l.names.items ++ mentioned_among (expressions_view (drop l.e-index l.es)) ≡ mentions_of l.fn.names.items ++ mentioned_among (expressions_view l.es)

abbrev pub invariant-messages-loop-m : goal.invariant-messages-loop-m
invariant-messages-loop-m l = mentions_of l.names.items ++ mentioned_by (messages_view (drop l.m-index l.ms)) ≡ mentions_of l.fn.names.items ++ mentioned_by (messages_view l.ms)

abbrev pub invariant-sent-loop-link : goal.invariant-sent-loop-link
invariant-sent-loop-link l = mentions_of l.names.items ++ all_sent_mentioned (links_view (drop l.link-index l.links)) ≡ mentions_of l.fn.names.items ++ all_sent_mentioned (links_view l.links)

abbrev pub invariant-statements-loop-s : goal.invariant-statements-loop-s
invariant-statements-loop-s l = mentions_of l.names.items ++ mentioned_in (statements_view (drop l.s-index l.ss)) ≡ mentions_of l.fn.names.items ++ mentioned_in (statements_view l.ss)
