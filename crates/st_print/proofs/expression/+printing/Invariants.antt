use Rattle.std.proofs.Common.{◌≡◌, ◌+◌, ◌*◌, ◌++◌, drop}
use Rattle.st_print.specs.Words.{spaced}
use denote.Param.Weighed.{most}
use Rattle.st_scan.specs.declared.tree.Expression.{size-Expression}
use Rattle.st_scan.specs.declared.tree.Statement.{size-Statement}
use Rattle.st_scan.specs.declared.tree.Message.{size-Message}
use Rattle.st_scan.specs.Views.{expressions_view, statements_view, messages_view}
use Rattle.st_scan.specs.inside.Chains.{links_view, link_size, links_size}
use Rattle.st_print.specs.Printed.{keyword_words, next_statements, next_messages}
use Rattle.st_print.specs.inside.Chained.{behind_links}
use Rattle.st_print.proofs.expression.+printing.Given as goal

-- A measure is eight times the size of what is printed, and more the further out a function stands.

abbrev pub decreases-expression : goal.decreases-expression
decreases-expression l = 8 * size-Expression l.e.now + 21

abbrev pub decreases-behind_links : goal.decreases-behind_links
decreases-behind_links l = 8 * links_size l.links.now + 20

abbrev pub decreases-behind_link : goal.decreases-behind_link
decreases-behind_link l = 8 * link_size l.link + 19

abbrev pub decreases-messages : goal.decreases-messages
decreases-messages l = 8 * most size-Message l.sent.now + 18

abbrev pub decreases-message : goal.decreases-message
decreases-message l = 8 * size-Message l.m.now + 16

abbrev pub decreases-keywords : goal.decreases-keywords
decreases-keywords l = 8 * most size-Expression l.arguments.now + 22

abbrev pub decreases-block : goal.decreases-block
decreases-block l = 8 * most size-Statement l.body.now + 25

abbrev pub decreases-statements : goal.decreases-statements
decreases-statements l = 8 * most size-Statement l.body.now + 24

abbrev pub decreases-statement : goal.decreases-statement
decreases-statement l = 8 * size-Statement l.s.now + 22

abbrev pub decreases-next_statements : goal.decreases-next_statements
decreases-next_statements l = 8 * most size-Statement l.body.now + 23

abbrev pub decreases-next_messages : goal.decreases-next_messages
decreases-next_messages l = 8 * most size-Message l.sent.now + 17

abbrev pub invariant-behind_links-loop-at : goal.invariant-behind_links-loop-at
invariant-behind_links-loop-at l = l.out.items ++ spaced (behind_links l.outer (links_view (drop l.at l.links))) ≡ l.fn.out.items ++ spaced (behind_links l.outer (links_view l.links))

abbrev pub invariant-next_statements-loop-next : goal.invariant-next_statements-loop-next
invariant-next_statements-loop-next l = l.out.items ++ spaced (next_statements (statements_view (drop l.next-index l.body))) ≡ l.fn.out.items ++ spaced (next_statements (statements_view l.body))

abbrev pub invariant-next_messages-loop-next : goal.invariant-next_messages-loop-next
invariant-next_messages-loop-next l = l.out.items ++ spaced (next_messages (messages_view (drop l.next-index l.sent))) ≡ l.fn.out.items ++ spaced (next_messages (messages_view l.sent))

abbrev pub invariant-keywords-loop-argument : goal.invariant-keywords-loop-argument
invariant-keywords-loop-argument l = l.out.items ++ spaced (keyword_words l.rest (expressions_view (drop l.argument-index l.arguments))) ≡ l.fn.out.items ++ spaced (keyword_words l.fn.selector (expressions_view l.arguments))
