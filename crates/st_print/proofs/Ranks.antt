-- The ranks of lists that aren't empty.
use Rattle.std.proofs.Common.{◌≡◌, ◌≤◌, ℕ, List, [], ◌∷◌, length, get_or, refl, subst, arith}
use Rattle.std.specs.Prelude.{if◌then◌else◌}
use Rattle.st_scan.specs.declared.tree.Expression.{Expression}
use Rattle.st_scan.specs.declared.tree.Message.{Message}
use Rattle.st_scan.specs.Views.{MessagesView, expressions_view, messages_view, message}
use Rattle.st_print.specs.declared.rank.Rank.TheVariants.{Binary, Any}
use Rattle.st_print.specs.Printed.{is_word, rank_of_message, rank_of_messages, receiver_rank}

pub message_rank : (selector : List ℕ) (es : List Expression) → 1 ≤ length es → rank_of_message selector (expressions_view es) ≡ (if is_word selector then Any else Binary)
message_rank selector [] some = absurd (omega arith)
message_rank selector (e ∷ es) some = refl

pub cascade_rank : (ms : List Message) → 2 ≤ length ms → rank_of_messages (messages_view ms) ≡ Any
cascade_rank [] two = absurd (omega arith)
cascade_rank (m ∷ []) two = absurd (omega arith)
cascade_rank (m ∷ n ∷ ms) two = refl

by_arguments : (selector : List ℕ) (es : List Expression) (ms : MessagesView) → 1 ≤ length es → receiver_rank (message selector (expressions_view es) ms) ≡ Binary
by_arguments selector [] ms some = absurd (omega arith)
by_arguments selector (e ∷ es) ms some = refl

pub keyword_receiver : (ms : List Message) (m : Message) → 1 ≤ length ms → m ≡ get_or ms 0 m → 1 ≤ length m.arguments.items → receiver_rank (messages_view ms) ≡ Binary
keyword_receiver [] m there is some = absurd (omega arith)
keyword_receiver (n ∷ ms) m there is some = by_arguments n.selector.items n.arguments.items (messages_view ms) (subst (λ (x : Message). 1 ≤ length x.arguments.items) is some)
