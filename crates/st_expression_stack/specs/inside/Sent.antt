-- What contracts say of messages that are read.
use Rattle.std.specs.Prelude.{List, Option}
use Rattle.std.specs.Global.{Vec}
use Rattle.st_scan.specs.declared.tree.Message.{Message}
use Rattle.st_scan.specs.Views.{expressions_view, messages_view, with_message}
use Rattle.st_emit.specs.declared.form.Lookup.{Lookup}
use Rattle.st_emit.specs.Nodes.{is_above}
use Rattle.st_expression_stack.specs.declared.item.Piece.{Piece as Kept}
use Rattle.st_expression_stack.specs.declared.sending.Received.{Received}
use Rattle.st_expression_stack.specs.Items.{Item, piece, Acted}
use Rattle.st_expression_stack.specs.Messages.{sent, sent_to}
use Rattle.st_expression_stack.specs.inside.Stacks.{piece_view}

abbrev pub sent_by : Lookup → Received → List Item → Option Acted
sent_by lookup m xs = sent_to (is_above lookup) m.message.selector.items (expressions_view m.message.arguments.items) m.least m.height xs

abbrev pub finished_by : Lookup → Kept → Vec Message → Received → Item
finished_by lookup r ms m = piece (sent (is_above lookup) (piece_view r) (with_message (messages_view ms.items) m.message.selector.items (expressions_view m.message.arguments.items)) m.least m.height)
