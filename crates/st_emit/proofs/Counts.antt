-- How many block arguments the parts of an expression declare.
use Rattle.std.proofs.Common.{◌≡◌, ◌+◌, ◌≤◌, length, ap, ◌∙◌, arith}
use Rattle.std.proofs.lemmas.List.{length-map}
use Rattle.std.specs.Global.{Vec, Box}
use Rattle.st_scan.specs.declared.tree.Name.{Name}
use Rattle.st_scan.specs.declared.tree.Message.{Message}
use Rattle.st_scan.specs.declared.tree.Statement.{Statement}
use Rattle.st_scan.specs.declared.tree.Expression.{Expression, size-Expression}
use Rattle.st_scan.specs.declared.tree.Expression.TheVariants.{Block, Send}
use Rattle.st_scan.specs.Views.{expression_view, statements_view, messages_view, name_view}
use Rattle.st_scan.proofs.Views.{expression_view-block, expression_view-send}
use Rattle.st_scan.proofs.Chains.{size-receiver}
use Rattle.st_emit.specs.Resolving.{names_in, names_in_statements, names_in_messages}

pub names_in-block : (e : Expression) (names : Vec Name) (body : Vec Statement) → e ≡ Block names body → names_in (expression_view e) ≡ length names.items + names_in_statements (statements_view body.items)
names_in-block e names body is =
    ap (λ x. names_in (expression_view x)) is ∙ ap names_in (expression_view-block names body)
    ∙ ap (λ n. n + names_in_statements (statements_view body.items)) (length-map names.items name_view)

pub names_in-send : (e : Expression) (receiver : Box Expression) (messages : Vec Message) → e ≡ Send receiver messages
    → names_in (expression_view e) ≡ names_in (expression_view receiver.value) + names_in_messages (messages_view messages.items)
names_in-send e receiver messages is = ap (λ x. names_in (expression_view x)) is ∙ ap names_in (expression_view-send receiver messages)

pub size-inner : (e inner : Expression) (receiver : Box Expression) (messages : Vec Message) → e ≡ Send receiver messages → inner ≡ receiver.value → size-Expression inner ≤ size-Expression e
size-inner e inner receiver messages is same = omega (arith, size-receiver receiver messages, ap size-Expression is, ap size-Expression same)
