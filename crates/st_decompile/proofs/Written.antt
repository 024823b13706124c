-- The tree of nodes is one that a text may have, where all variables are called by names.
use Rattle.std.proofs.Common.{◌≡◌, ℕ, zero, suc, ◌≤◌, Bool, true, false, List, [], ◌∷◌, Option, Some, None, map, inr, refl, sym, subst, arith}
use Rattle.std.specs.Prelude.{IsFalse, if◌then◌else◌, bytes_eq, codes, nat_lt}
use Rattle.st_scan.specs.Views.{is_super, ExpressionView, StatementsView, no_statements, statement, no_expressions}
use Rattle.st_scan.specs.Views as views
use Rattle.st_emit.specs.declared.instruction.Constant.{Constant}
use Rattle.st_emit.specs.declared.instruction.Constant.TheVariants.{Receiver, True, False, Nil, Context}
use Rattle.st_emit.specs.declared.instruction.InstructionOperand.{InstructionOperand}
use Rattle.st_emit.specs.declared.form.TwoSided.TheVariants.{TrueFirst, FalseFirst}
use Rattle.st_emit.specs.Nodes as nodes
use Rattle.st_emit.specs.Nodes.{Node, Body, Messages, Nodes, count}
use Rattle.st_emit.specs.Emitting.{passes_on, other_side, leaves_on}
use Rattle.st_scan.specs.Pieces.{is_name}
use Rattle.st_grammar.specs.inside.Formed.{IsSelector, NamesFormed, HasMessage, ReceiverFormed, StatementsFormed, MessagesFormed, ArgumentsFormed, count_of}
use Rattle.st_expression_stack.specs.Items.{no_arguments}
use Rattle.st_expression_stack.specs.Choosing.{called, small_signed, constant_tree, received, alone, one_sided_by, sides_by, choice_tree, loop_selector, with_block, with_blocks}
use Rattle.st_decompile.proofs.Sides.{IfNamed, each_side}
use Rattle.st_decompile.specs.Back.{tree_of, body_tree, nodes_tree, messages_list, body_least, places_from, method_tree, without_self, is_self}
use Rattle.st_decompile.specs.inside.Formed.{Formed, BodyFormed, MessagesWell, NodesFormed}

-- FORMS

abbrev IsSided : Option (List ℕ) → Type 0
IsSided = IfNamed (λ s. IsSelector s 1)

if_true : IsSelector (codes "ifTrue:") 1
if_true = inr (record { names = codes "ifTrue" ∷ []; are_names = refl; is_joined = refl; counted = refl })

if_false : IsSelector (codes "ifFalse:") 1
if_false = inr (record { names = codes "ifFalse" ∷ []; are_names = refl; is_joined = refl; counted = refl })

and_then : IsSelector (codes "and:") 1
and_then = inr (record { names = codes "and" ∷ []; are_names = refl; is_joined = refl; counted = refl })

or_then : IsSelector (codes "or:") 1
or_then = inr (record { names = codes "or" ∷ []; are_names = refl; is_joined = refl; counted = refl })

true_first : IsSelector (codes "ifTrue:ifFalse:") 2
true_first = inr (record { names = codes "ifTrue" ∷ codes "ifFalse" ∷ []; are_names = refl; is_joined = refl; counted = refl })

false_first : IsSelector (codes "ifFalse:ifTrue:") 2
false_first = inr (record { names = codes "ifFalse" ∷ codes "ifTrue" ∷ []; are_names = refl; is_joined = refl; counted = refl })

looping : (on : Bool) → IsSelector (loop_selector on) 1
looping false = inr (record { names = codes "whileTrue" ∷ []; are_names = refl; is_joined = refl; counted = refl })
looping true = inr (record { names = codes "whileFalse" ∷ []; are_names = refl; is_joined = refl; counted = refl })

-- an expression that may be an argument: it isn't super alone
abbrev Written : ExpressionView → Type 0
Written e = ReceiverFormed e × IsFalse (is_super e)

block_written : (e : ExpressionView) (s : List ℕ) (a : StatementsView) → ReceiverFormed e → IsSelector s 1 → StatementsFormed a → Written (with_block e s a)
block_written e s a h i j = ((h, tt, (i, ((tt, j), refl, tt), tt)), refl)

blocks_written : (e : ExpressionView) (s : List ℕ) (a b : StatementsView) → ReceiverFormed e → IsSelector s 2 → StatementsFormed a → StatementsFormed b → Written (with_blocks e s a b)
blocks_written e s a b h i j k = ((h, tt, (i, ((tt, j), refl, ((tt, k), refl, tt)), tt)), refl)

choice_written : (on : Bool) (e : ExpressionView) (a : StatementsView) (la : ℕ) (b : StatementsView) (lb : ℕ) → ReceiverFormed e → StatementsFormed a → StatementsFormed b → Written (choice_tree on e a la b lb)
choice_written on e a la b lb h j k = by_form (one_sided_by on (alone b)) (each_side (λ s. IsSelector s 1) if_true if_false and_then or_then on (alone b))
  where
    by_order : (t : Bool) → Written (if t then with_blocks e (codes "ifFalse:ifTrue:") b a else with_blocks e (codes "ifTrue:ifFalse:") a b)
    by_order true = blocks_written e (codes "ifFalse:ifTrue:") b a h false_first k j
    by_order false = blocks_written e (codes "ifTrue:ifFalse:") a b h true_first j k

    by_form : (o : Option (List ℕ)) → IsSided o → Written (sides_by o e a la b lb)
    by_form (Some s) i = block_written e s a h i j
    by_form None i = by_order (nat_lt lb la)

constant_written : (k : Constant) → Written (constant_tree k)
constant_written Receiver = (refl, refl)
constant_written True = (refl, refl)
constant_written False = (refl, refl)
constant_written Nil = (refl, refl)
constant_written Context = (refl, refl)

-- a statement before others
statement_written : (e : ExpressionView) (ss : StatementsView) → Written e → StatementsFormed ss → StatementsFormed (statement false e ss)
statement_written e ss h k = (h.0, h.1, tt, k)

return_written : (e : ExpressionView) → Written e → StatementsFormed (statement true e no_statements)
return_written e h = (h.0, h.1, tt, tt)

received_written : (above : Bool) (e : ExpressionView) → ReceiverFormed e → ReceiverFormed (received above e)
received_written true e h = refl
received_written false e h = h

small_written : (k : ℕ) → k ≤ 3 → Written (views.literal (record { place = 0; what = views.number (small_signed k) }))
small_written zero h = (omega arith, refl)
small_written (suc n) h = (omega (arith, h), refl)

-- NODES

module _ (name_of : InstructionOperand → List ℕ) (are_names : (p : InstructionOperand) → is_name (name_of p) ≡ true) (none_super : (p : InstructionOperand) → bytes_eq (name_of p) (codes "super") ≡ false) where
  pub names_written : (ps : List InstructionOperand) → NamesFormed (map (λ p. called (name_of p)) ps)
  names_written [] = tt
  names_written (p ∷ ps) = (are_names p, names_written ps)

  count_nodes : (ns : Nodes) → count_of (nodes_tree name_of ns no_expressions) ≡ count ns
  count_nodes nodes.none = refl
  count_nodes (nodes.node n ns) = omega (arith, count_nodes ns)

  some_messages : (ms : Messages) → HasMessage (messages_list name_of ms)
  some_messages (nodes.only s ns) = tt
  some_messages (nodes.also s ns ms) = tt

  mutual
    pub node_written : (n : Node) → Formed n → Written (tree_of name_of n)
    node_written (nodes.constant k) f = constant_written k
    node_written (nodes.small k) f = small_written k f
    node_written (nodes.literal x place) f = (f, refl)
    node_written (nodes.variable p) f = (are_names p, none_super p)
    node_written (nodes.assign p n) f = let e = node_written n f in ((are_names p, e.0, e.1), refl)
    node_written (nodes.block first n c b) f = ((names_written (places_from first n []), body_written b f), refl)
    node_written (nodes.send above r ms) f = ((received_written above (tree_of name_of r) (node_written r f.0).0, some_messages ms, messages_written ms f.1), refl)
    node_written (nodes.one_sided side x a) f =
        choice_written (passes_on side) (tree_of name_of x) (body_tree name_of a no_statements) (body_least a no_arguments) (statement false (constant_tree (other_side side)) no_statements) no_arguments
        (node_written x f.0).0 (body_written a f.1) (statement_written (constant_tree (other_side side)) no_statements (constant_written (other_side side)) tt)
    node_written (nodes.two_sided TrueFirst x a b) f =
        choice_written false (tree_of name_of x) (body_tree name_of a no_statements) (body_least a no_arguments) (body_tree name_of b no_statements) (body_least b no_arguments) (node_written x f.0).0 (body_written a f.1) (body_written b f.2)
    node_written (nodes.two_sided FalseFirst x a b) f =
        choice_written false (tree_of name_of x) (body_tree name_of b no_statements) (body_least b no_arguments) (body_tree name_of a no_statements) (body_least a no_arguments) (node_written x f.0).0 (body_written b f.2) (body_written a f.1)
    node_written (nodes.loop kind x a) f =
        block_written (views.block [] (body_tree name_of x no_statements)) (loop_selector (leaves_on kind)) (body_tree name_of a no_statements) (tt, body_written x f.0) (looping (leaves_on kind)) (body_written a f.1)

    pub body_written : (b : Body) → BodyFormed b → StatementsFormed (body_tree name_of b no_statements)
    body_written nodes.nothing f = statement_written (constant_tree Nil) no_statements (constant_written Nil) tt
    body_written (nodes.last n) f = statement_written (tree_of name_of n) no_statements (node_written n f) tt
    body_written (nodes.next n b) f = statement_written (tree_of name_of n) (body_tree name_of b no_statements) (node_written n f.0) (body_written b f.1)
    body_written (nodes.returned n) f = return_written (tree_of name_of n) (node_written n f)

    messages_written : (ms : Messages) → MessagesWell ms → MessagesFormed (messages_list name_of ms)
    messages_written (nodes.only s ns) f = (subst (λ n. IsSelector s.selector n) (sym (count_nodes ns)) f.0, nodes_written ns f.1, tt)
    messages_written (nodes.also s ns ms) f = (subst (λ n. IsSelector s.selector n) (sym (count_nodes ns)) f.0, nodes_written ns f.1, messages_written ms f.2)

    nodes_written : (ns : Nodes) → NodesFormed ns → ArgumentsFormed (nodes_tree name_of ns no_expressions)
    nodes_written nodes.none f = tt
    nodes_written (nodes.node n ns) f = let e = node_written n f.0 in (e.0, e.1, nodes_written ns f.1)

  -- METHODS

  without_written : (ss : StatementsView) → StatementsFormed ss → StatementsFormed (without_self ss)
  without_written views.no_statements h = tt
  without_written (views.statement true e ss) h = by_self (is_self e)
    where
      by_self : (t : Bool) → StatementsFormed (if t then no_statements else statement true e no_statements)
      by_self true = tt
      by_self false = (h.0, h.1, tt, tt)
  without_written (views.statement false e ss) h = (h.0, h.1, tt, without_written ss h.3)

  method_written : (b : Body) → BodyFormed b → StatementsFormed (method_tree name_of b no_statements)
  method_written nodes.nothing f = return_written (constant_tree Receiver) (constant_written Receiver)
  method_written (nodes.last n) f = statement_written (tree_of name_of n) (statement true (constant_tree Receiver) no_statements) (node_written n f) (return_written (constant_tree Receiver) (constant_written Receiver))
  method_written (nodes.next n b) f = statement_written (tree_of name_of n) (method_tree name_of b no_statements) (node_written n f.0) (method_written b f.1)
  method_written (nodes.returned n) f = return_written (tree_of name_of n) (node_written n f)

  pub statements_written : (b : Body) → BodyFormed b → StatementsFormed (without_self (method_tree name_of b no_statements))
  statements_written b f = without_written (method_tree name_of b no_statements) (method_written b f)
