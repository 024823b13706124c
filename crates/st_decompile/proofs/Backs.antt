-- What it is for a part to have its code again.
use Rattle.std.proofs.Common.{◌≡◌, ℕ, zero, suc, ◌+◌, ◌≤◌, min, Bool, false, List, [], ◌∷◌, inl, inr, sym, ap, ◌∙◌, arith}
use Rattle.st_scan.specs.Views.{ExpressionView, ExpressionsView, StatementsView, MessagesView, is_super, no_statements, no_expressions}
use Rattle.st_scan.specs.Views as views
use Rattle.st_emit.specs.declared.instruction.InstructionOperand.{InstructionOperand}
use Rattle.st_emit.specs.Names.{NamesView, Scope}
use Rattle.st_emit.specs.Literals.{LiteralView, Named}
use Rattle.st_emit.specs.Nodes.{Node, Body, Messages, Nodes}
use Rattle.st_emit.specs.Resolving.{Context, names_in, names_in_statements, names_in_messages, names_in_all, is_plain, all_plain, expression_node, statements_body, messages_of, nodes_of, all_nodes}
use Rattle.st_emit.specs.inside.Around.{cascade_nodes}
use Rattle.st_resolved.proofs.Grows.{Extends}
use Rattle.st_expression_stack.specs.Items.{no_arguments}
use Rattle.st_expression_stack.specs.Choosing.{received}
use Rattle.st_decompile.specs.Back.{tree_of, body_tree, nodes_tree, messages_list, least, body_least, nodes_least, messages_least}
use Rattle.st_decompile.specs.inside.Calling.{renamed, least_in, IsNext}
use Rattle.st_decompile.proofs.Same.{Same, SameBody, SameNodes, SameMessages}

-- as many arguments
abbrev pub AsLong : (a b : ExpressionsView) → Type 0
AsLong views.no_expressions views.no_expressions = Unit {0}
AsLong (views.expression e es) (views.expression f fs) = AsLong es fs
AsLong a b = ⊥

module _ (name_of : InstructionOperand → List ℕ) (names : NamesView) (literals : List LiteralView) where
  abbrev pub at_next : Scope → ℕ → Context
  at_next s n = record { names = names; scope = s; next = n }

  abbrev pub again_at : Scope → ℕ → Context
  again_at s n = at_next (renamed name_of s) n

  -- a part that declares so many variables, from a number on; where it stands again; and the literals then
  pub record Ready (count next other : ℕ) (ls : List LiteralView) : Type 0 where
    pub there : IsNext count next other
    pub fits : next + count ≤ 64
    pub more : Extends ls literals

  pub record Back (was : Named Node) (count next : ℕ) (plain : Bool) (c : Context) (acc : List LiteralView) : Type 0 where
    pub same : Same (expression_node (tree_of name_of was.part) c acc).part was.part
    pub ends : (expression_node (tree_of name_of was.part) c acc).literals ≡ was.literals
    pub counted : names_in (tree_of name_of was.part) ≡ count
    pub block : is_plain (tree_of name_of was.part) ≡ plain
    pub no_super : is_super (tree_of name_of was.part) ≡ false
    pub lowest : least was.part ≡ least_in count next

  abbrev pub body_back : Body → StatementsView
  body_back b = body_tree name_of b no_statements

  pub record BodyBack (was : Named Body) (count next : ℕ) (c : Context) (acc : List LiteralView) : Type 0 where
    pub same : SameBody (statements_body (body_back was.part) c acc).part was.part
    pub ends : (statements_body (body_back was.part) c acc).literals ≡ was.literals
    pub counted : names_in_statements (body_back was.part) ≡ count
    pub lowest : body_least was.part no_arguments ≡ least_in count next

  abbrev pub nodes_back : Nodes → ExpressionsView
  nodes_back ns = nodes_tree name_of ns no_expressions

  pub record NodesBack (es : ExpressionsView) (was : Named Nodes) (count next : ℕ) (c : Context) (acc : List LiteralView) : Type 0 where
    pub same : SameNodes (all_nodes (nodes_of (nodes_back was.part) c) acc).part was.part
    pub ends : (all_nodes (nodes_of (nodes_back was.part) c) acc).literals ≡ was.literals
    pub counted : names_in_all (nodes_back was.part) ≡ count
    pub blocks : all_plain (nodes_back was.part) ≡ all_plain es
    pub long : AsLong (nodes_back was.part) es
    pub lowest : nodes_least was.part no_arguments ≡ least_in count next

  abbrev pub messages_back : Messages → MessagesView
  messages_back ms = messages_list name_of ms

  pub record MessagesBack (above : Bool) (was : Named Messages) (count next : ℕ) (c : Context) (acc : List LiteralView) : Type 0 where
    pub same : SameMessages (cascade_nodes above (messages_of (messages_back was.part) c) acc).part was.part
    pub ends : (cascade_nodes above (messages_of (messages_back was.part) c) acc).literals ≡ was.literals
    pub counted : names_in_messages (messages_back was.part) ≡ count
    pub lowest : (l : ℕ) → messages_least l was.part ≡ min l (least_in count next)

  -- what receives messages, to super or not
  pub record ReceiverBack (was : Named Node) (count next : ℕ) (plain above : Bool) (c : Context) (acc : List LiteralView) : Type 0 where
    pub same : Same (expression_node (received above (tree_of name_of was.part)) c acc).part was.part
    pub ends : (expression_node (received above (tree_of name_of was.part)) c acc).literals ≡ was.literals
    pub counted : names_in (received above (tree_of name_of was.part)) ≡ count
    pub block : is_plain (received above (tree_of name_of was.part)) ≡ plain
    pub super : is_super (received above (tree_of name_of was.part)) ≡ above
    pub lowest : least was.part ≡ least_in count next

  -- PARTS OF A PART

  pub first_next : (a b next other : ℕ) → IsNext (a + b) next other → IsNext a next other
  first_next a b next other (inl e) = inl (omega (arith, e))
  first_next a b next other (inr e) = inr e

  pub second_next : (a a' b next other : ℕ) → a' ≡ a → IsNext (a + b) next other → IsNext b (next + a) (other + a')
  second_next a a' b next other h (inl e) = inl (omega (arith, e))
  second_next a a' b next other h (inr e) = inr (omega (arith, e, h))

  pub least_both : (a b next : ℕ) → next + (a + b) ≤ 64 → min (least_in a next) (least_in b (next + a)) ≡ least_in (a + b) next
  least_both zero zero next h = omega arith
  least_both zero (suc b) next h =
      let same : next + 0 ≡ next = omega arith in
      let more : 0 + suc b ≡ suc b = omega arith in
      let low : min 64 next ≡ next = omega (arith, h) in
      ap (λ (k : ℕ). min 64 k) same ∙ low ∙ sym (ap (λ (k : ℕ). least_in k next) more)
  least_both (suc a) zero next h =
      let more : suc a + 0 ≡ suc a = omega arith in
      let low : min next 64 ≡ next = omega (arith, h) in
      low ∙ sym (ap (λ (k : ℕ). least_in k next) more)
  least_both (suc a) (suc b) next h =
      let more : suc a + suc b ≡ suc (a + suc b) = omega arith in
      let low : min next (next + suc a) ≡ next = omega arith in
      low ∙ sym (ap (λ (k : ℕ). least_in k next) more)
