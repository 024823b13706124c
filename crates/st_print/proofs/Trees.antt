-- Trees of phrases that grow at their end; and `super` is told by its name alone.
use Rattle.std.proofs.Common.{◌≡◌, ℕ, true, false, List, [], ◌∷◌, ◌++◌, refl, sym, ap, ◌∙◌, append_assoc}
use Rattle.std.proofs.lemmas.List.{append-nil}
use Rattle.st_scan.specs.Views.{ExpressionView, MessagesView, ExpressionsView, with_message, is_super}
use Rattle.st_scan.specs.Views as views
use Rattle.st_scan.specs.inside.Placeless.{placeless}
use Rattle.st_scan.proofs.Views.{is_super-placeless}
use Rattle.st_grammar.specs.declared.leaf.Leaf.{Leaf}
use Rattle.st_grammar.specs.Leaves.{operators}
use Rattle.st_grammar.specs.Phrases.{One, names, Primary, Unary, Operations, Parts, Expression, Target, unary, binary, keyworded, no_operations, operation, no_parts, part, expression, unary_text, operations_text, expression_text}
use Rattle.st_grammar.specs.Trees.{bytes, name_at, sent, after_names, unary_tree, after_operations, expression_tree, has_message, UnaryFits, OperationsFit, ExpressionFits}

pub super_same : (t u : ExpressionView) → placeless t ≡ placeless u → is_super u ≡ false → is_super t ≡ false
super_same t u e f = sym (is_super-placeless t) ∙ ap is_super e ∙ is_super-placeless u ∙ f

-- LISTS

abbrev pub operations_end : Operations → One operators → Unary → Operations
operations_end no_operations o u = operation o u no_operations
operations_end (operation p v os) o u = operation p v (operations_end os o u)

pub operations_end-text : (os : Operations) (o : One operators) (u : Unary) → operations_text (operations_end os o u) ≡ operations_text os ++ o.leaf ∷ unary_text u
operations_end-text no_operations o u = ap (λ (l : List Leaf). o.leaf ∷ l) (append-nil (unary_text u))
operations_end-text (operation p v os) o u =
    ap (λ (l : List Leaf). p.leaf ∷ (unary_text v ++ l)) (operations_end-text os o u)
    ∙ ap (λ (l : List Leaf). p.leaf ∷ l) (sym (append_assoc (unary_text v) (operations_text os) (o.leaf ∷ unary_text u)))

-- the messages of a cascade, and others behind them
abbrev pub messages_append : MessagesView → MessagesView → MessagesView
messages_append views.no_messages ns = ns
messages_append (views.message s es ms) ns = views.message s es (messages_append ms ns)

pub messages_append-nil : (ms : MessagesView) → messages_append ms views.no_messages ≡ ms
messages_append-nil views.no_messages = refl
messages_append-nil (views.message s es ms) = ap (λ (l : MessagesView). views.message s es l) (messages_append-nil ms)

pub with_message-append : (ms : MessagesView) (s : List ℕ) (es : ExpressionsView) (ns : MessagesView) → messages_append (with_message ms s es) ns ≡ messages_append ms (views.message s es ns)
with_message-append views.no_messages s es ns = refl
with_message-append (views.message t fs ms) s es ns = ap (λ (l : MessagesView). views.message t fs l) (with_message-append ms s es ns)

-- a keyword expression with a name, an operator or a keyword has a message
pub name_has : (text : List ℕ) (p : Primary) (ns : List (One names)) (o : One names) → has_message text (keyworded (binary (unary p (ns ++ o ∷ [])) no_operations) no_parts) ≡ true
name_has text p [] o = refl
name_has text p (n ∷ ns) o = refl

pub operation_has : (text : List ℕ) (p : Primary) (ns : List (One names)) (os : Operations) (o : One operators) (u : Unary) → has_message text (keyworded (binary (unary p ns) (operations_end os o u)) no_parts) ≡ true
operation_has text p [] no_operations o u = refl
operation_has text p [] (operation q v os) o u = refl
operation_has text p (n ∷ ns) os o u = refl

abbrev pub HasPart : Parts → Type 0
HasPart no_parts = ⊥
HasPart (part k b ks) = Unit {0}

pub part_has : (text : List ℕ) (p : Primary) (ns : List (One names)) (os : Operations) (ks : Parts) → HasPart ks → has_message text (keyworded (binary (unary p ns) os) ks) ≡ true
part_has text p [] no_operations no_parts h = absurd h
part_has text p [] no_operations (part k b ks) h = refl
part_has text p [] (operation o u os) ks h = refl
part_has text p (n ∷ ns) os ks h = refl

module _ (text : List ℕ) where
  pub after_names-end : (t : ExpressionView) (ns : List (One names)) (o : One names) → after_names text t (ns ++ o ∷ []) ≡ sent (after_names text t ns) (bytes text o.leaf) views.no_expressions
  after_names-end t [] o = refl
  after_names-end t (n ∷ ns) o = after_names-end (sent t (bytes text n.leaf) views.no_expressions) ns o

  pub after_operations-end : (t : ExpressionView) (os : Operations) (o : One operators) (u : Unary)
      → after_operations text t (operations_end os o u) ≡ sent (after_operations text t os) (bytes text o.leaf) (views.expression (unary_tree text u) views.no_expressions)
  after_operations-end t no_operations o u = refl
  after_operations-end t (operation p v os) o u = after_operations-end (sent t (bytes text p.leaf) (views.expression (unary_tree text v) views.no_expressions)) os o u

  pub operations_end-fit : (os : Operations) (o : One operators) (u : Unary) → OperationsFit text os → UnaryFits text u → OperationsFit text (operations_end os o u)
  operations_end-fit no_operations o u f g = (g, tt)
  operations_end-fit (operation p v os) o u f g = (f.0, operations_end-fit os o u f.1 g)

-- an assignment of an expression
abbrev pub with_target : Target → Expression → Expression
with_target t (expression ts c) = expression (t ∷ ts) c

pub with_target-text : (t : Target) (e : Expression) → expression_text (with_target t e) ≡ t.name.leaf ∷ t.assign.leaf ∷ expression_text e
with_target-text t (expression ts c) = refl

pub with_target-tree : (text : List ℕ) (t : Target) (e : Expression) → expression_tree text (with_target t e) ≡ views.assign (name_at text t.name.leaf) (expression_tree text e)
with_target-tree text t (expression ts c) = refl

pub with_target-fits : (text : List ℕ) (t : Target) (e : Expression) → ExpressionFits text e → ExpressionFits text (with_target t e)
with_target-fits text t (expression ts c) f = f
