-- Trees without their places, which two texts of one method share.
use Rattle.std.specs.Prelude.{ℕ, List, map}
use Rattle.st_scan.specs.Views.{NameView, ContentView, ElementsView, ElementView, ExpressionView, StatementsView, MessagesView, ExpressionsView, MethodView}
use Rattle.st_scan.specs.Views as views

abbrev pub placeless_name : NameView → NameView
placeless_name n = record { text = n.text; place = 0 }

abbrev pub placeless_names : List NameView → List NameView
placeless_names ns = map placeless_name ns

abbrev mutual
  pub placeless_content : ContentView → ContentView
  placeless_content (views.number n) = views.number n
  placeless_content (views.character b) = views.character b
  placeless_content (views.bytes text) = views.bytes text
  placeless_content (views.symbol text) = views.symbol text
  placeless_content (views.array es) = views.array (placeless_elements es)
  placeless_content views.nil_object = views.nil_object
  placeless_content views.false_object = views.false_object
  placeless_content views.true_object = views.true_object

  pub placeless_elements : ElementsView → ElementsView
  placeless_elements views.no_elements = views.no_elements
  placeless_elements (views.element place what es) = views.element 0 (placeless_content what) (placeless_elements es)

abbrev pub placeless_element : ElementView → ElementView
placeless_element e = record { place = 0; what = placeless_content e.what }

abbrev mutual
  pub placeless : ExpressionView → ExpressionView
  placeless (views.variable n) = views.variable (placeless_name n)
  placeless (views.literal e) = views.literal (placeless_element e)
  placeless (views.block names body) = views.block (placeless_names names) (placeless_statements body)
  placeless (views.assign target e) = views.assign (placeless_name target) (placeless e)
  placeless (views.send receiver ms) = views.send (placeless receiver) (placeless_messages ms)

  pub placeless_statements : StatementsView → StatementsView
  placeless_statements views.no_statements = views.no_statements
  placeless_statements (views.statement returns e ss) = views.statement returns (placeless e) (placeless_statements ss)

  pub placeless_messages : MessagesView → MessagesView
  placeless_messages views.no_messages = views.no_messages
  placeless_messages (views.message selector es ms) = views.message selector (placeless_expressions es) (placeless_messages ms)

  pub placeless_expressions : ExpressionsView → ExpressionsView
  placeless_expressions views.no_expressions = views.no_expressions
  placeless_expressions (views.expression e es) = views.expression (placeless e) (placeless_expressions es)

-- a method's tree, places aside
abbrev pub without_places : MethodView → MethodView
without_places m = record {
  selector = m.selector;
  arguments = placeless_names m.arguments;
  temporaries = placeless_names m.temporaries;
  primitive = m.primitive;
  body = placeless_statements m.body;
}
