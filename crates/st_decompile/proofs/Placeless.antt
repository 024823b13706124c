-- The printed text of a tree doesn't depend on its places.
use Rattle.std.proofs.Common.{◌≡◌, ℕ, Bool, true, List, [], ◌∷◌, ◌++◌, Option, Some, None, refl, sym, ap, ◌∙◌}
use Rattle.std.specs.Prelude.{if◌then◌else◌}
use Rattle.std.specs.Str.{byte}
use Rattle.st_scan.specs.Views.{NameView, ContentView, ElementsView, ExpressionView, StatementsView, MessagesView, ExpressionsView, MethodView}
use Rattle.st_scan.specs.Views as views
use Rattle.st_scan.specs.inside.Placeless.{placeless_names, placeless_content, placeless_elements, placeless, placeless_statements, placeless_messages, placeless_expressions, without_places}
use Rattle.st_print.specs.declared.rank.Rank.{Rank}
use Rattle.st_print.specs.declared.rank.Rank.TheVariants.{Unary, Binary}
use Rattle.st_print.specs.Words.{Word, name, keyword, operator, opening, mark, bar, wrapped, text_of, first_keyword, other_keywords}
use Rattle.st_print.specs.Printed.{content_words, elements_words, is_loose, is_word, rank_of_message, rank_of_messages, rank_of, receiver_rank, parameter_words, parameters_words, return_words}
use Rattle.st_print.specs.Printed.{expression_words, statements_words, next_statements, messages_words, next_messages, message_words, keyword_words}
use Rattle.st_print.specs.Printed.{names_words, keyword_pattern, pattern_words, temporaries_words, primitive_words, options_words, behind_pattern, method_words, printed}

-- LITERALS

mutual
  same_content : (c : ContentView) → content_words (placeless_content c) ≡ content_words c
  same_content (views.number n) = refl
  same_content (views.character b) = refl
  same_content (views.bytes text) = refl
  same_content (views.symbol text) = refl
  same_content (views.array es) = λ i. opening ∷ (same_elements es i ++ mark (byte ")") ∷ [])
  same_content views.nil_object = refl
  same_content views.false_object = refl
  same_content views.true_object = refl

  same_elements : (es : ElementsView) → elements_words (placeless_elements es) ≡ elements_words es
  same_elements views.no_elements = refl
  same_elements (views.element place what es) = λ i. same_content what i ++ same_elements es i

-- RANKS

same_message_rank : (selector : List ℕ) (es : ExpressionsView) → rank_of_message selector (placeless_expressions es) ≡ rank_of_message selector es
same_message_rank selector views.no_expressions = refl
same_message_rank selector (views.expression e es) = refl

same_messages_rank : (ms : MessagesView) → rank_of_messages (placeless_messages ms) ≡ rank_of_messages ms
same_messages_rank views.no_messages = refl
same_messages_rank (views.message selector es views.no_messages) = same_message_rank selector es
same_messages_rank (views.message selector es (views.message other more ms)) = refl

same_rank : (e : ExpressionView) → rank_of (placeless e) ≡ rank_of e
same_rank (views.variable n) = refl
same_rank (views.literal e) = refl
same_rank (views.block ns body) = refl
same_rank (views.assign target e) = refl
same_rank (views.send receiver ms) = same_messages_rank ms

same_receiver : (ms : MessagesView) → receiver_rank (placeless_messages ms) ≡ receiver_rank ms
same_receiver views.no_messages = refl
same_receiver (views.message selector views.no_expressions ms) = refl
same_receiver (views.message selector (views.expression e es) ms) = refl

-- EXPRESSIONS

same_parameter : (ns : List NameView) → parameter_words (placeless_names ns) ≡ parameter_words ns
same_parameter [] = refl
same_parameter (n ∷ ns) = λ i. mark (byte ":") ∷ name n.text ∷ same_parameter ns i

same_parameters : (ns : List NameView) → parameters_words (placeless_names ns) ≡ parameters_words ns
same_parameters [] = refl
same_parameters (n ∷ ns) = λ i. same_parameter (n ∷ ns) i ++ bar ∷ []

mutual
  same_expression : (e : ExpressionView) → expression_words (placeless e) ≡ expression_words e
  same_expression (views.variable n) = refl
  same_expression (views.literal e) = same_content e.what
  same_expression (views.block ns body) = λ i. mark (byte "[") ∷ (same_parameters ns i ++ (same_statements body i ++ mark (byte "]") ∷ []))
  same_expression (views.assign target e) = λ i. name target.text ∷ mark (byte "_") ∷ same_expression e i
  same_expression (views.send receiver ms) = λ i. wrapped (is_loose (same_receiver ms i) (same_rank receiver i)) (same_expression receiver i) ++ same_messages ms i

  same_statements : (ss : StatementsView) → statements_words (placeless_statements ss) ≡ statements_words ss
  same_statements views.no_statements = refl
  same_statements (views.statement returns e ss) = λ i. return_words returns ++ (same_expression e i ++ same_next ss i)

  same_next : (ss : StatementsView) → next_statements (placeless_statements ss) ≡ next_statements ss
  same_next views.no_statements = refl
  same_next (views.statement returns e ss) = λ i. mark (byte ".") ∷ (return_words returns ++ (same_expression e i ++ same_next ss i))

  same_messages : (ms : MessagesView) → messages_words (placeless_messages ms) ≡ messages_words ms
  same_messages views.no_messages = refl
  same_messages (views.message selector es ms) = λ i. same_message selector es i ++ same_other_messages ms i

  same_other_messages : (ms : MessagesView) → next_messages (placeless_messages ms) ≡ next_messages ms
  same_other_messages views.no_messages = refl
  same_other_messages (views.message selector es ms) = λ i. mark (byte ";") ∷ (same_message selector es i ++ same_other_messages ms i)

  same_message : (selector : List ℕ) (es : ExpressionsView) → message_words selector (placeless_expressions es) ≡ message_words selector es
  same_message selector views.no_expressions = refl
  same_message selector (views.expression e es) =
      λ i. if is_word selector
      then keyword (first_keyword selector) ∷ (wrapped (is_loose Binary (same_rank e i)) (same_expression e i) ++ same_keywords (other_keywords selector) es i)
      else operator selector ∷ wrapped (is_loose Unary (same_rank e i)) (same_expression e i)

  same_keywords : (selector : List ℕ) (es : ExpressionsView) → keyword_words selector (placeless_expressions es) ≡ keyword_words selector es
  same_keywords selector views.no_expressions = refl
  same_keywords selector (views.expression e es) =
      λ i. keyword (first_keyword selector) ∷ (wrapped (is_loose Binary (same_rank e i)) (same_expression e i) ++ same_keywords (other_keywords selector) es i)

-- METHODS

same_names : (ns : List NameView) → names_words (placeless_names ns) ≡ names_words ns
same_names [] = refl
same_names (n ∷ ns) = λ i. name n.text ∷ same_names ns i

same_keyword_pattern : (selector : List ℕ) (ns : List NameView) → keyword_pattern selector (placeless_names ns) ≡ keyword_pattern selector ns
same_keyword_pattern selector [] = refl
same_keyword_pattern selector (n ∷ ns) = λ i. keyword (first_keyword selector) ∷ name n.text ∷ same_keyword_pattern (other_keywords selector) ns i

same_pattern : (selector : List ℕ) (ns : List NameView) → pattern_words selector (placeless_names ns) ≡ pattern_words selector ns
same_pattern selector [] = refl
same_pattern selector (n ∷ ns) = λ i. if is_word selector then same_keyword_pattern selector (n ∷ ns) i else operator selector ∷ name n.text ∷ []

same_temporaries : (ns : List NameView) → temporaries_words (placeless_names ns) ≡ temporaries_words ns
same_temporaries [] = refl
same_temporaries (n ∷ ns) = λ i. bar ∷ (same_names (n ∷ ns) i ++ bar ∷ [])

same_method : (t : MethodView) → method_words (without_places t) ≡ method_words t
same_method t = λ i. same_pattern t.selector t.arguments i ++ behind_pattern (same_temporaries t.temporaries i ++ primitive_words t.primitive) (same_statements t.body i)

-- trees that are the same but for places are printed alike
pub printed_alike : (a b : MethodView) → without_places a ≡ without_places b → printed a ≡ printed b
printed_alike a b e = ap text_of (sym (same_method a) ∙ (ap method_words e ∙ same_method b))
