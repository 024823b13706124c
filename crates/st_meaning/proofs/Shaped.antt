-- What the messages of a tree do, by their shape.
use Rattle.std.proofs.Common.{◌≡◌, ℕ, Bool, true, false, ◌&&◌, List, [], ◌∷◌, take, Some, refl, sym, ap, ◌∙◌, subst, zero-add}
use Rattle.std.specs.Prelude.{if◌then◌else◌}
use Rattle.st_scan.specs.declared.chain.Link.{Link}
use Rattle.st_scan.specs.Views.{ExpressionView, StatementsView, MessagesView, ExpressionsView, no_messages, message, no_expressions, expression, block}
use Rattle.st_scan.specs.Views as views
use Rattle.st_scan.specs.inside.Chains.{LinkView, sent, with_link, linked, link_view, links_view}
use Rattle.st_emit.specs.declared.form.Form.{Form}
use Rattle.st_emit.specs.declared.form.Form.TheVariants.{Message as Plain, One, Two, Repeated}
use Rattle.st_emit.specs.declared.form.TwoSided.{TwoSided}
use Rattle.st_emit.specs.declared.form.TwoSided.TheVariants.{TrueFirst, FalseFirst}
use Rattle.st_emit.specs.Literals.{LiteralView, Naming, given, ◌>>=◌}
use Rattle.st_emit.specs.Nodes.{Node, Tail, loop, sided, chosen}
use Rattle.st_emit.specs.Nodes as nodes
use Rattle.st_emit.specs.Resolving.{Context, behind, names_in, names_in_statements, is_plain, all_plain, expression_node, statements_body, messages_of, nodes_of, form_named, formed, plain_tail}
use Rattle.st_emit.specs.inside.Around.{link_tail, message_of, cascade_nodes}
use Rattle.st_emit.specs.inside.Shapes.{ShapeView, plain, one_sided, two_sided, formed_shape, two_sided_shape, shape_of, statements_of, RepetitionView, repetition_of, first_repetition, IsCascade}
use Rattle.st_emit.proofs.Follow.{plain_block, loop_parts, loop_node, IsLoop}

-- SHAPES

-- what a message does by its shape, where other messages do that
abbrev pub shape_tail : Context → ShapeView → (otherwise : Naming Tail) → Naming Tail
shape_tail c plain otherwise = otherwise
shape_tail c (one_sided side a) otherwise = statements_body a c >>= λ x. given (sided side x)
shape_tail c (two_sided TrueFirst a b) otherwise = statements_body a c >>= λ x. statements_body b (behind c (names_in_statements a)) >>= λ y. given (chosen TrueFirst x y)
shape_tail c (two_sided FalseFirst a b) otherwise = statements_body b (behind c (names_in_statements a)) >>= λ y. statements_body a c >>= λ x. given (chosen FalseFirst x y)

abbrev either : Bool → Naming Tail → Naming Tail → Naming Tail
either b t u = if b then t else u

either_same : (b : Bool) (t : Naming Tail) → t ≡ either b t t
either_same true t = refl
either_same false t = refl

none_shaped : (form : Form) (c : Context) (otherwise : Naming Tail) → shape_tail c (formed_shape form no_expressions) otherwise ≡ formed form false [] otherwise
none_shaped Plain c otherwise = refl
none_shaped (One side) c otherwise = refl
none_shaped (Two TrueFirst) c otherwise = refl
none_shaped (Two FalseFirst) c otherwise = refl
none_shaped (Repeated kind) c otherwise = refl

one_shaped : (form : Form) (p : Bool) (a : ExpressionView) (c : Context) (otherwise : Naming Tail) → is_plain a ≡ p
    → shape_tail c (formed_shape form (expression a no_expressions)) otherwise ≡ either (p && true) (formed form false (expression_node a c ∷ []) otherwise) otherwise
one_shaped Plain p a c otherwise h = either_same (p && true) otherwise
one_shaped (One side) true a c otherwise h =
    subst (λ (x : ExpressionView). shape_tail c (formed_shape (One side) (expression x no_expressions)) otherwise ≡ formed (One side) false (expression_node x c ∷ []) otherwise) (sym (plain_block a h)) refl
one_shaped (One side) false a c otherwise h = ap (λ (b : Bool). shape_tail c (if b then one_sided side (statements_of a) else plain) otherwise) h
one_shaped (Two TrueFirst) p a c otherwise h = either_same (p && true) otherwise
one_shaped (Two FalseFirst) p a c otherwise h = either_same (p && true) otherwise
one_shaped (Repeated kind) p a c otherwise h = either_same (p && true) otherwise

-- two blocks, the second of which has its numbers behind those of the first
two_blocks : (side : TwoSided) (x y : StatementsView) (c : Context) (otherwise : Naming Tail)
    → shape_tail c (two_sided side x y) otherwise ≡ formed (Two side) false (expression_node (block [] x) c ∷ expression_node (block [] y) (behind c (names_in (block [] x))) ∷ []) otherwise
two_blocks TrueFirst x y c otherwise =
    subst (λ (k : ℕ). shape_tail c (two_sided TrueFirst x y) otherwise ≡ formed (Two TrueFirst) false (expression_node (block [] x) c ∷ expression_node (block [] y) (behind c k) ∷ []) otherwise) (sym (zero-add (names_in_statements x))) refl
two_blocks FalseFirst x y c otherwise =
    subst (λ (k : ℕ). shape_tail c (two_sided FalseFirst x y) otherwise ≡ formed (Two FalseFirst) false (expression_node (block [] x) c ∷ expression_node (block [] y) (behind c k) ∷ []) otherwise) (sym (zero-add (names_in_statements x))) refl

abbrev two_given : Form → ExpressionView → ExpressionView → Context → Naming Tail → Naming Tail
two_given form a b c otherwise = formed form false (expression_node a c ∷ expression_node b (behind c (names_in a)) ∷ []) otherwise

two_sided_shaped : (side : TwoSided) (p q : Bool) (a b : ExpressionView) (c : Context) (otherwise : Naming Tail) → is_plain a ≡ p → is_plain b ≡ q
    → shape_tail c (two_sided_shape side (expression a (expression b no_expressions))) otherwise ≡ either (p && (q && true)) (two_given (Two side) a b c otherwise) otherwise
two_sided_shaped side false q a b c otherwise h k =
    ap (λ (t : Bool). shape_tail c (if t then (if is_plain b then two_sided side (statements_of a) (statements_of b) else plain) else plain) otherwise) h
two_sided_shaped side true false a b c otherwise h k =
    let shape = λ (t u : Bool). shape_tail c (if t then (if u then two_sided side (statements_of a) (statements_of b) else plain) else plain) otherwise in
    ap (λ (t : Bool). shape t (is_plain b)) h ∙ ap (λ (u : Bool). shape true u) k
two_sided_shaped side true true a b c otherwise h k =
    let goal = λ (x y : ExpressionView). shape_tail c (two_sided_shape side (expression x (expression y no_expressions))) otherwise ≡ two_given (Two side) x y c otherwise in
    subst (λ (x : ExpressionView). goal x b) (sym (plain_block a h)) (subst (λ (y : ExpressionView). goal (block [] (statements_of a)) y) (sym (plain_block b k)) (two_blocks side (statements_of a) (statements_of b) c otherwise))

two_shaped : (form : Form) (a b : ExpressionView) (c : Context) (otherwise : Naming Tail)
    → shape_tail c (formed_shape form (expression a (expression b no_expressions))) otherwise ≡ either (is_plain a && (is_plain b && true)) (two_given form a b c otherwise) otherwise
two_shaped Plain a b c otherwise = either_same (is_plain a && (is_plain b && true)) otherwise
two_shaped (One side) a b c otherwise = either_same (is_plain a && (is_plain b && true)) otherwise
two_shaped (Two side) a b c otherwise = two_sided_shaped side (is_plain a) (is_plain b) a b c otherwise refl refl
two_shaped (Repeated kind) a b c otherwise = either_same (is_plain a && (is_plain b && true)) otherwise

many_shaped : (form : Form) (all : Bool) (a b d : ExpressionView) (es : ExpressionsView) (x y z : Naming Node) (ms : List (Naming Node)) (c : Context) (otherwise : Naming Tail)
    → shape_tail c (formed_shape form (expression a (expression b (expression d es)))) otherwise ≡ either all (formed form false (x ∷ y ∷ z ∷ ms) otherwise) otherwise
many_shaped Plain all a b d es x y z ms c otherwise = either_same all otherwise
many_shaped (One side) all a b d es x y z ms c otherwise = either_same all otherwise
many_shaped (Two TrueFirst) all a b d es x y z ms c otherwise = either_same all otherwise
many_shaped (Two FalseFirst) all a b d es x y z ms c otherwise = either_same all otherwise
many_shaped (Repeated kind) all a b d es x y z ms c otherwise = either_same all otherwise

-- one message to another receiver than super
pub shape_same : (selector : List ℕ) (es : ExpressionsView) (c : Context) → shape_tail c (shape_of selector es) (plain_tail false (message_of c selector es) []) ≡ link_tail false (sent (message selector es no_messages)) c
shape_same selector views.no_expressions c = none_shaped (form_named selector) c (plain_tail false (message_of c selector views.no_expressions) [])
shape_same selector (views.expression a views.no_expressions) c =
    one_shaped (form_named selector) (is_plain a) a c (plain_tail false (message_of c selector (views.expression a views.no_expressions)) []) refl
shape_same selector (views.expression a (views.expression b views.no_expressions)) c =
    two_shaped (form_named selector) a b c (plain_tail false (message_of c selector (views.expression a (views.expression b views.no_expressions))) [])
shape_same selector (views.expression a (views.expression b (views.expression d es))) c =
    let whole = views.expression a (views.expression b (views.expression d es)) in
    let next = behind (behind c (names_in a)) (names_in b) in
    many_shaped (form_named selector) (all_plain whole) a b d es (expression_node a c) (expression_node b (behind c (names_in a))) (expression_node d next) (nodes_of es (behind next (names_in d))) c (plain_tail false (message_of c selector whole) [])

-- other messages
pub cascade_same : (above : Bool) (ms : MessagesView) (c : Context) → IsCascade above ms → (cascade_nodes above (messages_of ms c) >>= λ x. given (nodes.sent above x)) ≡ link_tail above (sent ms) c
cascade_same above views.no_messages c h = refl
cascade_same true (views.message selector es views.no_messages) c h = refl
cascade_same false (views.message selector es views.no_messages) c h = absurd h
cascade_same above (views.message selector es (views.message other fs ms)) c h = refl

-- LOOPS

-- a loop's condition, and what is repeated
abbrev pub loop_node_of : RepetitionView → Context → Naming Node
loop_node_of r c = statements_body r.condition c >>= λ x. statements_body r.body (behind c (names_in_statements r.condition)) >>= λ y. given (loop r.kind x y)

loop_same : (e a : ExpressionView) (selector : List ℕ) (r : RepetitionView) (c : Context) (ls : List LiteralView) → IsLoop e a selector r
    → loop_node_of r c ls ≡ expression_node (views.send e (message selector (expression a no_expressions) no_messages)) c ls
loop_same e a selector r c ls is =
    let whole = λ (x y : ExpressionView). views.send x (message selector (expression y no_expressions) no_messages) in
    let blocks = ap (λ (x : ExpressionView). whole x a) is.receiver ∙ ap (whole (block [] r.condition)) is.argument in
    sym (ap (λ (x : ExpressionView). expression_node x c ls) blocks ∙ loop_node selector r c ls is.form)

repetition_same : (e : ExpressionView) (l : LinkView) (r : RepetitionView) (c : Context) (ls : List LiteralView) → repetition_of e l ≡ Some r → loop_node_of r c ls ≡ expression_node (with_link l e) c ls
repetition_same e (sent (views.message selector es (views.message other fs ms))) r c ls h = absurd cc
repetition_same e (sent (views.message selector (views.expression a views.no_expressions) views.no_messages)) r c ls h =
    loop_same e a selector r c ls (loop_parts (is_plain e) (is_plain a) e a selector r refl refl h)
repetition_same e l r c ls h = absurd cc

-- an expression that begins with a loop
pub begins_loop : (e : ExpressionView) (links : List Link) (r : RepetitionView) (c : Context) (ls : List LiteralView) → first_repetition e (links_view links) ≡ Some r → loop_node_of r c ls ≡ expression_node (linked e (links_view (take 1 links))) c ls
begins_loop e [] r c ls h = absurd cc
begins_loop e (l ∷ links) r c ls h = repetition_same e (link_view l) r c ls h
