-- One more link behind an expression, and a loop.
use Rattle.std.proofs.Common.{◌≡◌, ℕ, zero, suc, ◌+◌, ◌<◌, ◌≤◌, Bool, true, false, ◌&&◌, get_or, List, [], ◌∷◌, ◌++◌, length, take, Some, None, refl, sym, ap, ◌∙◌, subst, arith, ◌==◌, ne_eqb, zero-add}
use Rattle.std.specs.Prelude.{if◌then◌else◌}
use Rattle.st_scan.specs.declared.chain.Link.{Link}
use Rattle.st_scan.specs.declared.chain.Link.TheVariants.{Assign, Send}
use Rattle.st_scan.specs.Views.{ExpressionView, StatementsView, MessagesView, ExpressionsView, no_messages, message, no_expressions, expression, block, is_super}
use Rattle.st_scan.specs.Views as views
use Rattle.st_scan.specs.inside.Chains.{LinkView, assigned, sent, with_link, linked, link_view, links_view}
use Rattle.st_emit.specs.declared.form.Form.{Form}
use Rattle.st_emit.specs.declared.form.Form.TheVariants.{Message as Plain, One, Two, Repeated}
use Rattle.st_emit.specs.declared.form.TwoSided.{TwoSided}
use Rattle.st_emit.specs.declared.form.TwoSided.TheVariants.{TrueFirst, FalseFirst}
use Rattle.st_emit.specs.declared.level.Level.{Level}
use Rattle.st_emit.specs.Literals.{LiteralView, Naming, Named}
use Rattle.st_emit.specs.Nodes.{Node, Tail, with_tail}
use Rattle.st_emit.specs.Nodes as nodes
use Rattle.st_emit.specs.Emitting.{for_value, code_of}
use Rattle.st_emit.specs.Depths.{level_of}
use Rattle.st_emit.specs.Resolving.{Context, behind, names_in, names_in_statements, is_plain, all_plain, tailed, expression_node, statements_body, messages_of, nodes_of, form_named, formed, single_tail, sends_tail, plain_tail}
use Rattle.st_emit.specs.inside.Tails.{tail_code, tail_level}
use Rattle.st_emit.specs.inside.Around.{link_tail, tail_part, link_part, value_part, loop_part, shape_part, shape_part_of, cascade_part, message_of, names_in_link, names_in_repetition}
use Rattle.st_emit.specs.inside.Shapes.{plain, one_sided, two_sided, formed_shape, two_sided_shape, statements_of, RepetitionView, repeated_by, repetition_with, repetition_of, first_repetition, IsCascade}
use Rattle.st_emit.specs.inside.Drafts.{Part}
use Rattle.st_emit.proofs.NodeKinds.{IsTailOf, tail_kind}
use Rattle.st_emit.proofs.Adding.{then_part, IsSamePart}

-- PLAIN BLOCKS

pub plain_block : (e : ExpressionView) → is_plain e ≡ true → e ≡ block [] (statements_of e)
plain_block (views.variable n) h = absurd cc
plain_block (views.literal e) h = absurd cc
plain_block (views.block [] body) h = refl
plain_block (views.block (n ∷ ns) body) h = absurd cc
plain_block (views.assign target e) h = absurd cc
plain_block (views.send r ms) h = absurd cc

-- NOT A LOOP

-- whether the receiver is a block matters to loops alone
formed_any : (form : Form) (is_block : Bool) (ms : List (Naming Node)) (otherwise : Naming Tail) → ((kind : _) → form ≡ Repeated kind → is_block ≡ false) → formed form is_block ms otherwise ≡ formed form false ms otherwise
formed_any Plain is_block ms otherwise h = refl
formed_any (One side) is_block [] otherwise h = refl
formed_any (One side) is_block (a ∷ []) otherwise h = refl
formed_any (One side) is_block (a ∷ b ∷ ms) otherwise h = refl
formed_any (Two TrueFirst) is_block [] otherwise h = refl
formed_any (Two TrueFirst) is_block (a ∷ []) otherwise h = refl
formed_any (Two TrueFirst) is_block (a ∷ b ∷ []) otherwise h = refl
formed_any (Two TrueFirst) is_block (a ∷ b ∷ c ∷ ms) otherwise h = refl
formed_any (Two FalseFirst) is_block [] otherwise h = refl
formed_any (Two FalseFirst) is_block (a ∷ []) otherwise h = refl
formed_any (Two FalseFirst) is_block (a ∷ b ∷ []) otherwise h = refl
formed_any (Two FalseFirst) is_block (a ∷ b ∷ c ∷ ms) otherwise h = refl
formed_any (Repeated kind) is_block ms otherwise h = ap (λ b. formed (Repeated kind) b ms otherwise) (h kind refl)

two_formed : (form : Form) (is_block : Bool) (a b : Naming Node) (ms : List (Naming Node)) (otherwise : Naming Tail) → formed form is_block (a ∷ b ∷ ms) otherwise ≡ formed form false (a ∷ b ∷ ms) otherwise
two_formed Plain is_block a b ms otherwise = refl
two_formed (One side) is_block a b ms otherwise = refl
two_formed (Two TrueFirst) is_block a b [] otherwise = refl
two_formed (Two TrueFirst) is_block a b (c ∷ ms) otherwise = refl
two_formed (Two FalseFirst) is_block a b [] otherwise = refl
two_formed (Two FalseFirst) is_block a b (c ∷ ms) otherwise = refl
two_formed (Repeated kind) true a b ms otherwise = refl
two_formed (Repeated kind) false a b ms otherwise = refl

none_formed : (form : Form) (is_block : Bool) (otherwise : Naming Tail) → formed form is_block [] otherwise ≡ formed form false [] otherwise
none_formed Plain is_block otherwise = refl
none_formed (One side) is_block otherwise = refl
none_formed (Two TrueFirst) is_block otherwise = refl
none_formed (Two FalseFirst) is_block otherwise = refl
none_formed (Repeated kind) true otherwise = refl
none_formed (Repeated kind) false otherwise = refl

-- one argument, and no loop
one_formed : (form : Form) (is_block all : Bool) (a : Naming Node) (x y : StatementsView) (otherwise : Naming Tail)
    → (if is_block then (if all then repeated_by form x y else None) else None) ≡ None
    → (if all then formed form is_block (a ∷ []) otherwise else otherwise) ≡ (if all then formed form false (a ∷ []) otherwise else otherwise)
one_formed form is_block false a x y otherwise h = refl
one_formed form false true a x y otherwise h = refl
one_formed Plain true true a x y otherwise h = refl
one_formed (One side) true true a x y otherwise h = refl
one_formed (Two TrueFirst) true true a x y otherwise h = refl
one_formed (Two FalseFirst) true true a x y otherwise h = refl
one_formed (Repeated kind) true true a x y otherwise h = absurd cc

and_true : (b : Bool) → (b && true) ≡ b
and_true true = refl
and_true false = refl

single_any : (above : Bool) (e : ExpressionView) (selector : List ℕ) (es : ExpressionsView) (c : Context) → repetition_with selector es e ≡ None
    → single_tail above (is_plain e) (message_of c selector es) ≡ single_tail above false (message_of c selector es)
single_any true e selector es c h = refl
single_any false e selector views.no_expressions c h =
    none_formed (form_named selector) (is_plain e) (plain_tail false (message_of c selector views.no_expressions) [])
single_any false e selector (views.expression a views.no_expressions) c h =
    let m = message_of c selector (views.expression a views.no_expressions) in
    let otherwise = plain_tail false m [] in
    let x = expression_node a c in
    let t = λ (block : Bool) (b : Bool). if b then formed (form_named selector) block (x ∷ []) otherwise else otherwise in
    ap (t (is_plain e)) (and_true (is_plain a)) ∙ one_formed (form_named selector) (is_plain e) (is_plain a) x (statements_of e) (statements_of a) otherwise h ∙ sym (ap (t false) (and_true (is_plain a)))
single_any false e selector (views.expression a (views.expression b es)) c h =
    let m = message_of c selector (views.expression a (views.expression b es)) in
    ap (λ t. if m.all_blocks then t else plain_tail false m []) (two_formed (form_named selector) (is_plain e) (expression_node a c) (expression_node b (behind c (names_in a))) (nodes_of es (behind (behind c (names_in a)) (names_in b))) (plain_tail false m []))

-- what a link does to an expression that is no loop with it
pub node_behind : (l : LinkView) (e : ExpressionView) (c : Context) (ls : List LiteralView) → repetition_of e l ≡ None
    → expression_node (with_link l e) c ls ≡ tailed (expression_node e c) (link_tail (is_super e) l (behind c (names_in e))) ls
node_behind (assigned target) e c ls h = refl
node_behind (sent views.no_messages) e c ls h = refl
node_behind (sent (views.message selector es views.no_messages)) e c ls h =
    ap (λ t. tailed (expression_node e c) t ls) (single_any (is_super e) e selector es (behind c (names_in e)) h)
node_behind (sent (views.message selector es (views.message other fs ms))) e c ls h = refl

pub names_behind : (l : LinkView) (e : ExpressionView) → names_in (with_link l e) ≡ names_in e + names_in_link l
names_behind (assigned target) e = omega arith
names_behind (sent ms) e = refl

-- the code of a node to which something was done is its code, and what was done
code_behind : (l : LinkView) (n : Node) (t : Tail) → IsTailOf l t → code_of for_value (with_tail n t) ≡ code_of for_value n ++ tail_code t
code_behind (assigned target) n (nodes.assigned p) h = refl
code_behind (assigned target) n (nodes.sent above ms) h = absurd h
code_behind (assigned target) n (nodes.sided side a) h = absurd h
code_behind (assigned target) n (nodes.chosen side a b) h = absurd h
code_behind (assigned target) n (nodes.looped kind a) h = absurd h
code_behind (sent ms) n (nodes.assigned p) h = absurd h
code_behind (sent ms) n (nodes.sent above x) h = refl
code_behind (sent ms) n (nodes.sided side a) h = refl
code_behind (sent ms) n (nodes.chosen TrueFirst a b) h = refl
code_behind (sent ms) n (nodes.chosen FalseFirst a b) h = refl
code_behind (sent ms) n (nodes.looped kind a) h = absurd h

level_behind : (l : LinkView) (n : Node) (t : Tail) (v : Level) → IsTailOf l t → level_of for_value (with_tail n t) v ≡ tail_level t (level_of for_value n v)
level_behind (assigned target) n (nodes.assigned p) v h = refl
level_behind (assigned target) n (nodes.sent above ms) v h = absurd h
level_behind (assigned target) n (nodes.sided side a) v h = absurd h
level_behind (assigned target) n (nodes.chosen side a b) v h = absurd h
level_behind (assigned target) n (nodes.looped kind a) v h = absurd h
level_behind (sent ms) n (nodes.assigned p) v h = absurd h
level_behind (sent ms) n (nodes.sent above x) v h = refl
level_behind (sent ms) n (nodes.sided side a) v h = refl
level_behind (sent ms) n (nodes.chosen TrueFirst a b) v h = refl
level_behind (sent ms) n (nodes.chosen FalseFirst a b) v h = refl
level_behind (sent ms) n (nodes.looped kind a) v h = absurd h

pub link_behind : (l : LinkView) (e : ExpressionView) (c : Context) (ls : List LiteralView) → repetition_of e l ≡ None
    → IsSamePart (then_part (value_part c e) (link_part (is_super e) (behind c (names_in e)) l) ls) (value_part c (with_link l e) ls)
link_behind l e c ls h =
    let n = expression_node e c ls in
    let t = link_tail (is_super e) l (behind c (names_in e)) n.literals in
    let kind = tail_kind (is_super e) l (behind c (names_in e)) n.literals in
    let whole = sym (node_behind l e c ls h) in
    record {
      steps = sym (code_behind l n.part t.part kind) ∙ ap (λ (x : Named Node). code_of for_value x.part) whole;
      literals = ap (λ (x : Named Node). x.literals) whole;
      level = λ v. sym (level_behind l n.part t.part v kind) ∙ ap (λ (x : Named Node). level_of for_value x.part v) whole;
    }

-- A LOOP

loop_formed : (form : Form) (r : RepetitionView) (x y : StatementsView) → repeated_by form x y ≡ Some r → (form ≡ Repeated r.kind) × (x ≡ r.condition) × (y ≡ r.body)
loop_formed Plain r x y h = absurd cc
loop_formed (One side) r x y h = absurd cc
loop_formed (Two side) r x y h = absurd cc
loop_formed (Repeated kind) r x y h = let e = some_same _ _ h in (ap (λ (s : RepetitionView). Repeated s.kind) e, ap (λ (s : RepetitionView). s.condition) e, ap (λ (s : RepetitionView). s.body) e)
  where
    some_same : (a b : RepetitionView) → Some a ≡ Some b → a ≡ b
    some_same a b h = cc

-- the two blocks of a loop
pub record IsLoop (e a : ExpressionView) (selector : List ℕ) (r : RepetitionView) : Type 0 where
  pub form : form_named selector ≡ Repeated r.kind
  pub receiver : e ≡ block [] r.condition
  pub argument : a ≡ block [] r.body

pub loop_parts : (p q : Bool) (e a : ExpressionView) (selector : List ℕ) (r : RepetitionView) → is_plain e ≡ p → is_plain a ≡ q
    → (if p then (if q then repeated_by (form_named selector) (statements_of e) (statements_of a) else None) else None) ≡ Some r → IsLoop e a selector r
loop_parts false q e a selector r x y h = absurd cc
loop_parts true false e a selector r x y h = absurd cc
loop_parts true true e a selector r x y h =
    let f = loop_formed (form_named selector) r (statements_of e) (statements_of a) h in
    record { form = f.0; receiver = plain_block e x ∙ ap (block []) f.1; argument = plain_block a y ∙ ap (block []) f.2 }

-- the node of a loop
pub loop_node : (selector : List ℕ) (r : RepetitionView) (c : Context) (ls : List LiteralView) → form_named selector ≡ Repeated r.kind
    → expression_node (views.send (block [] r.condition) (message selector (expression (block [] r.body) no_expressions) no_messages)) c ls
    ≡ (record {
      part = nodes.loop r.kind (statements_body r.condition c ls).part (statements_body r.body (behind c (names_in_statements r.condition)) (statements_body r.condition c ls).literals).part;
      literals = (statements_body r.body (behind c (names_in_statements r.condition)) (statements_body r.condition c ls).literals).literals;
    })
loop_node selector r c ls h =
    let ms = message selector (expression (block [] r.body) no_expressions) no_messages in
    let m = message_of (behind c (names_in_statements r.condition)) selector (expression (block [] r.body) no_expressions) in
    let otherwise = plain_tail false m [] in
    ap (λ (k : ℕ). tailed (expression_node (block [] r.condition) c) (sends_tail false true (messages_of ms (behind c k))) ls) (zero-add (names_in_statements r.condition))
    ∙ ap (λ (f : Form). tailed (expression_node (block [] r.condition) c) (formed f true m.arguments otherwise) ls) h

loop_same : (e a : ExpressionView) (selector : List ℕ) (r : RepetitionView) (c : Context) (ls : List LiteralView) → IsLoop e a selector r
    → IsSamePart (loop_part c r ls) (value_part c (views.send e (message selector (expression a no_expressions) no_messages)) ls) × (names_in (views.send e (message selector (expression a no_expressions) no_messages)) ≡ names_in_repetition r)
loop_same e a selector r c ls loop =
    let whole = λ (x y : ExpressionView). views.send x (message selector (expression y no_expressions) no_messages) in
    let blocks = ap (λ x. whole x a) loop.receiver ∙ ap (whole (block [] r.condition)) loop.argument in
    let node = ap (λ (x : ExpressionView). expression_node x c ls) blocks ∙ loop_node selector r c ls loop.form in
    let count : names_in (whole (block [] r.condition) (block [] r.body)) ≡ names_in_repetition r = omega arith in (
      record {
        steps = sym (ap (λ (n : Named Node). code_of for_value n.part) node);
        literals = sym (ap (λ (n : Named Node). n.literals) node);
        level = λ l. sym (ap (λ (n : Named Node). level_of for_value n.part l) node);
      },
      ap names_in blocks ∙ count,
    )

-- what a loop adds, as an expression with its first link
pub repetition_same : (e : ExpressionView) (l : LinkView) (r : RepetitionView) (c : Context) (ls : List LiteralView) → repetition_of e l ≡ Some r
    → IsSamePart (loop_part c r ls) (value_part c (with_link l e) ls) × (names_in (with_link l e) ≡ names_in_repetition r)
repetition_same e (sent (views.message selector es (views.message other fs ms))) r c ls h = absurd cc
repetition_same e (sent (views.message selector (views.expression a views.no_expressions) views.no_messages)) r c ls h =
    loop_same e a selector r c ls (loop_parts (is_plain e) (is_plain a) e a selector r refl refl h)
repetition_same e l r c ls h = absurd cc

-- THE SHAPE OF A MESSAGE

abbrev same : (p : Part) → IsSamePart p p
same p = record { steps = refl; literals = refl; level = λ l. refl }

abbrev either : Bool → Naming Tail → Naming Tail → Naming Tail
either b t u = if b then t else u

either_same : (b : Bool) (t : Naming Tail) (ls : List LiteralView) → IsSamePart (tail_part t ls) (tail_part (either b t t) ls)
either_same true t ls = same (tail_part t ls)
either_same false t ls = same (tail_part t ls)

none_shaped : (form : Form) (c : Context) (otherwise : Naming Tail) (ls : List LiteralView)
    → IsSamePart (shape_part_of c (formed_shape form no_expressions) (tail_part otherwise) ls) (tail_part (formed form false [] otherwise) ls)
none_shaped Plain c otherwise ls = same (tail_part otherwise ls)
none_shaped (One side) c otherwise ls = same (tail_part otherwise ls)
none_shaped (Two TrueFirst) c otherwise ls = same (tail_part otherwise ls)
none_shaped (Two FalseFirst) c otherwise ls = same (tail_part otherwise ls)
none_shaped (Repeated kind) c otherwise ls = same (tail_part otherwise ls)

one_shaped : (form : Form) (p : Bool) (a : ExpressionView) (c : Context) (otherwise : Naming Tail) (ls : List LiteralView) → is_plain a ≡ p
    → IsSamePart (shape_part_of c (formed_shape form (expression a no_expressions)) (tail_part otherwise) ls) (tail_part (either (p && true) (formed form false (expression_node a c ∷ []) otherwise) otherwise) ls)
one_shaped Plain p a c otherwise ls h = either_same (p && true) otherwise ls
one_shaped (One side) true a c otherwise ls h =
    let e = plain_block a h in
    subst (λ (x : ExpressionView). IsSamePart (shape_part_of c (formed_shape (One side) (expression x no_expressions)) (tail_part otherwise) ls) (tail_part (formed (One side) false (expression_node x c ∷ []) otherwise) ls)) (sym e)
    (record { steps = refl; literals = refl; level = λ l. refl })
one_shaped (One side) false a c otherwise ls h =
    subst (λ (b : Bool). IsSamePart (shape_part_of c (if b then one_sided side (statements_of a) else plain) (tail_part otherwise) ls) (tail_part otherwise ls)) (sym h) (same (tail_part otherwise ls))
one_shaped (Two TrueFirst) p a c otherwise ls h = either_same (p && true) otherwise ls
one_shaped (Two FalseFirst) p a c otherwise ls h = either_same (p && true) otherwise ls
one_shaped (Repeated kind) p a c otherwise ls h = either_same (p && true) otherwise ls

-- two blocks, the second of which has its numbers behind those of the first
two_blocks : (side : TwoSided) (x y : StatementsView) (c : Context) (otherwise : Naming Tail) (ls : List LiteralView)
    → IsSamePart (shape_part_of c (two_sided side x y) (tail_part otherwise) ls) (tail_part (formed (Two side) false (expression_node (block [] x) c ∷ expression_node (block [] y) (behind c (names_in (block [] x))) ∷ []) otherwise) ls)
two_blocks TrueFirst x y c otherwise ls =
    subst (λ (k : ℕ). IsSamePart (shape_part_of c (two_sided TrueFirst x y) (tail_part otherwise) ls) (tail_part (formed (Two TrueFirst) false (expression_node (block [] x) c ∷ expression_node (block [] y) (behind c k) ∷ []) otherwise) ls)) (sym (zero-add (names_in_statements x)))
    (record { steps = refl; literals = refl; level = λ l. refl })
two_blocks FalseFirst x y c otherwise ls =
    subst (λ (k : ℕ). IsSamePart (shape_part_of c (two_sided FalseFirst x y) (tail_part otherwise) ls) (tail_part (formed (Two FalseFirst) false (expression_node (block [] x) c ∷ expression_node (block [] y) (behind c k) ∷ []) otherwise) ls)) (sym (zero-add (names_in_statements x)))
    (record { steps = refl; literals = refl; level = λ l. refl })

abbrev two_given : Form → ExpressionView → ExpressionView → Context → Naming Tail → Naming Tail
two_given form a b c otherwise = formed form false (expression_node a c ∷ expression_node b (behind c (names_in a)) ∷ []) otherwise

two_sided_shaped : (side : TwoSided) (p q : Bool) (a b : ExpressionView) (c : Context) (otherwise : Naming Tail) (ls : List LiteralView) → is_plain a ≡ p → is_plain b ≡ q
    → IsSamePart (shape_part_of c (two_sided_shape side (expression a (expression b no_expressions))) (tail_part otherwise) ls) (tail_part (either (p && (q && true)) (two_given (Two side) a b c otherwise) otherwise) ls)
two_sided_shaped side false q a b c otherwise ls h k =
    subst (λ (t : Bool). IsSamePart (shape_part_of c (if t then (if is_plain b then two_sided side (statements_of a) (statements_of b) else plain) else plain) (tail_part otherwise) ls) (tail_part otherwise ls)) (sym h) (same (tail_part otherwise ls))
two_sided_shaped side true false a b c otherwise ls h k =
    let shape = λ (t u : Bool). shape_part_of c (if t then (if u then two_sided side (statements_of a) (statements_of b) else plain) else plain) (tail_part otherwise) ls in
    subst (λ (t : Bool). IsSamePart (shape t (is_plain b)) (tail_part otherwise ls)) (sym h) (subst (λ (u : Bool). IsSamePart (shape true u) (tail_part otherwise ls)) (sym k) (same (tail_part otherwise ls)))
two_sided_shaped side true true a b c otherwise ls h k =
    let goal = λ (x y : ExpressionView). IsSamePart (shape_part_of c (two_sided_shape side (expression x (expression y no_expressions))) (tail_part otherwise) ls) (tail_part (two_given (Two side) x y c otherwise) ls) in
    subst (λ (x : ExpressionView). goal x b) (sym (plain_block a h)) (subst (λ (y : ExpressionView). goal (block [] (statements_of a)) y) (sym (plain_block b k)) (two_blocks side (statements_of a) (statements_of b) c otherwise ls))

two_shaped : (form : Form) (a b : ExpressionView) (c : Context) (otherwise : Naming Tail) (ls : List LiteralView)
    → IsSamePart (shape_part_of c (formed_shape form (expression a (expression b no_expressions))) (tail_part otherwise) ls) (tail_part (either (is_plain a && (is_plain b && true)) (two_given form a b c otherwise) otherwise) ls)
two_shaped Plain a b c otherwise ls = either_same (is_plain a && (is_plain b && true)) otherwise ls
two_shaped (One side) a b c otherwise ls = either_same (is_plain a && (is_plain b && true)) otherwise ls
two_shaped (Two side) a b c otherwise ls = two_sided_shaped side (is_plain a) (is_plain b) a b c otherwise ls refl refl
two_shaped (Repeated kind) a b c otherwise ls = either_same (is_plain a && (is_plain b && true)) otherwise ls

many_shaped : (form : Form) (all : Bool) (a b d : ExpressionView) (es : ExpressionsView) (x y z : Naming Node) (ms : List (Naming Node)) (c : Context) (otherwise : Naming Tail) (ls : List LiteralView)
    → IsSamePart (shape_part_of c (formed_shape form (expression a (expression b (expression d es)))) (tail_part otherwise) ls) (tail_part (either all (formed form false (x ∷ y ∷ z ∷ ms) otherwise) otherwise) ls)
many_shaped Plain all a b d es x y z ms c otherwise ls = either_same all otherwise ls
many_shaped (One side) all a b d es x y z ms c otherwise ls = either_same all otherwise ls
many_shaped (Two TrueFirst) all a b d es x y z ms c otherwise ls = either_same all otherwise ls
many_shaped (Two FalseFirst) all a b d es x y z ms c otherwise ls = either_same all otherwise ls
many_shaped (Repeated kind) all a b d es x y z ms c otherwise ls = either_same all otherwise ls

-- one message to another receiver than super
pub shape_same : (selector : List ℕ) (es : ExpressionsView) (c : Context) (ls : List LiteralView) → IsSamePart (shape_part c selector es ls) (link_part false c (sent (message selector es no_messages)) ls)
shape_same selector views.no_expressions c ls = none_shaped (form_named selector) c (plain_tail false (message_of c selector views.no_expressions) []) ls
shape_same selector (views.expression a views.no_expressions) c ls =
    one_shaped (form_named selector) (is_plain a) a c (plain_tail false (message_of c selector (views.expression a views.no_expressions)) []) ls refl
shape_same selector (views.expression a (views.expression b views.no_expressions)) c ls =
    two_shaped (form_named selector) a b c (plain_tail false (message_of c selector (views.expression a (views.expression b views.no_expressions))) []) ls
shape_same selector (views.expression a (views.expression b (views.expression d es))) c ls =
    let whole = views.expression a (views.expression b (views.expression d es)) in
    let next = behind (behind c (names_in a)) (names_in b) in
    many_shaped (form_named selector) (all_plain whole) a b d es (expression_node a c) (expression_node b (behind c (names_in a))) (expression_node d next) (nodes_of es (behind next (names_in d))) c (plain_tail false (message_of c selector whole) []) ls

-- other messages
pub cascade_same : (above : Bool) (ms : MessagesView) (c : Context) (ls : List LiteralView) → IsCascade above ms → IsSamePart (cascade_part above c ms ls) (link_part above c (sent ms) ls)
cascade_same above views.no_messages c ls h = record { steps = refl; literals = refl; level = λ l. refl }
cascade_same true (views.message selector es views.no_messages) c ls h = record { steps = refl; literals = refl; level = λ l. refl }
cascade_same false (views.message selector es views.no_messages) c ls h = absurd h
cascade_same above (views.message selector es (views.message other fs ms)) c ls h = record { steps = refl; literals = refl; level = λ l. refl }

-- LINKS IN ORDER

-- behind a link nothing is super or a loop
later_super : (l : Link) (e : ExpressionView) (ls : List Link) → is_super (linked (with_link (link_view l) e) (links_view ls)) ≡ false
later_super (Assign target) e [] = refl
later_super (Send ms) e [] = refl
later_super l e (m ∷ ls) = later_super m (with_link (link_view l) e) ls

later_plain : (l : Link) (e : ExpressionView) (ls : List Link) → is_plain (linked (with_link (link_view l) e) (links_view ls)) ≡ false
later_plain (Assign target) e [] = refl
later_plain (Send ms) e [] = refl
later_plain l e (m ∷ ls) = later_plain m (with_link (link_view l) e) ls

pub super_at : (i : ℕ) (e : ExpressionView) (links : List Link) → i ≤ length links → (if i == 0 then is_super e else false) ≡ is_super (linked e (links_view (take i links)))
super_at zero e links h = refl
super_at (suc i) e [] h = absurd (omega arith)
super_at (suc i) e (l ∷ ls) h = ap (λ (b : Bool). if b then is_super e else false) (ne_eqb (suc i) 0 (λ x. omega arith)) ∙ sym (later_super l e (take i ls))

no_loop : (e : ExpressionView) (l : LinkView) → is_plain e ≡ false → repetition_of e l ≡ None
no_loop e (assigned target) h = refl
no_loop e (sent views.no_messages) h = refl
no_loop e (sent (views.message selector views.no_expressions views.no_messages)) h = refl
no_loop e (sent (views.message selector (views.expression a views.no_expressions) views.no_messages)) h =
    ap (λ (b : Bool). if b then (if is_plain a then repeated_by (form_named selector) (statements_of e) (statements_of a) else None) else None) h
no_loop e (sent (views.message selector (views.expression a (views.expression b es)) views.no_messages)) h = refl
no_loop e (sent (views.message selector es (views.message other fs ms))) h = refl

pub no_loop_at : (i : ℕ) (e : ExpressionView) (links : List Link) (d : Link) → i < length links → (i ≡ 0 → first_repetition e (links_view links) ≡ None) → repetition_of (linked e (links_view (take i links))) (link_view (get_or links i d)) ≡ None
no_loop_at zero e [] d h k = absurd (omega arith)
no_loop_at zero e (l ∷ ls) d h k = k refl
no_loop_at (suc i) e [] d h k = absurd (omega arith)
no_loop_at (suc i) e (l ∷ ls) d h k = no_loop (linked (with_link (link_view l) e) (links_view (take i ls))) (link_view (get_or ls i d)) (later_plain l e (take i ls))

-- an expression that begins with a loop
pub begins_loop : (e : ExpressionView) (links : List Link) (r : RepetitionView) (c : Context) (ls : List LiteralView) → first_repetition e (links_view links) ≡ Some r
    → (IsSamePart (loop_part c r ls) (value_part c (linked e (links_view (take 1 links))) ls) × (names_in (linked e (links_view (take 1 links))) ≡ names_in_repetition r)) × (1 ≤ length links)
begins_loop e [] r c ls h = absurd cc
begins_loop e (l ∷ links) r c ls h = (repetition_same e (link_view l) r c ls h, omega arith)
