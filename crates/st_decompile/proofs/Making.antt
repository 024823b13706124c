-- What a tree that a text may have is resolved to.
use Rattle.std.proofs.Common.{◌≡◌, ℕ, suc, ◌+◌, Bool, true, false, not, ◌&&◌, List, [], ◌∷◌, length, Option, Some, None, refl, sym, ap, subst, arith}
use Rattle.std.specs.Prelude.{if◌then◌else◌}
use Rattle.st_scan.specs.declared.token.Signed.{Signed}
use Rattle.st_scan.specs.Views.{is_super, ContentView, ElementsView, ExpressionView, StatementsView, MessagesView, ExpressionsView}
use Rattle.st_scan.specs.Views as views
use Rattle.st_emit.specs.declared.instruction.Constant.{Constant}
use Rattle.st_emit.specs.declared.instruction.InstructionOperand.{InstructionOperand}
use Rattle.st_emit.specs.declared.form.TwoSided.TheVariants.{TrueFirst, FalseFirst}
use Rattle.st_emit.specs.declared.form.Form.{Form}
use Rattle.st_emit.specs.declared.form.Form.TheVariants.{One, Two, Repeated}
use Rattle.st_emit.specs.Names.{constant_named}
use Rattle.st_emit.specs.Literals.{LiteralView, small_number, Naming, given, ◌>>=◌, literal_of, members_of}
use Rattle.st_emit.specs.Nodes as nodes
use Rattle.st_emit.specs.Nodes.{Sending, Node, Body, Tail, Nodes, count, body_of, with_tail}
use Rattle.st_emit.specs.Resolving.{Context, behind, inside, names_in, names_in_all, place_of_name, constant_or, small_or, content_node, sending, Message, all_nodes, message_nodes, plain_tail, form_named, formed, single_tail, sends_tail, assign_tail, tailed, is_plain, before, count_node, expression_node, statements_body, messages_of, nodes_of}
use Rattle.st_grammar.specs.inside.Formed.{IsSelector, HasMessage, ContentFormed, ElementsFormed, LiteralFormed, ReceiverFormed, StatementsFormed, MessagesFormed, ArgumentsFormed, count_of}
use Rattle.st_resolved.proofs.Grows.{extends_same}
use Rattle.st_resolved.proofs.Placing.{puts_small}
use Rattle.st_expression_stack.specs.Choosing.{content_of, elements_of}
use Rattle.st_decompile.specs.inside.Formed.{Formed, BodyFormed, MessagesWell, NodesFormed}

-- what is made has this property, whatever literals there are
pub record Makes {A : Type 0} (P : A → Type 0) (m : Naming A) : Type 0 where
  pub by : (ls : List LiteralView) → P (m ls).part

pub makes_then : {A B : Type 0} (P : A → Type 0) (Q : B → Type 0) (m : Naming A) (f : A → Naming B) → Makes P m → ((x : A) → P x → Makes Q (f x)) → Makes Q (m >>= f)
makes_then P Q m f h k = record { by = λ ls. (k (m ls).part (h.by ls)).by (m ls).literals }

pub makes_end : {A B : Type 0} (P : A → Type 0) (Q : B → Type 0) (m : Naming A) (g : A → B) → Makes P m → ((x : A) → P x → Q (g x)) → Makes Q (m >>= (λ x. given (g x)))
makes_end P Q m g h k = record { by = λ ls. k (m ls).part (h.by ls) }

-- LITERALS

mutual
  content_back : (w : ContentView) → ContentFormed w → ContentFormed (content_of (literal_of w))
  content_back (views.number n) h = h
  content_back (views.character b) h = tt
  content_back (views.bytes t) h = tt
  content_back (views.symbol t) h = h
  content_back (views.array es) h = elements_back es h
  content_back views.nil_object h = tt
  content_back views.false_object h = tt
  content_back views.true_object h = tt

  elements_back : (es : ElementsView) → ElementsFormed es → ElementsFormed (elements_of (members_of es))
  elements_back views.no_elements h = tt
  elements_back (views.element place w es) h = (content_back w h.0, elements_back es h.1)

makes_small : (k : Option ℕ) (n : Signed) → small_number n ≡ k → LiteralFormed (views.number n) → Makes Formed (small_or k n)
makes_small (Some k) n e h = record { by = λ ls. ((puts_small [] (Some k) n e).by [] (extends_same [])).0 }
makes_small None n e h = record { by = λ ls. h }

makes_content : (w : ContentView) → LiteralFormed w → Makes Formed (content_node w)
makes_content (views.number n) h = makes_small (small_number n) n refl h
makes_content (views.character b) h = record { by = λ ls. tt }
makes_content (views.bytes t) h = record { by = λ ls. tt }
makes_content (views.symbol t) h = record { by = λ ls. h }
makes_content (views.array es) h = record { by = λ ls. elements_back es h }
makes_content views.nil_object h = absurd h
makes_content views.false_object h = absurd h
makes_content views.true_object h = absurd h

makes_name : (k : Option Constant) (m : Naming InstructionOperand) → Makes Formed (constant_or k m)
makes_name (Some k) m = record { by = λ ls. tt }
makes_name None m = record { by = λ ls. tt }

-- MESSAGES

abbrev AllMake : List (Naming Node) → Type 0
AllMake [] = Unit {0}
AllMake (m ∷ ms) = Makes Formed m × AllMake ms

abbrev MessagesMake : List Message → Type 0
MessagesMake [] = Unit {0}
MessagesMake (m ∷ ms) = AllMake m.arguments × IsSelector m.selector (length m.arguments) × MessagesMake ms

makes_all : (ms : List (Naming Node)) → AllMake ms → Makes (λ (ns : Nodes). NodesFormed ns × (count ns ≡ length ms)) (all_nodes ms)
makes_all [] h = record { by = λ ls. (tt, refl) }
makes_all (m ∷ ms) h =
    makes_then Formed (λ (ns : Nodes). NodesFormed ns × (count ns ≡ length (m ∷ ms))) m (λ n. all_nodes ms >>= λ ns. given (nodes.node n ns)) h.0
    (λ n p. makes_end (λ (ns : Nodes). NodesFormed ns × (count ns ≡ length ms)) (λ (ns : Nodes). NodesFormed ns × (count ns ≡ length (m ∷ ms))) (all_nodes ms) (nodes.node n) (makes_all ms h.1)
    (λ ns q. let e : count ns + 1 ≡ length (m ∷ ms) = omega (arith, q.1) in ((p, q.0), e)))

pub makes_sending : (above : Bool) (text : List ℕ) → Makes (λ (s : Sending). s.selector ≡ text) (sending above text)
makes_sending true text = record { by = λ ls. refl }
makes_sending false text = record { by = λ ls. refl }

selects : (s text : List ℕ) (n k : ℕ) → s ≡ text → n ≡ k → IsSelector text k → IsSelector s n
selects s text n k e f i = subst (λ (t : List ℕ). IsSelector t n) (sym e) (subst (λ (j : ℕ). IsSelector text j) (sym f) i)

makes_messages : (above : Bool) (m : Message) (ms : List Message) → MessagesMake (m ∷ ms) → Makes MessagesWell (message_nodes above m ms)
makes_messages above m [] h =
    makes_then (λ (ns : Nodes). NodesFormed ns × (count ns ≡ length m.arguments)) MessagesWell (all_nodes m.arguments) (λ ns. sending above m.selector >>= λ s. given (nodes.only s ns)) (makes_all m.arguments h.0)
    (λ ns q. makes_end (λ (s : Sending). s.selector ≡ m.selector) MessagesWell (sending above m.selector) (λ s. nodes.only s ns) (makes_sending above m.selector)
    (λ s e. (selects s.selector m.selector (count ns) (length m.arguments) e q.1 h.1, q.0)))
makes_messages above m (o ∷ ms) h =
    makes_then (λ (ns : Nodes). NodesFormed ns × (count ns ≡ length m.arguments)) MessagesWell (all_nodes m.arguments) (λ ns. sending above m.selector >>= λ s. (message_nodes above o ms >>= λ rest. given (nodes.also s ns rest))) (makes_all m.arguments h.0)
    (λ ns q. makes_then (λ (s : Sending). s.selector ≡ m.selector) MessagesWell (sending above m.selector) (λ s. message_nodes above o ms >>= λ rest. given (nodes.also s ns rest)) (makes_sending above m.selector)
    (λ s e. makes_end MessagesWell MessagesWell (message_nodes above o ms) (nodes.also s ns) (makes_messages above o ms h.2)
    (λ rest t. (selects s.selector m.selector (count ns) (length m.arguments) e q.1 h.1, q.0, t))))

-- FORMS

abbrev TailFormed : Tail → Type 0
TailFormed (nodes.assigned p) = Unit {0}
TailFormed (nodes.sent above ms) = MessagesWell ms
TailFormed (nodes.sided side a) = BodyFormed a
TailFormed (nodes.chosen side a b) = BodyFormed a × BodyFormed b
TailFormed (nodes.looped kind a) = BodyFormed a

body_formed : (n : Node) → Formed n → BodyFormed (body_of n)
body_formed (nodes.block f i c b) h = h
body_formed n h = tt

tail_formed : (n : Node) (t : Tail) → Formed n → TailFormed t → Formed (with_tail n t)
tail_formed n (nodes.assigned p) h k = h
tail_formed n (nodes.sent above ms) h k = (h, k)
tail_formed n (nodes.sided side a) h k = (h, k)
tail_formed n (nodes.chosen side a b) h k = (h, k.0, k.1)
tail_formed n (nodes.looped kind a) h k = (body_formed n h, k)

makes_plain : (above : Bool) (m : Message) (ms : List Message) → MessagesMake (m ∷ ms) → Makes TailFormed (plain_tail above m ms)
makes_plain above m ms h = makes_end MessagesWell TailFormed (message_nodes above m ms) (nodes.sent above) (makes_messages above m ms h) (λ x p. p)

makes_formed : (form : Form) (is_block : Bool) (ms : List (Naming Node)) (otherwise : Naming Tail) → AllMake ms → Makes TailFormed otherwise → Makes TailFormed (formed form is_block ms otherwise)
makes_formed (One side) is_block (a ∷ []) otherwise h k = makes_end Formed TailFormed a (λ n. nodes.sided side (body_of n)) h.0 (λ n p. body_formed n p)
makes_formed (Two TrueFirst) is_block (a ∷ b ∷ []) otherwise h k =
    makes_then Formed TailFormed a (λ n. b >>= λ o. given (nodes.chosen TrueFirst (body_of n) (body_of o))) h.0
    (λ n p. makes_end Formed TailFormed b (λ o. nodes.chosen TrueFirst (body_of n) (body_of o)) h.1.0 (λ o q. (body_formed n p, body_formed o q)))
makes_formed (Two FalseFirst) is_block (a ∷ b ∷ []) otherwise h k =
    makes_then Formed TailFormed b (λ n. a >>= λ o. given (nodes.chosen FalseFirst (body_of o) (body_of n))) h.1.0
    (λ n p. makes_end Formed TailFormed a (λ o. nodes.chosen FalseFirst (body_of o) (body_of n)) h.0 (λ o q. (body_formed o q, body_formed n p)))
makes_formed (Repeated kind) true (a ∷ []) otherwise h k = makes_end Formed TailFormed a (λ n. nodes.looped kind (body_of n)) h.0 (λ n p. body_formed n p)
makes_formed form is_block ms otherwise h k = k

makes_single : (above is_block : Bool) (m : Message) → AllMake m.arguments → IsSelector m.selector (length m.arguments) → Makes TailFormed (single_tail above is_block m)
makes_single above is_block m h r = by_test (not above && m.all_blocks)
  where
    otherwise : Makes TailFormed (plain_tail above m [])
    otherwise = makes_plain above m [] (h, r, tt)

    by_test : (b : Bool) → Makes TailFormed (if b then formed (form_named m.selector) is_block m.arguments (plain_tail above m []) else plain_tail above m [])
    by_test true = makes_formed (form_named m.selector) is_block m.arguments (plain_tail above m []) h otherwise
    by_test false = otherwise

abbrev SomeMake : List Message → Type 0
SomeMake [] = ⊥
SomeMake (m ∷ ms) = MessagesMake (m ∷ ms)

makes_sends : (above is_block : Bool) (ms : List Message) → SomeMake ms → Makes TailFormed (sends_tail above is_block ms)
makes_sends above is_block [] h = absurd h
makes_sends above is_block (m ∷ []) h = makes_single above is_block m h.0 h.1
makes_sends above is_block (m ∷ o ∷ ms) h = makes_plain above m (o ∷ ms) h

makes_tailed : (m : Naming Node) (t : Naming Tail) → Makes Formed m → Makes TailFormed t → Makes Formed (tailed m t)
makes_tailed m t h k = makes_then Formed Formed m (λ n. t >>= λ x. given (with_tail n x)) h (λ n p. makes_end TailFormed Formed t (with_tail n) k (λ x q. tail_formed n x p q))

-- TREES

before_formed : (n : Node) (b : Body) → Formed n → BodyFormed b → BodyFormed (before n b)
before_formed n nodes.nothing h k = h
before_formed n (nodes.last m) h k = (h, k)
before_formed n (nodes.next m b) h k = (h, k)
before_formed n (nodes.returned m) h k = (h, k)

length_nodes : (es : ExpressionsView) (c : Context) → count_of es ≡ length (nodes_of es c)
length_nodes views.no_expressions c = refl
length_nodes (views.expression e es) c = ap suc (length_nodes es (behind c (names_in e)))

mutual
  pub expression_makes : (e : ExpressionView) (c : Context) → ReceiverFormed e → Makes Formed (expression_node e c)
  expression_makes (views.variable n) c f = makes_name (constant_named n.text) (place_of_name c n)
  expression_makes (views.literal e) c f = makes_content e.what f
  expression_makes (views.block ns body) c f =
      makes_then (λ (x : Node). Unit {0}) Formed (count_node (length ns)) (λ n. statements_body body (inside c ns) >>= λ b. given (nodes.block c.next (length ns) n b)) (record { by = λ ls. tt })
      (λ n p. makes_end BodyFormed Formed (statements_body body (inside c ns)) (nodes.block c.next (length ns) n) (statements_make body (inside c ns) f.1) (λ b q. q))
  expression_makes (views.assign target e) c f =
      makes_tailed (expression_node e c) (assign_tail c target) (expression_makes e c f.1) (makes_end (λ (p : InstructionOperand). Unit {0}) TailFormed (place_of_name c target) nodes.assigned (record { by = λ ls. tt }) (λ p i. tt))
  expression_makes (views.send x ms) c f =
      makes_tailed (expression_node x c) (sends_tail (is_super x) (is_plain x) (messages_of ms (behind c (names_in x)))) (expression_makes x c f.0)
      (makes_sends (is_super x) (is_plain x) (messages_of ms (behind c (names_in x))) (some_make ms (behind c (names_in x)) f.1 f.2))

  pub statements_make : (ss : StatementsView) (c : Context) → StatementsFormed ss → Makes BodyFormed (statements_body ss c)
  statements_make views.no_statements c f = record { by = λ ls. tt }
  statements_make (views.statement true e ss) c f = makes_end Formed BodyFormed (expression_node e c) nodes.returned (expression_makes e c f.0) (λ n p. p)
  statements_make (views.statement false e ss) c f =
      makes_then Formed BodyFormed (expression_node e c) (λ n. statements_body ss (behind c (names_in e)) >>= λ b. given (before n b)) (expression_makes e c f.0)
      (λ n p. makes_end BodyFormed BodyFormed (statements_body ss (behind c (names_in e))) (before n) (statements_make ss (behind c (names_in e)) f.3) (λ b q. before_formed n b p q))

  some_make : (ms : MessagesView) (c : Context) → HasMessage ms → MessagesFormed ms → SomeMake (messages_of ms c)
  some_make views.no_messages c i f = i
  some_make (views.message s es ms) c i f = (nodes_make es c f.1, subst (λ (n : ℕ). IsSelector s n) (length_nodes es c) f.0, messages_make ms (behind c (names_in_all es)) f.2)

  messages_make : (ms : MessagesView) (c : Context) → MessagesFormed ms → MessagesMake (messages_of ms c)
  messages_make views.no_messages c f = tt
  messages_make (views.message s es ms) c f = (nodes_make es c f.1, subst (λ (n : ℕ). IsSelector s n) (length_nodes es c) f.0, messages_make ms (behind c (names_in_all es)) f.2)

  nodes_make : (es : ExpressionsView) (c : Context) → ArgumentsFormed es → AllMake (nodes_of es c)
  nodes_make views.no_expressions c f = tt
  nodes_make (views.expression e es) c f = (expression_makes e c f.0, nodes_make es (behind c (names_in e)) f.2)
