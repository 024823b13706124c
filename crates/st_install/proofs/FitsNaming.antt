-- The literals that the code of a small tree names are small.
use Rattle.std.proofs.Common.{ℕ, Bool, true, false, not, ◌&&◌, List, [], ◌∷◌, ◌++◌, length, Option, Some, None, arith}
use Rattle.std.specs.Prelude.{if◌then◌else◌, nat_lt}
use Rattle.std.specs.List.{AllByRecursion}
use Rattle.st_scan.specs.declared.token.Signed.{Signed}
use Rattle.st_scan.specs.Views.{is_super, ContentView, ExpressionView, StatementsView, MessagesView, ExpressionsView}
use Rattle.st_scan.specs.Views as views
use Rattle.st_emit.specs.declared.instruction.Constant.{Constant}
use Rattle.st_emit.specs.declared.instruction.InstructionOperand.{InstructionOperand}
use Rattle.st_emit.specs.declared.instruction.InstructionOperand.TheVariants.{Shared}
use Rattle.st_emit.specs.declared.form.By.{By}
use Rattle.st_emit.specs.declared.form.By.TheVariants.{SelectorAt}
use Rattle.st_emit.specs.declared.form.TwoSided.TheVariants.{TrueFirst, FalseFirst}
use Rattle.st_emit.specs.declared.form.Form.{Form}
use Rattle.st_emit.specs.declared.form.Form.TheVariants.{One, Two, Repeated}
use Rattle.st_emit.specs.Names.{Variable, temporary, field, shared, constant_named, variable_named}
use Rattle.st_emit.specs.Literals.{LiteralView, place_of, small_number, Naming, given, ◌>>=◌, named_literal, literal_of}
use Rattle.st_emit.specs.Literals as lits
use Rattle.st_emit.specs.Nodes as nodes
use Rattle.st_emit.specs.Nodes.{Sending, Node, Body, Tail, Messages, Nodes, body_of, with_tail}
use Rattle.st_emit.specs.Resolving.{Context, behind, inside, names_in, names_in_all, place_named, place_of_name, constant_or, literal_node, small_or, content_node, special_code, by_code, by_literal, sending, Message, no_message, all_nodes, message_nodes, plain_tail, form_named, formed, single_tail, sends_tail, assign_tail, tailed, is_plain, before, count_node, expression_node, statements_body, messages_of, nodes_of}
use Rattle.st_install.proofs.FitsLiterals.{IsSmall, Small, StatementsSmall, MessagesSmall, ArgumentsSmall}

abbrev pub AllSmall : List LiteralView → Type 0
AllSmall ls = AllByRecursion IsSmall ls

pub both_small : (ls more : List LiteralView) → AllSmall ls → AllSmall more → AllSmall (ls ++ more)
both_small [] more h k = k
both_small (l ∷ ls) more h k = (h.0, both_small ls more h.1 k)

-- small literals stay so, whatever is named
record Keeps {A : Type 0} (m : Naming A) : Type 0 where
  by : (ls : List LiteralView) → AllSmall ls → AllSmall (m ls).literals

keeps_given : {A : Type 0} (x : A) → Keeps (given x)
keeps_given x = record { by = λ ls h. h }

keeps_then : {A B : Type 0} (m : Naming A) (f : A → Naming B) → Keeps m → ((x : A) → Keeps (f x)) → Keeps (m >>= f)
keeps_then m f h k = record { by = λ ls s. (k (m ls).part).by (m ls).literals (h.by ls s) }

-- made of one that was named
keeps_end : {A B : Type 0} (m : Naming A) (g : A → B) → Keeps m → Keeps (m >>= (λ x. given (g x)))
keeps_end m g h = keeps_then m (λ x. given (g x)) h (λ x. keeps_given (g x))

keeps_literal : (l : LiteralView) → IsSmall l → Keeps (named_literal l)
keeps_literal l s = record { by = λ ls h. by_test ls h (nat_lt (place_of l ls) (length ls)) }
  where
    by_test : (ls : List LiteralView) → AllSmall ls → (b : Bool) → AllSmall (if b then ls else ls ++ l ∷ [])
    by_test ls h true = h
    by_test ls h false = both_small ls (l ∷ []) h (s, tt)

keeps_place : (v : Option Variable) → Keeps (place_named v)
keeps_place None = keeps_given _
keeps_place (Some (temporary n a)) = keeps_given _
keeps_place (Some (field n)) = keeps_given _
keeps_place (Some (shared p)) = keeps_end (named_literal (lits.named p)) Shared (keeps_literal (lits.named p) tt)

keeps_name : (k : Option Constant) (m : Naming InstructionOperand) → Keeps m → Keeps (constant_or k m)
keeps_name (Some k) m h = keeps_given _
keeps_name None m h = keeps_end m nodes.variable h

keeps_literal_node : (l : LiteralView) → IsSmall l → Keeps (literal_node l)
keeps_literal_node l s = keeps_end (named_literal l) (nodes.literal l) (keeps_literal l s)

keeps_small : (k : Option ℕ) (n : Signed) → Keeps (small_or k n)
keeps_small (Some k) n = keeps_given _
keeps_small None n = keeps_literal_node (lits.number n) tt

keeps_content : (w : ContentView) → IsSmall (literal_of w) → Keeps (content_node w)
keeps_content (views.number n) s = keeps_small (small_number n) n
keeps_content (views.character b) s = keeps_literal_node _ s
keeps_content (views.bytes t) s = keeps_literal_node (lits.bytes t) s
keeps_content (views.symbol t) s = keeps_literal_node (lits.symbol t) s
keeps_content (views.array es) s = keeps_literal_node (literal_of (views.array es)) s
keeps_content views.nil_object s = keeps_literal_node _ s
keeps_content views.false_object s = keeps_literal_node _ s
keeps_content views.true_object s = keeps_literal_node _ s

-- SELECTORS

abbrev Short : List ℕ → Type 0
Short text = IsSmall (lits.symbol text)

keeps_by_literal : (text : List ℕ) → Short text → Keeps (by_literal text)
keeps_by_literal text s = keeps_end (named_literal (lits.symbol text)) SelectorAt (keeps_literal (lits.symbol text) s)

keeps_code : (k : Option ℕ) (m : Naming By) → Keeps m → Keeps (by_code k m)
keeps_code None m h = h
keeps_code (Some c) m h = keeps_given _

abbrev sent_by : List ℕ → By → Sending
sent_by text by = record { selector = text; by = by }

keeps_sending : (above : Bool) (text : List ℕ) → Short text → Keeps (sending above text)
keeps_sending true text s = keeps_end (by_literal text) (sent_by text) (keeps_by_literal text s)
keeps_sending false text s = keeps_end _ (sent_by text) (keeps_code (special_code text) (by_literal text) (keeps_by_literal text s))

-- MESSAGES

abbrev AllKeep : List (Naming Node) → Type 0
AllKeep ms = AllByRecursion (λ m. Keeps m) ms

abbrev MessageKeeps : Message → Type 0
MessageKeeps m = Short m.selector × AllKeep m.arguments

abbrev MessagesKeep : List Message → Type 0
MessagesKeep ms = AllByRecursion MessageKeeps ms

keeps_all : (ms : List (Naming Node)) → AllKeep ms → Keeps (all_nodes ms)
keeps_all [] h = keeps_given _
keeps_all (m ∷ ms) h = keeps_then m (λ n. all_nodes ms >>= λ ns. given (nodes.node n ns)) h.0 (λ n. keeps_end (all_nodes ms) (nodes.node n) (keeps_all ms h.1))

keeps_messages : (above : Bool) (m : Message) (ms : List Message) → MessageKeeps m → MessagesKeep ms → Keeps (message_nodes above m ms)
keeps_messages above m [] h k =
    keeps_then (all_nodes m.arguments) (λ ns. sending above m.selector >>= λ s. given (nodes.only s ns)) (keeps_all m.arguments h.1) (λ ns. keeps_end (sending above m.selector) (λ s. nodes.only s ns) (keeps_sending above m.selector h.0))
keeps_messages above m (o ∷ ms) h k =
    keeps_then (all_nodes m.arguments) (λ ns. sending above m.selector >>= λ s. (message_nodes above o ms >>= λ rest. given (nodes.also s ns rest))) (keeps_all m.arguments h.1)
    (λ ns. keeps_then (sending above m.selector) (λ s. message_nodes above o ms >>= λ rest. given (nodes.also s ns rest)) (keeps_sending above m.selector h.0)
    (λ s. keeps_end (message_nodes above o ms) (nodes.also s ns) (keeps_messages above o ms k.0 k.1)))

keeps_plain : (above : Bool) (m : Message) (ms : List Message) → MessageKeeps m → MessagesKeep ms → Keeps (plain_tail above m ms)
keeps_plain above m ms h k = keeps_end (message_nodes above m ms) (nodes.sent above) (keeps_messages above m ms h k)

keeps_formed : (form : Form) (is_block : Bool) (ms : List (Naming Node)) (otherwise : Naming Tail) → AllKeep ms → Keeps otherwise → Keeps (formed form is_block ms otherwise)
keeps_formed (One side) is_block (a ∷ []) otherwise h k = keeps_end a (λ n. nodes.sided side (body_of n)) h.0
keeps_formed (Two TrueFirst) is_block (a ∷ b ∷ []) otherwise h k =
    keeps_then a (λ n. b >>= λ o. given (nodes.chosen TrueFirst (body_of n) (body_of o))) h.0 (λ n. keeps_end b (λ o. nodes.chosen TrueFirst (body_of n) (body_of o)) h.1.0)
keeps_formed (Two FalseFirst) is_block (a ∷ b ∷ []) otherwise h k =
    keeps_then b (λ n. a >>= λ o. given (nodes.chosen FalseFirst (body_of o) (body_of n))) h.1.0 (λ n. keeps_end a (λ o. nodes.chosen FalseFirst (body_of o) (body_of n)) h.0)
keeps_formed (Repeated kind) true (a ∷ []) otherwise h k = keeps_end a (λ n. nodes.looped kind (body_of n)) h.0
keeps_formed form is_block ms otherwise h k = k

keeps_single : (above is_block : Bool) (m : Message) → MessageKeeps m → Keeps (single_tail above is_block m)
keeps_single above is_block m h = by_test (not above && m.all_blocks)
  where
    otherwise : Keeps (plain_tail above m [])
    otherwise = keeps_plain above m [] h tt

    by_test : (b : Bool) → Keeps (if b then formed (form_named m.selector) is_block m.arguments (plain_tail above m []) else plain_tail above m [])
    by_test true = keeps_formed (form_named m.selector) is_block m.arguments (plain_tail above m []) h.1 otherwise
    by_test false = otherwise

keeps_sends : (above is_block : Bool) (ms : List Message) → MessagesKeep ms → Keeps (sends_tail above is_block ms)
keeps_sends above is_block [] h = keeps_plain above no_message [] (omega arith, tt) tt
keeps_sends above is_block (m ∷ []) h = keeps_single above is_block m h.0
keeps_sends above is_block (m ∷ o ∷ ms) h = keeps_plain above m (o ∷ ms) h.0 h.1

keeps_tailed : (m : Naming Node) (t : Naming Tail) → Keeps m → Keeps t → Keeps (tailed m t)
keeps_tailed m t h k = keeps_then m (λ n. t >>= λ x. given (with_tail n x)) h (λ n. keeps_end t (with_tail n) k)

-- TREES

mutual
  expression_keeps : (e : ExpressionView) (c : Context) → Small e → Keeps (expression_node e c)
  expression_keeps (views.variable n) c s = keeps_name (constant_named n.text) (place_of_name c n) (keeps_place (variable_named c.names c.scope n.text))
  expression_keeps (views.literal e) c s = keeps_content e.what s
  expression_keeps (views.block ns body) c s =
      let size : Signed = record { minus = false; size = length ns } in
      keeps_then (count_node (length ns)) (λ n. statements_body body (inside c ns) >>= λ b. given (nodes.block c.next (length ns) n b)) (keeps_small (small_number size) size)
      (λ n. keeps_end (statements_body body (inside c ns)) (nodes.block c.next (length ns) n) (statements_keep body (inside c ns) s))
  expression_keeps (views.assign target e) c s =
      keeps_tailed (expression_node e c) (assign_tail c target) (expression_keeps e c s) (keeps_end (place_of_name c target) nodes.assigned (keeps_place (variable_named c.names c.scope target.text)))
  expression_keeps (views.send r ms) c s =
      let c' = behind c (names_in r) in
      keeps_tailed (expression_node r c) (sends_tail (is_super r) (is_plain r) (messages_of ms c')) (expression_keeps r c s.0) (keeps_sends (is_super r) (is_plain r) (messages_of ms c') (messages_keep ms c' s.1))

  statements_keep : (ss : StatementsView) (c : Context) → StatementsSmall ss → Keeps (statements_body ss c)
  statements_keep views.no_statements c s = keeps_given nodes.nothing
  statements_keep (views.statement true e ss) c s = keeps_end (expression_node e c) nodes.returned (expression_keeps e c s.0)
  statements_keep (views.statement false e ss) c s =
      keeps_then (expression_node e c) (λ n. statements_body ss (behind c (names_in e)) >>= λ b. given (before n b)) (expression_keeps e c s.0)
      (λ n. keeps_end (statements_body ss (behind c (names_in e))) (before n) (statements_keep ss (behind c (names_in e)) s.1))

  messages_keep : (ms : MessagesView) (c : Context) → MessagesSmall ms → MessagesKeep (messages_of ms c)
  messages_keep views.no_messages c s = tt
  messages_keep (views.message t es ms) c s = ((s.0, nodes_keep es c s.1), messages_keep ms (behind c (names_in_all es)) s.2)

  nodes_keep : (es : ExpressionsView) (c : Context) → ArgumentsSmall es → AllKeep (nodes_of es c)
  nodes_keep views.no_expressions c s = tt
  nodes_keep (views.expression e es) c s = (expression_keeps e c s.0, nodes_keep es (behind c (names_in e)) s.1)

pub body_small : (ss : StatementsView) (c : Context) → StatementsSmall ss → AllSmall (statements_body ss c []).literals
body_small ss c s = (statements_keep ss c s).by [] tt
