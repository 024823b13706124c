-- The literals and selectors that resolved nodes name stand at their places.
use Rattle.std.proofs.Common.{◌≡◌, ◌≢◌, ℕ, ◌+◌, ◌-◌, ◌≤◌, ◌==◌, Bool, true, false, not, ◌&&◌, List, [], ◌∷◌, length, Option, Some, None, refl, sym, ap, ◌∙◌, subst, arith}
use Rattle.std.proofs.lemmas.Bool.Decides.{nat_tests}
use Rattle.std.specs.Prelude.{if◌then◌else◌, slice_get}
use Rattle.st_scan.specs.declared.token.Signed.{Signed}
use Rattle.st_scan.specs.Views.{is_super, ContentView, ExpressionView, StatementsView, MessagesView, ExpressionsView}
use Rattle.st_scan.specs.Views as views
use Rattle.st_emit.specs.declared.instruction.Constant.{Constant}
use Rattle.st_emit.specs.declared.instruction.InstructionOperand.{InstructionOperand}
use Rattle.st_emit.specs.declared.instruction.InstructionOperand.TheVariants.{Field, Temporary, Shared}
use Rattle.st_emit.specs.declared.form.By.{By}
use Rattle.st_emit.specs.declared.form.By.TheVariants.{Special, SelectorAt}
use Rattle.st_emit.specs.declared.form.TwoSided.TheVariants.{TrueFirst, FalseFirst}
use Rattle.st_emit.specs.declared.form.Form.{Form}
use Rattle.st_emit.specs.declared.form.Form.TheVariants.{One, Two, Repeated}
use Rattle.st_emit.specs.Names.{Variable, temporary, field, shared, constant_named, variable_named}
use Rattle.st_emit.specs.Literals.{LiteralView, small_number, Naming, given, ◌>>=◌, named_literal, literal_of}
use Rattle.st_emit.specs.Literals as lits
use Rattle.st_emit.specs.Nodes as nodes
use Rattle.st_emit.specs.Nodes.{Sending, Node, Body, Tail, Nodes, body_of, with_tail, count}
use Rattle.st_emit.specs.Resolving.{place_named, constant_or, literal_node, small_or, content_node, special_selector, special_selectors, special_code, code_at, first_special, block_copy, by_code, by_literal, sending, Message, all_nodes, message_nodes, plain_tail, formed, form_named, no_message, single_tail, sends_tail, tailed, before, Context, behind, inside, names_in, names_in_all, place_of_name, assign_tail, count_node, is_plain, expression_node, statements_body, messages_of, nodes_of}
use Rattle.st_emit.proofs.SpecialSelectors.{special_there}
use Rattle.st_resolved.specs.inside.Right.{IsRight, arguments_count, RightExpression, RightStatements, RightMessages, RightAll}
use Rattle.st_resolved.proofs.Grows.{Extends, extends_on, Grows, AllGrow, MessagesGrow, grows_given, grows_then, grows_end, grows_all, grows_sending, grows_messages, grows_place, grows_sends, statements_grow, messages_grow}
use Rattle.st_resolved.proofs.Places.{named_found}
use Rattle.st_resolved.specs.inside.Placed.{IsVariable, IsCount, IsFound, IsSent, Placed, BodyPlaced, MessagesPlaced, NodesPlaced}

-- a number from -1 to 2, by one more
small_by : (a m b c d : Bool) (k : ℕ) → (if a then Some 1 else (if m then (if b then Some 0 else None) else (if c then Some 2 else (if d then Some 3 else None)))) ≡ Some k → k ≤ 3
small_by true m b c d k e = let is : 1 ≡ k = cc in omega (arith, is)
small_by false true true c d k e = let is : 0 ≡ k = cc in omega (arith, is)
small_by false true false c d k e = absurd cc
small_by false false b true d k e = let is : 2 ≡ k = cc in omega (arith, is)
small_by false false b false true k e = let is : 3 ≡ k = cc in omega (arith, is)
small_by false false b false false k e = absurd cc

small_few : (n : Signed) (k : ℕ) → small_number n ≡ Some k → k ≤ 3
small_few n k e = small_by (n.size == 0) n.minus (n.size == 1) (n.size == 1) (n.size == 2) k e

module _ (final : List LiteralView) where
  -- what is made has this property, where the literals end as these
  pub record Puts {A : Type 0} (P : A → Type 0) (m : Naming A) : Type 0 where
    pub by : (ls : List LiteralView) → Extends (m ls).literals final → P (m ls).part

  pub puts_given : {A : Type 0} (P : A → Type 0) (x : A) → P x → Puts P (given x)
  puts_given P x p = record { by = λ ls e. p }

  pub puts_then : {A B : Type 0} (P : A → Type 0) (Q : B → Type 0) (m : Naming A) (f : A → Naming B) → ((x : A) → Grows (f x)) → Puts P m → ((x : A) → P x → Puts Q (f x)) → Puts Q (m >>= f)
  puts_then P Q m f g h k =
      record { by = λ ls e. (k (m ls).part (h.by ls (extends_on (m ls).literals (f (m ls).part (m ls).literals).literals final ((g (m ls).part).by (m ls).literals) e))).by (m ls).literals e }

  pub puts_end : {A B : Type 0} (P : A → Type 0) (Q : B → Type 0) (m : Naming A) (g : A → B) → Puts P m → ((x : A) → P x → Q (g x)) → Puts Q (m >>= (λ x. given (g x)))
  puts_end P Q m g h k = puts_then P Q m (λ x. given (g x)) (λ x. grows_given (g x)) h (λ x p. puts_given Q (g x) (k x p))

  pub puts_literal : (l : LiteralView) → Puts (λ (p : ℕ). slice_get final p ≡ Some l) (named_literal l)
  puts_literal l = record { by = λ ls e. named_found l ls final e }

  pub puts_place : (v : Option Variable) → Puts IsVariable (place_named v)
  puts_place None = puts_given IsVariable (Temporary 0) tt
  puts_place (Some (temporary n a)) = puts_given IsVariable (Temporary n) tt
  puts_place (Some (field n)) = puts_given IsVariable (Field n) tt
  puts_place (Some (shared p)) = puts_end (λ (k : ℕ). slice_get final k ≡ Some (lits.named p)) IsVariable (named_literal (lits.named p)) Shared (puts_literal (lits.named p)) (λ k e. tt)

  pub puts_name : (k : Option Constant) (m : Naming InstructionOperand) → Puts IsVariable m → Puts (Placed final) (constant_or k m)
  puts_name (Some k) m h = puts_given (Placed final) (nodes.constant k) tt
  puts_name None m h = puts_end IsVariable (Placed final) m nodes.variable h (λ p i. i)

  pub puts_literal_node : (l : LiteralView) → Puts (Placed final) (literal_node l)
  puts_literal_node l = puts_end (λ (k : ℕ). slice_get final k ≡ Some l) (Placed final) (named_literal l) (nodes.literal l) (puts_literal l) (λ k e. e)

  pub puts_small : (k : Option ℕ) (n : Signed) → small_number n ≡ k → Puts (λ (x : Node). Placed final x × IsCount x) (small_or k n)
  puts_small (Some k) n e = puts_given (λ (x : Node). Placed final x × IsCount x) (nodes.small k) (small_few n k e, tt)
  puts_small None n e =
      puts_end (λ (k : ℕ). slice_get final k ≡ Some (lits.number n)) (λ (x : Node). Placed final x × IsCount x) (named_literal (lits.number n)) (nodes.literal (lits.number n)) (puts_literal (lits.number n)) (λ k e. (e, tt))

  pub puts_content : (w : ContentView) → Puts (Placed final) (content_node w)
  puts_content (views.number n) = record { by = λ ls e. ((puts_small (small_number n) n refl).by ls e).0 }
  puts_content (views.character b) = puts_literal_node (lits.character b)
  puts_content (views.bytes t) = puts_literal_node (lits.bytes t)
  puts_content (views.symbol t) = puts_literal_node (lits.symbol t)
  puts_content (views.array es) = puts_literal_node (literal_of (views.array es))
  puts_content views.nil_object = puts_literal_node (literal_of views.nil_object)
  puts_content views.false_object = puts_literal_node (literal_of views.false_object)
  puts_content views.true_object = puts_literal_node (literal_of views.true_object)

  -- a message has as many arguments as its selector says
  SentBy : (above : Bool) → List ℕ → By → Type 0
  SentBy above text by = IsFound final above text by

  puts_by_literal : (above : Bool) (text : List ℕ) → Puts (IsFound final above text) (by_literal text)
  puts_by_literal true text = puts_end (λ (k : ℕ). slice_get final k ≡ Some (lits.symbol text)) (IsFound final true text) (named_literal (lits.symbol text)) SelectorAt (puts_literal (lits.symbol text)) (λ k e. e)
  puts_by_literal false text = puts_end (λ (k : ℕ). slice_get final k ≡ Some (lits.symbol text)) (IsFound final false text) (named_literal (lits.symbol text)) SelectorAt (puts_literal (lits.symbol text)) (λ k e. e)

  puts_code : (text : List ℕ) (k : Option ℕ) (m : Naming By) → special_selector text ≡ k → Puts (IsFound final false text) m → Puts (IsFound final false text) (by_code (code_at k) m)
  puts_code text None m e h = h
  puts_code text (Some k) m e h = by_test (k == block_copy) refl
    where
      by_test : (b : Bool) → (k == block_copy) ≡ b → Puts (IsFound final false text) (by_code (if b then None else Some (first_special + k)) m)
      by_test true t = h
      by_test false t =
          let other : first_special + k ≢ first_special + block_copy = λ i. (let same : k ≡ block_copy = omega (arith, i) in let x : (k == block_copy) ≡ true = grind (arith, nat_tests, same) in absurd cc) in
          let back : first_special + k - first_special ≡ k = omega arith in
          let there : slice_get special_selectors (first_special + k - first_special) ≡ Some text = ap (slice_get special_selectors) back ∙ special_there text k e in
          puts_given (IsFound final false text) (Special (first_special + k)) (record { is = there; other = other; low = omega arith })

  abbrev sent_by : List ℕ → By → Sending
  sent_by text by = record { selector = text; by = by }

  puts_sending : (above : Bool) (text : List ℕ) (n : ℕ) → IsRight text n → Puts (λ (s : Sending). IsSent final above s n) (sending above text)
  puts_sending true text n r =
      puts_end (IsFound final true text) (λ (s : Sending). IsSent final true s n) (by_literal text) (sent_by text) (puts_by_literal true text) (λ b p. record { found = p; many = r })
  puts_sending false text n r =
      puts_end (IsFound final false text) (λ (s : Sending). IsSent final false s n) (by_code (special_code text) (by_literal text)) (sent_by text)
      (puts_code text (special_selector text) (by_literal text) refl (puts_by_literal false text)) (λ b p. record { found = p; many = r })

  abbrev pub AllPut : List (Naming Node) → Type 0
  AllPut [] = Unit {0}
  AllPut (m ∷ ms) = Puts (Placed final) m × AllPut ms

  abbrev pub MessagesPut : List Message → Type 0
  MessagesPut [] = Unit {0}
  MessagesPut (m ∷ ms) = AllPut m.arguments × IsRight m.selector (length m.arguments) × MessagesPut ms

  puts_all : (ms : List (Naming Node)) → AllGrow ms → AllPut ms → Puts (λ (ns : Nodes). NodesPlaced final ns × (count ns ≡ length ms)) (all_nodes ms)
  puts_all [] g h = puts_given (λ (ns : Nodes). NodesPlaced final ns × (count ns ≡ 0)) nodes.none (tt, refl)
  puts_all (m ∷ ms) g h =
      puts_then (Placed final) (λ (ns : Nodes). NodesPlaced final ns × (count ns ≡ length (m ∷ ms))) m (λ n. all_nodes ms >>= λ ns. given (nodes.node n ns)) (λ n. grows_end (all_nodes ms) (nodes.node n) (grows_all ms g.1)) h.0
      (λ n p. puts_end (λ (ns : Nodes). NodesPlaced final ns × (count ns ≡ length ms)) (λ (ns : Nodes). NodesPlaced final ns × (count ns ≡ length (m ∷ ms))) (all_nodes ms) (nodes.node n) (puts_all ms g.1 h.1)
      (λ ns q. let e : count ns + 1 ≡ length (m ∷ ms) = omega (arith, q.1) in ((p, q.0), e)))

  puts_messages : (above : Bool) (m : Message) (ms : List Message) → AllGrow m.arguments → MessagesGrow ms → MessagesPut (m ∷ ms) → Puts (MessagesPlaced final above) (message_nodes above m ms)
  puts_messages above m [] g k h =
      puts_then (λ (ns : Nodes). NodesPlaced final ns × (count ns ≡ length m.arguments)) (MessagesPlaced final above) (all_nodes m.arguments) (λ ns. sending above m.selector >>= λ s. given (nodes.only s ns))
      (λ ns. grows_end (sending above m.selector) (λ s. nodes.only s ns) (grows_sending above m.selector)) (puts_all m.arguments g h.0)
      (λ ns q. puts_end (λ (s : Sending). IsSent final above s (count ns)) (MessagesPlaced final above) (sending above m.selector) (λ s. nodes.only s ns)
      (puts_sending above m.selector (count ns) (subst (λ n. IsRight m.selector n) (sym q.1) h.1)) (λ s r. (q.0, r)))
  puts_messages above m (o ∷ ms) g k h =
      puts_then (λ (ns : Nodes). NodesPlaced final ns × (count ns ≡ length m.arguments)) (MessagesPlaced final above) (all_nodes m.arguments) (λ ns. sending above m.selector >>= λ s. (message_nodes above o ms >>= λ rest. given (nodes.also s ns rest)))
      (λ ns. grows_then (sending above m.selector) (λ s. message_nodes above o ms >>= λ rest. given (nodes.also s ns rest)) (grows_sending above m.selector) (λ s. grows_end (message_nodes above o ms) (nodes.also s ns) (grows_messages above o ms k.0 k.1)))
      (puts_all m.arguments g h.0)
      (λ ns q. puts_then (λ (s : Sending). IsSent final above s (count ns)) (MessagesPlaced final above) (sending above m.selector) (λ s. message_nodes above o ms >>= λ rest. given (nodes.also s ns rest))
      (λ s. grows_end (message_nodes above o ms) (nodes.also s ns) (grows_messages above o ms k.0 k.1))
      (puts_sending above m.selector (count ns) (subst (λ n. IsRight m.selector n) (sym q.1) h.1))
      (λ s r. puts_end (MessagesPlaced final above) (MessagesPlaced final above) (message_nodes above o ms) (nodes.also s ns) (puts_messages above o ms k.0 k.1 h.2) (λ rest t. (q.0, r, t))))

  abbrev pub TailPlaced : Tail → Type 0
  TailPlaced (nodes.assigned p) = Unit {0}
  TailPlaced (nodes.sent above ms) = MessagesPlaced final above ms
  TailPlaced (nodes.sided side a) = BodyPlaced final a
  TailPlaced (nodes.chosen side a b) = BodyPlaced final a × BodyPlaced final b
  TailPlaced (nodes.looped kind a) = BodyPlaced final a

  body_placed : (n : Node) → Placed final n → BodyPlaced final (body_of n)
  body_placed (nodes.block f i c b) h = h.2
  body_placed n h = tt

  tail_placed : (n : Node) (t : Tail) → Placed final n → TailPlaced t → Placed final (with_tail n t)
  tail_placed n (nodes.assigned p) h k = h
  tail_placed n (nodes.sent above ms) h k = (h, k)
  tail_placed n (nodes.sided side a) h k = (h, k)
  tail_placed n (nodes.chosen side a b) h k = (h, k.0, k.1)
  tail_placed n (nodes.looped kind a) h k = (body_placed n h, k)

  puts_plain : (above : Bool) (m : Message) (ms : List Message) → AllGrow m.arguments → MessagesGrow ms → MessagesPut (m ∷ ms) → Puts TailPlaced (plain_tail above m ms)
  puts_plain above m ms g k h = puts_end (MessagesPlaced final above) TailPlaced (message_nodes above m ms) (nodes.sent above) (puts_messages above m ms g k h) (λ x p. p)

  puts_formed : (form : Form) (is_block : Bool) (ms : List (Naming Node)) (otherwise : Naming Tail) → AllGrow ms → AllPut ms → Puts TailPlaced otherwise → Puts TailPlaced (formed form is_block ms otherwise)
  puts_formed (One side) is_block (a ∷ []) otherwise g h k = puts_end (Placed final) TailPlaced a (λ n. nodes.sided side (body_of n)) h.0 (λ n p. body_placed n p)
  puts_formed (Two TrueFirst) is_block (a ∷ b ∷ []) otherwise g h k =
      puts_then (Placed final) TailPlaced a (λ n. b >>= λ o. given (nodes.chosen TrueFirst (body_of n) (body_of o))) (λ n. grows_end b (λ o. nodes.chosen TrueFirst (body_of n) (body_of o)) g.1.0) h.0
      (λ n p. puts_end (Placed final) TailPlaced b (λ o. nodes.chosen TrueFirst (body_of n) (body_of o)) h.1.0 (λ o q. (body_placed n p, body_placed o q)))
  puts_formed (Two FalseFirst) is_block (a ∷ b ∷ []) otherwise g h k =
      puts_then (Placed final) TailPlaced b (λ n. a >>= λ o. given (nodes.chosen FalseFirst (body_of o) (body_of n))) (λ n. grows_end a (λ o. nodes.chosen FalseFirst (body_of o) (body_of n)) g.0) h.1.0
      (λ n p. puts_end (Placed final) TailPlaced a (λ o. nodes.chosen FalseFirst (body_of o) (body_of n)) h.0 (λ o q. (body_placed o q, body_placed n p)))
  puts_formed (Repeated kind) true (a ∷ []) otherwise g h k = puts_end (Placed final) TailPlaced a (λ n. nodes.looped kind (body_of n)) h.0 (λ n p. body_placed n p)
  puts_formed form is_block ms otherwise g h k = k

  puts_single : (above is_block : Bool) (m : Message) → AllGrow m.arguments → AllPut m.arguments → IsRight m.selector (length m.arguments) → Puts TailPlaced (single_tail above is_block m)
  puts_single above is_block m g h r = by_test (not above && m.all_blocks)
    where
      otherwise : Puts TailPlaced (plain_tail above m [])
      otherwise = puts_plain above m [] g tt (h, r, tt)

      by_test : (b : Bool) → Puts TailPlaced (if b then formed (form_named m.selector) is_block m.arguments (plain_tail above m []) else plain_tail above m [])
      by_test true = puts_formed (form_named m.selector) is_block m.arguments (plain_tail above m []) g h otherwise
      by_test false = otherwise

  none_right : IsRight [] 0
  none_right = refl

  puts_sends : (above is_block : Bool) (ms : List Message) → MessagesGrow ms → MessagesPut ms → Puts TailPlaced (sends_tail above is_block ms)
  puts_sends above is_block [] g h = puts_plain above no_message [] tt tt (tt, none_right, tt)
  puts_sends above is_block (m ∷ []) g h = puts_single above is_block m g.0 h.0 h.1
  puts_sends above is_block (m ∷ o ∷ ms) g h = puts_plain above m (o ∷ ms) g.0 g.1 h

  puts_tailed : (m : Naming Node) (t : Naming Tail) → Grows t → Puts (Placed final) m → Puts TailPlaced t → Puts (Placed final) (tailed m t)
  puts_tailed m t g h k =
      puts_then (Placed final) (Placed final) m (λ n. t >>= λ x. given (with_tail n x)) (λ n. grows_end t (with_tail n) g) h (λ n p. puts_end TailPlaced (Placed final) t (with_tail n) k (λ x q. tail_placed n x p q))

  before_placed : (n : Node) (b : Body) → Placed final n → BodyPlaced final b → BodyPlaced final (before n b)
  before_placed n nodes.nothing h k = h
  before_placed n (nodes.last m) h k = (h, k)
  before_placed n (nodes.next m b) h k = (h, k)
  before_placed n (nodes.returned m) h k = (h, k)

  length_nodes : (es : ExpressionsView) (c : Context) → length (nodes_of es c) ≡ arguments_count es
  length_nodes views.no_expressions c = refl
  length_nodes (views.expression e es) c = omega (arith, length_nodes es (behind c (names_in e)))

  mutual
    pub expression_puts : (e : ExpressionView) (c : Context) → RightExpression e → Puts (Placed final) (expression_node e c)
    expression_puts (views.variable n) c r = puts_name (constant_named n.text) (place_of_name c n) (puts_place (variable_named c.names c.scope n.text))
    expression_puts (views.literal e) c r = puts_content e.what
    expression_puts (views.block ns body) c r =
        let size : Signed = record { minus = false; size = length ns } in
        puts_then (λ (x : Node). Placed final x × IsCount x) (Placed final) (count_node (length ns)) (λ n. statements_body body (inside c ns) >>= λ b. given (nodes.block c.next (length ns) n b))
        (λ n. grows_end (statements_body body (inside c ns)) (nodes.block c.next (length ns) n) (statements_grow body (inside c ns))) (puts_small (small_number size) size refl)
        (λ n p. puts_end (BodyPlaced final) (Placed final) (statements_body body (inside c ns)) (nodes.block c.next (length ns) n) (statements_put body (inside c ns) r) (λ b q. (p.0, p.1, q)))
    expression_puts (views.assign target e) c r =
        puts_tailed (expression_node e c) (assign_tail c target) (grows_end (place_of_name c target) nodes.assigned (grows_place (variable_named c.names c.scope target.text))) (expression_puts e c r)
        (puts_end IsVariable TailPlaced (place_of_name c target) nodes.assigned (puts_place (variable_named c.names c.scope target.text)) (λ p i. tt))
    expression_puts (views.send x ms) c r =
        let d = behind c (names_in x) in
        puts_tailed (expression_node x c) (sends_tail (is_super x) (is_plain x) (messages_of ms d)) (grows_sends (is_super x) (is_plain x) (messages_of ms d) (messages_grow ms d)) (expression_puts x c r.0)
        (puts_sends (is_super x) (is_plain x) (messages_of ms d) (messages_grow ms d) (messages_put ms d r.1))

    pub statements_put : (ss : StatementsView) (c : Context) → RightStatements ss → Puts (BodyPlaced final) (statements_body ss c)
    statements_put views.no_statements c r = puts_given (BodyPlaced final) nodes.nothing tt
    statements_put (views.statement true e ss) c r = puts_end (Placed final) (BodyPlaced final) (expression_node e c) nodes.returned (expression_puts e c r.0) (λ n p. p)
    statements_put (views.statement false e ss) c r =
        let d = behind c (names_in e) in
        puts_then (Placed final) (BodyPlaced final) (expression_node e c) (λ n. statements_body ss d >>= λ b. given (before n b)) (λ n. grows_end (statements_body ss d) (before n) (statements_grow ss d)) (expression_puts e c r.0)
        (λ n p. puts_end (BodyPlaced final) (BodyPlaced final) (statements_body ss d) (before n) (statements_put ss d r.1) (λ b q. before_placed n b p q))

    pub messages_put : (ms : MessagesView) (c : Context) → RightMessages ms → MessagesPut (messages_of ms c)
    messages_put views.no_messages c r = tt
    messages_put (views.message s es ms) c r = (nodes_put es c r.1, subst (λ n. IsRight s n) (sym (length_nodes es c)) r.0, messages_put ms (behind c (names_in_all es)) r.2)

    pub nodes_put : (es : ExpressionsView) (c : Context) → RightAll es → AllPut (nodes_of es c)
    nodes_put views.no_expressions c r = tt
    nodes_put (views.expression e es) c r = (expression_puts e c r.0, nodes_put es (behind c (names_in e)) r.1)
