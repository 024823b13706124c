-- Nodes of an arena, from what was made of their parts.
use Rattle.std.proofs.Common.{◌≡◌, ℕ, ◌+◌, ◌<◌, ◌≤◌, Bool, true, false, List, [], ◌∷◌, ◌++◌, length, get_or, drop, Option, Some, None, refl, sym, ap, ◌∙◌, subst, arith, append_assoc, append-nil, length-append}
use Rattle.std.proofs.lemmas.List.{drop_more}
use Rattle.std.specs.Prelude.{slice_get, Result, Ok, Err, IfOk}
use Rattle.std.specs.Global.{Vec}
use Rattle.st_scan.specs.declared.token.Signed.{Signed}
use Rattle.st_scan.specs.declared.tree.Name.{Name}
use Rattle.st_scan.specs.declared.tree.Content.{Content}
use Rattle.st_scan.specs.declared.tree.Content.TheVariants as content
use Rattle.st_scan.specs.declared.tree.Message.{Message as Sent}
use Rattle.st_scan.specs.declared.tree.Statement.{Statement}
use Rattle.st_scan.specs.declared.chain.Link.{Link}
use Rattle.st_scan.specs.Views.{NameView, ExpressionView, StatementsView, block, name_view, content_view, expression_view, expressions_view, messages_view, statements_view, message, statement, no_messages, is_super}
use Rattle.st_scan.specs.inside.Chains.{LinkView, sent as sent_link, with_link, link_view}
use Rattle.st_emit.specs.declared.draft.Draft.{Draft}
use Rattle.st_emit.specs.declared.names.Around.{Around}
use Rattle.st_emit.specs.declared.instruction.Constant.{Constant}
use Rattle.st_emit.specs.declared.instruction.InstructionOperand.{InstructionOperand}
use Rattle.st_emit.specs.declared.form.By.{By}
use Rattle.st_emit.specs.declared.form.TwoSided.{TwoSided}
use Rattle.st_emit.specs.declared.form.TwoSided.TheVariants.{TrueFirst, FalseFirst}
use Rattle.st_emit.specs.Names.{constant_named}
use Rattle.st_emit.specs.Literals.{LiteralView, Naming, Named, given, ◌>>=◌, named_literal, literal_of}
use Rattle.st_emit.specs.inside.Views.{literals_view}
use Rattle.st_emit.specs.inside.Drafts.{Resolves}
use Rattle.st_emit.specs.Nodes.{Node, variable, literal, Tail, assigned, chosen, sent, Messages, also, Nodes, none, Sending, returned, with_tail}
use Rattle.st_emit.specs.Resolving.{Message as Resolved, Context, name_node, constant_or, literal_node, content_node, behind, before, by_selector, sending, message_nodes, no_message, tailed, names_in, names_in_all, names_in_statements, expression_node, messages_of, statements_body, plain_tail}
use Rattle.st_emit.specs.inside.Shapes.{ShapeView, two_sided, shape_of, repetition_of, IsCascade, IsOnly}
use Rattle.st_emit.specs.inside.Around.{context, at_number, message_of, link_tail}
use Rattle.st_emit.specs.inside.Emits.{after, place_at}
use Rattle.st_emit.proofs.Follow.{node_behind}
use Rattle.st_emit.proofs.NodeKinds.{tail_kind}
use Rattle.st_resolved.proofs.Grows.{Grows, grows_literal, expression_grows}
use Rattle.st_meaning.specs.declared.deed.Variable.{Variable}
use Rattle.st_meaning.specs.declared.deed.Value.{Value}
use Rattle.st_meaning.specs.declared.deed.Value.TheVariants.{Literal}
use Rattle.st_meaning.specs.declared.arena.Statements.{Statements}
use Rattle.st_meaning.specs.declared.arena.Message.{Message}
use Rattle.st_meaning.specs.declared.arena.Start.{Start}
use Rattle.st_meaning.specs.declared.arena.Start.TheVariants.{Known, Held, Block}
use Rattle.st_meaning.specs.declared.arena.Act.{Act}
use Rattle.st_meaning.specs.declared.arena.Act.TheVariants.{Assign, Send, Two}
use Rattle.st_meaning.specs.declared.arena.Node.{Node as Made}
use Rattle.st_meaning.specs.declared.sketch.Sketch.{Sketch}
use Rattle.st_meaning.specs.inside.Values.{literal_value, variable_of, IsShort}
use Rattle.st_meaning.specs.inside.Runs.{Going, went, gives, assign_to}
use Rattle.st_meaning.specs.inside.Traces.{value_of, messages_value}
use Rattle.st_meaning.specs.inside.Meanings.{most}
use Rattle.st_meaning.specs.inside.Arenas.{Meaning, runs_of, node_run}
use Rattle.st_meaning.specs.inside.Meant.{IsNode, IsStart, IsChain, IsAct, IsArguments, IsMessage, IsMessages, IsBody}
use Rattle.st_meaning.specs.inside.Sketches.{literals_of, runs_in, Extends, Keeps, Stands, IsFew, Builds, message_named, messages_named, node_naming, arguments_naming, message_naming, cascade_naming, messages_naming, sent_naming, link_naming, body_naming, two_naming}
use Rattle.st_meaning.proofs.Arenas.{get_front, get_last, runs_push, many_runs}
use Rattle.st_meaning.proofs.Meant.{chain_more, arguments_none, message_is, messages_made, messages_none, messages_one, sends_are, two_is}
use Rattle.st_meaning.proofs.Shaped.{shape_tail, shape_same, cascade_same}
use Rattle.st_meaning.proofs.Numbers.{literal_short, name_short, name_grows, selector_grows}

-- MESSAGES IN A ROW

-- messages in a row are a first one and others
messages_same : (above : Bool) (m : Resolved) (ms : List Resolved) (ls : List LiteralView) → (message_named above m >>= λ p. messages_named above ms >>= λ ps. given (messages_made p ps)) ls ≡ message_nodes above m ms ls
messages_same above m [] ls = refl
messages_same above m (o ∷ os) ls =
    let p = message_named above m ls in
    ap (λ (w : Named Messages). record { part = also p.part.0 p.part.1 w.part; literals = w.literals }) (messages_same above o os p.literals)

-- SKETCHES

keeps_same : (s : Sketch) → Keeps s s
keeps_same s = record { nodes = λ i m h. h; literals = omega arith }

keeps_then : (a b c : Sketch) → Keeps a b → Keeps b c → Keeps a c
keeps_then a b c h k = record { nodes = λ i m e. k.nodes i m (h.nodes i m e); literals = omega (arith, h.literals, k.literals) }

-- what stands with more before it stood with less
stood : (a b : Sketch) (ms : List Meaning) → Keeps a b → Stands b ms → Stands a ms
stood a b ms h k = record { nodes = λ i m e. k.nodes i m (h.nodes i m e); few = omega (arith, h.literals, k.few) }

-- what was made behind what was made
pub builds_then : {A B C : Type 0} (m : Naming A) (f : A → Naming B) (k : A → B → C) (IsA : List Meaning → A → Type 0) (IsB : List Meaning → B → Type 0) (IsC : List Meaning → C → Type 0) (old mid new : Sketch)
    → Builds m IsA old mid → Builds (f (m (literals_of old)).part) IsB mid new
    → ((ms : List Meaning) (x : A) (ls : List LiteralView) → IsA ms x → IsB ms (f x ls).part → IsC ms (k x (f x ls).part))
    → Builds (m >>= λ x. f x >>= λ y. given (k x y)) IsC old new
builds_then m f k IsA IsB IsC old mid new a b both =
    let x = (m (literals_of old)).part in
    record {
      literals = b.literals ∙ ap (λ (ls : List LiteralView). (f x ls).literals) a.literals;
      keeps = keeps_then old mid new a.keeps b.keeps;
      part = λ ms e.
          both ms x (m (literals_of old)).literals (a.part ms (stood mid new ms b.keeps e))
          (subst (λ (ls : List LiteralView). IsB ms (f x ls).part) a.literals (b.part ms e));
    }

-- the same, by another name
pub builds_as : {A : Type 0} (m m' : Naming A) (Is Is' : List Meaning → A → Type 0) (old new : Sketch) → m (literals_of old) ≡ m' (literals_of old) → ((ms : List Meaning) (x : A) → Is ms x → Is' ms x) → Builds m Is old new → Builds m' Is' old new
builds_as m m' Is Is' old new e k b = record {
  literals = b.literals ∙ ap (λ (x : Named _). x.literals) e;
  keeps = b.keeps;
  part = λ ms h. k ms (m' (literals_of old)).part (subst (λ (x : Named _). Is ms x.part) e (b.part ms h));
}

-- a part made of one
pub builds_map : {A B : Type 0} (m : Naming A) (k : A → B) (IsA : List Meaning → A → Type 0) (IsB : List Meaning → B → Type 0) (old new : Sketch) → Builds m IsA old new → ((ms : List Meaning) (x : A) → IsA ms x → IsB ms (k x)) → Builds (m >>= λ x. given (k x)) IsB old new
builds_map m k IsA IsB old new b h = record { literals = b.literals; keeps = b.keeps; part = λ ms e. h ms (m (literals_of old)).part (b.part ms e) }

-- literals that were named are no more than those then
no_fewer : {A : Type 0} (m : Naming A) (ls new : List LiteralView) → Grows m → new ≡ (m ls).literals → length ls ≤ length new
no_fewer m ls new g e =
    let longer = g.by ls in
    omega (arith, ap (λ (l : List LiteralView). length l) (e ∙ longer.is), length-append ls longer.more)

-- what names a literal or a variable makes no node
pub builds_resolved : {A B : Type 0} (m : Naming A) (k : A → B) (Is : List Meaning → B → Type 0) (old new : Sketch) (x : A) → Grows m → Resolves m old.draft new.draft x → new.nodes.items ≡ old.nodes.items
    → ((ms : List Meaning) → length (m (literals_of old)).literals ≤ 256 → Is ms (k x)) → Builds (m >>= λ y. given (k y)) Is old new
builds_resolved m k Is old new x g r same h = record {
  literals = r.literals;
  keeps = record {
    nodes = λ i q e. subst (λ (xs : List Made). slice_get (runs_of most xs) i ≡ Some q) (sym same) e;
    literals = no_fewer m (literals_of old) (literals_of new) g r.literals;
  };
  part = λ ms e. subst (λ y. Is ms (k y)) r.part (h ms (subst (λ (ls : List LiteralView). length ls ≤ 256) r.literals e.few));
}

-- what is there without a name
pub builds_given : {A : Type 0} (m : Naming A) (Is : List Meaning → A → Type 0) (s : Sketch) (x : A) → m ≡ given x → ((ms : List Meaning) → Is ms x) → Builds m Is s s
builds_given m Is s x e h = record {
  literals = sym (ap (λ (q : Naming _). (q (literals_of s)).literals) e);
  keeps = keeps_same s;
  part = λ ms k. subst (λ (q : Naming _). Is ms (q (literals_of s)).part) (sym e) (h ms);
}

-- LEAVES

-- a variable
pub named_built : (a : Around) (n : Name) (place : InstructionOperand) (v : Variable) (old new : Sketch) → constant_named n.text.items ≡ None → IsFew a → Resolves (place_at a n) old.draft new.draft place → new.nodes.items ≡ old.nodes.items
    → (IsShort place → v ≡ variable_of place) → Builds (name_node (context a) (name_view n)) (IsStart (Held v)) old new
named_built a n place v old new plain few r same is =
    let short = λ (h : length (place_at a n (literals_of old)).literals ≤ 256). subst IsShort (sym r.part) (name_short a n (literals_of old) few h) in
    subst (λ (o : Option Constant). Builds (constant_or o (place_at a n)) (IsStart (Held v)) old new) (sym plain)
    (builds_resolved (place_at a n) (λ p. variable p) (IsStart (Held v)) old new place (name_grows a n) r same (λ ms h j. ap (λ (w : Variable). λ (g : Going). went (g.held w) g) (is (short h))))

-- an assignment
pub assign_built : (a : Around) (n : Name) (place : InstructionOperand) (v : Variable) (old new : Sketch) → IsFew a → Resolves (place_at a n) old.draft new.draft place → new.nodes.items ≡ old.nodes.items
    → (IsShort place → v ≡ variable_of place) → Builds (place_at a n >>= λ p. given (assigned p)) (IsAct (Assign v)) old new
assign_built a n place v old new few r same is =
    let short = λ (h : length (place_at a n (literals_of old)).literals ≤ 256). subst IsShort (sym r.part) (name_short a n (literals_of old) few h) in
    builds_resolved (place_at a n) (λ p. assigned p) (IsAct (Assign v)) old new place (name_grows a n) r same (λ ms h j x. ap (λ (w : Variable). assign_to most w x) (is (short h)))

-- a literal
pub literal_built : (l : LiteralView) (place b : ℕ) (v : Value) (old new : Sketch) → Resolves (named_literal l) old.draft new.draft place → new.nodes.items ≡ old.nodes.items
    → (place < 256 → b ≡ place) → v ≡ literal_value l b → Builds (literal_node l) (IsStart (Known v)) old new
literal_built l place b v old new r same is value =
    let short = λ (h : length (named_literal l (literals_of old)).literals ≤ 256). subst (λ (k : ℕ). k < 256) (sym r.part) (literal_short l (literals_of old) h) in
    builds_resolved (named_literal l) (λ p. literal l p) (IsStart (Known v)) old new place (grows_literal l) r same (λ ms h j. ap (λ (w : Value). gives w) (value ∙ ap (λ (k : ℕ). literal_value l k) (is (short h))))

-- a literal that is no number
pub content_built : (w : Content) (place b : ℕ) (old new : Sketch) → ((n : Signed) → w ≡ content.Number n → ⊥) → Resolves (named_literal (literal_of (content_view w))) old.draft new.draft place → new.nodes.items ≡ old.nodes.items
    → (place < 256 → b ≡ place) → Builds (content_node (content_view w)) (IsStart (Known (Literal b))) old new
content_built (content.Number n) place b old new other r same is = absurd (other n refl)
content_built (content.Character x) place b old new other r same is = literal_built (literal_of (content_view (content.Character x))) place b (Literal b) old new r same is refl
content_built (content.Bytes x) place b old new other r same is = literal_built (literal_of (content_view (content.Bytes x))) place b (Literal b) old new r same is refl
content_built (content.Symbol x) place b old new other r same is = literal_built (literal_of (content_view (content.Symbol x))) place b (Literal b) old new r same is refl
content_built (content.Array' shape row) place b old new other r same is = literal_built (literal_of (content_view (content.Array' shape row))) place b (Literal b) old new r same is refl
content_built content.Nil place b old new other r same is = literal_built (literal_of (content_view content.Nil)) place b (Literal b) old new r same is refl
content_built content.False place b old new other r same is = literal_built (literal_of (content_view content.False)) place b (Literal b) old new r same is refl
content_built content.True place b old new other r same is = literal_built (literal_of (content_view content.True)) place b (Literal b) old new r same is refl

-- a block, of which only the literals are named
pub block_built : (v : ExpressionView) (c : Context) (ns : List NameView) (b : StatementsView) (old new : Sketch) → v ≡ block ns b → literals_of new ≡ (expression_node v c (literals_of old)).literals → new.nodes.items ≡ old.nodes.items
    → Builds (expression_node v c) (IsStart Block) old new
block_built v c ns b old new is named same = record {
  literals = named;
  keeps = record {
    nodes = λ i q e. subst (λ (xs : List Made). slice_get (runs_of most xs) i ≡ Some q) (sym same) e;
    literals = no_fewer (expression_node v c) (literals_of old) (literals_of new) (expression_grows v c) named;
  };
  part = λ ms e. subst (λ (x : ExpressionView). IsStart Block ms (expression_node x c (literals_of old)).part) (sym is) (λ n. refl);
}

-- one node more
pub builds_put : (m : Naming Node) (old mid new : Sketch) (x : Made) (i : ℕ) → Builds m (IsChain x.start x.acts.items) old mid
    → i ≡ length mid.nodes.items → new.nodes.items ≡ mid.nodes.items ++ x ∷ [] → new.draft ≡ mid.draft → Builds m (IsNode i) old new
builds_put m old mid new x i b place put same =
    let here : Meaning = λ n. node_run most (runs_in mid) n x in
    let grown : runs_in new ≡ runs_in mid ++ here ∷ [] = ap (runs_of most) put ∙ runs_push most mid.nodes.items x in
    let extends : Extends (runs_in mid) (runs_in new) = λ j q e. subst (λ (ms : List Meaning). slice_get ms j ≡ Some q) (sym grown) (get_front (runs_in mid) (here ∷ []) j q e) in
    let named : literals_of new ≡ literals_of mid = ap (λ (d : Draft). literals_view d.literals.items) same in
    let many : length (literals_of new) ≡ length (literals_of mid) = ap (λ (ls : List LiteralView). length ls) named in
    let is : length (literals_of new) ≤ 256 → here ≡ value_of most (m (literals_of old)).part = λ few j n. b.part (runs_in mid) (record { nodes = λ i q h. h; few = omega (arith, many, few) }) n j in
    let at : slice_get (runs_in new) i ≡ Some here = ap (λ (ms : List Meaning). slice_get ms i) grown ∙ get_last (runs_in mid) here i (omega (arith, place, many_runs most [] mid.nodes.items)) in
    record {
      literals = named ∙ b.literals;
      keeps = keeps_then old mid new b.keeps (record { nodes = extends; literals = omega (arith, many) });
      part = λ ms e. e.nodes i (value_of most (m (literals_of old)).part) (at ∙ ap (λ (q : Meaning). Some q) (is e.few));
    }

-- MESSAGES AND FORMS

-- arguments, and then how the message is sent
pub message_built : (above : Bool) (a : Around) (m : Sent) (made : Message) (by : By) (old mid new : Sketch)
    → Builds (arguments_naming a m.arguments.items) (IsArguments made.arguments.items) old mid → Resolves (by_selector above m.selector.items) mid.draft new.draft by → new.nodes.items ≡ mid.nodes.items
    → made.selector.items ≡ m.selector.items → Builds (message_naming above a m) (IsMessage above made) old new
message_built above a m made by old mid new b r same text =
    let s : By → Sending = λ y. record { selector = m.selector.items; by = y } in
    builds_then (arguments_naming a m.arguments.items) (λ ns. sending above m.selector.items) (λ ns s. (s, ns)) (IsArguments made.arguments.items) (λ ms (s : Sending). made.selector.items ≡ s.selector) (IsMessage above made) old mid new
    b (builds_resolved (by_selector above m.selector.items) s (λ ms (s : Sending). made.selector.items ≡ s.selector) mid new by (selector_grows above m.selector.items) r same (λ ms few. text))
    (λ ms ns ls h e. message_is above made ms (sending above m.selector.items ls).part ns e h)

pub sends_built : (above : Bool) (m : Resolved) (ms : List Resolved) (list : Vec Message) (old new : Sketch)
    → Builds (messages_named above (m ∷ ms)) (IsMessages above list.items) old new → Builds (message_nodes above m ms >>= λ x. given (sent above x)) (IsAct (Send above list)) old new
sends_built above m ms list old new b =
    let p = message_named above m (literals_of old) in
    let ps = messages_named above ms p.literals in
    let same = messages_same above m ms (literals_of old) in
    record {
      literals = b.literals ∙ ap (λ (w : Named Messages). w.literals) same;
      keeps = b.keeps;
      part = λ q e n v. sends_are above list.items q p.part ps.part (b.part q e) n v ∙ ap (λ (w : Named Messages). messages_value most w.part above v n) same;
    }

-- one message
pub plain_built : (a : Around) (m : Sent) (one : Message) (list : Vec Message) (old new : Sketch) → list.items ≡ one ∷ []
    → Builds (message_naming false a m) (IsMessage false one) old new → Builds (plain_tail false (message_of (context a) m.selector.items (expressions_view m.arguments.items)) []) (IsAct (Send false list)) old new
plain_built a m one list old new alone b =
    let r = message_of (context a) m.selector.items (expressions_view m.arguments.items) in
    let row = builds_map (message_naming false a m) (λ p. p ∷ []) (IsMessage false one) (IsMessages false (one ∷ [])) old new b (λ ms p h. messages_one false one [] ms p [] h (messages_none false ms)) in
    sends_built false r [] list old new (subst (λ (l : List Message). Builds (messages_named false (r ∷ [])) (IsMessages false l) old new) (sym alone) row)

-- a message does what its shape says
pub shaped_built : {Is : List Meaning → Tail → Type 0} (a : Around) (m : Sent) (s : ShapeView) (old new : Sketch) → s ≡ shape_of m.selector.items (expressions_view m.arguments.items)
    → Builds (shape_tail (context a) s (plain_tail false (message_of (context a) m.selector.items (expressions_view m.arguments.items)) [])) Is old new → Builds (sent_naming a m) Is old new
shaped_built {Is} a m s old new is b =
    let es = expressions_view m.arguments.items in
    let otherwise = plain_tail false (message_of (context a) m.selector.items es) [] in
    let whole = ap (λ (x : ShapeView). shape_tail (context a) x otherwise) is ∙ shape_same m.selector.items es (context a) in
    subst (λ (q : Naming Tail). Builds q Is old new) whole b

pub two_built : {Is : List Meaning → Tail → Type 0} (side : TwoSided) (a : Around) (x y : List Statement) (otherwise : Naming Tail) (old new : Sketch)
    → Builds (two_naming side a (at_number (a.next + names_in_statements (statements_view x)) a) x y) Is old new → Builds (shape_tail (context a) (two_sided side (statements_view x) (statements_view y)) otherwise) Is old new
two_built TrueFirst a x y otherwise old new b = b
two_built FalseFirst a x y otherwise old new b = b

-- two blocks, in the order of their code
pub true_first : (side : TwoSided) (a d : Around) (x y : List Statement) (s t : Statements) (old mid new : Sketch) → side ≡ TrueFirst → Builds (body_naming a x) (IsBody s) old mid → Builds (body_naming d y) (IsBody t) mid new
    → Builds (two_naming side a d x y) (IsAct (Two side s t)) old new
true_first side a d x y s t old mid new is b c =
    subst (λ (q : TwoSided). Builds (two_naming q a d x y) (IsAct (Two q s t)) old new) (sym is)
    (builds_then (body_naming a x) (λ p. body_naming d y) (λ p q. chosen TrueFirst p q) (IsBody s) (IsBody t) (IsAct (Two TrueFirst s t)) old mid new b c (λ ms p ls h k. two_is TrueFirst s t ms p (body_naming d y ls).part h k))

pub false_first : (side : TwoSided) (a d : Around) (x y : List Statement) (s t : Statements) (old mid new : Sketch) → side ≡ FalseFirst → Builds (body_naming d y) (IsBody t) old mid → Builds (body_naming a x) (IsBody s) mid new
    → Builds (two_naming side a d x y) (IsAct (Two side s t)) old new
false_first side a d x y s t old mid new is b c =
    subst (λ (q : TwoSided). Builds (two_naming q a d x y) (IsAct (Two q s t)) old new) (sym is)
    (builds_then (body_naming d y) (λ p. body_naming a x) (λ p q. chosen FalseFirst q p) (IsBody t) (IsBody s) (IsAct (Two FalseFirst s t)) old mid new b c (λ ms p ls h k. two_is FalseFirst s t ms (body_naming a x ls).part p k h))

-- no messages: no tree of a text has them
pub empty_built : (above : Bool) (a : Around) (messages : List Sent) (one : Message) (list : Vec Message) (by : By) (old new : Sketch) → length messages ≡ 0 → list.items ≡ one ∷ [] → one.selector.items ≡ [] → one.arguments.items ≡ []
    → Resolves (by_selector above []) old.draft new.draft by → new.nodes.items ≡ old.nodes.items → Builds (messages_naming above a messages) (IsAct (Send above list)) old new
empty_built above a (m ∷ ms) one list by old new none_left alone text many r same = absurd (omega (arith, none_left))
empty_built above a [] one list by old new none_left alone text many r same =
    let pair : By → List (Sending × Nodes) = λ y. (record { selector = []; by = y }, none) ∷ [] in
    let one_is = λ (ms : List Meaning) (s : Sending) (e : one.selector.items ≡ s.selector). messages_one above one [] ms (s, none) [] (message_is above one ms s none e (subst (λ (is : List ℕ). IsArguments is ms none) (sym many) (arguments_none ms))) (messages_none above ms) in
    let row : Builds (messages_named above (no_message ∷ [])) (IsMessages above (one ∷ [])) old new =
    builds_resolved (by_selector above []) pair (IsMessages above (one ∷ [])) old new by (selector_grows above []) r same (λ ms few. one_is ms (record { selector = []; by = by }) text) in
    sends_built above no_message [] list old new (subst (λ (l : List Message). Builds (messages_named above (no_message ∷ [])) (IsMessages above l) old new) (sym alone) row)

-- a cascade, or messages to super
pub cascade_built : (above : Bool) (a : Around) (messages : List Sent) (list : Vec Message) (old new : Sketch) → 0 < length messages → IsCascade above (messages_view messages)
    → Builds (cascade_naming above a messages) (IsMessages above list.items) old new → Builds (messages_naming above a messages) (IsAct (Send above list)) old new
cascade_built above a [] list old new some is b = absurd (omega (arith, some))
cascade_built above a (m ∷ ms) list old new some is b =
    let first = message_of (context a) m.selector.items (expressions_view m.arguments.items) in
    let others = messages_of (messages_view ms) (behind (context a) (names_in_all (expressions_view m.arguments.items))) in
    subst (λ (q : Naming Tail). Builds q (IsAct (Send above list)) old new) (cascade_same above (messages_view (m ∷ ms)) (context a) is) (sends_built above first others list old new b)

-- the one message of a link
pub only_built : {Is : List Meaning → Tail → Type 0} (above : Bool) (a : Around) (l : Link) (messages : List Sent) (m : Sent) (old new : Sketch) → link_view l ≡ sent_link (messages_view messages)
    → IsOnly above (messages_view messages) m.selector.items (expressions_view m.arguments.items) → Builds (sent_naming a m) Is old new → Builds (link_naming above a l) Is old new
only_built {Is} above a l messages m old new link only b =
    let whole = λ (x : LinkView) (t : Bool). Builds (link_tail t x (context a)) Is old new in
    subst (λ (x : LinkView). whole x above) (ap sent_link (sym only.view) ∙ sym link)
    (subst (λ (t : Bool). whole (sent_link (message m.selector.items (expressions_view m.arguments.items) no_messages)) t) (sym only.not_above) b)

-- one link more behind an expression that is no loop with it
pub link_built : (a : Around) (e : ExpressionView) (l : LinkView) (s : Start) (acts : List Act) (act : Act) (old mid new : Sketch) → repetition_of e l ≡ None
    → Builds (expression_node e (context a)) (IsChain s acts) old mid → Builds (link_tail (is_super e) l (behind (context a) (names_in e))) (IsAct act) mid new
    → Builds (expression_node (with_link l e) (context a)) (IsChain s (acts ++ act ∷ [])) old new
link_built a e l s acts act old mid new no_loop b k =
    let t = link_tail (is_super e) l (behind (context a) (names_in e)) in
    builds_as (tailed (expression_node e (context a)) t) (expression_node (with_link l e) (context a)) (IsChain s (acts ++ act ∷ [])) (IsChain s (acts ++ act ∷ [])) old new
    (sym (node_behind l e (context a) (literals_of old) no_loop)) (λ ms x h. h)
    (builds_then (expression_node e (context a)) (λ x. t) (λ x y. with_tail x y) (IsChain s acts) (IsAct act) (IsChain s (acts ++ act ∷ [])) old mid new b k
    (λ ms x ls h j. chain_more l s acts act ms x (t ls).part (tail_kind (is_super e) l (behind (context a) (names_in e)) ls) h j))

-- STATEMENTS

pub statement_kept : (a : Around) (s : Statement) (rest : List Statement) → s.returns ≡ false
    → body_naming a (s ∷ rest) ≡ (node_naming a s.value >>= λ x. body_naming (at_number (after a s.value) a) rest >>= λ b. given (before x b))
statement_kept a s rest h = ap (λ (r : Bool). statements_body (statement r (expression_view s.value) (statements_view rest)) (context a)) h

pub statement_returned : (a : Around) (s : Statement) (rest : List Statement) → s.returns ≡ true → body_naming a (s ∷ rest) ≡ (node_naming a s.value >>= λ x. given (returned x))
statement_returned a s rest h = ap (λ (r : Bool). statements_body (statement r (expression_view s.value) (statements_view rest)) (context a)) h

pub kept_names : (s : Statement) (rest : List Statement) → s.returns ≡ false → names_in_statements (statements_view (s ∷ rest)) ≡ names_in (expression_view s.value) + names_in_statements (statements_view rest)
kept_names s rest h = ap (λ (r : Bool). names_in_statements (statement r (expression_view s.value) (statements_view rest))) h

pub last_names : (s : Statement) (rest : List Statement) → s.returns ≡ true → names_in_statements (statements_view (s ∷ rest)) ≡ names_in (expression_view s.value)
last_names s rest h = ap (λ (r : Bool). names_in_statements (statement r (expression_view s.value) (statements_view rest))) h

-- RESULTS

pub ok_weaker : {A E : Type 0} (P Q : A → Type 0) (r : Result A E) → ((x : A) → P x → Q x) → IfOk r P → IfOk r Q
ok_weaker P Q (Ok x) f h = f x h
ok_weaker P Q (Err e) f h = tt

-- LISTS OF PARTS

-- what is left to be made gives what the whole gives, behind what was made
pub record GoesOn {X A : Type 0} (rest whole : Naming A) (Is : List X → List Meaning → A → Type 0) (made : List X) (old now : Sketch) : Type 0 where
  pub literals : (rest (literals_of now)).literals ≡ (whole (literals_of old)).literals
  pub keeps : Keeps old now
  pub part : (ms : List Meaning) → Stands now ms → (more : List X) → Is more ms (rest (literals_of now)).part → Is (made ++ more) ms (whole (literals_of old)).part

pub goes_first : {X A : Type 0} (whole : Naming A) (Is : List X → List Meaning → A → Type 0) (old : Sketch) → GoesOn whole whole Is [] old old
goes_first whole Is old = record { literals = refl; keeps = keeps_same old; part = λ ms e more h. h }

pub goes_turn : {X A B : Type 0} (m : Naming B) (f : Naming A) (k : B → A → A) (rest whole : Naming A) (IsB : X → List Meaning → B → Type 0) (Is : List X → List Meaning → A → Type 0) (made made' : List X) (x : X) (old now new : Sketch)
    → GoesOn rest whole Is made old now → rest ≡ (m >>= λ y. f >>= λ z. given (k y z)) → Builds m (IsB x) now new → made' ≡ made ++ x ∷ []
    → ((ms : List Meaning) (y : B) (z : A) (more : List X) → IsB x ms y → Is more ms z → Is (x ∷ more) ms (k y z))
    → GoesOn f whole Is made' old new
goes_turn m f k rest whole IsB Is made made' x old now new g same b more_made step =
    let y = m (literals_of now) in
    let at : rest (literals_of now) ≡ record { part = k y.part (f y.literals).part; literals = (f y.literals).literals } = ap (λ (q : Naming _). q (literals_of now)) same in
    record {
      literals = ap (λ (ls : List LiteralView). (f ls).literals) b.literals ∙ sym (ap (λ (q : Named _). q.literals) at) ∙ g.literals;
      keeps = keeps_then old now new g.keeps b.keeps;
      part = λ ms e more h.
          let z = subst (λ (ls : List LiteralView). Is more ms (f ls).part) b.literals h in
          let on = step ms y.part (f y.literals).part more (b.part ms e) z in
          let whole_is = g.part ms (stood now new ms b.keeps e) (x ∷ more) (subst (λ (q : Named _). Is (x ∷ more) ms q.part) (sym at) on) in
          subst (λ (xs : List _). Is xs ms (whole (literals_of old)).part) (sym (append_assoc made (x ∷ []) more) ∙ ap (λ (xs : List _). xs ++ more) (sym more_made)) whole_is;
    }

-- nothing is left
pub goes_done : {X A : Type 0} (z : A) (rest whole : Naming A) (Is : List X → List Meaning → A → Type 0) (made : List X) (old now : Sketch) → GoesOn rest whole Is made old now → rest ≡ given z → ((ms : List Meaning) → Is [] ms z) → Builds whole (Is made) old now
goes_done z rest whole Is made old now g same h = record {
  literals = sym (ap (λ (q : Naming _). (q (literals_of now)).literals) same) ∙ g.literals;
  keeps = g.keeps;
  part = λ ms e.
      subst (λ (xs : List _). Is xs ms (whole (literals_of old)).part) (append-nil made)
      (g.part ms e [] (subst (λ (q : Naming _). Is [] ms (q (literals_of now)).part) (sym same) (h ms)));
}

-- what is left is one part
pub goes_last : {X A B : Type 0} (m : Naming B) (k : B → A) (rest whole : Naming A) (IsB : X → List Meaning → B → Type 0) (Is : List X → List Meaning → A → Type 0) (made made' : List X) (x : X) (old now new : Sketch)
    → GoesOn rest whole Is made old now → rest ≡ (m >>= λ y. given (k y)) → Builds m (IsB x) now new → made' ≡ made ++ x ∷ [] → ((ms : List Meaning) (y : B) → IsB x ms y → Is (x ∷ []) ms (k y))
    → Builds whole (Is made') old new
goes_last m k rest whole IsB Is made made' x old now new g same b more_made step =
    let y = m (literals_of now) in
    let at : rest (literals_of now) ≡ record { part = k y.part; literals = y.literals } = ap (λ (q : Naming _). q (literals_of now)) same in
    record {
      literals = b.literals ∙ sym (ap (λ (q : Named _). q.literals) at) ∙ g.literals;
      keeps = keeps_then old now new g.keeps b.keeps;
      part = λ ms e.
          let whole_is = g.part ms (stood now new ms b.keeps e) (x ∷ []) (subst (λ (q : Named _). Is (x ∷ []) ms q.part) (sym at) (step ms y.part (b.part ms e))) in
          subst (λ (xs : List _). Is xs ms (whole (literals_of old)).part) (sym more_made) whole_is;
    }

pub drop_item : {X : Type 0} (xs : List X) (k : ℕ) (x : X) → k < length xs → x ≡ get_or xs k x → drop k xs ≡ x ∷ drop (k + 1) xs
drop_item xs k x within is = drop_more xs k x within ∙ ap (λ (y : _). y ∷ drop (k + 1) xs) (sym is)
