-- The tree that is read of a tree's code has this code again.
use Rattle.std.proofs.Common.{◌≡◌, ℕ, zero, suc, ◌+◌, ◌≤◌, min, Bool, true, false, not, ◌&&◌, List, [], ◌∷◌, ◌++◌, None, length, refl, sym, ap, ap₂, ◌∙◌, subst, arith, append-nil}
use Rattle.st_scan.specs.Views.{NameView, ExpressionView, ExpressionsView, StatementsView, MessagesView, is_super, no_statements}
use Rattle.st_scan.specs.Views as views
use Rattle.st_emit.specs.declared.instruction.InstructionOperand.{InstructionOperand}
use Rattle.st_emit.specs.declared.form.TwoSided.TheVariants.{TrueFirst, FalseFirst}
use Rattle.st_emit.specs.declared.form.Form.{Form}
use Rattle.st_emit.specs.declared.form.Form.TheVariants.{Message as Plain, One, Two, Repeated}
use Rattle.st_emit.specs.Names.{NamesView, Scope, numbered, declared, variable_named}
use Rattle.st_emit.specs.Literals.{LiteralView, Named, Naming}
use Rattle.st_emit.specs.Nodes.{Sending, Node, Body, Messages, Nodes, nothing, last, next as following, returned, only, also, node}
use Rattle.st_emit.specs.inside.Around.{cascade_nodes}
use Rattle.st_emit.specs.Resolving.{Context, behind, names_in, names_in_statements, names_in_messages, names_in_all, is_plain, all_plain, place_of_name, expression_node, statements_body, messages_of, nodes_of, all_nodes, sending, message_nodes, before, form_named}
use Rattle.st_code.specs.Faults.{expression_fault, statements_fault, messages_fault, expressions_fault, declare_fault}
use Rattle.st_resolved.proofs.Grows.{Extends, extends_on, grows_place, grows_sends, grows_sending, grows_messages, grows_all, statements_grow, messages_grow, nodes_grow}
use Rattle.st_resolved.specs.inside.Seen.{unnumbered}
use Rattle.st_resolved.proofs.Unnumbered.{or_none, unnumbered-append, more_names, read_alike, store_alike}
use Rattle.st_expression_stack.specs.Items.{no_arguments}
use Rattle.st_expression_stack.specs.Choosing.{received, plain_block, with_block, with_blocks}
use Rattle.st_decompile.specs.Back.{tree_of, body_tree, messages_list, nodes_least}
use Rattle.st_decompile.specs.inside.Calling.{AreNames, least_in, IsNext}
use Rattle.st_decompile.proofs.Same.{SameBody, SameNodes, SameMessages, same_last, same_next, same_returned, same_nothing, same_node, same_only, same_also, IsSome, before_next, before_some}
use Rattle.st_decompile.proofs.Sends.{is_form, is_formed, sided_send, true_send, false_send, loop_send}
use Rattle.st_decompile.proofs.Forms.{IsPlainSend, plain_send, several, as_formed, and_false, receiver_back, plain_back, sided_back, true_back, false_back, loop_back}
use Rattle.st_decompile.proofs.Leaves.{name_back, content_back, assign_back}
use Rattle.st_decompile.proofs.Blocks.{block_back, was_is, counted_at}
use Rattle.st_decompile.proofs.Backs.{Back, BodyBack, NodesBack, MessagesBack, ReceiverBack, Ready, AsLong, at_next, again_at, body_back, nodes_back, messages_back, first_next, second_next, least_both}
use Rattle.std.proofs.lemmas.Bool.{and_parts}

not_true : (a : Bool) → not a ≡ true → a ≡ false
not_true true e = absurd cc
not_true false e = refl

pub some_body : (r : Bool) (e : ExpressionView) (ss : StatementsView) (c : Context) (acc : List LiteralView) → IsSome (statements_body (views.statement r e ss) c acc).part
some_body true e ss c acc = tt
some_body false e ss c acc = before_some (expression_node e c acc).part (statements_body ss (behind c (names_in e)) (expression_node e c acc).literals).part

module _ (name_of : InstructionOperand → List ℕ) (names : NamesView) (literals : List LiteralView) (are : AreNames name_of names literals) where
  abbrev ctx : Scope → ℕ → Context
  ctx s n = at_next name_of names literals s n

  abbrev ctx' : Scope → ℕ → Context
  ctx' s n = again_at name_of names literals s n

  abbrev IsReady : ℕ → ℕ → ℕ → List LiteralView → Type 0
  IsReady count next other ls = Ready name_of names literals count next other ls

  -- WHAT IS TO BE SHOWN OF PARTS

  abbrev ExpressionIs : ExpressionView → Type 0
  ExpressionIs e = (f s : Scope) (next other : ℕ) (acc : List LiteralView) → unnumbered f ≡ unnumbered s → expression_fault names e f ≡ None
      → IsReady (names_in e) next other (expression_node e (ctx s next) acc).literals
      → Back name_of names literals (expression_node e (ctx s next) acc) (names_in e) next (is_plain e) (ctx' s other) acc

  abbrev BodyIs : StatementsView → Type 0
  BodyIs ss = (f s : Scope) (next other : ℕ) (acc : List LiteralView) → unnumbered f ≡ unnumbered s → statements_fault names ss f ≡ None
      → IsReady (names_in_statements ss) next other (statements_body ss (ctx s next) acc).literals
      → BodyBack name_of names literals (statements_body ss (ctx s next) acc) (names_in_statements ss) next (ctx' s other) acc

  abbrev NodesAre : ExpressionsView → Type 0
  NodesAre es = (f s : Scope) (next other : ℕ) (acc : List LiteralView) → unnumbered f ≡ unnumbered s → expressions_fault names es f ≡ None
      → IsReady (names_in_all es) next other (all_nodes (nodes_of es (ctx s next)) acc).literals
      → NodesBack name_of names literals es (all_nodes (nodes_of es (ctx s next)) acc) (names_in_all es) next (ctx' s other) acc

  abbrev MessagesAre : (above : Bool) → MessagesView → Type 0
  MessagesAre above ms = (f s : Scope) (next other : ℕ) (acc : List LiteralView) → unnumbered f ≡ unnumbered s → messages_fault names ms f ≡ None
      → IsReady (names_in_messages ms) next other (cascade_nodes above (messages_of ms (ctx s next)) acc).literals
      → MessagesBack name_of names literals above (cascade_nodes above (messages_of ms (ctx s next)) acc) (names_in_messages ms) next (ctx' s other) acc

  -- a block without arguments; those of a message that is alone; and the first message's arguments
  abbrev BlockIs : ExpressionView → Type 0
  BlockIs (views.block [] a) = BodyIs a
  BlockIs e = Unit {0}

  abbrev BlocksAre : MessagesView → Type 0
  BlocksAre (views.message s (views.expression e views.no_expressions) views.no_messages) = BlockIs e
  BlocksAre (views.message s (views.expression e (views.expression f views.no_expressions)) views.no_messages) = BlockIs e × BlockIs f
  BlocksAre ms = Unit {0}

  abbrev FirstAre : MessagesView → Type 0
  FirstAre views.no_messages = Unit {0}
  FirstAre (views.message s es ms) = NodesAre es

  with_plain : (Goal : ExpressionView → Type 0) (e : ExpressionView) → is_plain e ≡ true → BlockIs e → ((a : StatementsView) → BodyIs a → Goal (plain_block a)) → Goal e
  with_plain Goal (views.block [] a) p b k = k a b
  with_plain Goal (views.block (n ∷ ns) a) p b k = absurd cc
  with_plain Goal (views.variable n) p b k = absurd cc
  with_plain Goal (views.literal x) p b k = absurd cc
  with_plain Goal (views.assign t x) p b k = absurd cc
  with_plain Goal (views.send r ms) p b k = absurd cc

  -- STATEMENTS

  nothing_back : (next other : ℕ) (s : Scope) (acc : List LiteralView) → BodyBack name_of names literals (record { part = nothing; literals = acc }) 0 next (ctx' s other) acc
  nothing_back next other s acc = record { same = same_nothing; ends = refl; counted = refl; lowest = refl }

  pub top_least : (n k : ℕ) → k + n ≤ 64 → min (least_in n k) 64 ≡ least_in n k
  top_least zero k h = refl
  top_least (suc n) k h = omega (arith, h)

  abbrev returned_named : Named Node → Named Body
  returned_named n = record { part = returned n.part; literals = n.literals }

  returned_back : (n : Named Node) (count next : ℕ) (plain : Bool) (c : Context) (acc : List LiteralView) → next + count ≤ 64 → Back name_of names literals n count next plain c acc → BodyBack name_of names literals (returned_named n) count next c acc
  returned_back n count next plain c acc fits b = record {
    same = same_returned _ n.part b.same;
    ends = b.ends;
    counted = b.counted;
    lowest = ap (λ (k : ℕ). min k 64) b.lowest ∙ top_least count next fits;
  }

  -- where nothing more is named
  pub last_least : (l count next : ℕ) → next + (count + 0) ≤ 64 → l ≡ least_in count next → min l 64 ≡ least_in (count + 0) next
  last_least l count next fits low =
      let same_count : count + 0 ≡ count = omega arith in
      ap (λ (k : ℕ). min k 64) low ∙ top_least count next (omega (arith, fits)) ∙ sym (ap (λ (k : ℕ). least_in k next) same_count)

  abbrev last_named : Named Node → Named Body
  last_named n = record { part = last n.part; literals = n.literals }

  last_back : (n : Named Node) (count next : ℕ) (plain : Bool) (c : Context) (acc : List LiteralView) → next + (count + 0) ≤ 64 → Back name_of names literals n count next plain c acc → BodyBack name_of names literals (last_named n) (count + 0) next c acc
  last_back n count next plain c acc fits b =
      record { same = same_last _ n.part b.same; ends = b.ends; counted = omega (arith, b.counted); lowest = last_least _ count next fits b.lowest }

  some_back : (b : Body) (c : Context) (acc : List LiteralView) → IsSome (statements_body (body_back name_of names literals b) c acc).part
  some_back nothing c acc = tt
  some_back (last n) c acc = tt
  some_back (following n b) c acc = some_body false (tree_of name_of n) (body_tree name_of b no_statements) c acc
  some_back (returned n) c acc = tt

  next_back : (n : Named Node) (b : Named Body) (na nb next' other : ℕ) (plain : Bool) (s : Scope) (acc : List LiteralView) → next' + (na + nb) ≤ 64 → IsSome b.part
      → Back name_of names literals n na next' plain (ctx' s other) acc → BodyBack name_of names literals b nb (next' + na) (ctx' s (other + na)) n.literals
      → BodyBack name_of names literals (record { part = before n.part b.part; literals = b.literals }) (na + nb) next' (ctx' s other) acc
  next_back n b na nb next' other plain s acc fits some x y =
      let t = tree_of name_of n.part in
      let ss = body_back name_of names literals b.part in
      let now_n = expression_node t (ctx' s other) acc in
      let now_b = statements_body ss (ctx' s (other + na)) now_n.literals in
      let there : behind (ctx' s other) (names_in t) ≡ ctx' s (other + na) = ap (λ (k : ℕ). ctx' s (other + k)) x.counted in
      let now : statements_body (views.statement false t ss) (ctx' s other) acc ≡ record { part = following now_n.part now_b.part; literals = now_b.literals } =
      ap (λ (d : Context). let m = statements_body ss d now_n.literals in record { part = before now_n.part m.part; literals = m.literals }) there
      ∙ ap (λ (z : Body). record { part = z; literals = now_b.literals }) (before_next now_n.part now_b.part (some_back b.part (ctx' s (other + na)) now_n.literals)) in
      let same_b : SameBody now_b.part b.part = subst (λ (ls : List LiteralView). SameBody (statements_body ss (ctx' s (other + na)) ls).part b.part) (sym x.ends) y.same in
      let ends_b : now_b.literals ≡ b.literals = ap (λ (ls : List LiteralView). (statements_body ss (ctx' s (other + na)) ls).literals) x.ends ∙ y.ends in
      subst (λ (z : Body). BodyBack name_of names literals (record { part = z; literals = b.literals }) (na + nb) next' (ctx' s other) acc) (sym (before_next n.part b.part some))
      (record {
        same = subst (λ (m : Named Body). SameBody m.part (following n.part b.part)) (sym now) (same_next now_n.part n.part now_b.part b.part x.same same_b);
        ends = ap (λ (m : Named Body). m.literals) now ∙ ends_b;
        counted = omega (arith, x.counted, y.counted);
        lowest = ap₂ (λ (i j : ℕ). min i j) x.lowest y.lowest ∙ least_both name_of names literals na nb next' fits;
      })

  -- ARGUMENTS AND MESSAGES

  node_back : (e : ExpressionView) (es : ExpressionsView) (n : Named Node) (ns : Named Nodes) (na nb next' other : ℕ) (s : Scope) (acc : List LiteralView) → next' + (na + nb) ≤ 64
      → Back name_of names literals n na next' (is_plain e) (ctx' s other) acc → NodesBack name_of names literals es ns nb (next' + na) (ctx' s (other + na)) n.literals
      → NodesBack name_of names literals (views.expression e es) (record { part = node n.part ns.part; literals = ns.literals }) (na + nb) next' (ctx' s other) acc
  node_back e es n ns na nb next' other s acc fits x y =
      let t = tree_of name_of n.part in
      let ts = nodes_back name_of names literals ns.part in
      let now_n = expression_node t (ctx' s other) acc in
      let now_ns = all_nodes (nodes_of ts (ctx' s (other + na))) now_n.literals in
      let there : behind (ctx' s other) (names_in t) ≡ ctx' s (other + na) = ap (λ (k : ℕ). ctx' s (other + k)) x.counted in
      let now : all_nodes (nodes_of (views.expression t ts) (ctx' s other)) acc ≡ record { part = node now_n.part now_ns.part; literals = now_ns.literals } =
      ap (λ (d : Context). let m = all_nodes (nodes_of ts d) now_n.literals in record { part = node now_n.part m.part; literals = m.literals }) there in
      let same_ns : SameNodes now_ns.part ns.part = subst (λ (ls : List LiteralView). SameNodes (all_nodes (nodes_of ts (ctx' s (other + na))) ls).part ns.part) (sym x.ends) y.same in
      let ends_ns : now_ns.literals ≡ ns.literals = ap (λ (ls : List LiteralView). (all_nodes (nodes_of ts (ctx' s (other + na))) ls).literals) x.ends ∙ y.ends in
      record {
        same = subst (λ (m : Named Nodes). SameNodes m.part (node n.part ns.part)) (sym now) (same_node now_n.part n.part now_ns.part ns.part x.same same_ns);
        ends = ap (λ (m : Named Nodes). m.literals) now ∙ ends_ns;
        counted = omega (arith, x.counted, y.counted);
        blocks = ap₂ (λ (a b : Bool). a && b) x.block y.blocks;
        long = y.long;
        lowest = ap₂ (λ (i j : ℕ). min i j) x.lowest y.lowest ∙ least_both name_of names literals na nb next' fits;
      }

  abbrev only_named : (above : Bool) → List ℕ → Named Nodes → Named Messages
  only_named above s ns = let t = sending above s ns.literals in record { part = only t.part ns.part; literals = t.literals }

  only_back : (above : Bool) (t : List ℕ) (es : ExpressionsView) (ns : Named Nodes) (count next' other : ℕ) (s : Scope) (acc : List LiteralView)
      → NodesBack name_of names literals es ns count next' (ctx' s other) acc → MessagesBack name_of names literals above (only_named above t ns) (count + 0) next' (ctx' s other) acc
  only_back above t es ns count next' other s acc b =
      let now_ns = all_nodes (nodes_of (nodes_back name_of names literals ns.part) (ctx' s other)) acc in
      let q = sending above t ns.literals in
      let q' = sending above t now_ns.literals in
      let same_q : q' ≡ q = ap (sending above t) b.ends in
      let same_count : count + 0 ≡ count = omega arith in
      record {
        same = subst (λ (z : Named Sending). SameMessages (only z.part now_ns.part) (only q.part ns.part)) (sym same_q) (same_only q.part now_ns.part ns.part b.same);
        ends = ap (λ (z : Named Sending). z.literals) same_q;
        counted = omega (arith, b.counted);
        lowest = λ l. ap (min l) (b.lowest ∙ sym (ap (λ (k : ℕ). least_in k next') same_count));
      }

  abbrev also_named : (above : Bool) → List ℕ → Named Nodes → Naming Messages → Named Messages
  also_named above s ns ms = let t = sending above s ns.literals in let r = ms t.literals in record { part = also t.part ns.part r.part; literals = r.literals }

  -- others behind a message
  listed_nodes : (above : Bool) (t : List ℕ) (es : ExpressionsView) (ms : Messages) (c d : Context) (acc : List LiteralView)
      → message_nodes above (record { selector = t; arguments = nodes_of es c; all_blocks = all_plain es }) (messages_of (messages_list name_of ms) d) acc
      ≡ also_named above t (all_nodes (nodes_of es c) acc) (cascade_nodes above (messages_of (messages_list name_of ms) d))
  listed_nodes above t es (only u ns) c d acc = refl
  listed_nodes above t es (also u ns ms) c d acc = refl

  also_back : (above : Bool) (t : List ℕ) (es : ExpressionsView) (ns : Named Nodes) (ms : Naming Messages) (na nb next' other : ℕ) (s : Scope) (acc : List LiteralView) → next' + (na + nb) ≤ 64
      → NodesBack name_of names literals es ns na next' (ctx' s other) acc
      → MessagesBack name_of names literals above (ms (sending above t ns.literals).literals) nb (next' + na) (ctx' s (other + na)) (sending above t ns.literals).literals
      → MessagesBack name_of names literals above (also_named above t ns ms) (na + nb) next' (ctx' s other) acc
  also_back above t es ns ms na nb next' other s acc fits b m =
      let ts = nodes_back name_of names literals ns.part in
      let q = sending above t ns.literals in
      let r = ms q.literals in
      let l = messages_list name_of r.part in
      let now_ns = all_nodes (nodes_of ts (ctx' s other)) acc in
      let there : behind (ctx' s other) (names_in_all ts) ≡ ctx' s (other + na) = ap (λ (k : ℕ). ctx' s (other + k)) b.counted in
      let later : Naming Messages = cascade_nodes above (messages_of l (ctx' s (other + na))) in
      let now : cascade_nodes above (messages_of (views.message t ts l) (ctx' s other)) acc ≡ also_named above t now_ns later =
      listed_nodes above t ts r.part (ctx' s other) (behind (ctx' s other) (names_in_all ts)) acc
      ∙ ap (λ (d : Context). also_named above t now_ns (cascade_nodes above (messages_of l d))) there in
      let q' = sending above t now_ns.literals in
      let same_q : q' ≡ q = ap (sending above t) b.ends in
      let ends_q : q'.literals ≡ q.literals = ap (λ (z : Named Sending). z.literals) same_q in
      let r' = later q'.literals in
      let same_r : SameMessages r'.part r.part = subst (λ (ls : List LiteralView). SameMessages (later ls).part r.part) (sym ends_q) m.same in
      let ends_r : r'.literals ≡ r.literals = ap (λ (ls : List LiteralView). (later ls).literals) ends_q ∙ m.ends in
      let same_all : SameMessages (also q'.part now_ns.part r'.part) (also q.part ns.part r.part) =
      subst (λ (z : Sending). SameMessages (also z now_ns.part r'.part) (also q.part ns.part r.part)) (sym (ap (λ (z : Named Sending). z.part) same_q)) (same_also q.part now_ns.part ns.part r'.part r.part b.same same_r) in
      record {
        same = subst (λ (z : Named Messages). SameMessages z.part (also q.part ns.part r.part)) (sym now) same_all;
        ends = ap (λ (z : Named Messages). z.literals) now ∙ ends_r;
        counted = omega (arith, b.counted, m.counted);
        lowest = λ k.
            let i = nodes_least ns.part no_arguments in
            let low : min i (least_in nb (next' + na)) ≡ least_in (na + nb) next' = ap (λ (j : ℕ). min j (least_in nb (next' + na))) b.lowest ∙ least_both name_of names literals na nb next' fits in
            m.lowest (min k i) ∙ omega (arith, low);
      }

  -- SENDS

  -- the literals behind a receiver are among those of the whole
  behind_receiver : (r : ExpressionView) (ms : MessagesView) (s : Scope) (next : ℕ) (acc : List LiteralView) → Extends (expression_node (views.send r ms) (ctx s next) acc).literals literals → Extends (expression_node r (ctx s next) acc).literals literals
  behind_receiver r ms s next acc more =
      let d = behind (ctx s next) (names_in r) in
      let x = expression_node r (ctx s next) acc in
      extends_on x.literals (expression_node (views.send r ms) (ctx s next) acc).literals literals ((grows_sends (is_super r) (is_plain r) (messages_of ms d) (messages_grow ms d)).by x.literals) more

  receiver_is : (r : ExpressionView) (ms : MessagesView) → ExpressionIs r → (f s : Scope) (next other : ℕ) (acc : List LiteralView) → unnumbered f ≡ unnumbered s → expression_fault names (views.send r ms) f ≡ None
      → IsReady (names_in (views.send r ms)) next other (expression_node (views.send r ms) (ctx s next) acc).literals → Back name_of names literals (expression_node r (ctx s next) acc) (names_in r) next (is_plain r) (ctx' s other) acc
  receiver_is r ms hr f s next other acc u h ready =
      hr f s next other acc u (or_none (expression_fault names r f) (messages_fault names ms f) h).0 (record {
        there = first_next name_of names literals (names_in r) (names_in_messages ms) next other ready.there;
        fits = omega (arith, ready.fits);
        more = behind_receiver r ms s next acc ready.more;
      })

  -- those that are no form
  plain_case : (r : ExpressionView) (ms : MessagesView) → ExpressionIs r → MessagesAre (is_super r) ms → (f s : Scope) (next other : ℕ) (acc : List LiteralView) → unnumbered f ≡ unnumbered s
      → expression_fault names (views.send r ms) f ≡ None → IsReady (names_in (views.send r ms)) next other (expression_node (views.send r ms) (ctx s next) acc).literals → IsPlainSend r ms
      → (let x = expression_node r (ctx s next) acc in
      ReceiverBack name_of names literals x (names_in r) next (is_plain r) (is_super r) (ctx' s other) acc
      → IsPlainSend (received (is_super r) (tree_of name_of x.part)) (messages_back name_of names literals (cascade_nodes (is_super r) (messages_of ms (ctx s (next + names_in r))) x.literals).part))
      → Back name_of names literals (expression_node (views.send r ms) (ctx s next) acc) (names_in r + names_in_messages ms) next false (ctx' s other) acc
  plain_case r ms hr hm f s next other acc u h ready plain again =
      let x = expression_node r (ctx s next) acc in
      let b = receiver_back name_of names literals are s next other acc r (receiver_is r ms hr f s next other acc u h ready) in
      let more : Extends (cascade_nodes (is_super r) (messages_of ms (ctx s (next + names_in r))) x.literals).literals literals =
      subst (λ (n : Named Node). Extends n.literals literals) (plain_send r ms (ctx s next) acc plain) ready.more in
      let m = hm f s (next + names_in r) (other + names_in r) x.literals u (or_none (expression_fault names r f) (messages_fault names ms f) h).1 (record {
        there = second_next name_of names literals (names_in r) (names_in r) (names_in_messages ms) next other refl ready.there;
        fits = omega (arith, ready.fits);
        more = more;
      }) in
      plain_back name_of names literals are s next other acc r ms ready.fits plain (again b) b m

  -- one message: a form, or none
  module _ (r : ExpressionView) (t : List ℕ) (hr : ExpressionIs r) (f s : Scope) (next other : ℕ) (acc : List LiteralView) (u : unnumbered f ≡ unnumbered s) (plain : is_super r ≡ false) where
    abbrev x : Named Node
    x = expression_node r (ctx s next) acc

    abbrev k : ℕ
    k = next + names_in r

    abbrev one : ExpressionsView → ExpressionView
    one es = views.send r (views.message t es views.no_messages)

    abbrev IsOne : ExpressionsView → Type 0
    IsOne es =
        expression_fault names (one es) f ≡ None → IsReady (names_in (one es)) next other (expression_node (one es) (ctx s next) acc).literals
        → Back name_of names literals (expression_node (one es) (ctx s next) acc) (names_in (one es)) next false (ctx' s other) acc

    fault_first : (a : StatementsView) (more : ExpressionsView) → expression_fault names (views.send r (views.message t (views.expression (plain_block a) more) views.no_messages)) f ≡ None
        → (statements_fault names a (declared false 0 [] f) ≡ None) × (expressions_fault names more f ≡ None)
    fault_first a more h =
        let h1 = (or_none (expression_fault names r f) _ h).1 in
        let h2 = (or_none (expressions_fault names (views.expression (plain_block a) more) f) None h1).0 in
        let h3 = or_none (expression_fault names (plain_block a) f) (expressions_fault names more f) h2 in
        ((or_none (declare_fault 0 [] f) (statements_fault names a (declared false 0 [] f)) h3.0).1, h3.1)

    scope_same : unnumbered (declared false 0 [] f) ≡ unnumbered s
    scope_same = unnumbered-append f [] ∙ append-nil (unnumbered f) ∙ u

    one_case : (side : _) (a : StatementsView) → BodyIs a → form_named t ≡ One side → IsOne (views.expression (plain_block a) views.no_expressions)
    one_case side a ha form h ready =
        let ms = views.message t (views.expression (plain_block a) views.no_expressions) views.no_messages in
        let b = receiver_is r ms hr f s next other acc u h ready in
        let is = sided_send r t (ctx s next) acc plain side a form in
        let more : Extends (statements_body a (ctx s k) x.literals).literals literals = subst (λ (n : Named Node). Extends n.literals literals) is ready.more in
        let count : names_in_statements a ≡ names_in_messages ms = omega arith in
        let total : names_in r + names_in_statements a ≡ names_in r + names_in_messages ms = omega arith in
        let rest = second_next name_of names literals (names_in r) (names_in r) (names_in_messages ms) next other refl ready.there in
        let body = ha (declared false 0 [] f) s k (other + names_in r) x.literals scope_same (fault_first a views.no_expressions h).0 (record {
          there = subst (λ (n : ℕ). IsNext n k (other + names_in r)) (sym count) rest;
          fits = omega (arith, ready.fits);
          more = more;
        }) in
        subst (λ (n : ℕ). Back name_of names literals (expression_node (with_block r t a) (ctx s next) acc) n next false (ctx' s other) acc) total
        (sided_back name_of names literals are s next other acc r side a t form plain (omega (arith, ready.fits)) b body)

    module _ (a b : StatementsView) (ha : BodyIs a) (hb : BodyIs b) where
      abbrev ms : MessagesView
      ms = views.message t (views.expression (plain_block a) (views.expression (plain_block b) views.no_expressions)) views.no_messages

      abbrev kb : ℕ
      kb = k + names_in (plain_block a)

      abbrev two : ExpressionView
      two = with_blocks r t a b

      module _ (h : expression_fault names two f ≡ None) (ready : IsReady (names_in two) next other (expression_node two (ctx s next) acc).literals) where
        total : names_in r + (names_in_statements a + names_in_statements b) ≡ names_in r + names_in_messages ms
        total = omega arith

        there : IsNext (names_in r + (names_in_statements a + names_in_statements b)) next other
        there = subst (λ (n : ℕ). IsNext n next other) (sym total) ready.there

        fits : next + (names_in r + (names_in_statements a + names_in_statements b)) ≤ 64
        fits = omega (arith, ready.fits)

        receiver : Back name_of names literals x (names_in r) next (is_plain r) (ctx' s other) acc
        receiver = receiver_is r ms hr f s next other acc u h ready

        faults : (statements_fault names a (declared false 0 [] f) ≡ None) × (expressions_fault names (views.expression (plain_block b) views.no_expressions) f ≡ None)
        faults = fault_first a (views.expression (plain_block b) views.no_expressions) h

        fault_b : statements_fault names b (declared false 0 [] f) ≡ None
        fault_b = (or_none (declare_fault 0 [] f) (statements_fault names b (declared false 0 [] f)) (or_none (expression_fault names (plain_block b) f) None faults.1).0).1

        two_case : (side : _) → form_named t ≡ Two side → Back name_of names literals (expression_node two (ctx s next) acc) (names_in two) next false (ctx' s other) acc
        two_case TrueFirst e =
            let is = true_send r t (ctx s next) acc plain a b e in
            let wa = statements_body a (ctx s k) x.literals in
            let wb = statements_body b (ctx s kb) wa.literals in
            let more_b : Extends wb.literals literals = subst (λ (n : Named Node). Extends n.literals literals) is ready.more in
            let more_a : Extends wa.literals literals = extends_on wa.literals wb.literals literals ((statements_grow b (ctx s kb)).by wa.literals) more_b in
            subst (λ (n : ℕ). Back name_of names literals (expression_node two (ctx s next) acc) n next false (ctx' s other) acc) total
            (true_back name_of names literals are s next other acc r a b t plain receiver there fits e
            (λ m i. ha (declared false 0 [] f) s k m x.literals scope_same faults.0 (record { there = i; fits = omega (arith, fits); more = more_a }))
            (λ m i. hb (declared false 0 [] f) s kb m wa.literals scope_same fault_b (record { there = i; fits = omega (arith, fits); more = more_b })))
        two_case FalseFirst e =
            let is = false_send r t (ctx s next) acc plain a b e in
            let wb = statements_body b (ctx s kb) x.literals in
            let wa = statements_body a (ctx s k) wb.literals in
            let more_a : Extends wa.literals literals = subst (λ (n : Named Node). Extends n.literals literals) is ready.more in
            let more_b : Extends wb.literals literals = extends_on wb.literals wa.literals literals ((statements_grow a (ctx s k)).by wb.literals) more_a in
            subst (λ (n : ℕ). Back name_of names literals (expression_node two (ctx s next) acc) n next false (ctx' s other) acc) total
            (false_back name_of names literals are s next other acc r a b t plain receiver there fits e
            (λ m i. hb (declared false 0 [] f) s kb m x.literals scope_same fault_b (record { there = i; fits = omega (arith, fits); more = more_b }))
            (λ m i. ha (declared false 0 [] f) s k m wb.literals scope_same faults.0 (record { there = i; fits = omega (arith, fits); more = more_a })))

  -- a loop
  module _ (c a : StatementsView) (t : List ℕ) (hc : BodyIs c) (ha : BodyIs a) (f s : Scope) (next other : ℕ) (acc : List LiteralView) (u : unnumbered f ≡ unnumbered s) where
    abbrev whole : ExpressionView
    whole = with_block (plain_block c) t a

    loop_case : (kind : _) → form_named t ≡ Repeated kind → expression_fault names whole f ≡ None → IsReady (names_in whole) next other (expression_node whole (ctx s next) acc).literals
        → Back name_of names literals (expression_node whole (ctx s next) acc) (names_in whole) next false (ctx' s other) acc
    loop_case kind form h ready =
        let n = names_in (plain_block c) in
        let is = loop_send c t (ctx s next) acc kind a form in
        let wc = statements_body c (ctx s next) acc in
        let wa = statements_body a (ctx s (next + n)) wc.literals in
        let more_a : Extends wa.literals literals = subst (λ (n : Named Node). Extends n.literals literals) is ready.more in
        let more_c : Extends wc.literals literals = extends_on wc.literals wa.literals literals ((statements_grow a (ctx s (next + n))).by wc.literals) more_a in
        let none_more : unnumbered (declared false 0 [] f) ≡ unnumbered s = unnumbered-append f [] ∙ append-nil (unnumbered f) ∙ u in
        let faults = or_none (expression_fault names (plain_block c) f) (messages_fault names (views.message t (views.expression (plain_block a) views.no_expressions) views.no_messages) f) h in
        let fault_c = (or_none (declare_fault 0 [] f) (statements_fault names c (declared false 0 [] f)) faults.0).1 in
        let fault_1 = (or_none (expressions_fault names (views.expression (plain_block a) views.no_expressions) f) None faults.1).0 in
        let fault_2 = (or_none (expression_fault names (plain_block a) f) None fault_1).0 in
        let fault_a = (or_none (declare_fault 0 [] f) (statements_fault names a (declared false 0 [] f)) fault_2).1 in
        let total : n + names_in_statements a ≡ names_in whole = omega arith in
        let there : IsNext (n + names_in_statements a) next other = subst (λ (i : ℕ). IsNext i next other) (sym total) ready.there in
        let few : n ≡ names_in_statements c = omega arith in
        let there_c : IsNext (names_in_statements c) next other = subst (λ (i : ℕ). IsNext i next other) few (first_next name_of names literals n (names_in_statements a) next other there) in
        let there_a : IsNext (names_in_statements a) (next + n) (other + n) = second_next name_of names literals n n (names_in_statements a) next other refl there in
        let fits : next + (n + names_in_statements a) ≤ 64 = omega (arith, ready.fits) in
        subst (λ (i : ℕ). Back name_of names literals (expression_node whole (ctx s next) acc) i next false (ctx' s other) acc) total
        (loop_back name_of names literals are s next other acc c a t fits
        (hc (declared false 0 [] f) s next other acc none_more fault_c (record { there = there_c; fits = omega (arith, fits); more = more_c }))
        (ha (declared false 0 [] f) s (next + n) (other + n) wc.literals none_more fault_a (record { there = there_a; fits = omega (arith, fits); more = more_a })) kind form)

  -- one message to another receiver than super that is a form
  module _ (r : ExpressionView) (t : List ℕ) (hr : ExpressionIs r) (br : BlockIs r) (f s : Scope) (next other : ℕ) (acc : List LiteralView) (u : unnumbered f ≡ unnumbered s) (plain : is_super r ≡ false) where
    abbrev message_to : ExpressionView → ExpressionsView → ExpressionView
    message_to e es = views.send e (views.message t es views.no_messages)

    abbrev IsOneOf : ExpressionView → ExpressionsView → Type 0
    IsOneOf e es =
        expression_fault names (message_to e es) f ≡ None → IsReady (names_in (message_to e es)) next other (expression_node (message_to e es) (ctx s next) acc).literals
        → Back name_of names literals (expression_node (message_to e es) (ctx s next) acc) (names_in (message_to e es)) next false (ctx' s other) acc

    form_case : (form : Form) (es : ExpressionsView) → form_named t ≡ form → all_plain es ≡ true → is_formed form (is_plain r) es ≡ true → BlocksAre (views.message t es views.no_messages) → IsOneOf r es
    form_case Plain es e p q b = absurd cc
    form_case (One side) views.no_expressions e p q b = absurd cc
    form_case (One side) (views.expression a views.no_expressions) e p q b =
        with_plain (λ (y : ExpressionView). IsOneOf r (views.expression y views.no_expressions)) a (and_parts (is_plain a) true p).0 b (λ c hc. one_case r t hr f s next other acc u plain side c hc e)
    form_case (One side) (views.expression a (views.expression d es)) e p q b = absurd cc
    form_case (Two side) views.no_expressions e p q b = absurd cc
    form_case (Two side) (views.expression a views.no_expressions) e p q b = absurd cc
    form_case (Two side) (views.expression a (views.expression d views.no_expressions)) e p q b =
        let ps = and_parts (is_plain a) (is_plain d && true) p in
        with_plain (λ (y : ExpressionView). IsOneOf r (views.expression y (views.expression d views.no_expressions))) a ps.0 b.0
        (λ c hc. with_plain (λ (z : ExpressionView). IsOneOf r (views.expression (plain_block c) (views.expression z views.no_expressions))) d (and_parts (is_plain d) true ps.1).0 b.1
        (λ g hg h ready. two_case r t hr f s next other acc u plain c g hc hg h ready side e))
    form_case (Two side) (views.expression a (views.expression d (views.expression g es))) e p q b = absurd cc
    form_case (Repeated kind) es e p q b = by_plain (is_plain r) refl es p q b
      where
        by_plain : (i : Bool) → is_plain r ≡ i → (es : ExpressionsView) → all_plain es ≡ true → is_formed (Repeated kind) i es ≡ true → BlocksAre (views.message t es views.no_messages) → IsOneOf r es
        by_plain false j es p q b = absurd cc
        by_plain true j views.no_expressions p q b = absurd cc
        by_plain true j (views.expression a views.no_expressions) p q b =
            with_plain (λ (y : ExpressionView). IsOneOf r (views.expression y views.no_expressions)) a (and_parts (is_plain a) true p).0 b
            (λ c hc. with_plain (λ (z : ExpressionView). IsOneOf z (views.expression (plain_block c) views.no_expressions)) r j br
            (λ g hg. loop_case g c t hg hc f s next other acc u kind e))
        by_plain true j (views.expression a (views.expression d es)) p q b = absurd cc

  -- whether a message that is read again is a form
  form_again : (r r' : ExpressionView) (t : List ℕ) (es fs : ExpressionsView) → is_super r' ≡ is_super r → is_plain r' ≡ is_plain r → all_plain fs ≡ all_plain es → AsLong fs es
      → is_form (is_super r') (is_plain r') t fs ≡ is_form (is_super r) (is_plain r) t es
  form_again r r' t es fs a b p l =
      ap₂ (λ (i j : Bool). not i && (all_plain fs && is_formed (form_named t) j fs)) a b
      ∙ ap₂ (λ (i j : Bool). not (is_super r) && (i && j)) p (as_formed name_of names literals are (form_named t) (is_plain r) fs es l)

  send_case : (r : ExpressionView) (ms : MessagesView) → ExpressionIs r → MessagesAre (is_super r) ms → BlockIs r → BlocksAre ms → FirstAre ms → ExpressionIs (views.send r ms)
  send_case r views.no_messages hr hm br bm fm f s next other acc u h ready =
      plain_case r views.no_messages hr hm f s next other acc u h ready tt
      (λ b. and_false name_of names literals are (not (is_super (received (is_super r) (tree_of name_of (expression_node r (ctx s next) acc).part)))))
  send_case r (views.message t es (views.message t' fs ms)) hr hm br bm fm f s next other acc u h ready =
      let x = expression_node r (ctx s next) acc in
      let d = ctx s (next + names_in r) in
      let ns = all_nodes (nodes_of es d) x.literals in
      let q = sending (is_super r) t ns.literals in
      let rest = cascade_nodes (is_super r) (messages_of (views.message t' fs ms) (behind d (names_in_all es))) q.literals in
      plain_case r (views.message t es (views.message t' fs ms)) hr hm f s next other acc u h ready tt
      (λ b. several name_of names literals are (received (is_super r) (tree_of name_of x.part)) t (nodes_back name_of names literals ns.part) rest.part)
  send_case r (views.message t es views.no_messages) hr hm br bm fm f s next other acc u h ready = by_test (is_form (is_super r) (is_plain r) t es) refl
    where
      ms : MessagesView
      ms = views.message t es views.no_messages

      by_test : (i : Bool) → is_form (is_super r) (is_plain r) t es ≡ i → Back name_of names literals (expression_node (views.send r (views.message t es views.no_messages)) (ctx s next) acc) (names_in (views.send r (views.message t es views.no_messages))) next false (ctx' s other) acc
      by_test true e =
          let ps = and_parts (not (is_super r)) (all_plain es && is_formed (form_named t) (is_plain r) es) e in
          let qs = and_parts (all_plain es) (is_formed (form_named t) (is_plain r) es) ps.1 in
          form_case r t hr br f s next other acc u (not_true (is_super r) ps.0) (form_named t) es refl qs.0 qs.1 bm h ready
      by_test false e =
          let x = expression_node r (ctx s next) acc in
          let d = ctx s (next + names_in r) in
          let ns = all_nodes (nodes_of es d) x.literals in
          let r' = received (is_super r) (tree_of name_of x.part) in
          let more : Extends (cascade_nodes (is_super r) (messages_of (views.message t es views.no_messages) d) x.literals).literals literals =
          subst (λ (n : Named Node). Extends n.literals literals) (plain_send r (views.message t es views.no_messages) (ctx s next) acc e) ready.more in
          let more_ns : Extends ns.literals literals =
          extends_on ns.literals (sending (is_super r) t ns.literals).literals literals ((grows_sending (is_super r) t).by ns.literals) more in
          let few : names_in_messages (views.message t es views.no_messages) ≡ names_in_all es = omega arith in
          let there = second_next name_of names literals (names_in r) (names_in r) (names_in_messages (views.message t es views.no_messages)) next other refl ready.there in
          let nb = fm f s (next + names_in r) (other + names_in r) x.literals u
          (or_none (expressions_fault names es f) None (or_none (expression_fault names r f) (messages_fault names (views.message t es views.no_messages) f) h).1).0
          (record { there = subst (λ (n : ℕ). IsNext n (next + names_in r) (other + names_in r)) few there; fits = omega (arith, ready.fits); more = more_ns }) in
          plain_case r (views.message t es views.no_messages) hr hm f s next other acc u h ready e
          (λ b. form_again r r' t es (nodes_back name_of names literals ns.part) b.super b.block nb.blocks nb.long ∙ e)

  -- THE WHOLE

  literals_of_block : (ns : List NameView) (body : StatementsView) (s : Scope) (next : ℕ) (acc : List LiteralView) → Extends (expression_node (views.block ns body) (ctx s next) acc).literals literals
      → Extends (statements_body body (ctx (s ++ numbered false next ns) (next + length ns)) (counted_at name_of names literals are ns body s next next acc)).literals literals
  literals_of_block ns body s next acc more = subst (λ (n : Named Node). Extends n.literals literals) (was_is name_of names literals are ns body s next next acc) more

  mutual
    pub expression_is : (e : ExpressionView) → ExpressionIs e
    expression_is (views.variable n) f s next other acc u h ready = name_back name_of names literals are n s next other acc (read_alike names f s n u h) ready.more
    expression_is (views.literal e) f s next other acc u h ready = content_back name_of names literals are next (ctx' s other) acc e.what
    expression_is (views.block ns body) f s next other acc u h ready =
        block_back name_of names literals are ns body s next other acc (names_in_statements body) ready.there
        (statements_are body (declared false 0 ns f) (s ++ numbered false next ns) (next + length ns) (other + length ns) (counted_at name_of names literals are ns body s next other acc)
        (more_names f s ns 0 next u)
        (or_none (declare_fault 0 ns f) (statements_fault names body (declared false 0 ns f)) h).1
        (record {
          there = second_next name_of names literals (length ns) (length ns) (names_in_statements body) next other refl ready.there;
          fits = omega (arith, ready.fits);
          more = literals_of_block ns body s next acc ready.more;
        }))
    expression_is (views.assign target e) f s next other acc u h ready =
        let hs = or_none _ _ h in
        let v = expression_node e (ctx s next) acc in
        let place = place_of_name (ctx s next) target v.literals in
        let more : Extends v.literals literals = extends_on v.literals place.literals literals ((grows_place (variable_named names s target.text)).by v.literals) ready.more in
        assign_back name_of names literals are target s next other acc e (names_in e) (is_plain e) (store_alike names f s target u hs.0) ready.more
        (expression_is e f s next other acc u hs.1 (record { there = ready.there; fits = ready.fits; more = more }))
    expression_is (views.send r ms) f s next other acc u h ready =
        send_case r ms (expression_is r) (messages_are (is_super r) ms) (block_is r) (blocks_are ms) (first_are ms) f s next other acc u h ready

    block_is : (e : ExpressionView) → BlockIs e
    block_is (views.block [] a) = statements_are a
    block_is (views.block (n ∷ ns) a) = tt
    block_is (views.variable n) = tt
    block_is (views.literal e) = tt
    block_is (views.assign t e) = tt
    block_is (views.send r ms) = tt

    blocks_are : (ms : MessagesView) → BlocksAre ms
    blocks_are views.no_messages = tt
    blocks_are (views.message t views.no_expressions ms) = tt
    blocks_are (views.message t (views.expression e views.no_expressions) views.no_messages) = block_is e
    blocks_are (views.message t (views.expression e views.no_expressions) (views.message t' fs ms)) = tt
    blocks_are (views.message t (views.expression e (views.expression f views.no_expressions)) views.no_messages) = (block_is e, block_is f)
    blocks_are (views.message t (views.expression e (views.expression f views.no_expressions)) (views.message t' fs ms)) = tt
    blocks_are (views.message t (views.expression e (views.expression f (views.expression g es))) ms) = tt

    first_are : (ms : MessagesView) → FirstAre ms
    first_are views.no_messages = tt
    first_are (views.message t es ms) = nodes_are es

    pub statements_are : (ss : StatementsView) → BodyIs ss
    statements_are views.no_statements f s next other acc u h ready = nothing_back next other s acc
    statements_are (views.statement true e ss) f s next other acc u h ready =
        let x = expression_node e (ctx s next) acc in
        returned_back x (names_in e) next (is_plain e) (ctx' s other) acc ready.fits
        (expression_is e f s next other acc u (or_none (expression_fault names e f) (statements_fault names ss f) h).0 ready)
    statements_are (views.statement false e views.no_statements) f s next other acc u h ready =
        let x = expression_node e (ctx s next) acc in
        last_back x (names_in e) next (is_plain e) (ctx' s other) acc ready.fits
        (expression_is e f s next other acc u (or_none (expression_fault names e f) None h).0
        (record { there = first_next name_of names literals (names_in e) 0 next other ready.there; fits = omega (arith, ready.fits); more = ready.more }))
    statements_are (views.statement false e (views.statement r e' ss)) f s next other acc u h ready =
        let rest = views.statement r e' ss in
        let na = names_in e in
        let nb = names_in_statements rest in
        let x = expression_node e (ctx s next) acc in
        let b = statements_body rest (ctx s (next + na)) x.literals in
        let hs = or_none (expression_fault names e f) (statements_fault names rest f) h in
        let more_x : Extends x.literals literals = extends_on x.literals b.literals literals ((statements_grow rest (ctx s (next + na))).by x.literals) ready.more in
        next_back x b na nb next other (is_plain e) s acc ready.fits (some_body r e' ss (ctx s (next + na)) x.literals)
        (expression_is e f s next other acc u hs.0 (record { there = first_next name_of names literals na nb next other ready.there; fits = omega (arith, ready.fits); more = more_x }))
        (statements_are (views.statement r e' ss) f s (next + na) (other + na) x.literals u hs.1 (record { there = second_next name_of names literals na na nb next other refl ready.there; fits = omega (arith, ready.fits); more = ready.more }))

    nodes_are : (es : ExpressionsView) → NodesAre es
    nodes_are views.no_expressions f s next other acc u h ready =
        record { same = record { code = refl; level = λ l. refl; count = refl }; ends = refl; counted = refl; blocks = refl; long = tt; lowest = refl }
    nodes_are (views.expression e es) f s next other acc u h ready =
        let na = names_in e in
        let nb = names_in_all es in
        let x = expression_node e (ctx s next) acc in
        let ns = all_nodes (nodes_of es (ctx s (next + na))) x.literals in
        let hs = or_none (expression_fault names e f) (expressions_fault names es f) h in
        let more_x : Extends x.literals literals = extends_on x.literals ns.literals literals ((grows_all (nodes_of es (ctx s (next + na))) (nodes_grow es (ctx s (next + na)))).by x.literals) ready.more in
        node_back e es x ns na nb next other s acc ready.fits
        (expression_is e f s next other acc u hs.0 (record { there = first_next name_of names literals na nb next other ready.there; fits = omega (arith, ready.fits); more = more_x }))
        (nodes_are es f s (next + na) (other + na) x.literals u hs.1 (record { there = second_next name_of names literals na na nb next other refl ready.there; fits = omega (arith, ready.fits); more = ready.more }))

    messages_are : (above : Bool) (ms : MessagesView) → MessagesAre above ms
    messages_are above views.no_messages f s next other acc u h ready =
        record { same = record { code = λ a. refl; level = λ l. refl }; ends = refl; counted = refl; lowest = λ l. refl }
    messages_are above (views.message t es views.no_messages) f s next other acc u h ready =
        let ns = all_nodes (nodes_of es (ctx s next)) acc in
        let more_ns : Extends ns.literals literals = extends_on ns.literals (sending above t ns.literals).literals literals ((grows_sending above t).by ns.literals) ready.more in
        only_back above t es ns (names_in_all es) next other s acc
        (nodes_are es f s next other acc u (or_none (expressions_fault names es f) None h).0
        (record { there = first_next name_of names literals (names_in_all es) 0 next other ready.there; fits = omega (arith, ready.fits); more = more_ns }))
    messages_are above (views.message t es (views.message t' fs ms)) f s next other acc u h ready =
        let others = views.message t' fs ms in
        let na = names_in_all es in
        let nb = names_in_messages others in
        let ns = all_nodes (nodes_of es (ctx s next)) acc in
        let q = sending above t ns.literals in
        let later : Naming Messages = cascade_nodes above (messages_of others (ctx s (next + na))) in
        let hs = or_none (expressions_fault names es f) (messages_fault names others f) h in
        let g = messages_grow others (ctx s (next + na)) in
        let more_q : Extends q.literals literals =
        extends_on q.literals (later q.literals).literals literals ((grows_messages above (record { selector = t'; arguments = nodes_of fs (ctx s (next + na)); all_blocks = all_plain fs }) (messages_of ms (behind (ctx s (next + na)) (names_in_all fs))) g.0 g.1).by q.literals) ready.more in
        let more_ns : Extends ns.literals literals = extends_on ns.literals q.literals literals ((grows_sending above t).by ns.literals) more_q in
        also_back above t es ns later na nb next other s acc ready.fits
        (nodes_are es f s next other acc u hs.0 (record { there = first_next name_of names literals na nb next other ready.there; fits = omega (arith, ready.fits); more = more_ns }))
        (messages_are above (views.message t' fs ms) f s (next + na) (other + na) q.literals u hs.1 (record { there = second_next name_of names literals na na nb next other refl ready.there; fits = omega (arith, ready.fits); more = ready.more }))
