-- Sends have their code again, given that their parts have.
use Rattle.std.proofs.Common.{◌≡◌, ℕ, zero, suc, ◌+◌, ◌≤◌, min, Bool, true, false, ◌&&◌, List, inl, inr, refl, sym, ap, ap₂, ◌∙◌, subst, arith}
use Rattle.std.proofs.lemmas.Slice.Eq.{bytes_eq-Decides}
use Rattle.std.specs.Prelude.{codes, bytes_eq}
use Rattle.st_scan.specs.Views.{NameView, ExpressionView, ExpressionsView, StatementsView, MessagesView, is_super, no_statements, statement}
use Rattle.st_scan.specs.Views as views
use Rattle.st_emit.specs.declared.instruction.Constant.TheVariants.{Receiver}
use Rattle.st_emit.specs.declared.instruction.InstructionOperand.{InstructionOperand}
use Rattle.st_emit.specs.declared.form.OneSided.{OneSided}
use Rattle.st_emit.specs.declared.form.OneSided.TheVariants.{IfTrue, IfFalse, And, Or}
use Rattle.st_emit.specs.declared.form.TwoSided.TheVariants.{TrueFirst, FalseFirst}
use Rattle.st_emit.specs.declared.form.Loop.{Loop}
use Rattle.st_emit.specs.declared.form.Loop.TheVariants.{WhileTrue, WhileFalse}
use Rattle.st_emit.specs.declared.form.Form.{Form}
use Rattle.st_emit.specs.declared.form.Form.TheVariants.{Message as Plain, One, Two, Repeated}
use Rattle.st_emit.specs.Names.{NamesView, Scope, constant_named}
use Rattle.st_emit.specs.Literals.{LiteralView, Named, Naming}
use Rattle.st_emit.specs.Nodes.{Node, Body, constant, send, two_sided, Messages, only, also, Tail, with_tail}
use Rattle.st_emit.specs.Emitting.{leaves_on}
use Rattle.st_emit.specs.inside.Around.{cascade_nodes}
use Rattle.st_emit.specs.Resolving.{Context, behind, names_in, names_in_statements, names_in_messages, is_plain, constant_or, name_node, place_of_name, expression_node, statements_body, messages_of, form_named}
use Rattle.st_expression_stack.specs.Items.{no_arguments}
use Rattle.st_expression_stack.specs.Choosing.{received, plain_block, with_block, with_blocks, loop_selector}
use Rattle.st_decompile.specs.Back.{tree_of, messages_list, least, body_least}
use Rattle.st_decompile.specs.inside.Calling.{AreNames, least_in, IsNext}
use Rattle.st_decompile.proofs.Same.{Same, SameBody, SameMessages, same, same_on, same_send, same_sided, same_loop, same_turned}
use Rattle.st_decompile.proofs.Sends.{is_form, is_formed, single_plain, sided_send, true_send, false_send, loop_send, sided_named, loop_named}
use Rattle.st_decompile.proofs.Choices.{Side, choice_is}
use Rattle.st_decompile.proofs.Backs.{Back, BodyBack, MessagesBack, ReceiverBack, AsLong, at_next, again_at, body_back, messages_back, second_next, least_both}

-- PLAIN SENDS

abbrev pub sent_named : (above : Bool) → Named Node → Naming Messages → Named Node
sent_named above x ms = let y = ms x.literals in record { part = send above x.part y.part; literals = y.literals }

-- a send that is no form
abbrev pub IsPlainSend : ExpressionView → MessagesView → Type 0
IsPlainSend r (views.message s es views.no_messages) = is_form (is_super r) (is_plain r) s es ≡ false
IsPlainSend r ms = Unit {0}

abbrev pub plain_named : ExpressionView → MessagesView → Context → List LiteralView → Named Node
plain_named r ms c acc = sent_named (is_super r) (expression_node r c acc) (cascade_nodes (is_super r) (messages_of ms (behind c (names_in r))))

pub plain_send : (r : ExpressionView) (ms : MessagesView) (c : Context) (acc : List LiteralView) → IsPlainSend r ms → expression_node (views.send r ms) c acc ≡ plain_named r ms c acc
plain_send r views.no_messages c acc h = refl
plain_send r (views.message s es (views.message t fs ms)) c acc h = refl
plain_send r (views.message s es views.no_messages) c acc h =
    ap (λ (t : Naming Tail). let n = expression_node r c acc in let u = t n.literals in record { part = with_tail n.part u.part; literals = u.literals }) (single_plain (is_super r) (is_plain r) s es (behind c (names_in r)) h)

module _ (name_of : InstructionOperand → List ℕ) (names : NamesView) (literals : List LiteralView) (are : AreNames name_of names literals) where
  -- several messages are no form
  pub several : (r : ExpressionView) (s : List ℕ) (es : ExpressionsView) (ms : Messages) → IsPlainSend r (views.message s es (messages_list name_of ms))
  several r s es (only t ns) = tt
  several r s es (also t ns ms) = tt

  pub as_formed : (form : Form) (b : Bool) (es fs : ExpressionsView) → AsLong es fs → is_formed form b es ≡ is_formed form b fs
  as_formed Plain b es fs h = refl
  as_formed (One side) b views.no_expressions views.no_expressions h = refl
  as_formed (One side) b (views.expression e views.no_expressions) (views.expression f views.no_expressions) h = refl
  as_formed (One side) b (views.expression e (views.expression e2 es)) (views.expression f (views.expression f2 fs)) h = refl
  as_formed (Two side) b views.no_expressions views.no_expressions h = refl
  as_formed (Two side) b (views.expression e views.no_expressions) (views.expression f views.no_expressions) h = refl
  as_formed (Two side) b (views.expression e (views.expression e2 views.no_expressions)) (views.expression f (views.expression f2 views.no_expressions)) h = refl
  as_formed (Two side) b (views.expression e (views.expression e2 (views.expression e3 es))) (views.expression f (views.expression f2 (views.expression f3 fs))) h = refl
  as_formed (Repeated kind) false es fs h = refl
  as_formed (Repeated kind) true views.no_expressions views.no_expressions h = refl
  as_formed (Repeated kind) true (views.expression e views.no_expressions) (views.expression f views.no_expressions) h = refl
  as_formed (Repeated kind) true (views.expression e (views.expression e2 es)) (views.expression f (views.expression f2 fs)) h = refl
  as_formed form b es fs h = absurd h

  pub and_false : (b : Bool) → (b && false) ≡ false
  and_false true = refl
  and_false false = refl

  -- RECEIVERS

  module _ (s : Scope) (next other : ℕ) (acc : List LiteralView) where
    abbrev c : Context
    c = at_next name_of names literals s next

    abbrev c' : Context
    c' = again_at name_of names literals s other

    to_class : (r : ExpressionView) (count : ℕ) (plain : Bool) → Back name_of names literals (expression_node r c acc) count next plain c' acc → ReceiverBack name_of names literals (expression_node r c acc) count next plain false c' acc
    to_class r count plain b = record { same = b.same; ends = b.ends; counted = b.counted; block = b.block; super = b.no_super; lowest = b.lowest }

    super_named : Named Node
    super_named = record { part = constant Receiver; literals = acc }

    pub receiver_back : (r : ExpressionView) → Back name_of names literals (expression_node r c acc) (names_in r) next (is_plain r) c' acc → ReceiverBack name_of names literals (expression_node r c acc) (names_in r) next (is_plain r) (is_super r) c' acc
    unfolding super_named
    receiver_back (views.variable n) b = by_test (bytes_eq n.text (codes "super")) refl
      where
        by_test : (t : Bool) → bytes_eq n.text (codes "super") ≡ t → ReceiverBack name_of names literals (name_node c n acc) 0 next false t c' acc
        by_test false e = to_class (views.variable n) 0 false b
        by_test true e =
            let text : n.text ≡ codes "super" = (bytes_eq-Decides n.text (codes "super")).0 e in
            let is : name_node c n acc ≡ record { part = constant Receiver; literals = acc } = ap (λ (x : List ℕ). constant_or (constant_named x) (place_of_name c n) acc) text in
            subst (λ (w : Named Node). ReceiverBack name_of names literals w 0 next false true c' acc) (sym is)
            (record { same = same (constant Receiver); ends = refl; counted = refl; block = refl; super = refl; lowest = refl })
    receiver_back (views.literal e) b = to_class (views.literal e) 0 false b
    receiver_back (views.block ns body) b = to_class (views.block ns body) (names_in (views.block ns body)) (is_plain (views.block ns body)) b
    receiver_back (views.assign t e) b = to_class (views.assign t e) (names_in e) false b
    receiver_back (views.send r ms) b = to_class (views.send r ms) (names_in (views.send r ms)) false b

    module _ (r : ExpressionView) where
      abbrev receiver : Named Node
      receiver = expression_node r c acc

      abbrev behind_r : Context
      behind_r = at_next name_of names literals s (next + names_in r)

      abbrev behind_r' : Context
      behind_r' = again_at name_of names literals s (other + names_in r)

      -- PLAIN SENDS

      abbrev tree_r : ExpressionView
      tree_r = received (is_super r) (tree_of name_of receiver.part)

      module _ (ms : MessagesView) where
        abbrev messages : Named Messages
        messages = cascade_nodes (is_super r) (messages_of ms behind_r) receiver.literals

        pub plain_back : next + (names_in r + names_in_messages ms) ≤ 64 → IsPlainSend r ms → IsPlainSend tree_r (messages_back name_of names literals messages.part)
            → ReceiverBack name_of names literals receiver (names_in r) next (is_plain r) (is_super r) c' acc
            → MessagesBack name_of names literals (is_super r) messages (names_in_messages ms) (next + names_in r) behind_r' receiver.literals
            → Back name_of names literals (expression_node (views.send r ms) c acc) (names_in r + names_in_messages ms) next false c' acc
        plain_back fits plain plain' x m =
            let ms' = messages_back name_of names literals messages.part in
            let now_r = expression_node tree_r c' acc in
            let cascade : Bool → ℕ → Naming Messages = λ above k. cascade_nodes above (messages_of ms' (again_at name_of names literals s (other + k))) in
            let now : expression_node (views.send tree_r ms') c' acc ≡ sent_named (is_super r) now_r (cascade (is_super r) (names_in r)) =
            plain_send tree_r ms' c' acc plain'
            ∙ ap (λ (above : Bool). sent_named above now_r (cascade above (names_in tree_r))) x.super
            ∙ ap (λ (k : ℕ). sent_named (is_super r) now_r (cascade (is_super r) k)) x.counted in
            let y = cascade (is_super r) (names_in r) now_r.literals in
            let same_y : SameMessages y.part messages.part = subst (λ (ls : List LiteralView). SameMessages (cascade (is_super r) (names_in r) ls).part messages.part) (sym x.ends) m.same in
            let ends_y : y.literals ≡ messages.literals = ap (λ (ls : List LiteralView). (cascade (is_super r) (names_in r) ls).literals) x.ends ∙ m.ends in
            subst (λ (w : Named Node). Back name_of names literals w (names_in r + names_in_messages ms) next false c' acc) (sym (plain_send r ms c acc plain))
            (record {
              same = subst (λ (n : Named Node). Same n.part (send (is_super r) receiver.part messages.part)) (sym now) (same_send (is_super r) now_r.part receiver.part y.part messages.part x.same same_y);
              ends = ap (λ (n : Named Node). n.literals) now ∙ ends_y;
              counted = omega (arith, x.counted, m.counted);
              block = refl;
              no_super = refl;
              lowest = m.lowest (least receiver.part) ∙ ap (λ (k : ℕ). min k (least_in (names_in_messages ms) (next + names_in r))) x.lowest ∙ least_both name_of names literals (names_in r) (names_in_messages ms) next fits;
            })

      -- FORMS WITH ONE BLOCK

      abbrev body_at : StatementsView → Named Body
      body_at a = statements_body a behind_r receiver.literals

      abbrev tree_x : ExpressionView
      tree_x = tree_of name_of receiver.part

      module _ (side : OneSided) (a : StatementsView) where
        abbrev sided_was : Named Node
        sided_was = sided_named side receiver (statements_body a behind_r)

        -- read as the form with another selector
        sided_by : (t : List ℕ) → form_named t ≡ One side → tree_of name_of sided_was.part ≡ with_block tree_x t (body_back name_of names literals (body_at a).part)
            → least sided_was.part ≡ min (least receiver.part) (min (body_least (body_at a).part no_arguments) no_arguments)
            → next + (names_in r + names_in_statements a) ≤ 64 → Back name_of names literals receiver (names_in r) next (is_plain r) c' acc
            → BodyBack name_of names literals (body_at a) (names_in_statements a) (next + names_in r) behind_r' receiver.literals
            → Back name_of names literals sided_was (names_in r + names_in_statements a) next false c' acc
        sided_by t form shape low fits x b =
            let a' = body_back name_of names literals (body_at a).part in
            let now_r = expression_node tree_x c' acc in
            let now : expression_node (tree_of name_of sided_was.part) c' acc ≡ sided_named side now_r (statements_body a' behind_r') =
            ap (λ (e : ExpressionView). expression_node e c' acc) shape
            ∙ sided_send tree_x t c' acc x.no_super side a' form
            ∙ ap (λ (k : ℕ). sided_named side now_r (statements_body a' (again_at name_of names literals s (other + k)))) x.counted in
            let y = statements_body a' behind_r' now_r.literals in
            let same_y : SameBody y.part (body_at a).part = subst (λ (ls : List LiteralView). SameBody (statements_body a' behind_r' ls).part (body_at a).part) (sym x.ends) b.same in
            let ends_y : y.literals ≡ (body_at a).literals = ap (λ (ls : List LiteralView). (statements_body a' behind_r' ls).literals) x.ends ∙ b.ends in
            let top : min (least_in (names_in_statements a) (next + names_in r)) 64 ≡ least_in (names_in_statements a) (next + names_in r) = top_least (names_in_statements a) (next + names_in r) (omega (arith, fits)) in
            record {
              same = subst (λ (n : Named Node). Same n.part sided_was.part) (sym now) (same_sided side now_r.part receiver.part y.part (body_at a).part x.same same_y);
              ends = ap (λ (n : Named Node). n.literals) now ∙ ends_y;
              counted = ap (λ (e : ExpressionView). names_in e) shape ∙ omega (arith, x.counted, b.counted);
              block = ap (λ (e : ExpressionView). is_plain e) shape;
              no_super = ap (λ (e : ExpressionView). is_super e) shape;
              lowest = low ∙ ap₂ (λ (i j : ℕ). min i (min j 64)) x.lowest b.lowest ∙ ap (λ (k : ℕ). min (least_in (names_in r) next) k) top ∙ least_both name_of names literals (names_in r) (names_in_statements a) next fits;
            }
          where
            top_least : (n k : ℕ) → k + n ≤ 64 → min (least_in n k) 64 ≡ least_in n k
            top_least zero k h = refl
            top_least (suc n) k h = omega (arith, h)

      pub sided_back : (side : OneSided) (a : StatementsView) (t : List ℕ) → form_named t ≡ One side → is_super r ≡ false
          → next + (names_in r + names_in_statements a) ≤ 64 → Back name_of names literals receiver (names_in r) next (is_plain r) c' acc
          → BodyBack name_of names literals (body_at a) (names_in_statements a) (next + names_in r) behind_r' receiver.literals
          → Back name_of names literals (expression_node (with_block r t a) c acc) (names_in r + names_in_statements a) next false c' acc
      sided_back side a t form plain fits x b =
          subst (λ (w : Named Node). Back name_of names literals w (names_in r + names_in_statements a) next false c' acc) (sym (sided_send r t c acc plain side a form)) (by_side side)
        where
          by_side : (side : OneSided) → Back name_of names literals (sided_was side a) (names_in r + names_in_statements a) next false c' acc
          by_side IfTrue = sided_by IfTrue a (codes "ifTrue:") refl refl refl fits x b
          by_side IfFalse = sided_by IfFalse a (codes "ifFalse:") refl refl refl fits x b
          by_side And = sided_by And a (codes "and:") refl refl refl fits x b
          by_side Or = sided_by Or a (codes "or:") refl refl refl fits x b

      -- FORMS WITH TWO BLOCKS

      abbrev places_at : ℕ → Context
      places_at m = again_at name_of names literals s m

      names_at : (m n : ℕ) → behind (places_at m) n ≡ places_at (m + n)
      names_at m n = refl

      side_of : (b : Named Body) (ls : List LiteralView) (count k : ℕ) → k + count ≤ 64 → ((m : ℕ) → IsNext count k m → BodyBack name_of names literals b count k (places_at m) ls)
          → Side places_at names_at (body_back name_of names literals b.part) (body_least b.part no_arguments) b ls count k
      side_of b ls count k fits h =
          record { same = λ m i. (h m i).same; ends = λ m i. (h m i).ends; counted = (h k (inr refl)).counted; lowest = (h k (inr refl)).lowest; fits = fits }

      module _ (a b : StatementsView) (t : List ℕ) (plain : is_super r ≡ false) (x : Back name_of names literals receiver (names_in r) next (is_plain r) c' acc)
          (there : IsNext (names_in r + (names_in_statements a + names_in_statements b)) next other) (fits : next + (names_in r + (names_in_statements a + names_in_statements b)) ≤ 64) where
        abbrev na : ℕ
        na = names_in_statements a

        abbrev nb : ℕ
        nb = names_in_statements b

        abbrev kb : ℕ
        kb = next + names_in r + names_in (plain_block a)

        abbrev behind_a : Context
        behind_a = at_next name_of names literals s kb

        there_both : IsNext (na + nb) (next + names_in r) (other + names_in tree_x)
        there_both = second_next name_of names literals (names_in r) (names_in tree_x) (na + nb) next other x.counted there

        low_both : (i j : ℕ) → i ≡ least_in na (next + names_in r) → j ≡ least_in nb kb → min (least receiver.part) (min i j) ≡ least_in (names_in r + (na + nb)) next
        low_both i j h k =
            let more : kb ≡ next + names_in r + na = omega arith in
            ap₂ (λ (u v : ℕ). min u v) x.lowest (ap₂ (λ (u v : ℕ). min u v) h (k ∙ ap (least_in nb) more))
            ∙ ap (min (least_in (names_in r) next)) (least_both name_of names literals na nb (next + names_in r) (omega (arith, fits)))
            ∙ least_both name_of names literals (names_in r) (na + nb) next fits

        abbrev a_first : Named Body
        a_first = body_at a

        abbrev b_then : Named Body
        b_then = statements_body b behind_a a_first.literals

        pub true_back : form_named t ≡ Two TrueFirst
            → ((m : ℕ) → IsNext na (next + names_in r) m → BodyBack name_of names literals a_first na (next + names_in r) (places_at m) receiver.literals)
            → ((m : ℕ) → IsNext nb kb m → BodyBack name_of names literals b_then nb kb (places_at m) a_first.literals)
            → Back name_of names literals (expression_node (with_blocks r t a b) c acc) (names_in r + (na + nb)) next false c' acc
        true_back form ha hb =
            let first = side_of a_first receiver.literals na (next + names_in r) (omega (arith, fits)) ha in
            let second = side_of b_then a_first.literals nb kb (omega (arith, fits)) hb in
            let chosen = choice_is places_at names_at tree_x other acc receiver x.no_super x.same x.ends (body_back name_of names literals a_first.part) (body_least a_first.part no_arguments) a_first na (next + names_in r) first
            (body_back name_of names literals b_then.part) (body_least b_then.part no_arguments) b_then nb kb second (next + names_in r) there_both (inl (refl, omega arith)) in
            subst (λ (w : Named Node). Back name_of names literals w (names_in r + (na + nb)) next false c' acc) (sym (true_send r t c acc plain a b form))
            (record {
              same = chosen.same;
              ends = chosen.ends;
              counted = omega (arith, chosen.counted, x.counted);
              block = chosen.block;
              no_super = chosen.no_super;
              lowest = low_both (body_least a_first.part no_arguments) (body_least b_then.part no_arguments) first.lowest second.lowest;
            })

        abbrev b_first : Named Body
        b_first = statements_body b behind_a receiver.literals

        abbrev a_then : Named Body
        a_then = statements_body a behind_r b_first.literals

        pub false_back : form_named t ≡ Two FalseFirst
            → ((m : ℕ) → IsNext nb kb m → BodyBack name_of names literals b_first nb kb (places_at m) receiver.literals)
            → ((m : ℕ) → IsNext na (next + names_in r) m → BodyBack name_of names literals a_then na (next + names_in r) (places_at m) b_first.literals)
            → Back name_of names literals (expression_node (with_blocks r t a b) c acc) (names_in r + (na + nb)) next false c' acc
        false_back form hb ha =
            let first = side_of b_first receiver.literals nb kb (omega (arith, fits)) hb in
            let second = side_of a_then b_first.literals na (next + names_in r) (omega (arith, fits)) ha in
            let there' = turned there_both in
            let chosen = choice_is places_at names_at tree_x other acc receiver x.no_super x.same x.ends (body_back name_of names literals b_first.part) (body_least b_first.part no_arguments) b_first nb kb first
            (body_back name_of names literals a_then.part) (body_least a_then.part no_arguments) a_then na (next + names_in r) second (next + names_in r) there' (inr (refl, omega arith)) in
            let low = low_both (body_least a_then.part no_arguments) (body_least b_first.part no_arguments) second.lowest first.lowest in
            subst (λ (w : Named Node). Back name_of names literals w (names_in r + (na + nb)) next false c' acc) (sym (false_send r t c acc plain a b form))
            (record {
              same = same_on _ (two_sided TrueFirst receiver.part b_first.part a_then.part) _ chosen.same (same_turned receiver.part a_then.part b_first.part);
              ends = chosen.ends;
              counted = omega (arith, chosen.counted, x.counted);
              block = chosen.block;
              no_super = chosen.no_super;
              lowest = omega (arith, low);
            })
          where
            turned : IsNext (na + nb) (next + names_in r) (other + names_in tree_x) → IsNext (nb + na) (next + names_in r) (other + names_in tree_x)
            turned (inl e) = inl (omega (arith, e))
            turned (inr e) = inr e

    -- LOOPS

    module _ (x a : StatementsView) (t : List ℕ) (fits : next + (names_in (plain_block x) + names_in_statements a) ≤ 64) where
      abbrev condition : Named Body
      condition = statements_body x c acc

      abbrev turn : Named Body
      turn = statements_body a (at_next name_of names literals s (next + names_in (plain_block x))) condition.literals

      abbrev loop_was : Loop → Named Node
      loop_was kind = loop_named kind condition (statements_body a (at_next name_of names literals s (next + names_in (plain_block x))))

      module _ (bx : BodyBack name_of names literals condition (names_in_statements x) next c' acc)
          (ba : BodyBack name_of names literals turn (names_in_statements a) (next + names_in (plain_block x)) (again_at name_of names literals s (other + names_in (plain_block x))) condition.literals) where
        loop_by : (kind : Loop) → form_named (loop_selector (leaves_on kind)) ≡ Repeated kind → Back name_of names literals (loop_was kind) (names_in (plain_block x) + names_in_statements a) next false c' acc
        loop_by kind form =
            let x' = body_back name_of names literals condition.part in
            let a' = body_back name_of names literals turn.part in
            let now_x = statements_body x' c' acc in
            let same_names : names_in (plain_block x') ≡ names_in (plain_block x) = omega (arith, bx.counted) in
            let at_a = again_at name_of names literals s (other + names_in (plain_block x)) in
            let now : expression_node (tree_of name_of (loop_was kind).part) c' acc ≡ loop_named kind now_x (statements_body a' at_a) =
            loop_send x' (loop_selector (leaves_on kind)) c' acc kind a' form
            ∙ ap (λ (k : ℕ). loop_named kind now_x (statements_body a' (again_at name_of names literals s (other + k)))) same_names in
            let y = statements_body a' at_a now_x.literals in
            let same_y : SameBody y.part turn.part = subst (λ (ls : List LiteralView). SameBody (statements_body a' at_a ls).part turn.part) (sym bx.ends) ba.same in
            let ends_y : y.literals ≡ turn.literals = ap (λ (ls : List LiteralView). (statements_body a' at_a ls).literals) bx.ends ∙ ba.ends in
            let none : names_in_statements x ≡ names_in (plain_block x) = omega arith in
            record {
              same = subst (λ (n : Named Node). Same n.part (loop_was kind).part) (sym now) (same_loop kind now_x.part condition.part y.part turn.part bx.same same_y);
              ends = ap (λ (n : Named Node). n.literals) now ∙ ends_y;
              counted = omega (arith, bx.counted, ba.counted);
              block = refl;
              no_super = refl;
              lowest = ap₂ (λ (i j : ℕ). min i j) (bx.lowest ∙ ap (λ (k : ℕ). least_in k next) none) ba.lowest ∙ least_both name_of names literals (names_in (plain_block x)) (names_in_statements a) next fits;
            }

        pub loop_back : (kind : Loop) → form_named t ≡ Repeated kind → Back name_of names literals (expression_node (with_block (plain_block x) t a) c acc) (names_in (plain_block x) + names_in_statements a) next false c' acc
        loop_back kind form =
            subst (λ (w : Named Node). Back name_of names literals w (names_in (plain_block x) + names_in_statements a) next false c' acc) (sym (loop_send x t c acc kind a form)) (by_kind kind)
          where
            by_kind : (kind : Loop) → Back name_of names literals (loop_was kind) (names_in (plain_block x) + names_in_statements a) next false c' acc
            by_kind WhileTrue = loop_by WhileTrue refl
            by_kind WhileFalse = loop_by WhileFalse refl
