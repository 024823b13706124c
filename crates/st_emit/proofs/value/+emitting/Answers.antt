use Rattle.std.proofs.Common.{◌≡◌, ℕ, ◌+◌, Bool, true, false, List, IfOk, OnOk, length, take, Some, refl, sym, ap, ◌∙◌, subst, arith, add-one}
use Rattle.std.proofs.lemmas.Result.{on_ok_weaker}
use Rattle.st_scan.specs.Views.{ExpressionView, MessagesView, StatementsView, names_view, expression_view, expressions_view, messages_view, statements_view, message, statement, block, no_messages, is_super}
use Rattle.st_scan.specs.inside.Chains.{LinkView, sent, linked, link_view, links_view, with_link}
use Rattle.st_scan.proofs.Chains.{linked_take, link_within, chain_within}
use Rattle.st_scan.proofs.Views.{expression_view-block}
use Rattle.st_emit.specs.declared.instruction.Instruction.TheVariants.{Pop, Duplicate}
use Rattle.st_emit.specs.declared.draft.Draft.{Draft}
use Rattle.st_emit.specs.inside.Views.{literals_view}
use Rattle.st_emit.specs.Depths.{pushed, popped}
use Rattle.st_emit.specs.Emitting.{block_end}
use Rattle.st_emit.specs.Resolving.{Context, behind, inside, names_in, names_in_all, names_in_messages, names_in_statements}
use Rattle.st_emit.specs.inside.Shapes.{repetition_view, side_view, first_repetition, repetition_of, returning}
use Rattle.st_emit.specs.inside.NameViews.{scope_view}
use Rattle.st_emit.specs.Nodes.{is_above}
use Rattle.st_emit.specs.inside.Drafts.{Adds, Goes, step_part}
use Rattle.st_emit.specs.inside.Around.{context, at_number, values_part, send_part, message_part, cascade_part, body_part, effect_part, value_part, shape_part, link_part, loop_part, side_part, block_body_part, arguments_part}
use Rattle.st_emit.proofs.Adding.{then_part, adds_same, adds_then, goes_on}
use Rattle.st_emit.proofs.Counts.{names_in-block}
use Rattle.st_emit.proofs.Follow.{link_behind, names_behind, begins_loop, shape_same, super_at, no_loop_at}
use Rattle.st_emit.proofs.Forms.{message_same, message_before, cascade_turn, body_turn, choice_done, loop_done, loop_with, block_done, block_body_adds, adds_nothing, inside_is, names_many}
use Rattle.st_emit.proofs.value.+emitting.Goals as goal
use Rattle.st_emit.proofs.value.+emitting.Goals.{block_body-then-not-returning+in_ok-put, block_body-else-not-returning}

pub message-returns-clause-added : goal.message-returns-clause-added
message-returns-clause-added t c =
    let around = context c.args.around in
    let es = expressions_view c.args.m.now.arguments.items in
    let selector = c.args.m.now.selector.items in
    let first = subst (λ (xs : List _). Adds (values_part around (expressions_view xs)) c.args.draft.now c.values.new.draft) c.deref.ensures.value c.in_ok-next.ensures.added in
    let second = subst (λ (text : List ℕ). Adds (send_part (is_above c.args.lookup) text c.len.result) c.values.new.draft c.send.new.draft) c.deref-2.ensures.value c.in_ok-send.ensures in
    adds_same (then_part (values_part around es) (send_part (is_above c.args.lookup) selector c.len.result)) (message_part (is_above c.args.lookup) around selector es) c.args.draft.now c.send.new.draft
    (message_same (is_above c.args.lookup) around selector c.args.m.now.arguments.items c.len.result (literals_view c.args.draft.now.literals.items) (c.len.ensures ∙ c.args.m.now.arguments.ok.0))
    (adds_then (values_part around es) (send_part (is_above c.args.lookup) selector c.len.result) c.args.draft.now c.values.new.draft c.send.new.draft first second)

pub cascade-loop-m-preserved : goal.cascade-loop-m-preserved
cascade-loop-m-preserved t c =
    let around = context (at_number c.loop-m.next c.args.around) in
    let es = expressions_view c.in-Some.m.now.arguments.items in
    let selector = c.in-Some.m.now.selector.items in
    let others = c.in-Some.others.now in
    let whole = cascade_part (is_above c.args.lookup) (context c.args.around) (messages_view c.args.messages.now) in
    let kept = c.loop-m.invariant in
    let found = c.in-Some.ensures in
    let rest = subst (λ (ms : MessagesView). Goes (cascade_part (is_above c.args.lookup) around ms) c.loop-m.draft whole c.args.draft.now) found.view kept.added in
    let duplicate = step_part Duplicate pushed in
    let one = message_part (is_above c.args.lookup) around selector es in
    let pop = step_part Pop (popped 1) in
    let both : Adds (then_part duplicate one) c.loop-m.draft c.message.new.draft = adds_then duplicate one c.loop-m.draft c.put_push.new.self c.message.new.draft c.in_ok-put_push.ensures.added c.in_ok-next.ensures.added in
    let three : Adds (message_before (is_above c.args.lookup) around selector es) c.loop-m.draft c.put_pop.new.self = adds_then (then_part duplicate one) pop c.loop-m.draft c.message.new.draft c.put_pop.new.self both c.in_ok-put_pop.ensures.added in
    let turned = goes_on (message_before (is_above c.args.lookup) around selector es) (cascade_part (is_above c.args.lookup) around (message selector es (messages_view others))) (cascade_part (is_above c.args.lookup) (behind around (names_in_all es)) (messages_view others)) whole c.args.draft.now c.loop-m.draft c.put_pop.new.self rest three
    (cascade_turn (is_above c.args.lookup) around selector es others (literals_view c.loop-m.draft.literals.items) found.end) in
    let names = ap names_in_messages found.view in
    record {
      added = subst (λ (n : ℕ). Goes (cascade_part (is_above c.args.lookup) (context (at_number n c.args.around)) (messages_view others)) c.put_pop.new.self whole c.args.draft.now) (sym c.in_ok-next.ensures.next) turned;
      next = omega (arith, names, c.in_ok-next.ensures.next, kept.next);
      within = omega (arith, found.others, kept.within);
      short = omega (arith, found.fewer, kept.short);
    }

pub leading-loop-first-preserved : goal.leading-loop-first-preserved
leading-loop-first-preserved t c =
    let around = context (at_number c.loop-first.next c.args.around) in
    let e = expression_view c.in-Some.first.now in
    let others = c.in-Some.others.now in
    let whole = body_part (context c.args.around) (statements_view c.args.statements.now) in
    let kept = c.loop-first.invariant in
    let found = c.in-Some.ensures in
    let rest = subst (λ (ss : StatementsView). Goes (body_part around ss) c.loop-first.draft whole c.args.draft.now) found.view kept.added in
    let turned = goes_on (effect_part around e) (body_part around (statement false e (statements_view others))) (body_part (behind around (names_in e)) (statements_view others)) whole c.args.draft.now c.loop-first.draft c.effect.new.draft rest c.in_ok-next.ensures.added
    (body_turn e others around (literals_view c.loop-first.draft.literals.items) found.end) in
    let names = ap names_in_statements found.view in
    record {
      added = subst (λ (n : ℕ). Goes (body_part (context (at_number n c.args.around)) (statements_view others)) c.effect.new.draft whole c.args.draft.now) (sym c.in_ok-next.ensures.next) turned;
      next = omega (arith, names, c.in_ok-next.ensures.next, kept.next);
      some = found.end;
      within = omega (arith, found.others, kept.within);
    }

pub choice-returns-clause-added : goal.choice-returns-clause-added
choice-returns-clause-added t c =
    let around = context c.args.around in
    let done = choice_done c.args.form.on (body_part around (statements_view c.args.form.first.now)) (side_part (record around { next = c.args.form.behind }) (side_view c.args.form.other))
    c.args.draft.now c.put_pop.new.self c.body.new.draft c.put.new.self (record c.put.new.self { level = c.beside-draft.result }) c.side.new.draft
    c.len-test.result c.len-over.result c.in_ok-inside.inside c.in_ok-size_from.field-0 c.in_ok-sum.field-0
    c.in_ok-put_pop.ensures.added c.in_ok-body.ensures.added c.in_ok-put.ensures.added refl refl c.beside-draft.ensures c.in_ok-next.ensures.added
    (c.len-test.ensures ∙ c.args.draft.now.steps.ok.0) (c.len-over.ensures ∙ c.body.new.draft.steps.ok.0) c.in_ok-inside.ensures c.in_ok-size_from.ensures
    (c.in_ok-sum.ensures ∙ ap (λ (k : ℕ). c.in_ok-inside.inside + k) c.size_of.ensures) in
    record { steps = done.0; literals = done.1; level = c.joined-draft.ensures ∙ done.2 }

pub looped-returns-clause-added : goal.looped-returns-clause-added
looped-returns-clause-added t c =
    let around = context c.args.around in
    let first = statements_view c.args.repetition.condition.now in
    let second = statements_view c.args.repetition.body.now in
    let next : c.in_ok-next.next ≡ c.args.around.next + names_in_statements first = c.in_ok-next.ensures.next in
    let two = subst (λ (n : ℕ). Adds (body_part (record around { next = n }) second) c.put_pop.new.self c.body-2.new.draft) next c.in_ok-next-2.ensures.added in
    let on = c.leaves_on-on.result in
    let done = loop_done on (body_part around first) (body_part (behind around (names_in_statements first)) second) c.args.draft.now c.body.new.draft c.put_pop.new.self c.body-2.new.draft c.put.new.self _ c.put-2.new.self
    (record c.put-2.new.self { level = c.beside-draft.result }) c.put_push.new.self c.len-begin.result c.len-test.result c.in_ok-inside.inside c.in_ok-sum.field-0 c.in_ok-passed.passed
    (c.len-begin.ensures ∙ c.args.draft.now.steps.ok.0) c.in_ok-next.ensures.added (c.len-test.ensures ∙ c.body.new.draft.steps.ok.0) c.in_ok-put_pop.ensures.added two
    c.in_ok-inside.ensures c.in_ok-put.ensures.added c.in_ok-sum.ensures refl refl refl
    (c.in_ok-passed.ensures ∙ ap (λ (k : ℕ). k + 2) c.in_ok-size_from.ensures) c.in_ok-put-2.ensures.added refl refl c.beside-draft.ensures c.in_ok-put_push.ensures.added in
    let added : Adds (λ ls. loop_with on (body_part around first) (body_part (behind around (names_in_statements first)) second) ls) c.args.draft.now c.put_push.new.self = record { steps = done.0; literals = done.1; level = done.2 } in
    subst (λ (b : Bool). Adds (λ ls. loop_with b (body_part around first) (body_part (behind around (names_in_statements first)) second) ls) c.args.draft.now c.put_push.new.self) c.leaves_on-on.ensures added

pub block_body-returns-clause-added : goal.block_body-returns-clause-added
block_body-returns-clause-added t c =
    let around = context c.args.around in
    let ns = names_view c.args.names.now in
    let ss = statements_view c.args.statements.now in
    let many = names_many c.args.names.now in
    let start : Draft = record c.args.draft.now { level = c.within-draft.result } in
    let inner = inside_is around ns _ (length c.args.names.now) c.in_ok-sum.field-0 (ap scope_view c.deref.ensures.value ∙ c.in_ok-scope.ensures) many c.in_ok-sum.ensures in
    let two = subst (λ (x : Context). Adds (body_part x ss) c.pop_arguments.new.draft c.body.new.draft) inner c.in_ok-next.ensures.added in
    let both : Adds (then_part (arguments_part around.next (length c.args.names.now)) (body_part (inside around ns) ss)) start c.body.new.draft =
    adds_then (arguments_part around.next (length c.args.names.now)) (body_part (inside around ns) ss) start c.pop_arguments.new.draft c.body.new.draft c.in_ok-pop_arguments.ensures two in
    let done = λ (returned : Bool) (end : Draft) (h : returned ≡ returning ss) (a : Adds (λ ls. record { steps = block_end returned; literals = ls; level = λ l. l }) c.body.new.draft end).
    block_body_adds around ns ss (length c.args.names.now) returned c.args.draft.now start c.body.new.draft end many h c.within-draft.ensures refl refl both a in
    elim c.if-not-returning.branch [
      | block_body-then-not-returning+in_ok-put w ↦
          subst (λ (d : Draft). Adds (block_body_part around ns ss) c.args.draft.now d) (sym w.draft-is) (done false w.put.new.self (sym w.if-not-returning.true ∙ c.returning.ensures) w.in_ok-put.ensures.added)
      | block_body-else-not-returning w ↦
          subst (λ (d : Draft). Adds (block_body_part around ns ss) c.args.draft.now d) (sym w.draft-is) (done true c.body.new.draft (sym w.if-not-returning.false ∙ c.returning.ensures) (adds_nothing c.body.new.draft))
    ]

pub block-returns-clause-added : goal.block-returns-clause-added
block-returns-clause-added t c =
    let done = block_done (context c.args.around) (names_view c.args.names.now) (statements_view c.args.statements.now) (length c.args.names.now)
    c.args.draft.now c.put_push.new.self c.number.new.draft c.put_pop.new.self c.put.new.self c.block_body.new.draft c.len-past.result c.in_ok-size_from.field-0
    (names_many c.args.names.now) c.in_ok-put_push.ensures.added c.in_ok-number.ensures c.in_ok-put_pop.ensures.added (c.len-past.ensures ∙ c.put_pop.new.self.steps.ok.0) c.in_ok-put.ensures.added c.in_ok-next.ensures.added c.in_ok-size_from.ensures in
    record { steps = done.0; literals = done.1; level = c.around_block-draft.ensures ∙ done.2 }

pub start-returns-in-Block-clause-added : goal.start-returns-in-Block-clause-added
start-returns-in-Block-clause-added t c =
    let names = ap (λ ns. block (names_view ns) (statements_view c.deref-in-Block.result.now)) c.deref.ensures.value ∙ ap (λ ss. block (names_view c.in-Block.names.items) (statements_view ss)) c.deref-in-Block.ensures.value in
    let view = names ∙ sym (expression_view-block c.in-Block.names c.in-Block.body) ∙ ap expression_view (sym c.in-Block.is) in
    subst (λ (x : ExpressionView). OnOk c.block.result (Adds (value_part (context c.args.around) x) c.args.draft.now c.block.new.draft)) view c.block.ensures.added

pub start-returns-in-Block-clause-next : goal.start-returns-in-Block-clause-next
start-returns-in-Block-clause-next t c =
    let names = names_in-block c.args.e.now c.in-Block.names c.in-Block.body c.in-Block.is in
    let same : c.args.around.next + (length c.deref.result.now + names_in_statements (statements_view c.deref-in-Block.result.now)) ≡ c.args.around.next + names_in (expression_view c.args.e.now) =
    ap (λ (ns : List _). c.args.around.next + (length ns + names_in_statements (statements_view c.deref-in-Block.result.now))) c.deref.ensures.value
    ∙ ap (λ (ss : List _). c.args.around.next + (length c.in-Block.names.items + names_in_statements (statements_view ss))) c.deref-in-Block.ensures.value
    ∙ ap (λ (k : ℕ). c.args.around.next + k) (sym names) in
    subst (λ (k : ℕ). IfOk c.block.result (λ n. n ≡ k)) same c.block.ensures.next

pub follow-linked-requires : goal.follow-linked-requires
follow-linked-requires t c = (omega (arith, link_within c.args.links.now c.loop-i.i c.index-links-i.result c.loop-i-test.true c.index-links-i.is), tt)

pub follow-loop-i-preserved : goal.follow-loop-i-preserved
follow-loop-i-preserved t c =
    let kept = c.loop-i.invariant in
    let around = context c.args.around in
    let links = c.args.links.now in
    let i = c.loop-i.i in
    let link = c.index-links-i.result in
    let start = expression_view c.args.first.now in
    let so_far = linked start (links_view (take i links)) in
    let above : is_above c.lookup_behind-lookup.result ≡ is_super so_far = c.lookup_behind-lookup.ensures ∙ super_at i start links (omega arith) in
    let at : c.loop-i.next ≡ around.next + names_in so_far = kept.next in
    let link_at = λ (b : Bool) (n : ℕ). Adds (link_part b (record around { next = n }) (link_view link)) c.loop-i.draft c.linked.new.draft in
    let one = subst (λ (b : Bool). link_at b (around.next + names_in so_far)) above (subst (λ (n : ℕ). link_at (is_above c.lookup_behind-lookup.result) n) at c.in_ok-next-2.ensures.added) in
    let two = adds_then (value_part around so_far) (link_part (is_super so_far) (behind around (names_in so_far)) (link_view link)) c.args.draft.now c.loop-i.draft c.linked.new.draft kept.added one in
    let no_loop = ap (λ l. repetition_of so_far (link_view l)) c.index-links-i.is ∙ no_loop_at i start links link c.loop-i-test.true (λ zero. c.in_ok-next.ensures.no_loop (omega arith)) in
    let three = adds_same _ (value_part around (with_link (link_view link) so_far)) c.args.draft.now c.linked.new.draft (link_behind (link_view link) so_far around (literals_view c.args.draft.now.literals.items) no_loop) two in
    let longer : with_link (link_view link) so_far ≡ linked start (links_view (take (i + 1) links)) =
    ap (λ l. with_link (link_view l) so_far) c.index-links-i.is ∙ sym (linked_take start links i link c.loop-i-test.true) ∙ ap (λ j. linked start (links_view (take j links))) (sym (add-one i)) in
    let named : c.in_ok-next-2.next ≡ around.next + names_in (with_link (link_view link) so_far) = omega (arith, names_behind (link_view link) so_far, at, c.in_ok-next-2.ensures.next) in
    record {
      added = subst (λ (x : ExpressionView). Adds (value_part around x) c.args.draft.now c.linked.new.draft) longer three;
      next = subst (λ (x : ExpressionView). c.in_ok-next-2.next ≡ around.next + names_in x) longer named;
    }

pub value-follow-requires : goal.value-follow-requires
value-follow-requires t c =
    (omega (arith, chain_within c.args.e.now c.in_ok-chain.chain c.deref.result.now c.in_ok-chain.ensures.within c.deref.ensures.value), c.in_ok-chain.ensures.start)

pub linked-returns-in-Some-clause-added : goal.linked-returns-in-Some-clause-added
linked-returns-in-Some-clause-added t c =
    let around = context c.args.around in
    let only = c.in-Some.ensures.view in
    let selector = c.in-Some.m.now.selector.items in
    let es = expressions_view c.in-Some.m.now.arguments.items in
    let same = shape_same selector es around (literals_view c.args.draft.now.literals.items) in
    let whole : LinkView → Bool → Type 0 = λ l b. Adds (link_part b around l) c.args.draft.now c.sent.new.draft in
    let weaken : Adds (shape_part around selector es) c.args.draft.now c.sent.new.draft → Adds (link_part (is_above c.args.lookup) around (link_view c.args.link)) c.args.draft.now c.sent.new.draft =
    λ a. subst (λ (l : LinkView). whole l (is_above c.args.lookup)) (ap sent (sym only.view) ∙ ap link_view (sym c.in-Send.is)) (subst (λ (b : Bool). whole (sent (message selector es no_messages)) b) (sym only.not_above) (adds_same (shape_part around selector es) (link_part false around (sent (message selector es no_messages))) c.args.draft.now c.sent.new.draft same a)) in
    on_ok_weaker c.sent.result weaken c.sent.ensures.added

pub beginning-returns-in_ok-next-in-Some-clause-added : goal.beginning-returns-in_ok-next-in-Some-clause-added
beginning-returns-in_ok-next-in-Some-clause-added t c =
    let around = context c.args.around in
    let start = expression_view c.args.first.now in
    let links = c.args.links.now in
    let found : first_repetition start (links_view links) ≡ Some (repetition_view c.in-Some.repetition) = sym c.in-Some.ensures.repetition in
    let begun = begins_loop start links (repetition_view c.in-Some.repetition) around (literals_view c.args.draft.now.literals.items) found in
    adds_same (loop_part around (repetition_view c.in-Some.repetition)) (value_part around (linked start (links_view (take 1 links)))) c.args.draft.now c.looped.new.draft begun.0.0 c.in_ok-next-in-Some.ensures.added
