use Rattle.std.proofs.Common.{◌≡◌, ℕ, ◌+◌, ◌<◌, ◌≤◌, ◌==◌, Bool, true, false, List, [], ◌∷◌, ◌++◌, IfOk, length, take, drop, Some, refl, sym, ap, ◌∙◌, subst, arith, add-one}
use Rattle.std.proofs.lemmas.Bool.Decides.{nat_tests}
use Rattle.std.proofs.lemmas.List.{at_drop_all, take_all}
use Rattle.st_scan.specs.declared.tree.Expression.{Expression}
use Rattle.st_scan.specs.declared.tree.Message.{Message as Sent}
use Rattle.st_scan.specs.declared.tree.Statement.{Statement}
use Rattle.st_scan.specs.declared.chain.Link.{Link}
use Rattle.st_scan.specs.Views.{ExpressionView, expression_view, expressions_view, messages_view, statements_view, is_super}
use Rattle.st_scan.specs.inside.Chains.{linked, link_view, links_view, with_link}
use Rattle.st_scan.proofs.Chains.{linked_take, link_within, chain_within}
use Rattle.st_emit.specs.Nodes.{sided, loop, node, nothing, returned, is_above}
use Rattle.st_emit.specs.Resolving.{by_selector, before, names_in, names_in_all, names_in_messages, names_in_statements, expression_node, plain_tail}
use Rattle.st_emit.specs.inside.Drafts.{Resolves}
use Rattle.st_emit.specs.inside.Around.{context, at_number, message_of, link_tail}
use Rattle.st_emit.specs.inside.Emits.{chained, after, after_all, after_statements}
use Rattle.st_emit.specs.inside.Shapes.{plain, one_sided, two_sided, repetition_view, repetition_of, first_repetition}
use Rattle.st_emit.proofs.Follow.{names_behind, super_at, no_loop_at}
use Rattle.st_meaning.specs.declared.arena.Statements.{Statements}
use Rattle.st_meaning.specs.declared.arena.Message.{Message}
use Rattle.st_meaning.specs.declared.arena.Act.{Act}
use Rattle.st_meaning.specs.declared.arena.Act.TheVariants.{Assign, Send, One}
use Rattle.st_meaning.specs.declared.arena.Start.TheVariants.{Loop}
use Rattle.st_meaning.specs.inside.Meant.{IsNode, IsStart, IsChain, IsAct, IsArguments, IsMessage, IsMessages, IsBehind, IsBody}
use Rattle.st_meaning.specs.inside.Sketches.{literals_of, Builds, node_naming, chain_naming, begun_naming, arguments_naming, message_naming, cascade_naming, messages_naming, sent_naming, link_naming, body_naming, two_naming, loop_naming}
use Rattle.st_meaning.proofs.Meant.{chain_none, arguments_none, arguments_one, messages_none, messages_one, behind_none, behind_before, behind_returned, behind_body, one_is, loop_is}
use Rattle.st_meaning.proofs.Shaped.{begins_loop}
use Rattle.st_meaning.proofs.Sketching.{GoesOn, goes_first, goes_turn, goes_done, goes_last, drop_item, builds_then, builds_as, builds_map, assign_built, builds_put, message_built, plain_built, shaped_built, two_built, true_first, false_first, empty_built, cascade_built, only_built, link_built, statement_kept, statement_returned, kept_names, last_names, ok_weaker}
use Rattle.st_meaning.proofs.sketch.+sketching.Goals as goal

-- ARGUMENTS

pub arguments-loop-e-init : goal.arguments-loop-e-init
arguments-loop-e-init t c =
    let whole = arguments_naming c.args.around c.args.es.now in
    record {
      goes = subst (λ (xs : List ℕ). GoesOn whole whole IsArguments xs c.args.sketch.now c.args.sketch.now) (sym c.new-places.ensures.items) (goes_first whole IsArguments c.args.sketch.now);
      next = refl;
    }

pub arguments-loop-e-preserved : goal.arguments-loop-e-preserved
arguments-loop-e-preserved t c =
    let kept = c.loop-e.invariant in
    let es = c.args.es.now in
    let around = at_number c.loop-e.next c.args.around in
    let e = c.e-item.result in
    let rest = drop (c.loop-e.e-index + 1) es in
    let here : drop c.loop-e.e-index es ≡ e ∷ rest = drop_item es c.loop-e.e-index e c.loop-e-test.true c.e-item.is in
    let turned = goes_turn (node_naming around e) (arguments_naming (at_number (after around e) c.args.around) rest) (λ x xs. node x xs) (arguments_naming around (drop c.loop-e.e-index es)) (arguments_naming c.args.around es)
    IsNode IsArguments c.loop-e.places.items c.push.new.self.items c.in_ok-place.place c.args.sketch.now c.loop-e.sketch c.value.new.sketch
    kept.goes (ap (λ (xs : List Expression). arguments_naming around xs) here) c.in_ok-place.ensures.built c.in_ok-push.ensures.items (λ ms x xs more h g. arguments_one c.in_ok-place.place more ms x xs h g) in
    record {
      goes = subst (λ (n : ℕ). GoesOn (arguments_naming (at_number n c.args.around) rest) (arguments_naming c.args.around es) IsArguments c.push.new.self.items c.args.sketch.now c.value.new.sketch) (sym c.in_ok-place.ensures.next) turned;
      next = omega (arith, ap (λ (xs : List Expression). names_in_all (expressions_view xs)) here, c.in_ok-place.ensures.next, kept.next);
    }

pub arguments-returns-clause-built : goal.arguments-returns-clause-built
arguments-returns-clause-built t c =
    let around = at_number c.loop-e.next c.args.around in
    let es = c.args.es.now in
    let all : length es ≤ c.loop-e.e-index = omega arith in
    goes_done _ (arguments_naming around (drop c.loop-e.e-index es)) (arguments_naming c.args.around es) IsArguments c.loop-e.places.items c.args.sketch.now c.loop-e.sketch
    c.loop-e.invariant.goes (at_drop_all (λ (xs : List Expression). arguments_naming around xs) es c.loop-e.e-index all) arguments_none

-- MESSAGES

pub message-returns-clause-built : goal.message-returns-clause-built
message-returns-clause-built t c =
    let above = is_above c.args.lookup in
    let m = c.args.m.now in
    let made : Message = record { selector = c.in_ok-selector.selector; arguments = c.in_ok-arguments.arguments } in
    let first = subst (λ (xs : List Expression). Builds (arguments_naming c.args.around xs) (IsArguments c.in_ok-arguments.arguments.items) c.args.sketch.now c.arguments.new.sketch) c.deref.ensures.value c.in_ok-arguments.ensures.built in
    let second = subst (λ (text : List ℕ). Resolves (by_selector above text) c.arguments.new.sketch.draft c.by_selector.new.draft c.in_ok-by_selector.field-0) c.deref-2.ensures.value c.in_ok-by_selector.ensures in
    let copied = c.in_ok-selector.ensures.items_if_clones_equal (λ x y h. h) in
    let text : c.in_ok-selector.selector.items ≡ m.selector.items = cc in
    message_built above c.args.around m made c.in_ok-by_selector.field-0 c.args.sketch.now c.arguments.new.sketch (record c.arguments.new.sketch { draft = c.by_selector.new.draft }) first second refl text

pub cascade-loop-m-init : goal.cascade-loop-m-init
cascade-loop-m-init t c =
    let whole = cascade_naming (is_above c.args.lookup) c.args.around c.args.messages.now in
    record {
      goes = subst (λ (xs : List Message). GoesOn whole whole (IsMessages (is_above c.args.lookup)) xs c.args.sketch.now c.args.sketch.now) (sym c.new-made.ensures.items) (goes_first whole (IsMessages (is_above c.args.lookup)) c.args.sketch.now);
      next = refl;
    }

pub cascade-loop-m-preserved : goal.cascade-loop-m-preserved
cascade-loop-m-preserved t c =
    let kept = c.loop-m.invariant in
    let above = is_above c.args.lookup in
    let list = c.args.messages.now in
    let around = at_number c.loop-m.next c.args.around in
    let m = c.m-item.result in
    let rest = drop (c.loop-m.m-index + 1) list in
    let here : drop c.loop-m.m-index list ≡ m ∷ rest = drop_item list c.loop-m.m-index m c.loop-m-test.true c.m-item.is in
    let turned = goes_turn (message_naming above around m) (cascade_naming above (at_number (after_all around m.arguments.items) c.args.around) rest) (λ p ps. p ∷ ps) (cascade_naming above around (drop c.loop-m.m-index list)) (cascade_naming above c.args.around list)
    (IsMessage above) (IsMessages above) c.loop-m.made.items c.push.new.self.items c.in_ok-one.one c.args.sketch.now c.loop-m.sketch c.message.new.sketch
    kept.goes (ap (λ (xs : List Sent). cascade_naming above around xs) here) c.in_ok-one.ensures.built c.in_ok-push.ensures.items (λ ms p ps more h g. messages_one above c.in_ok-one.one more ms p ps h g) in
    record {
      goes = subst (λ (n : ℕ). GoesOn (cascade_naming above (at_number n c.args.around) rest) (cascade_naming above c.args.around list) (IsMessages above) c.push.new.self.items c.args.sketch.now c.message.new.sketch) (sym c.in_ok-one.ensures.next) turned;
      next = omega (arith, ap (λ (xs : List Sent). names_in_messages (messages_view xs)) here, c.in_ok-one.ensures.next, kept.next);
    }

pub cascade-returns-clause-built : goal.cascade-returns-clause-built
cascade-returns-clause-built t c =
    let above = is_above c.args.lookup in
    let around = at_number c.loop-m.next c.args.around in
    let list = c.args.messages.now in
    let all : length list ≤ c.loop-m.m-index = omega arith in
    goes_done _ (cascade_naming above around (drop c.loop-m.m-index list)) (cascade_naming above c.args.around list) (IsMessages above) c.loop-m.made.items c.args.sketch.now c.loop-m.sketch
    c.loop-m.invariant.goes (at_drop_all (λ (xs : List Sent). cascade_naming above around xs) list c.loop-m.m-index all) (messages_none above)

-- FORMS

pub sent-returns-in_ok-list-in-Plain-clause-built : goal.sent-returns-in_ok-list-in-Plain-clause-built
sent-returns-in_ok-list-in-Plain-clause-built t c =
    let m = c.args.m.now in
    let list = c.in_ok-list-in-Plain.list in
    let made = plain_built c.args.around m c.in_ok-one-in-Plain.one list c.args.sketch.now c.message.new.sketch c.in_ok-list-in-Plain.ensures c.in_ok-one-in-Plain.ensures.built in
    shaped_built {Is = IsAct (Send false list)} c.args.around m plain c.args.sketch.now c.message.new.sketch c.in-Plain.ensures.shape made

pub sent-returns-in_ok-inside-in-One-clause-built : goal.sent-returns-in_ok-inside-in-One-clause-built
sent-returns-in_ok-inside-in-One-clause-built t c =
    let m = c.args.m.now in
    let side = c.in-One.side in
    let inside = c.in_ok-inside-in-One.inside in
    let made = builds_map (body_naming c.args.around c.in-One.a.now) (λ x. sided side x) (IsBody inside) (IsAct (One side inside)) c.args.sketch.now c.body.new.sketch c.in_ok-inside-in-One.ensures.built (λ ms x h. one_is side inside ms x h) in
    shaped_built {Is = IsAct (One side inside)} c.args.around m (one_sided side (statements_view c.in-One.a.now)) c.args.sketch.now c.body.new.sketch c.in-One.ensures.shape made

pub sent-returns-in_ok-behind-in-Two-clause-built : goal.sent-returns-in_ok-behind-in-Two-clause-built
sent-returns-in_ok-behind-in-Two-clause-built t c =
    let m = c.args.m.now in
    let side = c.in-Two.side in
    let a = c.in-Two.a.now in
    let b = c.in-Two.b.now in
    let otherwise = plain_tail false (message_of (context c.args.around) m.selector.items (expressions_view m.arguments.items)) [] in
    let counted = subst (λ (n : ℕ). IfOk c.two_sided.result (λ r. Builds (two_naming side c.args.around (at_number n c.args.around) a b) (IsAct r.0) c.args.sketch.now c.two_sided.new.sketch)) c.in_ok-behind-in-Two.ensures c.two_sided.ensures.built in
    ok_weaker (λ r. Builds (two_naming side c.args.around (at_number (after_statements c.args.around a) c.args.around) a b) (IsAct r.0) c.args.sketch.now c.two_sided.new.sketch) (λ r. Builds (sent_naming c.args.around m) (IsAct r.0) c.args.sketch.now c.two_sided.new.sketch) c.two_sided.result
    (λ r made. shaped_built {Is = IsAct r.0} c.args.around m (two_sided side (statements_view a) (statements_view b)) c.args.sketch.now c.two_sided.new.sketch c.in-Two.ensures.shape (two_built {Is = IsAct r.0} side c.args.around a b otherwise c.args.sketch.now c.two_sided.new.sketch made)) counted

pub two_sided-returns-in_ok-second-in-TrueFirst-clause-built : goal.two_sided-returns-in_ok-second-in-TrueFirst-clause-built
two_sided-returns-in_ok-second-in-TrueFirst-clause-built t c =
    true_first c.args.side c.args.around c.args.behind c.args.a.now c.args.b.now c.in_ok-first-in-TrueFirst.first c.in_ok-second-in-TrueFirst.second c.args.sketch.now c.body.new.sketch c.body-in-TrueFirst.new.sketch c.in-TrueFirst.is c.in_ok-first-in-TrueFirst.ensures.built c.in_ok-second-in-TrueFirst.ensures.built

pub two_sided-returns-in_ok-first-in-FalseFirst-clause-built : goal.two_sided-returns-in_ok-first-in-FalseFirst-clause-built
two_sided-returns-in_ok-first-in-FalseFirst-clause-built t c =
    false_first c.args.side c.args.around c.args.behind c.args.a.now c.args.b.now c.in_ok-first-in-FalseFirst.first c.in_ok-second-in-FalseFirst.second c.args.sketch.now c.body-in-FalseFirst.new.sketch c.body-in-FalseFirst-2.new.sketch c.in-FalseFirst.is c.in_ok-second-in-FalseFirst.ensures.built c.in_ok-first-in-FalseFirst.ensures.built

pub sends-returns-then-is_empty-clause-built : goal.sends-returns-then-is_empty-clause-built
sends-returns-then-is_empty-clause-built t c =
    let above = is_above c.args.lookup in
    let list = c.in_ok-list.list in
    let one : Message = record { selector = c.new.result; arguments = c.new-then-is_empty.result } in
    let new = record c.args.sketch.now { draft = c.by_selector.new.draft } in
    let test : (length c.args.messages.now == 0) ≡ true = cc in
    let none_left : length c.args.messages.now ≡ 0 = grind (arith, nat_tests) in
    let made = empty_built above c.args.around c.args.messages.now one list c.in_ok-by_selector.field-0 c.args.sketch.now new none_left c.in_ok-list.ensures c.new.ensures.items c.new-then-is_empty.ensures.items c.in_ok-by_selector.ensures refl in
    subst (λ (b : Bool). Builds (messages_naming above c.args.around c.args.messages.now) (IsAct (Send b list)) c.args.sketch.now new) (sym c.is_above-above.ensures) made

pub sends-returns-clause-built : goal.sends-returns-clause-built
sends-returns-clause-built t c =
    let above = is_above c.args.lookup in
    let test : (length c.args.messages.now == 0) ≡ false = cc in
    let some : 0 < length c.args.messages.now = grind (arith, nat_tests) in
    let made = cascade_built above c.args.around c.args.messages.now c.in_ok-made.made c.args.sketch.now c.cascade.new.sketch some c.requires.cascade c.in_ok-made.ensures.built in
    subst (λ (b : Bool). Builds (messages_naming above c.args.around c.args.messages.now) (IsAct (Send b c.in_ok-made.made)) c.args.sketch.now c.cascade.new.sketch) (sym c.is_above-above.ensures) made

-- LINKS

pub linked-returns-in_ok-place-in-Assign-clause-built : goal.linked-returns-in_ok-place-in-Assign-clause-built
linked-returns-in_ok-place-in-Assign-clause-built t c =
    let place = c.in_ok-place-in-Assign.place in
    let new = record c.args.sketch.now { draft = c.place_of_name.new.draft } in
    let made = assign_built c.args.around c.in-Assign.target.now place c.variable_of.result c.args.sketch.now new c.requires c.in_ok-place-in-Assign.ensures refl c.variable_of.ensures in
    subst (λ (l : Link). Builds (link_naming (is_above c.args.lookup) c.args.around l) (IsAct (Assign c.variable_of.result)) c.args.sketch.now new) (sym c.in-Assign.is) made

pub linked-returns-in-Some-clause-built : goal.linked-returns-in-Some-clause-built
linked-returns-in-Some-clause-built t c =
    let above = is_above c.args.lookup in
    ok_weaker (λ r. Builds (sent_naming c.args.around c.in-Some.m.now) (IsAct r.0) c.args.sketch.now c.sent.new.sketch) (λ r. Builds (link_naming above c.args.around c.args.link) (IsAct r.0) c.args.sketch.now c.sent.new.sketch) c.sent.result
    (λ r b. only_built above c.args.around c.args.link c.in-Send.messages.now c.in-Some.m.now c.args.sketch.now c.sent.new.sketch (ap link_view c.in-Send.is) c.in-Some.ensures.view b) c.sent.ensures.built

pub linked-returns-in-None-clause-built : goal.linked-returns-in-None-clause-built
linked-returns-in-None-clause-built t c =
    let above = is_above c.args.lookup in
    subst (λ (l : Link). IfOk c.sends.result (λ r. Builds (link_naming above c.args.around l) (IsAct r.0) c.args.sketch.now c.sends.new.sketch)) (sym c.in-Send.is) c.sends.ensures.built

-- STATEMENTS

pub body-loop-s-init : goal.body-loop-s-init
body-loop-s-init t c =
    let whole = body_naming c.args.around c.args.statements.now in
    record {
      goes = λ returns. subst (λ (xs : List ℕ). GoesOn whole whole (IsBehind returns) xs c.args.sketch.now c.args.sketch.now) (sym c.new-nodes.ensures.items) (goes_first whole (IsBehind returns) c.args.sketch.now);
      next = refl;
    }

pub body-loop-s-preserved : goal.body-loop-s-preserved
body-loop-s-preserved t c =
    let kept = c.loop-s.invariant in
    let list = c.args.statements.now in
    let around = at_number c.loop-s.next c.args.around in
    let s = c.s-item.result in
    let rest = drop (c.loop-s.s-index + 1) list in
    let here : drop c.loop-s.s-index list ≡ s ∷ rest = drop_item list c.loop-s.s-index s c.loop-s-test.true c.s-item.is in
    let on = c.if-s.false in
    let turned = λ (returns : Bool). goes_turn (node_naming around s.value) (body_naming (at_number (after around s.value) c.args.around) rest) before (body_naming around (drop c.loop-s.s-index list)) (body_naming c.args.around list)
    IsNode (IsBehind returns) c.loop-s.nodes.items c.push.new.self.items c.in_ok-place.place c.args.sketch.now c.loop-s.sketch c.value.new.sketch
    (kept.goes returns) (ap (λ (xs : List Statement). body_naming around xs) here ∙ statement_kept around s rest on) c.in_ok-place.ensures.built c.in_ok-push.ensures.items
    (λ ms x b more h g. behind_before returns c.in_ok-place.place more ms x b h g) in
    let names = ap (λ (xs : List Statement). names_in_statements (statements_view xs)) here in
    let counted : names_in_statements (statements_view (s ∷ rest)) ≡ names_in (expression_view s.value) + names_in_statements (statements_view rest) = kept_names s rest on in
    record {
      goes = λ returns. subst (λ (n : ℕ). GoesOn (body_naming (at_number n c.args.around) rest) (body_naming c.args.around list) (IsBehind returns) c.push.new.self.items c.args.sketch.now c.value.new.sketch) (sym c.in_ok-place.ensures.next) (turned returns);
      next = omega (arith, names, counted, c.in_ok-place.ensures.next, kept.next);
    }

pub body-returns-then-s-clause-built : goal.body-returns-then-s-clause-built
body-returns-then-s-clause-built t c =
    let list = c.args.statements.now in
    let around = at_number c.loop-s.next c.args.around in
    let s = c.s-item.result in
    let rest = drop (c.loop-s.s-index + 1) list in
    let here : drop c.loop-s.s-index list ≡ s ∷ rest = drop_item list c.loop-s.s-index s c.loop-s-test.true c.s-item.is in
    let made : Statements = record { nodes = c.push.new.self; returns = true } in
    let last = goes_last (node_naming around s.value) (λ x. returned x) (body_naming around (drop c.loop-s.s-index list)) (body_naming c.args.around list)
    IsNode (IsBehind true) c.loop-s.nodes.items c.push.new.self.items c.in_ok-place.place c.args.sketch.now c.loop-s.sketch c.value.new.sketch
    (c.loop-s.invariant.goes true) (ap (λ (xs : List Statement). body_naming around xs) here ∙ statement_returned around s rest c.if-s.true) c.in_ok-place.ensures.built c.in_ok-push.ensures.items
    (λ ms x h. behind_returned c.in_ok-place.place ms x h) in
    builds_as (body_naming c.args.around list) (body_naming c.args.around list) (IsBehind true c.push.new.self.items) (IsBody made) c.args.sketch.now c.value.new.sketch refl (λ ms b h. behind_body made ms b h) last

pub body-returns-then-s-clause-next : goal.body-returns-then-s-clause-next
body-returns-then-s-clause-next t c =
    let list = c.args.statements.now in
    let s = c.s-item.result in
    let rest = drop (c.loop-s.s-index + 1) list in
    let names = ap (λ (xs : List Statement). names_in_statements (statements_view xs)) (drop_item list c.loop-s.s-index s c.loop-s-test.true c.s-item.is) in
    omega (arith, names, last_names s rest c.if-s.true, c.in_ok-place.ensures.next, c.loop-s.invariant.next)

pub body-returns-clause-built : goal.body-returns-clause-built
body-returns-clause-built t c =
    let list = c.args.statements.now in
    let around = at_number c.loop-s.next c.args.around in
    let all : length list ≤ c.loop-s.s-index = omega arith in
    let made : Statements = record { nodes = c.loop-s.nodes; returns = false } in
    let done = goes_done nothing (body_naming around (drop c.loop-s.s-index list)) (body_naming c.args.around list) (IsBehind false) c.loop-s.nodes.items c.args.sketch.now c.loop-s.sketch
    (c.loop-s.invariant.goes false) (at_drop_all (λ (xs : List Statement). body_naming around xs) list c.loop-s.s-index all) behind_none in
    builds_as (body_naming c.args.around list) (body_naming c.args.around list) (IsBehind false c.loop-s.nodes.items) (IsBody made) c.args.sketch.now c.loop-s.sketch refl (λ ms b h. behind_body made ms b h) done

-- LOOPS AND CHAINS

pub looped-returns-clause-built : goal.looped-returns-clause-built
looped-returns-clause-built t c =
    let r = c.args.repetition in
    let x = c.in_ok-condition.condition in
    let y = c.in_ok-repeated.repeated in
    let second = subst (λ (n : ℕ). Builds (body_naming (at_number n c.args.around) r.body.now) (IsBody y) c.body.new.sketch c.body-2.new.sketch) c.in_ok-condition.ensures.next c.in_ok-repeated.ensures.built in
    let behind_it = body_naming (at_number (after_statements c.args.around r.condition.now) c.args.around) r.body.now in
    builds_then (body_naming c.args.around r.condition.now) (λ p. behind_it) (λ p q. loop r.kind p q) (IsBody x) (IsBody y) (IsStart (Loop r.kind x y)) c.args.sketch.now c.body.new.sketch c.body-2.new.sketch
    c.in_ok-condition.ensures.built second (λ ms p ls h k. loop_is r.kind x y ms p (behind_it ls).part h k)

pub beginning-returns-in_ok-start-in-Some-clause-built : goal.beginning-returns-in_ok-start-in-Some-clause-built
beginning-returns-in_ok-start-in-Some-clause-built t c =
    let start = expression_view c.args.first.now in
    let links = c.args.links.now in
    let found : first_repetition start (links_view links) ≡ Some (repetition_view c.in-Some.repetition) = sym c.in-Some.ensures.repetition in
    let begun = begins_loop start links (repetition_view c.in-Some.repetition) (context c.args.around) (literals_of c.args.sketch.now) found in
    builds_as (loop_naming c.args.around c.in-Some.repetition) (begun_naming c.args.around c.args.first.now links 1) (IsStart c.in_ok-start-in-Some.start) (IsStart c.in_ok-start-in-Some.start) c.args.sketch.now c.looped.new.sketch begun (λ ms x h. h) c.in_ok-start-in-Some.ensures.built

pub follow-loop-i-init : goal.follow-loop-i-init
follow-loop-i-init t c =
    let naming = begun_naming c.args.around c.args.first.now c.args.links.now c.in_ok-start.taken in
    let begun = builds_as naming naming (IsStart c.in_ok-start.start) (IsChain c.in_ok-start.start []) c.args.sketch.now c.beginning.new.sketch refl (λ ms x h. chain_none c.in_ok-start.start ms x h) c.in_ok-start.ensures.built in
    record {
      built = subst (λ (acts : List Act). Builds naming (IsChain c.in_ok-start.start acts) c.args.sketch.now c.beginning.new.sketch) (sym c.new.ensures.items) begun;
      next = c.in_ok-start.ensures.next;
    }

pub follow-linked-requires : goal.follow-linked-requires
follow-linked-requires t c = (omega (arith, link_within c.args.links.now c.loop-i.i c.index-links-i.result c.loop-i-test.true c.index-links-i.is), c.requires.few)

pub follow-loop-i-preserved : goal.follow-loop-i-preserved
follow-loop-i-preserved t c =
    let kept = c.loop-i.invariant in
    let around = context c.args.around in
    let links : List Link = c.args.links.now in
    let i = c.loop-i.i in
    let link = c.index-links-i.result in
    let start = expression_view c.args.first.now in
    let so_far = linked start (links_view (take i links)) in
    let act = c.in_ok-act.act in
    let above : is_above c.lookup_behind-lookup.result ≡ is_super so_far = c.lookup_behind-lookup.ensures ∙ super_at i start links (omega arith) in
    let at : c.loop-i.next ≡ c.args.around.next + names_in so_far = kept.next in
    let link_at = λ (b : Bool) (n : ℕ). Builds (link_tail b (link_view link) (record around { next = n })) (IsAct act) c.loop-i.sketch c.linked.new.sketch in
    let one = subst (λ (b : Bool). link_at b (c.args.around.next + names_in so_far)) {x = is_above c.lookup_behind-lookup.result} above (subst (λ (n : ℕ). link_at (is_above c.lookup_behind-lookup.result) n) {x = c.loop-i.next} at c.in_ok-act.ensures.built) in
    let no_loop = ap (λ (l : Link). repetition_of so_far (link_view l)) c.index-links-i.is ∙ no_loop_at i start links link c.loop-i-test.true (λ zero. c.in_ok-start.ensures.no_loop (omega arith)) in
    let two = link_built c.args.around so_far (link_view link) c.loop-i.node.start c.loop-i.node.acts.items act c.args.sketch.now c.loop-i.sketch c.linked.new.sketch no_loop kept.built one in
    let longer : with_link (link_view link) so_far ≡ linked start (links_view (take (i + 1) links)) =
    ap (λ (l : Link). with_link (link_view l) so_far) c.index-links-i.is ∙ sym (linked_take start links i link c.loop-i-test.true) ∙ ap (λ (j : ℕ). linked start (links_view (take j links))) (sym (add-one i)) in
    let named : c.in_ok-act.behind ≡ c.args.around.next + names_in (with_link (link_view link) so_far) = omega (arith, names_behind (link_view link) so_far, at, c.in_ok-act.ensures.next) in
    let put = subst (λ (acts : List Act). Builds (expression_node (with_link (link_view link) so_far) around) (IsChain c.loop-i.node.start acts) c.args.sketch.now c.linked.new.sketch) {x = c.loop-i.node.acts.items ++ act ∷ []} (sym {b = c.loop-i.node.acts.items ++ act ∷ []} c.in_ok-push.ensures.items) two in
    record {
      built = subst (λ (x : ExpressionView). Builds (expression_node x around) (IsChain c.loop-i.node.start c.push.new.self.items) c.args.sketch.now c.linked.new.sketch) {x = with_link (link_view link) so_far} longer put;
      next = subst (λ (x : ExpressionView). c.in_ok-act.behind ≡ c.args.around.next + names_in x) {x = with_link (link_view link) so_far} longer named;
    }

pub follow-returns-clause-built : goal.follow-returns-clause-built
follow-returns-clause-built t c =
    let links : List Link = c.args.links.now in
    let all : length links ≤ c.loop-i.i = omega arith in
    let whole : take c.loop-i.i links ≡ links = take_all c.loop-i.i links all in
    let built = subst (λ (ls : List Link). Builds (chain_naming c.args.around c.args.first.now ls) (IsChain c.loop-i.node.start c.loop-i.node.acts.items) c.args.sketch.now c.loop-i.sketch) whole c.loop-i.invariant.built in
    builds_put (chain_naming c.args.around c.args.first.now links) c.args.sketch.now c.loop-i.sketch c.put.new.self c.loop-i.node c.in_ok-place.place built c.in_ok-place.ensures.place c.in_ok-place.ensures.nodes c.put.ensures.draft

pub value-follow-requires : goal.value-follow-requires
value-follow-requires t c =
    (omega (arith, chain_within c.args.e.now c.in_ok-chain.chain c.deref.result.now c.in_ok-chain.ensures.within c.deref.ensures.value), (c.requires, c.in_ok-chain.ensures.start))

pub value-returns-clause-built : goal.value-returns-clause-built
value-returns-clause-built t c =
    let first = c.in_ok-chain.chain.start.now in
    let same : chained first c.deref.result.now ≡ expression_view c.args.e.now = ap (λ (ls : List Link). chained first ls) c.deref.ensures.value ∙ c.in_ok-chain.ensures.whole in
    subst (λ (v : ExpressionView). IfOk c.follow.result (λ r. Builds (expression_node v (context c.args.around)) (IsNode r.0) c.args.sketch.now c.follow.new.sketch)) same c.follow.ensures.built
