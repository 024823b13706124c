use Rattle.std.proofs.Common.{◌≡◌, ◌+◌, ◌-◌, sym, ap, ◌∙◌, subst, arith, eq-eqb}
use Rattle.std.proofs.lemmas.List.{nil_from_length}
use Rattle.std.proofs.lemmas.Result.{IfOk-weaker}
use Rattle.st_decompile.specs.inside.Located.{steps_in}
use Rattle.st_expression_stack.specs.inside.Stacks.{stack_view, acted_by}
use Rattle.st_expression_stack.specs.declared.item.Item.TheVariants as kept
use Rattle.st_decompile.specs.inside.Read.{act_by, IsBlockStart}
use Rattle.st_decompile.proofs.ActRows.{row_block}
use Rattle.st_decompile.proofs.Locating.{spaced_behind}
use Rattle.st_decompile.proofs.Regioned.{block_none, block_unpassed, block_read, formed_empty, formed_top, formed_none, side_read, side_none, second_read, is_plain}
use Rattle.st_decompile.proofs.RegionTurns.{no_region, begun, stopped, turned, shorter, ended, later_spaced, left_spaced, some_depth}
use Rattle.st_decompile.proofs.region.+regions.Goals as goal

-- BLOCKS

pub makes_block-returns-in_default : goal.makes_block-returns-in_default
makes_block-returns-in_default t c =
    let old = c.args.items.now.items in
    let mid = c.block_start.new.items.items in
    block_none c.args.reading c.args.depth c.args.spot.next (steps_in c.args.spot.rest.now) old mid (subst (IsBlockStart old mid) c.in_default.is c.in_ok-start.ensures)

pub makes_block-returns-in_default-passed : goal.makes_block-returns-in_default-passed
makes_block-returns-in_default-passed t c =
    let old = c.args.items.now.items in
    let mid = c.block_start.new.items.items in
    block_unpassed c.args.reading c.args.depth c.args.spot.next (steps_in c.args.spot.rest.now) old mid c.in-Some.start (subst (IsBlockStart old mid) c.in-Some.is c.in_ok-start.ensures)
    c.in_default-passed.ensures

pub makes_block-returns : goal.makes_block-returns
makes_block-returns t c =
    let old = c.args.items.now.items in
    let mid = c.block_start.new.items.items in
    let through = c.in-Some-passed.ensures in
    IfOk-weaker c.block_made.result _ _
    (λ skip is. is
    ∙ block_read c.args.reading c.args.depth c.args.spot.next (steps_in c.args.spot.rest.now) old mid c.in-Some.start _ c.in_ok-at.at _ (steps_in c.front.result.now) c.in_ok-made.made
    (subst (IsBlockStart old mid) c.in-Some.is c.in_ok-start.ensures) through.0 c.in_ok-at.ensures c.front.ensures.0 c.in_ok-made.ensures)
    c.block_made.ensures

-- FORMS

pub chooses-returns : goal.chooses-returns
chooses-returns t c =
    IfOk-weaker c.choice_made.result _ _
    (λ skip is. is
    ∙ second_read c.args.reading c.args.depth c.args.jump c.args.spot (stack_view c.args.first.items) (stack_view c.args.items.now.items) c.in_ok-at.at (steps_in c.behind.result.now) (steps_in c.front-steps.result.now) c.in_ok-second.second
    c.in_ok-at.ensures c.behind.ensures.placed.0 c.front-steps.ensures.0 c.in_ok-second.ensures)
    c.choice_made.ensures

pub chooses-front-steps-requires : goal.chooses-front-steps-requires
chooses-front-steps-requires t c = spaced_behind c.args.jump.distance c.args.spot.rest.now c.behind.result.now c.requires c.behind.ensures.placed

pub decided-returns-in_default : goal.decided-returns-in_default
decided-returns-in_default t c =
    formed_empty c.args.reading c.args.depth c.args.on c.args.distance c.args.spot (stack_view c.args.items.now.items) c.args.first.items (nil_from_length c.args.first.items (omega (arith, c.args.first.ok.0, c.in_default.ensures.cases.0)))

pub decided-returns-in-Over : goal.decided-returns-in-Over
decided-returns-in-Over t c =
    let top = formed_top c.args.reading c.args.depth c.args.on c.args.distance c.args.spot (stack_view c.args.items.now.items) c.pop.new.self.items c.args.first.items c.in-Some.last (kept.Over c.in-Over.end) c.in-Some.ensures.items c.in-Over.is in
    IfOk-weaker c.chooses.result _ _ (λ skip is. is ∙ top) c.chooses.ensures

pub decided-returns-in-Back : goal.decided-returns-in-Back
decided-returns-in-Back t c =
    let top = formed_top c.args.reading c.args.depth c.args.on c.args.distance c.args.spot (stack_view c.args.items.now.items) c.pop.new.self.items c.args.first.items c.in-Some.last (kept.Back c.in-Back.end) c.in-Some.ensures.items c.in-Back.is in
    IfOk-weaker c.repeats.result _ _ (λ skip is. is ∙ top) c.repeats.ensures

pub decided-returns-in_default-last : goal.decided-returns-in_default-last
decided-returns-in_default-last t c =
    formed_none c.args.reading c.args.depth c.args.on c.args.distance c.args.spot (stack_view c.args.items.now.items) c.pop.new.self.items c.args.first.items c.in-Some.last c.in-Some.ensures.items c.in_default-last.not-Over c.in_default-last.not-Back

pub decides-returns-in_default : goal.decides-returns-in_default
decides-returns-in_default t c =
    side_none c.args.reading c.args.depth c.args.on c.args.distance c.args.spot (stack_view c.args.items.now.items) (steps_in c.front-steps.result.now) _ c.front-steps.ensures.0 c.in_ok-first.ensures c.in_default.is

pub decides-returns : goal.decides-returns
decides-returns t c =
    IfOk-weaker c.decided.result _ _
    (λ skip is. is
    ∙ side_read c.args.reading c.args.depth c.args.on c.args.distance c.args.spot (stack_view c.args.items.now.items) (steps_in c.front-steps.result.now) _ c.in-Some.first c.front-steps.ensures.0 c.in_ok-first.ensures c.in-Some.is)
    c.decided.ensures

-- ONE INSTRUCTION

pub act-returns-in-JumpIf : goal.act-returns-in-JumpIf
act-returns-in-JumpIf t c =
    IfOk-weaker c.decides.result _ _
    (λ skip is. is ∙ sym (ap (λ s. act_by c.args.reading c.args.depth s c.args.spot.at c.args.spot.next (steps_in c.args.spot.rest.now) (stack_view c.args.items.now.items)) c.in-JumpIf.is))
    c.decides.ensures

pub act-returns-then-copies : goal.act-returns-then-copies
act-returns-then-copies t c =
    IfOk-weaker c.makes_block.result _ _
    (λ skip is. is
    ∙ sym (ap (λ s. act_by c.args.reading c.args.depth s c.args.spot.at c.args.spot.next (steps_in c.args.spot.rest.now) (stack_view c.args.items.now.items)) c.in-SendSpecial.is
    ∙ row_block c.args.reading c.args.depth c.args.spot.at c.args.spot.next (steps_in c.args.spot.rest.now) (stack_view c.args.items.now.items) c.in-SendSpecial.code (eq-eqb c.in-SendSpecial.code 200 c.if-copies.true)))
    c.makes_block.ensures

pub act-returns-else-copies : goal.act-returns-else-copies
act-returns-else-copies t c =
    IfOk-weaker c.acts_plainly.result _ _
    (λ skip is. is c.args.depth c.args.spot.next (steps_in c.args.spot.rest.now)
    ∙ sym (ap (λ s. act_by c.args.reading c.args.depth s c.args.spot.at c.args.spot.next (steps_in c.args.spot.rest.now) (stack_view c.args.items.now.items)) c.in-SendSpecial.is))
    c.acts_plainly.ensures

pub act-acts_plainly-requires-in_default : goal.act-acts_plainly-requires-in_default
act-acts_plainly-requires-in_default t c = is_plain c.args.step c.in_default.not-JumpIf c.in_default.not-SendSpecial

pub act-returns-in_default : goal.act-returns-in_default
act-returns-in_default t c =
    IfOk-weaker c.acts_plainly-in_default.result _ _ (λ skip is. is c.args.depth c.args.spot.next (steps_in c.args.spot.rest.now)) c.acts_plainly-in_default.ensures

-- REGIONS

pub region_in-returns-then-depth-eq0 : goal.region_in-returns-then-depth-eq0
region_in-returns-then-depth-eq0 t c = no_region c.args.reading c.args.depth c.args.at c.args.steps.now c.if-depth-eq0.true

pub region_in-loop-first-init : goal.region_in-loop-first-init
region_in-loop-first-init t c =
    begun c.args.reading c.args.depth c.args.at c.args.steps.now c.new-items.result.items c.first_place-start.result c.if-depth-eq0.false c.first_place-start.ensures c.requires c.new-items.ensures.items

pub region_in-act-requires : goal.region_in-act-requires
region_in-act-requires t c =
    let l = c.loop-first in
    let some = some_depth c.args.depth c.if-depth-eq0.false in
    (omega (arith, some), later_spaced l.rest.now c.in-Some.later.now c.in-Some.first c.in-Some.ensures (left_spaced c.args.reading c.args.depth c.args.at c.args.steps.now c.first_place-start.result l.rest.now l.items.items l.invariant))

pub region_in-behind-rest-requires : goal.region_in-behind-rest-requires
region_in-behind-rest-requires t c =
    let l = c.loop-first in
    later_spaced l.rest.now c.in-Some.later.now c.in-Some.first c.in-Some.ensures (left_spaced c.args.reading c.args.depth c.args.at c.args.steps.now c.first_place-start.result l.rest.now l.items.items l.invariant)

pub region_in-returns-in_default-2 : goal.region_in-returns-in_default-2
region_in-returns-in_default-2 t c =
    let l = c.loop-first in
    let new = c.act.new.items.items in
    stopped c.args.reading c.args.depth c.args.at c.args.steps.now c.first_place-start.result c.in_ok-place.place c.in_ok-next.next c.in-Some.first l.rest.now c.in-Some.later.now l.items.items new l.invariant c.in-Some.ensures
    (c.in_ok-place.ensures ∙ ap (λ n. c.args.at + n) c.saturating_sub.ensures) (c.in_ok-next.ensures ∙ ap (λ n. c.in_ok-place.place + n) c.size_of.ensures)
    (subst (λ o. acted_by o new ≡ act_by c.args.reading (c.args.depth - 1) c.in-Some.first.step c.in_ok-place.place c.in_ok-next.next (steps_in c.in-Some.later.now) (stack_view l.items.items)) c.in_default-2.is c.in_ok-skip.ensures)

pub region_in-loop-first-preserved : goal.region_in-loop-first-preserved
region_in-loop-first-preserved t c =
    let l = c.loop-first in
    let new = c.act.new.items.items in
    turned c.args.reading c.args.depth c.args.at c.args.steps.now c.first_place-start.result c.in_ok-place.place c.in_ok-next.next c.in-Some.first l.rest.now c.in-Some.later.now l.items.items new l.invariant c.in-Some.ensures
    (c.in_ok-place.ensures ∙ ap (λ n. c.args.at + n) c.saturating_sub.ensures) (c.in_ok-next.ensures ∙ ap (λ n. c.in_ok-place.place + n) c.size_of.ensures) c.in-Some-2.skip c.behind-rest.result.now
    (subst (λ o. acted_by o new ≡ act_by c.args.reading (c.args.depth - 1) c.in-Some.first.step c.in_ok-place.place c.in_ok-next.next (steps_in c.in-Some.later.now) (stack_view l.items.items)) c.in-Some-2.is c.in_ok-skip.ensures)
    c.behind-rest.ensures.placed

pub region_in-loop-first-smaller : goal.region_in-loop-first-smaller
region_in-loop-first-smaller t c =
    let l = c.loop-first in
    shorter c.args.reading c.args.depth c.args.at c.args.steps.now c.first_place-start.result c.in_ok-place.place c.in_ok-next.next c.in-Some.first l.rest.now c.in-Some.later.now l.items.items l.items.items l.invariant c.in-Some.ensures
    (c.in_ok-place.ensures ∙ ap (λ n. c.args.at + n) c.saturating_sub.ensures) (c.in_ok-next.ensures ∙ ap (λ n. c.in_ok-place.place + n) c.size_of.ensures) c.in-Some-2.skip c.behind-rest.result.now c.behind-rest.ensures.fewer

pub region_in-returns : goal.region_in-returns
region_in-returns t c =
    let l = c.loop-first in
    ended c.args.reading c.args.depth c.args.at c.args.steps.now c.first_place-start.result l.rest.now l.items.items l.invariant c.in_default.ensures
