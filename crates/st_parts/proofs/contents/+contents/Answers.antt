use Rattle.std.proofs.Common.{◌+◌, Some, sym, ap, subst, ◌∙◌, arith}
use Rattle.std.specs.Prelude.{option_map}
use Rattle.st_emit.specs.inside.Views.{literal_view}
use Rattle.st_parts.specs.Contents.{contents}
use Rattle.st_parts.proofs.Turns.{LeftMembers, members_begin, members_end, members_fail, members_more}
use Rattle.st_model.specs.Values.{value}
use Rattle.st_scope.specs.inside.Meanings.{values}
use Rattle.st_parts.specs.inside.Readings.{members_if}
use Rattle.st_parts.proofs.Contenting.{no_arrays, array_made, array_none, contents_small, contents_gone, contents_made, made_bytes, made_other, made_array, made_words, made_method}
use Rattle.st_parts.proofs.contents.+contents.Goals as goal

pub members_of-loop-v-init : goal.members_of-loop-v-init
members_of-loop-v-init g t c = subst (LeftMembers (contents c.args.deep (g.M.Memory.view c.args.m.now).objects) c.args.vs.now 0) (sym c.new-list.ensures.items) (members_begin (contents c.args.deep (g.M.Memory.view c.args.m.now).objects) c.args.vs.now)

pub members_of-returns-in_default : goal.members_of-returns-in_default
members_of-returns-in_default g t c =
    members_fail (contents c.args.deep (g.M.Memory.view c.args.m.now).objects) c.args.vs.now c.loop-v.v-index _ c.loop-v-test.true c.loop-v.list.items c.loop-v.invariant
    (ap (option_map literal_view) (sym c.in_default.is) ∙ c.in_ok-member.ensures)

pub members_of-loop-v-preserved : goal.members_of-loop-v-preserved
members_of-loop-v-preserved g t c =
    subst (LeftMembers (contents c.args.deep (g.M.Memory.view c.args.m.now).objects) c.args.vs.now (c.loop-v.v-index + 1)) (sym c.in_ok-push.ensures.items)
    (members_more (contents c.args.deep (g.M.Memory.view c.args.m.now).objects) c.args.vs.now c.loop-v.v-index _ c.loop-v-test.true c.loop-v.list.items c.loop-v.invariant c.in-Some.member
    (ap (option_map literal_view) (sym c.in-Some.is) ∙ c.in_ok-member.ensures))

pub members_of-returns : goal.members_of-returns
members_of-returns g t c = members_end (contents c.args.deep (g.M.Memory.view c.args.m.now).objects) c.args.vs.now c.loop-v.v-index c.loop-v.list.items (omega arith) c.loop-v.invariant

pub array_of-returns-then-deep-eq0 : goal.array_of-returns-then-deep-eq0
array_of-returns-then-deep-eq0 g t c = no_arrays (g.M.Memory.view c.args.m.now).objects (values c.args.vs.now) c.args.deep c.if-deep-eq0.true

pub array_of-returns-in-Some : goal.array_of-returns-in-Some
array_of-returns-in-Some g t c =
    array_made (g.M.Memory.view c.args.m.now).objects (values c.args.vs.now) c.args.deep (omega arith) c.in-Some.list (ap members_if (sym c.in-Some.is) ∙ c.in_ok-list.ensures)

pub array_of-returns-in-None : goal.array_of-returns-in-None
array_of-returns-in-None g t c =
    array_none (g.M.Memory.view c.args.m.now).objects (values c.args.vs.now) c.args.deep (omega arith) (ap members_if (sym c.in-None.is) ∙ c.in_ok-list.ensures)

pub contents_of-returns-then-is_small : goal.contents_of-returns-then-is_small
contents_of-returns-then-is_small g t c =
    ap Some c.small_number.ensures ∙ contents_small c.args.deep (g.M.Memory.view c.args.m.now).objects (value c.args.v) (sym c.is_small.ensures ∙ c.if-is_small.true)

pub contents_of-returns-then-not-live : goal.contents_of-returns-then-not-live
contents_of-returns-then-not-live g t c =
    contents_gone c.args.deep (g.M.Memory.view c.args.m.now).objects (value c.args.v) (sym c.is_small.ensures ∙ c.if-is_small.false) (sym c.live.ensures ∙ c.if-not-live.true)

pub contents_of-returns : goal.contents_of-returns
contents_of-returns g t c =
    contents_made c.args.deep (g.M.Memory.view c.args.m.now).objects (value c.args.v) (sym c.is_small.ensures ∙ c.if-is_small.false) (sym c.live.ensures ∙ c.if-not-live.false)
    (option_map literal_view c.in_ok-made.made) (option_map literal_view c.or_character.result) c.in_ok-made.ensures c.or_character.ensures
