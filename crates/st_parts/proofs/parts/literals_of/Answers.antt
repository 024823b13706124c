use Rattle.std.proofs.Common.{◌+◌, sym, ap, subst, ◌∙◌, arith}
use Rattle.std.specs.Prelude.{option_map}
use Rattle.st_emit.specs.inside.NameViews.{names_view}
use Rattle.st_emit.specs.inside.Views.{literal_view}
use Rattle.st_parts.proofs.Turns.{LeftLiterals, literals_begin, literals_end, literals_fail, literals_more}
use Rattle.st_parts.proofs.parts.literals_of.Goals as goal

pub loop-v-init : goal.loop-v-init
loop-v-init g c = subst (LeftLiterals (names_view c.args.names.now) (g.M.Memory.view c.args.m.now).objects c.args.vs.now 0) (sym c.new-list.ensures.items) (literals_begin (names_view c.args.names.now) (g.M.Memory.view c.args.m.now).objects c.args.vs.now)

pub returns-in_default : goal.returns-in_default
returns-in_default g c =
    literals_fail (names_view c.args.names.now) (g.M.Memory.view c.args.m.now).objects c.args.vs.now c.loop-v.v-index _ c.loop-v-test.true c.loop-v.list.items c.loop-v.invariant
    (ap (option_map literal_view) (sym c.in_default.is) ∙ c.in_ok-literal.ensures)

pub loop-v-preserved : goal.loop-v-preserved
loop-v-preserved g c =
    subst (LeftLiterals (names_view c.args.names.now) (g.M.Memory.view c.args.m.now).objects c.args.vs.now (c.loop-v.v-index + 1)) (sym c.in_ok-push.ensures.items)
    (literals_more (names_view c.args.names.now) (g.M.Memory.view c.args.m.now).objects c.args.vs.now c.loop-v.v-index _ c.loop-v-test.true c.loop-v.list.items c.loop-v.invariant c.in-Some.literal
    (ap (option_map literal_view) (sym c.in-Some.is) ∙ c.in_ok-literal.ensures))

pub returns : goal.returns
returns g c = literals_end (names_view c.args.names.now) (g.M.Memory.view c.args.m.now).objects c.args.vs.now c.loop-v.v-index c.loop-v.list.items (omega arith) c.loop-v.invariant
