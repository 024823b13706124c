use Rattle.std.proofs.Common.{refl, sym, ap, subst, ◌∙◌, arith, rules}
use Rattle.st_model.specs.Values.{value}
use Rattle.st_emit.specs.inside.NameViews.{names_view}
use Rattle.st_parts.specs.Keys.{word_of}
use Rattle.st_parts.proofs.Taking.{word_is}
use Rattle.st_parts.proofs.KeysIn.{kept_begin, kept_end, kept_turn}
use Rattle.st_parts.proofs.naming.kept.Goals as goal

pub loop-v-init : goal.loop-v-init
loop-v-init g c = kept_begin (names_view c.args.names.now) (g.M.Memory.view c.args.m.now).objects c.args.vs.now _ (search rules)

pub loop-v-preserved : goal.loop-v-preserved
loop-v-preserved g c =
    kept_turn (names_view c.args.names.now) (g.M.Memory.view c.args.m.now).objects c.args.vs.now c.loop-v.v-index _ c.loop-v-test.true c.loop-v.shared.entries c.loop-v.invariant
    _ _ refl (sym (word_is _)) c.in_ok-keep.ensures

pub returns : goal.returns
returns g c = kept_end (names_view c.args.names.now) (g.M.Memory.view c.args.m.now).objects c.args.vs.now c.loop-v.v-index c.loop-v.shared.entries (omega arith) c.loop-v.invariant
