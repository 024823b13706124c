use Rattle.st_model.specs.Values.{value}
use Rattle.std.proofs.Common.{◌∙◌}
use Rattle.st_scope.proofs.SameTexts.{next_copied}
use Rattle.st_scope.proofs.fields.copied.Goals as goal

pub loop-i-preserved : goal.loop-i-preserved
loop-i-preserved g c = c.in_ok-push.ensures.items ∙ next_copied (g.met.M.Memory.whole c.args.m.now) (value c.args.o) c.requires.live c.requires.kind c.loop-i.text.items c.loop-i.i c.byte.result c.byte.ensures c.loop-i.invariant
