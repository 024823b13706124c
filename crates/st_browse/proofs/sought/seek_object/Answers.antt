use Rattle.std.proofs.Common.{◌∙◌, sym}
use Rattle.st_model.specs.Values.{value}
use Rattle.st_browse.proofs.Found.{object_there, object_missing}
use Rattle.st_browse.proofs.sought.seek_object.Goals as goal

pub returns-then-live-clause-sought : goal.returns-then-live-clause-sought
returns-then-live-clause-sought g c = object_there (g.M.Memory.view c.args.m.now).objects c.args.o.0 (sym c.live.ensures ∙ c.if-live.true)

pub returns-else-live-clause-sought : goal.returns-else-live-clause-sought
returns-else-live-clause-sought g c = object_missing (g.M.Memory.view c.args.m.now).objects (value c.args.o) (sym c.live.ensures ∙ c.if-live.false)
