use Rattle.st_emit.specs.inside.NameViews.{names_view}
use Rattle.st_scope.specs.inside.Meanings.{values}
use Rattle.st_parts.proofs.KeysIn.{kept_alike}
use Rattle.st_parts.proofs.naming.names_for.Goals as goal

pub returns : goal.returns
returns g c = kept_alike c.args.names (g.M.Memory.view c.args.m.now).objects (values c.args.vs.now) c.in_ok-shared.shared c.in_ok-shared.ensures
