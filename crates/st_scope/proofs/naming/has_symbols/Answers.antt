use Rattle.st_scope.proofs.SeenIn.{symbols_there}
use Rattle.st_scope.proofs.naming.has_symbols.Goals as goal

pub returns : goal.returns
returns g c = symbols_there c.symbols.result.0 (g.M.Memory.view c.args.m.now).head.symbols c.symbols.ensures
