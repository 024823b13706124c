use Rattle.st_install.proofs.SymbolsAt.{symbol-there, symbol-none}
use Rattle.st_install.proofs.symbols.is_symbol.Goals as goal

pub returns-in-Ok : goal.returns-in-Ok
returns-in-Ok g c = symbol-there c.args.v c.args.text.now (g.M.Memory.view c.args.m.now).objects c.in-Ok.field-0 c.is_text.result c.in-Ok.ensures c.is_text.ensures

pub returns-in-Err : goal.returns-in-Err
returns-in-Err g c = symbol-none c.args.v c.args.text.now (g.M.Memory.view c.args.m.now).objects c.in-Err.field-0 c.in-Err.ensures
