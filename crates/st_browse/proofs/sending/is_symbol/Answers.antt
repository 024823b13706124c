use Rattle.std.proofs.Common.{arith}
use Rattle.st_browse.proofs.Symbols.{symbols}
use Rattle.st_browse.specs.Senders.{is_symbol}
use Rattle.st_browse.proofs.sending.is_symbol.Goals as goal

pub returns-then-not-is_text : goal.returns-then-not-is_text
unfolding is_symbol
returns-then-not-is_text g c = grind (arith, symbols)

pub returns : goal.returns
unfolding is_symbol
returns g c = grind (arith, symbols)
