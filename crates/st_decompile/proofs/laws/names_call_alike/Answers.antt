use Rattle.st_decompile.proofs.CallsAlike.{calls_alike}
use Rattle.st_decompile.proofs.laws.names_call_alike.Goals as goal

pub returns : goal.returns
returns c = λ a b alike one literals. calls_alike a b alike one literals
