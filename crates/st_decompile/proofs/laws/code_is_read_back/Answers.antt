use Rattle.st_decompile.proofs.Finding.{found}
use Rattle.st_decompile.proofs.laws.code_is_read_back.Goals as goal

pub returns : goal.returns
returns c = λ names p t s. found names p t s
