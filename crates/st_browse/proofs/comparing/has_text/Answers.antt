use Rattle.std.proofs.Common.{arith}
use Rattle.st_browse.proofs.Bytewise.{same_bytes}
use Rattle.st_scope.specs.Texts.{text_at}
use Rattle.st_browse.proofs.comparing.has_text.Goals as goal

pub returns : goal.returns
unfolding text_at
returns g c = grind (arith, same_bytes)
