use Rattle.std.proofs.Common.{arith}
use Rattle.std.proofs.lemmas.Grind.{common_steps}
use Rattle.st_model.proofs.Words.{is_small-value_of}
use Rattle.st_model.proofs.word.Word.is_small.Goals as goal

pub returns : goal.returns
returns c = rw (is_small-value_of c.args.self.0) (grind (arith, common_steps))
