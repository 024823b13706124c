use Rattle.std.proofs.Common.{arith}
use Rattle.st_frames.proofs.Doing.{rows}
use Rattle.st_model.specs.Arithmetic.{flush_cache}
use Rattle.st_control.proofs.receivers.flush_cache.Goals as goal

pub returns-in_err-look_at_words : goal.returns-in_err-look_at_words
unfolding flush_cache
returns-in_err-look_at_words g c = grind (arith, rows)

pub returns : goal.returns
unfolding flush_cache
returns g c = grind (arith, rows)
