use Rattle.std.proofs.Common.{arith}
use Rattle.st_frames.proofs.Doing.{rows}
use Rattle.st_process.proofs.Worlds.{worlds}
use Rattle.st_frames.specs.inside.Answering.{succeed_by}
use Rattle.st_model.specs.Input.{store_milliseconds}
use Rattle.st_process.proofs.clocks.answer_milliseconds.Goals as goal

pub returns-in_err-answer-clause-does : goal.returns-in_err-answer-clause-does
unfolding succeed_by store_milliseconds
returns-in_err-answer-clause-does g c = grind (arith, rows, worlds)

pub returns-clause-does : goal.returns-clause-does
unfolding succeed_by store_milliseconds
returns-clause-does g c = grind (arith, rows, worlds)
