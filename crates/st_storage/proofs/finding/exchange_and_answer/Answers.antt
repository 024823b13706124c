use Rattle.std.proofs.Common.{arith}
use Rattle.st_frames.proofs.Doing.{rows}
use Rattle.st_frames.specs.inside.Answering.{succeed_by}
use Rattle.st_model.specs.Storage.{exchange_and_answer}
use Rattle.st_storage.proofs.finding.exchange_and_answer.Goals as goal

pub returns-in_err-exchange-clause-does : goal.returns-in_err-exchange-clause-does
unfolding succeed_by exchange_and_answer
returns-in_err-exchange-clause-does g c = grind (arith, rows)

pub returns-clause-does : goal.returns-clause-does
unfolding succeed_by exchange_and_answer
returns-clause-does g c = grind (arith, rows)
