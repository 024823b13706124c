use Rattle.std.proofs.Common.{arith}
use Rattle.st_model.proofs.Runs.{runs}
use Rattle.st_frames.proofs.There.{all_four}
use Rattle.st_model.specs.Contexts.{context_registers}
use Rattle.st_frames.proofs.reading.read_kept.Goals as goal

pub returns-in_err-ip-clause-registers : goal.returns-in_err-ip-clause-registers
unfolding context_registers
returns-in_err-ip-clause-registers g c = grind (arith, runs, all_four)

pub returns-in_err-sp-clause-registers : goal.returns-in_err-sp-clause-registers
unfolding context_registers
returns-in_err-sp-clause-registers g c = grind (arith, runs, all_four)

pub returns-clause-registers : goal.returns-clause-registers
unfolding context_registers
returns-clause-registers g c = grind (arith, runs, all_four)
