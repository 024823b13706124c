use Rattle.std.proofs.Common.{arith}
use Rattle.st_frames.proofs.Doing.{rows}
use Rattle.st_process.proofs.Worlds.{worlds}
use Rattle.st_frames.proofs.Tries.{options}
use Rattle.st_model.specs.Input.{word_that_waits}
use Rattle.st_process.proofs.devices.word_that_waits.Goals as goal

pub returns-in-Some : goal.returns-in-Some
unfolding word_that_waits
returns-in-Some g c = grind (arith, rows, worlds, options)

pub returns-in-None : goal.returns-in-None
unfolding word_that_waits
returns-in-None g c = grind (arith, rows, worlds, options)
