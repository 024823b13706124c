use Rattle.st_model.specs.Values.{word}
use Rattle.st_frames.proofs.Unfetched.{fetched-dead, fetches}
use Rattle.std.proofs.Common.{arith}
use Rattle.st_frames.proofs.reading.read_registers.Goals as goal

pub returns-in-Some-clause-dead : goal.returns-in-Some-clause-dead
returns-in-Some-clause-dead g c =
    fetched-dead g.O.Objects.names (g.O.Objects.table c.args.m.now) (word c.args.context) c.read_kept.result c.read_kept.ensures.registers

pub returns-in-Some-clause-registers : goal.returns-in-Some-clause-registers
returns-in-Some-clause-registers g c = grind (arith, fetches)

pub returns-in-None-clause-registers : goal.returns-in-None-clause-registers
returns-in-None-clause-registers g c = grind (arith, fetches)

pub returns-in-None-clause-dead : goal.returns-in-None-clause-dead
returns-in-None-clause-dead g c = grind (arith, fetches)
