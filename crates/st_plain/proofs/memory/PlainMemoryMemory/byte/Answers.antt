use Rattle.std.proofs.Common.{arith}
use Rattle.st_model.specs.Values.{value}
use Rattle.st_counted.proofs.Units.{byte_small}
use Rattle.st_plain.specs.inside.Plain.{plain_view}
use Rattle.st_plain.proofs.memory.PlainMemoryMemory.byte.Goals as goal

pub overflow_cast-result : goal.overflow_cast-result
overflow_cast-result c =
    let m = c.args.self.now in
    let small = byte_small (plain_view m.contents) (value c.args.o) _ c.unit.result m.whole c.requires.live c.requires.kind c.unit.ensures in omega (arith, small)
