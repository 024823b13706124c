use Rattle.std.proofs.Common.{arith}
use Rattle.st_model.specs.Values.{value}
use Rattle.st_counted.specs.inside.Counted.{counted_view}
use Rattle.st_counted.proofs.Units.{byte_small}
use Rattle.st_counted.proofs.memory.CountedMemoryMemory.placed_byte.Goals as goal

pub overflow_cast-result : goal.overflow_cast-result
overflow_cast-result c =
    let m = c.args.self.now in
    let small = byte_small (counted_view m.contents) (value c.args.o) _ c.placed_byte.result m.whole c.requires.live c.requires.kind c.placed_byte.ensures in omega (arith, small)
