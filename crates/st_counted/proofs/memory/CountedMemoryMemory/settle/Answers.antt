use Rattle.std.proofs.Common.{refl}
use Rattle.st_model.specs.View.{view_roots}
use Rattle.st_model.proofs.Settling.{drops_none}
use Rattle.st_counted.specs.inside.Counted.{counted_view, numbers_of}
use Rattle.st_counted.proofs.Dropping.{settles_to}
use Rattle.st_counted.proofs.memory.CountedMemoryMemory.settle.Goals as goal

pub returns-in-None-clause-settles : goal.returns-in-None-clause-settles
returns-in-None-clause-settles c =
    let m = c.args.self.now in
    let v = counted_view m.contents in
    settles_to v v (numbers_of m.contents) (drops_none v.objects (view_roots v)) refl refl m.counted c.in-None.ensures.none
