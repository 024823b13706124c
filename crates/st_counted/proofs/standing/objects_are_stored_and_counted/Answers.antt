use Rattle.st_heap.specs.inside.Stores.{stored_of}
use Rattle.st_counted.specs.inside.Counted.{counted_view, numbers_of}
use Rattle.st_counted.specs.inside.References.{all_roots}
use Rattle.st_counted.proofs.InBlocks.{stands, counts}
use Rattle.st_counted.proofs.standing.objects_are_stored_and_counted.Goals as goal

pub returns : goal.returns
returns c =
    let m = c.args.memory.now in
    let v = counted_view m.contents in
    record {
      stored = λ k o is. stands (stored_of m.contents.objects.store) m.contents.objects.sound k o is;
      counted = record {
        count = counts v.objects (all_roots v) (numbers_of m.contents) m.counted;
        zeros = m.listed.list;
      };
    }
