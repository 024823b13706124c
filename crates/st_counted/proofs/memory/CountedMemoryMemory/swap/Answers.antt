use Rattle.std.proofs.Common.{[], refl}
use Rattle.st_model.specs.Values.{value}
use Rattle.st_model.specs.View.{with_exchanged}
use Rattle.st_model.proofs.Exchanging.{whole_exchanged}
use Rattle.st_counted.specs.inside.References.{all_roots}
use Rattle.st_counted.specs.inside.Counted.{counted_view, numbers_of}
use Rattle.st_counted.proofs.Kept.{kept_beside}
use Rattle.st_counted.proofs.Referring.{counted_exchanged}
use Rattle.st_counted.proofs.memory.CountedMemoryMemory.swap.Goals as goal

pub invariant_of-self : goal.invariant_of-self
invariant_of-self c =
    let m = c.args.self.now in
    let v = counted_view m.contents in
    let now = c.exchange.new.self in
    let e = c.exchange.ensures in
    kept_beside m now (with_exchanged v.objects (value c.args.a) (value c.args.b)) e.objects
    (whole_exchanged v (counted_view (record m.contents { objects = now })) (value c.args.a) (value c.args.b) m.whole c.requires.first c.requires.second e.objects refl refl)
    (counted_exchanged v.objects (all_roots v) [] (numbers_of m.contents) (value c.args.a) (value c.args.b) m.counted c.requires.first c.requires.second) e.room e.links
