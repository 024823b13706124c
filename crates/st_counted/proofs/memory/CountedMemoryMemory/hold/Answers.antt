use Rattle.std.proofs.Common.{ap}
use Rattle.st_model.specs.View.{head_of}
use Rattle.st_counted.specs.declared.contents.Head.{Head}
use Rattle.st_model.specs.Values.{value}
use Rattle.st_model.proofs.WholeLemmas.{whole_held}
use Rattle.st_counted.specs.inside.Counted.{counted_view}
use Rattle.st_counted.proofs.Placed.{all_stand}
use Rattle.st_counted.proofs.memory.CountedMemoryMemory.hold.Goals as goal

pub invariant_of-self : goal.invariant_of-self
invariant_of-self c =
    let m = c.args.self.now in
    let v = counted_view m.contents in
    let w = counted_view c.hold.new.self in
    record {
      whole = whole_held v w c.args.place (value c.args.o) m.whole c.requires.known c.hold.ensures.objects c.hold.ensures.held (ap (λ (h : Head). head_of h.capacity h.globals h.symbols) c.hold.ensures.head);
      room = c.hold.ensures.room m.room;
      counted = c.hold.ensures.counted;
      listed = c.hold.ensures.listed;
    }

pub returns-clause-places : goal.returns-clause-places
returns-clause-places c = all_stand c.args.self.now.contents.objects c.hold.new.self.objects c.hold.ensures.places
