use Rattle.std.proofs.Common.{ap, ◌/◌}
use Rattle.st_model.specs.View.{head_of}
use Rattle.st_model.proofs.Making.{whole_made}
use Rattle.st_counted.specs.declared.contents.Head.{Head}
use Rattle.st_counted.specs.inside.Counted.{counted_view}
use Rattle.st_counted.proofs.Instances.{live_half}
use Rattle.st_counted.proofs.memory.CountedMemoryMemory.make.Goals as goal

pub invariant_of-self : goal.invariant_of-self
invariant_of-self c =
    let v = counted_view c.args.self.now.contents in
    let e = c.make.ensures in
    record {
      whole = whole_made v (counted_view c.make.new.self) (c.args.class.0 / 2) c.args.kind c.args.size c.args.literals c.args.self.now.whole (live_half v.objects c.args.class c.requires.class) c.requires.makeable c.requires.room e.objects e.held (ap (λ (h : Head). head_of h.capacity h.globals h.symbols) e.head);
      room = e.words;
      counted = e.counted;
      listed = e.listed;
    }
