use Rattle.std.proofs.Common.{◌/◌}
use Rattle.st_model.specs.Values.{value}
use Rattle.st_model.specs.Formed.{fresh}
use Rattle.st_model.proofs.Making.{first_free_within, live_even, whole_made}
use Rattle.st_counted.proofs.Instances.{live_half}
use Rattle.st_plain.specs.inside.Plain.{plain_view}
use Rattle.st_plain.proofs.memory.PlainMemoryMemory.make.Goals as goal

pub make-requires-clause-left : goal.make-requires-clause-left
make-requires-clause-left c =
    let m = c.args.self.now in
    first_free_within (plain_view m.contents) m.whole (fresh (c.args.class.0 / 2) c.args.kind c.args.size c.args.literals) c.requires.room

pub make-requires-clause-class : goal.make-requires-clause-class
make-requires-clause-class c = live_even (plain_view c.args.self.now.contents).objects (value c.args.class) c.requires.class

pub invariant_of-self : goal.invariant_of-self
invariant_of-self c =
    let v = plain_view c.args.self.now.contents in
    let e = c.make.ensures in
    record {
      whole = whole_made v (plain_view c.make.new.self) (c.args.class.0 / 2) c.args.kind c.args.size c.args.literals c.args.self.now.whole (live_half v.objects c.args.class c.requires.class) c.requires.makeable c.requires.room e.objects e.held e.head;
      long = e.long;
    }
