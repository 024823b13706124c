use Rattle.std.proofs.Common.{arith}
use Rattle.st_model.specs.Values.{value}
use Rattle.st_model.specs.View.{object_of}
use Rattle.st_counted.proofs.Units.{word_fits}
use Rattle.st_plain.specs.inside.Plain.{plain_view}
use Rattle.st_plain.proofs.Filled.{kept_unit, word_within}
use Rattle.st_plain.proofs.memory.PlainMemoryMemory.set_word.Goals as goal

pub set_unit-requires : goal.set_unit-requires
set_unit-requires c =
    let m = c.args.self.now in
    let r = c.requires in record { live = r.live; range = word_within (plain_view m.contents) (value c.args.o) c.args.at m.whole r.live r.kind r.range }

pub invariant_of-self : goal.invariant_of-self
invariant_of-self c =
    let small = word_fits (object_of (plain_view c.args.self.now.contents).objects (value c.args.o)) c.args.v c.requires.kind (omega arith) in
    let e = c.set_unit.ensures in kept_unit c.args.self.now c.set_unit.new.self (value c.args.o) c.args.at c.args.v c.requires.live small e.objects e.extent
