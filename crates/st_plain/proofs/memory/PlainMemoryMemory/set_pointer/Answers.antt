use Rattle.std.proofs.Common.{◌<◌, refl, arith}
use Rattle.st_model.specs.Values.{value}
use Rattle.st_model.proofs.Pointers.{IsWord-value_of}
use Rattle.st_model.proofs.WholeLemmas.{whole_stored}
use Rattle.st_plain.specs.inside.ListsPlain.{extent_of}
use Rattle.st_plain.specs.inside.Plain.{plain_view}
use Rattle.st_plain.proofs.Room.{long_same}
use Rattle.st_plain.proofs.memory.PlainMemoryMemory.set_pointer.Goals as goal

pub invariant_of-self : goal.invariant_of-self
invariant_of-self c =
    let m = c.args.self.now in
    let v = plain_view m.contents in
    let w = plain_view (record m.contents { objects = c.set_field.new.self }) in
    let word : c.args.v.0 < 65536 = omega arith in
    record {
      whole = whole_stored v w (value c.args.o) c.args.at (value c.args.v) m.whole c.requires.live c.requires.known c.requires.header (IsWord-value_of c.args.v.0 word) c.set_field.ensures.objects refl refl;
      long = record { objects = long_same (extent_of m.contents.objects) (extent_of c.set_field.new.self) m.contents.head.capacity.words m.long.objects c.set_field.ensures.extent; spare = m.long.spare };
    }
