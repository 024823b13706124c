use Rattle.std.proofs.Common.{◌+◌, ◌-◌, length, get_or, arith}
use Rattle.st_model.specs.Values.{value}
use Rattle.st_model.specs.Objects.{first_unit}
use Rattle.st_model.specs.View.{object_of}
use Rattle.st_counted.specs.inside.Counted.{counted_view}
use Rattle.st_counted.proofs.Stretches.{written_is, units_end}
use Rattle.st_counted.proofs.Kept.{kept_run}
use Rattle.st_counted.proofs.Units.{byte_fits}
use Rattle.st_counted.proofs.memory.CountedMemoryMemory.write_bytes.Goals as goal

pub write_bytes-requires-clause-range : goal.write_bytes-requires-clause-range
write_bytes-requires-clause-range c = units_end (object_of (counted_view c.args.self.now.contents).objects (value c.args.o)) (c.args.at + length c.args.bytes.now) c.requires.range

pub invariant_of-self : goal.invariant_of-self
invariant_of-self c =
    let o = object_of (counted_view c.args.self.now.contents).objects (value c.args.o) in
    let e = c.write_bytes.ensures in
    kept_run c.args.self.now c.write_bytes.new.self c.args.o (c.args.at - first_unit o) c.args.bytes.now c.requires.live
    (λ j. byte_fits o (get_or c.args.bytes.now j 0) c.requires.kind (let small = (c.type_inv.bytes j).fits in omega (arith, small))) e.objects e.room e.links

pub returns-clause-objects : goal.returns-clause-objects
returns-clause-objects c =
    let t = (counted_view c.args.self.now.contents).objects in
    written_is t _ c.args.o (c.args.at - first_unit (object_of t (value c.args.o))) c.args.bytes.now c.requires.live c.write_bytes.ensures.objects
