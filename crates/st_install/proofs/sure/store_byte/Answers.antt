use Rattle.std.proofs.Common.{◌-◌, sym, subst}
use Rattle.st_model.specs.Values.{value}
use Rattle.st_model.specs.Objects.{first_unit}
use Rattle.st_model.specs.Table.{Table}
use Rattle.st_model.specs.View.{object_of}
use Rattle.st_install.specs.inside.Carried.{KeepsFields}
use Rattle.st_install.proofs.Going.{byte_takes, byte_becomes, byte_range, unit_fields}
use Rattle.st_install.proofs.sure.store_byte.Goals as goal
use Rattle.st_model.proofs.KindTests.{bytes_words}

pub set_byte-requires-clause-live : goal.set_byte-requires-clause-live
set_byte-requires-clause-live g c = (byte_takes (g.M.Memory.view c.args.m.now) (value c.args.o) c.args.i c.args.byte c.requires).live

pub set_byte-requires-clause-kind : goal.set_byte-requires-clause-kind
set_byte-requires-clause-kind g c = bytes_words _ (byte_takes (g.M.Memory.view c.args.m.now) (value c.args.o) c.args.i c.args.byte c.requires).kind

pub set_byte-requires-clause-above : goal.set_byte-requires-clause-above
set_byte-requires-clause-above g c = (byte_takes (g.M.Memory.view c.args.m.now) (value c.args.o) c.args.i c.args.byte c.requires).above

pub set_byte-requires-clause-range : goal.set_byte-requires-clause-range
set_byte-requires-clause-range g c =
    let v = g.M.Memory.view c.args.m.now in
    byte_range v.objects (value c.args.o) c.args.i (byte_takes v (value c.args.o) c.args.i c.args.byte c.requires)

pub returns-clause-becomes : goal.returns-clause-becomes
returns-clause-becomes g c =
    let v = g.M.Memory.view c.args.m.now in
    byte_becomes v (value c.args.o) c.args.i c.args.byte (g.M.Memory.view c.set_byte.new.self) (byte_takes v (value c.args.o) c.args.i c.args.byte c.requires)
    c.set_byte.ensures.objects c.set_byte.ensures.held c.set_byte.ensures.head

pub returns-clause-fields : goal.returns-clause-fields
returns-clause-fields g c =
    let t = (g.M.Memory.view c.args.m.now).objects in
    subst (λ (u : Table). KeepsFields t u) (sym c.set_byte.ensures.objects) (unit_fields t (value c.args.o) (c.args.i - first_unit (object_of t (value c.args.o))) c.args.byte)
