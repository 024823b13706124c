use Rattle.std.proofs.Common.{sym, subst}
use Rattle.st_model.specs.Values.{value}
use Rattle.st_model.specs.Table.{Table}
use Rattle.st_model.specs.View.{object_of}
use Rattle.st_install.specs.inside.Carried.{KeepsFields}
use Rattle.st_install.proofs.Going.{field_takes, field_becomes, stored_fields, pointers_method}
use Rattle.st_install.proofs.sure.store_field.Goals as goal

pub set_pointer-requires-clause-live : goal.set_pointer-requires-clause-live
set_pointer-requires-clause-live g c = (field_takes (g.M.Memory.view c.args.m.now) (value c.args.o) c.args.i (value c.args.x) c.requires).live

pub set_pointer-requires-clause-range : goal.set_pointer-requires-clause-range
set_pointer-requires-clause-range g c = (field_takes (g.M.Memory.view c.args.m.now) (value c.args.o) c.args.i (value c.args.x) c.requires).range

pub set_pointer-requires-clause-known : goal.set_pointer-requires-clause-known
set_pointer-requires-clause-known g c = (field_takes (g.M.Memory.view c.args.m.now) (value c.args.o) c.args.i (value c.args.x) c.requires).known

pub set_pointer-requires-clause-header : goal.set_pointer-requires-clause-header
set_pointer-requires-clause-header g c =
    let takes = field_takes (g.M.Memory.view c.args.m.now) (value c.args.o) c.args.i (value c.args.x) c.requires in
    pointers_method (object_of (g.M.Memory.view c.args.m.now).objects (value c.args.o)) takes.kind c.args.i (value c.args.x)

pub returns-clause-becomes : goal.returns-clause-becomes
returns-clause-becomes g c =
    let v = g.M.Memory.view c.args.m.now in
    field_becomes v (value c.args.o) c.args.i (value c.args.x) (g.M.Memory.view c.set_pointer.new.self) c.set_pointer.ensures.objects c.set_pointer.ensures.held c.set_pointer.ensures.head
    (field_takes v (value c.args.o) c.args.i (value c.args.x) c.requires)

pub returns-clause-fields : goal.returns-clause-fields
returns-clause-fields g c =
    let t = (g.M.Memory.view c.args.m.now).objects in
    subst (λ (u : Table). KeepsFields t u) (sym c.set_pointer.ensures.objects) (stored_fields t (value c.args.o) c.args.i (value c.args.x))
