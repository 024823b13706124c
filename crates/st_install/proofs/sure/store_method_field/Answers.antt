use Rattle.std.proofs.Common.{sym, subst}
use Rattle.st_model.specs.Values.{value}
use Rattle.st_model.specs.Table.{Table}
use Rattle.st_install.specs.inside.Carried.{KeepsFields}
use Rattle.st_install.proofs.Going.{method_takes, method_becomes, stored_fields}
use Rattle.st_install.proofs.sure.store_method_field.Goals as goal

pub set_pointer-requires-clause-live : goal.set_pointer-requires-clause-live
set_pointer-requires-clause-live g c = (method_takes (g.M.Memory.view c.args.m.now) (value c.args.o) c.args.i (value c.args.x) c.requires.goes).live

pub set_pointer-requires-clause-range : goal.set_pointer-requires-clause-range
set_pointer-requires-clause-range g c = (method_takes (g.M.Memory.view c.args.m.now) (value c.args.o) c.args.i (value c.args.x) c.requires.goes).range

pub set_pointer-requires-clause-known : goal.set_pointer-requires-clause-known
set_pointer-requires-clause-known g c = (method_takes (g.M.Memory.view c.args.m.now) (value c.args.o) c.args.i (value c.args.x) c.requires.goes).known

pub returns-clause-becomes : goal.returns-clause-becomes
returns-clause-becomes g c =
    let v = g.M.Memory.view c.args.m.now in
    method_becomes v (value c.args.o) c.args.i (value c.args.x) (g.M.Memory.view c.set_pointer.new.self) c.set_pointer.ensures.objects c.set_pointer.ensures.held c.set_pointer.ensures.head
    (method_takes v (value c.args.o) c.args.i (value c.args.x) c.requires.goes)

pub returns-clause-fields : goal.returns-clause-fields
returns-clause-fields g c =
    let t = (g.M.Memory.view c.args.m.now).objects in
    subst (λ (u : Table). KeepsFields t u) (sym c.set_pointer.ensures.objects) (stored_fields t (value c.args.o) c.args.i (value c.args.x))
