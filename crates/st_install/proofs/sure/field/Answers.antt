use Rattle.std.proofs.Common.{arith}
use Rattle.st_model.specs.Values.{value}
use Rattle.st_install.proofs.Going.{field_there, field_read}
use Rattle.st_install.proofs.sure.field.Goals as goal

pub pointer-requires-clause-live : goal.pointer-requires-clause-live
pointer-requires-clause-live g c = (field_there (g.M.Memory.view c.args.m.now) (value c.args.o) c.args.i c.requires).live

pub pointer-requires-clause-range : goal.pointer-requires-clause-range
pointer-requires-clause-range g c = let l = (field_there (g.M.Memory.view c.args.m.now) (value c.args.o) c.args.i c.requires).fields in omega (arith, l)

pub returns : goal.returns
returns g c =
    let v = g.M.Memory.view c.args.m.now in
    field_read v (value c.args.o) c.args.i c.pointer.result (field_there v (value c.args.o) c.args.i c.requires) c.pointer.ensures.field
