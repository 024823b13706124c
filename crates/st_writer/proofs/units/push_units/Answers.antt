use Rattle.std.proofs.Common.{sym, ap, ◌∙◌}
use Rattle.st_model.specs.declared.kind.Kind.{Kind}
use Rattle.st_model.specs.Values.{value}
use Rattle.st_model.specs.View.{object_of}
use Rattle.st_host.proofs.Pushing.{push_none}
use Rattle.st_writer.specs.Written.{unit_bytes}
use Rattle.st_writer.proofs.units.push_units.Goals as goal

pub returns-in-Pointers : goal.returns-in-Pointers
returns-in-Pointers g c =
    let units = (object_of (g.M.Memory.view c.args.m.now).objects (value c.args.o)).units in
    rw (ap (λ (k : Kind). unit_bytes k units) (sym c.kind.ensures.kind ∙ c.in-Pointers.is))
    (push_none g.H.Host c.args.name.now c.args.host.now c.args.piece.now (λ told f s left. g.met.H.Host.only_now c.args.host.now f s told left))
