use Rattle.std.proofs.Common.{ℕ, ◌++◌, sym, ap}
use Rattle.st_model.specs.Values.{value}
use Rattle.st_model.specs.View.{object_of}
use Rattle.st_host.proofs.Pushing.{push_then}
use Rattle.st_writer.specs.Written.{filler}
use Rattle.st_writer.proofs.units.push_filled.Goals as goal

pub returns : goal.returns
returns g c =
    let units = (object_of (g.M.Memory.view c.args.m.now).objects (value c.args.o)).units in
    push_then g.H.Host c.args.name.now _ units (filler c.count_units.result) _ _ _ _ _ _ _ c.in_ok-push_bytes.ensures c.push_filler.ensures
    (ap (λ (n : ℕ). units ++ filler n) (sym c.count_units.ensures))
