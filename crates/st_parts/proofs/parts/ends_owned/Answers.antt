use Rattle.std.proofs.Common.{◌≡◌, ◌+◌, ◌-◌, length, sym, ap, ◌∙◌, arith}
use Rattle.st_model.specs.Values.{value}
use Rattle.st_parts.specs.inside.Places.{place_of}
use Rattle.st_parts.proofs.Ends.{end_is, owned-none, owned-last}
use Rattle.st_parts.proofs.parts.ends_owned.Goals as goal

pub returns-then-count-lt1-clause-owned : goal.returns-then-count-lt1-clause-owned
returns-then-count-lt1-clause-owned g c = owned-none (g.M.Memory.view c.args.m.now) (place_of c.args.of) c.args.vs.now (omega arith)

pub returns-clause-owned : goal.returns-clause-owned
returns-clause-owned g c =
    owned-last (g.M.Memory.view c.args.m.now) (place_of c.args.of) c.args.vs.now c.is_owner.result _ (omega arith)
    (sym (end_is c.args.vs.now 1 (length c.args.vs.now - 1) _ (omega arith) (omega arith))) c.is_owner.ensures
