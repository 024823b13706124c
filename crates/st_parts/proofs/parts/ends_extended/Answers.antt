use Rattle.std.proofs.Common.{◌≡◌, ◌+◌, ◌-◌, length, sym, ap, ◌∙◌, arith}
use Rattle.st_model.specs.Values.{value, is_small}
use Rattle.st_parts.specs.inside.Places.{place_of}
use Rattle.st_parts.proofs.Ends.{end_is, extended-none, extended-other, extended-last}
use Rattle.st_parts.proofs.parts.ends_extended.Goals as goal

pub returns-then-count-lt2-clause-extended : goal.returns-then-count-lt2-clause-extended
returns-then-count-lt2-clause-extended g c = extended-none (g.M.Memory.view c.args.m.now) (place_of c.args.of) c.args.vs.now (omega arith)

pub returns-then-not-is_small-clause-extended : goal.returns-then-not-is_small-clause-extended
returns-then-not-is_small-clause-extended g c =
    extended-other (g.M.Memory.view c.args.m.now) (place_of c.args.of) c.args.vs.now (omega arith)
    (ap is_small (end_is c.args.vs.now 2 (length c.args.vs.now - 2) _ (omega arith) (omega arith)) ∙ (sym c.is_small.ensures ∙ c.if-not-is_small.true))

pub returns-clause-extended : goal.returns-clause-extended
returns-clause-extended g c =
    extended-last (g.M.Memory.view c.args.m.now) (place_of c.args.of) c.args.vs.now c.is_owner.result _ (omega arith)
    (ap is_small (end_is c.args.vs.now 2 (length c.args.vs.now - 2) _ (omega arith) (omega arith)) ∙ (sym c.is_small.ensures ∙ c.if-not-is_small.false))
    (sym (end_is c.args.vs.now 1 (length c.args.vs.now - 1) _ (omega arith) (omega arith))) c.is_owner.ensures

pub returns-clause-small : goal.returns-clause-small
returns-clause-small g c = λ e. ap is_small (end_is c.args.vs.now 2 (length c.args.vs.now - 2) _ (omega arith) (omega arith)) ∙ (sym c.is_small.ensures ∙ c.if-not-is_small.false)
