use Rattle.std.proofs.Common.{◌≤◌, ◌∙◌, ap, sym, length, arith}
use Rattle.st_model.specs.Objects.{nil}
use Rattle.st_model.proofs.Words.{value_of-nil}
use Rattle.st_install.specs.declared.plan.PlannedValue.{PlannedValue}
use Rattle.st_install.specs.Installing.{part_value}
use Rattle.st_scope.specs.inside.Meanings.{values}
use Rattle.st_install.specs.inside.Readies.{part_of}
use Rattle.st_install.proofs.Filled.{made_part, no_part}
use Rattle.st_install.proofs.filling.part_value.Goals as goal

pub returns-in-Made : goal.returns-in-Made
returns-in-Made c =
    made_part c.args.made.now c.in-Made.k _ c.if-k-made.true ∙ ap (λ (p : PlannedValue). part_value nil (values c.args.made.now) (part_of p)) (sym c.in-Made.is)

pub returns-in-Made-2 : goal.returns-in-Made-2
returns-in-Made-2 c =
    let l = c.if-k-made.false in
    let past : length c.args.made.now ≤ c.in-Made.k = omega (arith, l) in
    value_of-nil ∙ (no_part c.args.made.now c.in-Made.k past ∙ ap (λ (p : PlannedValue). part_value nil (values c.args.made.now) (part_of p)) (sym c.in-Made.is))
