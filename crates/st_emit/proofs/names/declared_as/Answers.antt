use Rattle.std.proofs.Common.{None, Some, sym, ap, ◌∙◌}
use Rattle.std.specs.Prelude.{option_map}
use Rattle.st_emit.specs.inside.NameViews.{variable_view}
use Rattle.st_emit.proofs.Scopes.{found_turn}
use Rattle.st_emit.proofs.names.declared_as.Goals as goal

pub returns-in-Some : goal.returns-in-Some
returns-in-Some c =
    let turn = found_turn c.args.scope.now c.loop-frame.frame-index c.frame-item.result c.args.text.now (Some c.in-Some.variable) c.loop-frame-test.true c.frame-item.is (ap (option_map variable_view) (sym c.in-Some.is) ∙ c.in_ok-variable.ensures) in
    sym turn ∙ c.loop-frame.invariant

pub loop-frame-preserved : goal.loop-frame-preserved
loop-frame-preserved c =
    let turn = found_turn c.args.scope.now c.loop-frame.frame-index c.frame-item.result c.args.text.now None c.loop-frame-test.true c.frame-item.is (ap (option_map variable_view) (sym c.in_default.is) ∙ c.in_ok-variable.ensures) in
    sym turn ∙ c.loop-frame.invariant
