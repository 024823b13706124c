use Rattle.std.proofs.Common.{true, false, sym, ap, ◌∙◌}
use Rattle.std.specs.Prelude.{is_some}
use Rattle.st_emit.proofs.NamePlaces.{some_place}
use Rattle.st_emit.proofs.Scopes.{declared_turn}
use Rattle.st_emit.proofs.names.is_declared.Goals as goal

pub returns-then-is_some : goal.returns-then-is_some
returns-then-is_some c =
    let frame = c.frame-item.result in
    let found = c.if-is_some.ensures ∙ ap is_some c.name_place.ensures ∙ some_place c.args.text.now frame.names.now in
    sym (declared_turn c.args.scope.now c.loop-frame.frame-index frame c.args.text.now true c.loop-frame-test.true c.frame-item.is found) ∙ c.loop-frame.invariant

pub loop-frame-preserved : goal.loop-frame-preserved
loop-frame-preserved c =
    let frame = c.frame-item.result in
    let found = c.if-is_some.ensures ∙ ap is_some c.name_place.ensures ∙ some_place c.args.text.now frame.names.now in
    sym (declared_turn c.args.scope.now c.loop-frame.frame-index frame c.args.text.now false c.loop-frame-test.true c.frame-item.is found) ∙ c.loop-frame.invariant
