use Rattle.std.proofs.Common.{◌≡◌, [], map, ap, ◌∙◌, arith}
use Rattle.st_decompile.specs.Back.{places_from}
use Rattle.st_expression_stack.specs.Choosing.{called}
use Rattle.st_expression_stack.specs.inside.Called.{calling_view}
use Rattle.st_expression_stack.specs.Names.{name_in}
use Rattle.st_decompile.proofs.VariableTurns.{variables_turn}
use Rattle.st_decompile.proofs.whole.variables_called.Goals as goal

pub loop-i-preserved : goal.loop-i-preserved
loop-i-preserved c =
    variables_turn (name_in (calling_view c.args.calling.now)) c.args.first c.loop-i.i c.in_ok-number.number c.loop-i.names.items c.push.new.self.items c.in_ok-name.name c.loop-i.invariant c.in_ok-push.ensures.items c.in_ok-name.ensures c.in_ok-number.ensures

pub returns : goal.returns
returns c =
    let all : c.loop-i.i ≡ c.args.count = omega arith in
    c.loop-i.invariant ∙ ap (λ k. map (λ p. called (name_in (calling_view c.args.calling.now) p)) (places_from c.args.first k [])) all
