use Rattle.std.proofs.Common.{◌≡◌, Some, None, subst}
use Rattle.st_expression_stack.specs.inside.Stacks.{stack_view, IsArgumentPopped}
use Rattle.st_decompile.proofs.ReadTurns.{others_turn, others_end}
use Rattle.st_decompile.proofs.reading.other_arguments.Goals as goal

pub loop-names-preserved : goal.loop-names-preserved
loop-names-preserved c =
    let l = c.loop-names in
    let top : IsArgumentPopped l.items.items c.pop_argument.new.items.items (Some c.in-Some.place) = subst (IsArgumentPopped l.items.items c.pop_argument.new.items.items) c.in-Some.is c.in_ok-place.ensures in
    others_turn c.args.reading l.names.items c.push.new.self.items c.in_ok-name.name (stack_view l.items.items) _ c.in-Some.place _ top.0 c.in_ok-push.ensures.items c.in_ok-name.ensures l.invariant

pub returns : goal.returns
returns c =
    let l = c.loop-names in
    let top : IsArgumentPopped l.items.items c.pop_argument.new.items.items None = subst (IsArgumentPopped l.items.items c.pop_argument.new.items.items) c.in_default.is c.in_ok-place.ensures in
    others_end c.args.reading l.names.items (stack_view l.items.items) _ top.0 l.invariant
