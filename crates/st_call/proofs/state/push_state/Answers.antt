use Rattle.std.proofs.Common.{ap}
use Rattle.st_model.specs.Text.{state_text, held_text}
use Rattle.st_call.proofs.Pushing.{push_then, push_begun, push_as}
use Rattle.st_call.proofs.state.push_state.Goals as goal

pub returns-in_err-push_registers : goal.returns-in_err-push_registers
unfolding state_text
returns-in_err-push_registers g c =
    push_begun _ c.from_residual.ensures.0 c.in_err-push_registers.ensures

pub returns-in_err-push_input : goal.returns-in_err-push_input
unfolding state_text
returns-in_err-push_input g c =
    push_then c.in_ok-push_registers.ensures
    (push_begun _ c.from_residual-in_err-push_input.ensures.0 c.in_err-push_input.ensures)

pub returns-in_err-push_held : goal.returns-in_err-push_held
unfolding state_text
returns-in_err-push_held g c =
    push_then c.in_ok-push_registers.ensures
    (push_then c.in_ok-push_input.ensures
    (push_begun _ c.from_residual-in_err-push_held.ensures.0 (push_as c.in_err-push_held.ensures (ap held_text c.requires.ready.devices))))

pub returns-in_err-push_used : goal.returns-in_err-push_used
unfolding state_text
returns-in_err-push_used g c =
    push_then c.in_ok-push_registers.ensures
    (push_then c.in_ok-push_input.ensures
    (push_then (push_as c.in_ok-push_held.ensures (ap held_text c.requires.ready.devices))
    (push_begun _ c.from_residual-in_err-push_used.ensures.0 c.in_err-push_used.ensures)))

pub returns : goal.returns
unfolding state_text
returns g c =
    push_then c.in_ok-push_registers.ensures
    (push_then c.in_ok-push_input.ensures
    (push_then (push_as c.in_ok-push_held.ensures (ap held_text c.requires.ready.devices))
    (push_then c.in_ok-push_used.ensures c.push_objects.ensures)))
