use Rattle.std.proofs.Common.{ap, ◌∙◌}
use Rattle.st_model.specs.Text.{registers_text, input_text, held_text}
use Rattle.st_frames.specs.inside.Shown.{registers_of}
use Rattle.st_call.proofs.Pushing.{push_then, push_begun, push_as}
use Rattle.st_session.proofs.answering.push_machine.Goals as goal

pub returns-in_err-push_registers : goal.returns-in_err-push_registers
returns-in_err-push_registers g c =
    push_begun _ c.from_residual.ensures.0 (push_as c.in_err-push_registers.ensures (ap (λ f. registers_text (registers_of f)) c.frame.ensures))

pub returns-in_err-push_input : goal.returns-in_err-push_input
returns-in_err-push_input g c =
    push_then (push_as c.in_ok-push_registers.ensures (ap (λ f. registers_text (registers_of f)) c.frame.ensures))
    (push_begun _ c.from_residual-in_err-push_input.ensures.0 (push_as c.in_err-push_input.ensures (ap input_text c.world.ensures)))

pub returns : goal.returns
returns g c =
    push_then (push_as c.in_ok-push_registers.ensures (ap (λ f. registers_text (registers_of f)) c.frame.ensures))
    (push_then (push_as c.in_ok-push_input.ensures (ap input_text c.world.ensures))
    (push_as c.push_held.ensures (ap (λ m. held_text (g.M.Memory.view m).held.devices) c.memory-2.ensures ∙ ap held_text c.requires.ready.devices)))
