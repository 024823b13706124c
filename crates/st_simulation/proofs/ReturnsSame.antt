-- Each return, and each jump with a condition, over births does the same over pointers.
use Rattle.std.specs.Prelude.{ℤ}
use Rattle.st_model.specs.Values.{Value}
use Rattle.st_model.specs.declared.page.PageObject.{PageObject}
use Rattle.st_model.specs.Machine.{ObjectMemory}
use Rattle.st_model.specs.Returns.{calls, calls_nothing, cannot_return, return_into, return_to_context, return_to, return_to_sender, return_to_caller, must_be_boolean, jump_on}
use Rattle.st_simulation.proofs.Same.{Simulation, ValueSame, SameAnswer, SameCall, SameAnyCall}
use Rattle.st_simulation.proofs.StepsSame.{parts_same}
use Rattle.st_simulation.proofs.ContextsSame.{fetch_context_registers-same}
use Rattle.st_simulation.proofs.SendsSame.{send-same}

module _ {H K : Type 0} {M : ObjectMemory H} {N : ObjectMemory K} (sim : Simulation M N) (makes : sim.makes) where
  cannot_return-same : (v w : Value) → ValueSame sim v w → SameCall sim (cannot_return M v) (cannot_return N w)
  unfolding cannot_return
  cannot_return-same v w h = search (parts_same, send-same) depth 20 fits 4000

  return_into-same : (c d v w : Value) → ValueSame sim c d → ValueSame sim v w → SameAnswer sim (return_into M c v) (return_into N d w)
  unfolding return_into
  return_into-same c d v w h k = search (parts_same, fetch_context_registers-same) depth 24 fits 4000

  return_to-same : (c d v w : Value) → ValueSame sim c d → ValueSame sim v w → SameAnyCall sim (return_to M c v) (return_to N d w)
  unfolding return_to return_to_context calls calls_nothing
  return_to-same c d v w h k = search (parts_same, cannot_return-same, return_into-same) depth 24 fits 4000

  pub return_to_sender-same : (v w : Value) → ValueSame sim v w → SameAnyCall sim (return_to_sender M v) (return_to_sender N w)
  unfolding return_to_sender
  return_to_sender-same v w h = search (parts_same, return_to-same) depth 16 fits 4000

  pub return_to_caller-same : (v w : Value) → ValueSame sim v w → SameAnyCall sim (return_to_caller M v) (return_to_caller N w)
  unfolding return_to_caller
  return_to_caller-same v w h = search (parts_same, return_to-same) depth 16 fits 4000

  pub jump_on-same : (p q : PageObject) (d : ℤ) → SameAnyCall sim (jump_on M p q d) (jump_on N p q d)
  unfolding jump_on must_be_boolean calls calls_nothing
  jump_on-same p q d = search (parts_same, send-same) depth 24 fits 4000
