-- What is done before a bytecode, and what stores a process for an image, meets no name without an object.
use Rattle.std.proofs.Common.{ℕ, zero, suc, Option, Some, None, Bool, true, false}
use Rattle.st_model.specs.Values.{Value}
use Rattle.st_model.specs.Objects.{Object}
use Rattle.st_model.specs.Contexts.{scheduled_context, fetch_scheduled_registers}
use Rattle.st_model.specs.Processes.{scheduler, scheduled_process, let_wait, leave_process, enter_process, switch_to_process}
use Rattle.st_model.specs.Cycles.{signal_if_any, signal_next, signal_newest, switch_unless_nil, switch_if_waiting, check_process_switch}
use Rattle.st_model.specs.Saving.{store_active, store_process}
use Rattle.st_simulation.proofs.Present.{bare, full, There, ThereIfAny, SureAnswer}
use Rattle.st_simulation.proofs.PresentSteps.{sures, parts, switch-sure, store_context_registers-sure, fetch_context_registers-sure}
use Rattle.st_simulation.proofs.ProcessesSure.{signal-sure}

module _ (o : Object) (lives : ℕ → Type 0) where
  signal_if_any-sure : (n : ℕ) (v : Option Value) → ThereIfAny o lives n v → SureAnswer o lives n (signal_if_any bare v) (signal_if_any (full o) v)
  unfolding signal_if_any
  signal_if_any-sure n None h = search sures
  signal_if_any-sure n (Some s) h =
      let there : There o lives n s = record { live = h.live } in
      search (parts, signal-sure) depth 24 fits 4000

  signal_newest-sure : (n k : ℕ) → SureAnswer o lives n (signal_newest bare k) (signal_newest (full o) k)
  unfolding signal_newest signal_next
  signal_newest-sure n zero = search sures
  signal_newest-sure n (suc k) =
      let others : (j : ℕ) → SureAnswer o lives j (signal_newest bare k) (signal_newest (full o) k) = λ j. signal_newest-sure j k in
      search (parts, signal_if_any-sure, others) depth 24 fits 4000

  switch_unless_nil-sure : (n : ℕ) (p : Value) (b : Bool) → There o lives n p → SureAnswer o lives n (switch_unless_nil bare p b) (switch_unless_nil (full o) p b)
  unfolding switch_unless_nil switch_to_process leave_process enter_process let_wait scheduled_process scheduler
  switch_unless_nil-sure n p true h = search sures
  switch_unless_nil-sure n p false h = search (parts, switch-sure) depth 40 fits 9000

  pub check_process_switch-sure : (n : ℕ) → SureAnswer o lives n (check_process_switch bare) (check_process_switch (full o))
  unfolding check_process_switch switch_if_waiting
  check_process_switch-sure n = search (parts, signal_newest-sure, switch_unless_nil-sure) depth 24 fits 4000

  pub store_process-sure : (n : ℕ) → SureAnswer o lives n (store_process bare) (store_process (full o))
  unfolding store_process switch_if_waiting store_active fetch_scheduled_registers scheduled_context scheduled_process scheduler
  store_process-sure n = search (parts, switch_unless_nil-sure, store_context_registers-sure, fetch_context_registers-sure) depth 40 fits 9000
