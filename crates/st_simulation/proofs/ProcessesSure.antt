-- Processes and semaphores meet no name without an object.
use Rattle.std.proofs.Common.{ℕ, zero, suc, Bool, true, false}
use Rattle.std.specs.Prelude.{ℤ, pos}
use Rattle.st_model.specs.declared.primitive.ProcessPrimitive.{ProcessPrimitive}
use Rattle.st_model.specs.declared.primitive.ProcessPrimitive.TheVariants as named
use Rattle.st_model.specs.Values.{Value}
use Rattle.st_model.specs.Objects.{Object}
use Rattle.st_model.specs.Processes.{scheduler, scheduled_process, active_or_new, active_process, link_first, add_last, unlink_first, take_first, ready_lists, list_number, sleep, let_wait, resume_over, resume, add_excess, wake_first, signal, go_on_with, highest_goes_on, suspend, check_fields, signal_and_answer, primitive_signal, excess_of, wait_in, take_excess, wait_and_answer, primitive_wait, resume_and_answer, primitive_resume, check_active, suspend_and_answer, primitive_suspend, processes}
use Rattle.st_simulation.proofs.Present.{bare, full, There, SureValue, SureAnswer}
use Rattle.st_simulation.proofs.PresentSteps.{sures, parts, primitive-sure}

module _ (o : Object) (lives : ℕ → Type 0) where
  active_or_new-sure : (n : ℕ) (p : Value) (b : Bool) → There o lives n p → SureValue o lives n (active_or_new bare p b) (active_or_new (full o) p b)
  unfolding active_or_new scheduled_process scheduler
  active_or_new-sure n p true h = search parts depth 24 fits 4000
  active_or_new-sure n p false h = search sures

  -- lists

  link_first-sure : (n : ℕ) (p l : Value) (b : Bool) → There o lives n p → There o lives n l → SureAnswer o lives n (link_first bare p l b) (link_first (full o) p l b)
  unfolding link_first
  link_first-sure n p l true h0 h1 = search parts depth 24 fits 4000
  link_first-sure n p l false h0 h1 = search parts depth 24 fits 4000

  unlink_first-sure : (n : ℕ) (p l x : Value) (b : Bool) → There o lives n p → There o lives n l → There o lives n x → SureAnswer o lives n (unlink_first bare p l x b) (unlink_first (full o) p l x b)
  unfolding unlink_first
  unlink_first-sure n p l x true h0 h1 h2 = search parts depth 24 fits 4000
  unlink_first-sure n p l x false h0 h1 h2 = search parts depth 24 fits 4000

  list_number-sure : (n : ℕ) (i : ℤ) → SureAnswer o lives n (list_number i) (list_number i)
  unfolding list_number
  list_number-sure n (pos zero) = search sures
  list_number-sure n i = search sures

  resume_over-sure : (n : ℕ) (p a : Value) (b : Bool) → There o lives n p → There o lives n a → SureAnswer o lives n (resume_over bare p a b) (resume_over (full o) p a b)
  unfolding resume_over sleep let_wait ready_lists scheduler add_last
  resume_over-sure n p a true h0 h1 = search (parts, list_number-sure, link_first-sure) depth 40 fits 9000
  resume_over-sure n p a false h0 h1 = search (parts, list_number-sure, link_first-sure) depth 40 fits 9000

  pub signal-sure : (n : ℕ) (s : Value) → There o lives n s → SureAnswer o lives n (signal bare s) (signal (full o) s)
  unfolding signal add_excess wake_first take_first resume active_process scheduled_process scheduler
  signal-sure n s h0 = search (parts, active_or_new-sure, unlink_first-sure, resume_over-sure) depth 40 fits 9000

  highest_goes_on-sure : (n : ℕ) (l : Value) (i : ℕ) → There o lives n l → SureAnswer o lives n (highest_goes_on bare l i) (highest_goes_on (full o) l i)
  unfolding highest_goes_on go_on_with take_first let_wait
  highest_goes_on-sure n l zero h = search sures
  highest_goes_on-sure n l (suc i) h =
      let lower : (k : ℕ) → There o lives k l → SureAnswer o lives k (highest_goes_on bare l i) (highest_goes_on (full o) l i) = λ k g. highest_goes_on-sure k l i g in
      search (parts, lower, unlink_first-sure) depth 40 fits 9000

  -- conditions, effects, and the primitives

  take_excess-sure : (n : ℕ) (r : Value) (i : ℤ) → There o lives n r → SureAnswer o lives n (take_excess bare r i) (take_excess (full o) r i)
  unfolding take_excess wait_in active_process scheduled_process scheduler add_last suspend ready_lists
  take_excess-sure n r (pos (suc i)) h = search parts depth 24 fits 4000
  take_excess-sure n r i h = search (parts, active_or_new-sure, link_first-sure, highest_goes_on-sure) depth 40 fits 9000

  ruleset processes_sure = (parts, primitive-sure, signal-sure, take_excess-sure, resume_over-sure, active_or_new-sure, highest_goes_on-sure)

  pub processes-sure : (n : ℕ) (p : ProcessPrimitive) → SureAnswer o lives n (processes bare p) (processes (full o) p)
  unfolding processes primitive_signal primitive_wait primitive_resume primitive_suspend check_fields excess_of check_active signal_and_answer wait_and_answer resume_and_answer suspend_and_answer resume active_process suspend ready_lists scheduler scheduled_process
  processes-sure n named.Signal = search processes_sure depth 60 fits 40000
  processes-sure n p = search processes_sure depth 60 fits 40000
