-- Processes and semaphores over births do the same over pointers.
use Rattle.std.proofs.Common.{◌≡◌, ℕ, zero, suc, Bool, true, false}
use Rattle.std.specs.Prelude.{ℤ, pos}
use Rattle.st_model.specs.declared.primitive.ProcessPrimitive.{ProcessPrimitive}
use Rattle.st_model.specs.declared.primitive.ProcessPrimitive.TheVariants as named
use Rattle.st_model.specs.Values.{Value}
use Rattle.st_model.specs.Machine.{ObjectMemory}
use Rattle.st_model.specs.Processes.{scheduler, scheduled_process, active_or_new, active_process, link_first, add_last, unlink_first, take_first, ready_lists, list_number, sleep, let_wait, resume_over, resume, add_excess, wake_first, signal, go_on_with, highest_goes_on, suspend, leave_process, enter_process, switch_to_process, check_fields, signal_and_answer, primitive_signal, excess_of, wait_in, take_excess, wait_and_answer, primitive_wait, resume_and_answer, primitive_resume, check_active, suspend_and_answer, primitive_suspend, processes}
use Rattle.st_simulation.proofs.Same.{Simulation, ValueSame, SameValue, SameAnswer, steps_same}
use Rattle.st_simulation.proofs.StepsSame.{parts_same}
use Rattle.st_simulation.proofs.ContextsSame.{switch-same}
use Rattle.st_simulation.proofs.PrimitivesSame.{primitive-same}

-- nothing is made
module _ {H K : Type 0} {M : ObjectMemory H} {N : ObjectMemory K} (sim : Simulation M N) where
  active_or_new-same : (p q : Value) (b c : Bool) → ValueSame sim p q → c ≡ b → SameValue sim (active_or_new M p b) (active_or_new N q c)
  unfolding active_or_new scheduled_process scheduler
  active_or_new-same p q true c h e = rw e (search parts_same depth 24 fits 4000)
  active_or_new-same p q false c h e = rw e (search steps_same)

  -- lists

  link_first-same : (p q l k : Value) (b c : Bool) → ValueSame sim p q → ValueSame sim l k → c ≡ b → SameAnswer sim (link_first M p l b) (link_first N q k c)
  unfolding link_first
  link_first-same p q l k true c h g e = rw e (search parts_same depth 24 fits 4000)
  link_first-same p q l k false c h g e = rw e (search parts_same depth 24 fits 4000)

  unlink_first-same : (p q l k x y : Value) (b c : Bool) → ValueSame sim p q → ValueSame sim l k → ValueSame sim x y → c ≡ b → SameAnswer sim (unlink_first M p l x b) (unlink_first N q k y c)
  unfolding unlink_first
  unlink_first-same p q l k x y true c h g f e = rw e (search parts_same depth 24 fits 4000)
  unlink_first-same p q l k x y false c h g f e = rw e (search parts_same depth 24 fits 4000)

  list_number-same : (n : ℤ) → SameAnswer sim (list_number n) (list_number n)
  unfolding list_number
  list_number-same (pos zero) = search steps_same
  list_number-same n = search steps_same

  resume_over-same : (p q a b : Value) (x : Bool) → ValueSame sim p q → ValueSame sim a b → SameAnswer sim (resume_over M p a x) (resume_over N q b x)
  unfolding resume_over sleep let_wait ready_lists scheduler add_last
  resume_over-same p q a b true h g = search (parts_same, list_number-same, link_first-same) depth 40 fits 9000
  resume_over-same p q a b false h g = search (parts_same, list_number-same, link_first-same) depth 40 fits 9000

  pub signal-same : (s t : Value) → ValueSame sim s t → SameAnswer sim (signal M s) (signal N t)
  unfolding signal add_excess wake_first take_first resume active_process scheduled_process scheduler
  signal-same s t h = search (parts_same, active_or_new-same, unlink_first-same, resume_over-same) depth 40 fits 9000

  highest_goes_on-same : (l k : Value) (n : ℕ) → ValueSame sim l k → SameAnswer sim (highest_goes_on M l n) (highest_goes_on N k n)
  unfolding highest_goes_on go_on_with take_first let_wait
  highest_goes_on-same l k zero h = search steps_same
  highest_goes_on-same l k (suc n) h = search (parts_same, highest_goes_on-same l k n, unlink_first-same) depth 40 fits 9000

  pub switch_to_process-same : (p q : Value) → ValueSame sim p q → SameAnswer sim (switch_to_process M p) (switch_to_process N q)
  unfolding switch_to_process leave_process enter_process let_wait scheduled_process scheduler
  switch_to_process-same p q h = search (parts_same, switch-same) depth 40 fits 9000

  take_excess-same : (r s : Value) (n : ℤ) → ValueSame sim r s → SameAnswer sim (take_excess M r n) (take_excess N s n)
  unfolding take_excess wait_in active_process scheduled_process scheduler add_last suspend ready_lists
  take_excess-same r s (pos (suc n)) h = search parts_same depth 24 fits 4000
  take_excess-same r s n h = search (parts_same, active_or_new-same, link_first-same, highest_goes_on-same) depth 40 fits 9000

-- primitives
module _ {H K : Type 0} {M : ObjectMemory H} {N : ObjectMemory K} (sim : Simulation M N) (makes : sim.makes) where
  ruleset processes_same = (parts_same, primitive-same, signal-same, take_excess-same, resume_over-same, active_or_new-same, highest_goes_on-same)

  pub processes-same : (p : ProcessPrimitive) → SameAnswer sim (processes M p) (processes N p)
  unfolding processes primitive_signal primitive_wait primitive_resume primitive_suspend check_fields excess_of check_active signal_and_answer wait_and_answer resume_and_answer suspend_and_answer resume active_process suspend ready_lists scheduler scheduled_process
  processes-same named.Signal = search processes_same depth 60 fits 40000
  processes-same p = search processes_same depth 60 fits 40000
