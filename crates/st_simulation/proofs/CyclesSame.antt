-- What is done before a bytecode, and what stores a process for an image, does over births the same as over pointers.
use Rattle.std.proofs.Common.{◌≡◌, ℕ, zero, suc, Option, Some, None, Bool, true, false, refl}
use Rattle.st_model.specs.Values.{Value, renamed}
use Rattle.st_model.specs.Machine.{ObjectMemory}
use Rattle.st_model.specs.Processes.{scheduler, scheduled_process}
use Rattle.st_model.specs.Cycles.{signal_if_any, signal_next, signal_newest, switch_unless_nil, switch_if_waiting, check_process_switch}
use Rattle.st_model.specs.Saving.{store_active, store_process}
use Rattle.st_simulation.proofs.Same.{Simulation, ValueSame, OptionalSame, SameAnswer, then_unit-same, steps_same}
use Rattle.st_simulation.proofs.StepsSame.{parts_same}
use Rattle.st_simulation.proofs.ContextsSame.{store_context_registers-same, fetch_scheduled_registers-same}
use Rattle.st_simulation.proofs.ProcessesSame.{signal-same, switch_to_process-same}

module _ {H K : Type 0} {M : ObjectMemory H} {N : ObjectMemory K} (sim : Simulation M N) where
  signal_if_any-same : (a b : Option Value) → OptionalSame sim a b → SameAnswer sim (signal_if_any M a) (signal_if_any N b)
  unfolding signal_if_any
  signal_if_any-same None b h = rw h.is (search steps_same)
  signal_if_any-same (Some s) b h =
      let l : ValueSame sim s (renamed sim.name s) = record { live = h.live; is = refl } in
      rw h.is (search (parts_same, signal-same) depth 16 fits 4000)

  signal_next-same : SameAnswer sim (signal_next M) (signal_next N)
  unfolding signal_next
  signal_next-same = search (parts_same, signal_if_any-same) depth 16 fits 4000

  signal_newest-same : (n : ℕ) → SameAnswer sim (signal_newest M n) (signal_newest N n)
  unfolding signal_newest
  signal_newest-same zero = search steps_same
  signal_newest-same (suc n) = then_unit-same sim _ _ _ _ _ _ signal_next-same (signal_newest-same n)

  switch_unless_nil-same : (v w : Value) (b c : Bool) → ValueSame sim v w → c ≡ b → SameAnswer sim (switch_unless_nil M v b) (switch_unless_nil N w c)
  unfolding switch_unless_nil
  switch_unless_nil-same v w true c h e = rw e (search steps_same)
  switch_unless_nil-same v w false c h e = rw e (switch_to_process-same sim v w h)

  pub check_process_switch-same : SameAnswer sim (check_process_switch M) (check_process_switch N)
  unfolding check_process_switch switch_if_waiting
  check_process_switch-same = search (parts_same, signal_newest-same, switch_unless_nil-same) depth 16 fits 4000

  pub store_process-same : SameAnswer sim (store_process M) (store_process N)
  unfolding store_process switch_if_waiting store_active scheduled_process scheduler
  store_process-same = search (parts_same, switch_unless_nil-same, store_context_registers-same, fetch_scheduled_registers-same) depth 32 fits 4000
