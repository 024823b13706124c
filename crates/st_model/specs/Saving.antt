-- What makes an image of a running machine one that can be begun with (chapter 29): the active context is stored with its process.
use Rattle.st_model.specs.Machine.{ObjectMemory, State, Transition, Died, Went, Step, ◌>>=◌, ◌>>◌}
use Rattle.st_model.specs.Steps.{get_active, store_field}
use Rattle.st_model.specs.Contexts.{store_context_registers, fetch_scheduled_registers}
use Rattle.st_model.specs.Processes.{scheduled_process}
use Rattle.st_model.specs.Cycles.{switch_if_waiting}
use Rattle.st_model.specs.Settled.{reclaim}

module _ {H : Type 0} (m : ObjectMemory H) where
  -- the registers are stored, and the active context becomes that of the scheduler's process
  unfoldable pub store_active : Step H Unit
  store_active = do
    store_context_registers m
    c ← get_active
    p ← scheduled_process m
    store_field m p 1 c

  -- a waiting process switch is carried out, the active context is stored with its process, and the registers are fetched again
  -- from there
  unfoldable pub store_process : Step H Unit
  store_process = do
    switch_if_waiting m
    store_active
    fetch_scheduled_registers m

  abbrev pub settled_after : Transition (State H) Unit → Transition (State H) Unit
  settled_after (Died cause) = Died cause
  settled_after (Went u s) = Went u (reclaim m s)

  -- and then what nothing supports is dropped
  unfoldable pub save : State H → Transition (State H) Unit
  save s = settled_after ((store_process).run s)
