-- Returns, and jumps with a condition (chapter 28). They answer a call where they come to send a message, and else none.
use Rattle.std.specs.Prelude.{Option, Some, None, ℤ, if◌then◌else◌}
use Rattle.st_model.specs.Values.{Value}
use Rattle.st_model.specs.Objects.{PageObject, NilObject, CannotReturn, MustBeBoolean}
use Rattle.st_model.specs.Machine.{ObjectMemory, Step, answer, ◌>>=◌, ◌>>◌}
use Rattle.st_model.specs.Steps.{get_active, get_home, of_page, same_value, fetch_field, store_field, push, pop, jump}
use Rattle.st_model.specs.Contexts.{fetch_context_registers}
use Rattle.st_model.specs.Sends.{Call, send}

-- a step that calls
unfoldable pub calls : {H : Type 0} → Step H Call → Step H (Option Call)
calls m = do
  call ← m
  answer (Some call)

-- a step that calls nothing
unfoldable pub calls_nothing : {H : Type 0} → Step H Unit → Step H (Option Call)
calls_nothing m = m >> answer None

module _ {H : Type 0} (m : ObjectMemory H) where
  -- the active context and the value are pushed, and cannotReturn: is sent
  unfoldable pub cannot_return : Value → Step H Call
  cannot_return v = do
    c ← get_active
    push m c
    push m v
    selector ← of_page m CannotReturn
    send m selector 1

  -- the active context is left for good, and the value is pushed in the other
  unfoldable pub return_into : Value → Value → Step H Unit
  return_into c v = do
    active ← get_active
    nil ← of_page m NilObject
    store_field m active 0 nil
    store_field m active 1 nil
    fetch_context_registers m c
    push m v

  -- a context was left for good where its instruction pointer is nil
  unfoldable pub return_to_context : Value → Value → Value → Step H (Option Call)
  return_to_context c v nil = do
    ip ← fetch_field m c 1
    if same_value ip nil then calls (cannot_return v) else calls_nothing (return_into c v)

  -- v is returned to c
  unfoldable pub return_to : Value → Value → Step H (Option Call)
  return_to c v = do
    nil ← of_page m NilObject
    if same_value c nil then calls (cannot_return v) else return_to_context c v nil

  -- the sender is field 0 of the home context
  unfoldable pub return_to_sender : Value → Step H (Option Call)
  return_to_sender v = do
    home ← get_home
    c ← fetch_field m home 0
    return_to c v

  -- the caller is field 0 of the active context
  unfoldable pub return_to_caller : Value → Step H (Option Call)
  return_to_caller v = do
    active ← get_active
    c ← fetch_field m active 0
    return_to c v

  -- the word is put back, and mustBeBoolean is sent to it
  unfoldable pub must_be_boolean : Value → Step H Call
  must_be_boolean x = do
    push m x
    selector ← of_page m MustBeBoolean
    send m selector 0

  -- the word is the wanted boolean, or else the other one, or neither
  unfoldable pub jump_on : PageObject → PageObject → ℤ → Step H (Option Call)
  jump_on wanted other d = do
    x ← pop m
    a ← of_page m wanted
    b ← of_page m other
    if same_value x a then calls_nothing (jump d) else
        if same_value x b then answer None else calls (must_be_boolean x)
