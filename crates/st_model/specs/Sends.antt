-- Sends (chapter 28). A send answers a call: the method that is to be executed, and its number of arguments.
use Rattle.std.specs.Prelude.{ℕ, ◌+◌, ◌-◌, ◌*◌, Option, Some, None, ℤ, pos, negsuc}
use Rattle.std.specs.Option.{option_map}
use Rattle.st_model.specs.declared.dead.Dead.TheVariants as dead
use Rattle.st_model.specs.declared.call.Call.{Call as CodeCall}
use Rattle.st_model.specs.Values.{Value, word}
use Rattle.st_model.specs.Objects.{ArrayClass, MessageClass, NotUnderstood, Selectors}
use Rattle.st_model.specs.Machine.{ObjectMemory, Step, answer, die, ◌>>=◌, ◌>>◌}
use Rattle.st_model.specs.Steps.{get_active, get_method, get_sp, of_page, new_object, class_of, fetch_field, store_field, fetch_integer, transfer, push, under, drop_words}
use Rattle.st_model.specs.Methods.{literal_from_last}
use Rattle.st_model.specs.Lookup.{find}

-- a method that is to be executed; its arguments, and below them the receiver, stand on top of the stack
pub record Call : Type 0 where
  pub method : Value
  pub arguments : ℕ

-- what a call of the code means, or none
abbrev pub call_of : CodeCall → Call
call_of c = record { method = word c.method; arguments = c.arguments }

abbrev pub call_if_any : Option CodeCall → Option Call
call_if_any x = option_map call_of x

-- the number of arguments that the special selectors have
unfoldable pub argument_count : {H : Type 0} → ℤ → Step H ℕ
argument_count (pos n) = answer n
argument_count (negsuc n) = die dead.Field

module _ {H : Type 0} (m : ObjectMemory H) where
  -- the n words at the top go into an Array, the lowest first
  unfoldable pub copy_arguments : Value → ℕ → Step H Unit
  copy_arguments array n = do
    c ← get_active
    sp ← get_sp
    transfer m n c (sp + 1 - n) array 0

  -- a new Array of the n words at the top
  unfoldable pub argument_array : ℕ → Step H Value
  argument_array n = do
    class ← of_page m ArrayClass
    array ← new_object m class n
    copy_arguments array n
    answer array

  -- a new Message of a selector and an Array of arguments
  unfoldable pub new_message : Value → Value → Step H Value
  new_message selector array = do
    class ← of_page m MessageClass
    message ← new_object m class 2
    store_field m message 0 selector
    store_field m message 1 array
    answer message

  -- a Message takes the place of the n arguments
  unfoldable pub replace_by_message : Value → ℕ → Step H Unit
  replace_by_message selector n = do
    array ← argument_array n
    message ← new_message selector array
    drop_words n
    push m message

  -- the method for doesNotUnderstand: is called with the Message as its argument; without one the machine is dead
  unfoldable pub call_not_understood : Value → ℕ → Option Value → Step H Call
  call_not_understood selector n None = die dead.Unanswered
  call_not_understood selector n (Some method) = do
    replace_by_message selector n
    answer (record { method = method; arguments = 1 })

  unfoldable pub not_understood : Value → Value → ℕ → Step H Call
  not_understood class selector n = do
    understand ← of_page m NotUnderstood
    method ← find m class understand
    call_not_understood selector n method

  unfoldable pub call_found : Value → Value → ℕ → Option Value → Step H Call
  call_found class selector n (Some method) = answer (record { method = method; arguments = n })
  call_found class selector n None = not_understood class selector n

  -- the search begins in this class
  unfoldable pub send_from : Value → Value → ℕ → Step H Call
  send_from class selector n = find m class selector >>= call_found class selector n

  -- the receiver is the word n words below the top
  unfoldable pub send : Value → ℕ → Step H Call
  send selector n = do
    receiver ← under m n
    class ← class_of m receiver
    send_from class selector n

  -- the superclass of the method's class, which is the value of the association that is the last literal
  unfoldable pub class_above : Step H Value
  class_above = do
    method ← get_method
    association ← literal_from_last m method 0
    class ← fetch_field m association 1
    fetch_field m class 0

  -- the search begins in that superclass
  unfoldable pub send_to_super : Value → ℕ → Step H Call
  send_to_super selector n = do
    receiver ← under m n
    class ← class_above
    send_from class selector n

  -- of the number k, fields 2k and 2k + 1 of the special selectors are selector and number of arguments
  unfoldable pub special_send : ℕ → Step H Call
  special_send k = do
    selectors ← of_page m Selectors
    selector ← fetch_field m selectors (2 * k)
    count ← fetch_integer m selectors (2 * k + 1)
    n ← argument_count count
    send selector n
