-- With what the machine of a kernel text begins: a process whose context runs a method of a global's value. All that is asked for
-- is a step that dies where it isn't there.
use Rattle.std.specs.Prelude.{ℕ, ◌+◌, ◌*◌, ◌==◌, List, codes, Bool, true, false, if◌then◌else◌}
use Rattle.st_model.specs.declared.dead.Dead.TheVariants as dead
use Rattle.st_model.specs.declared.page.PageObject.TheVariants.{NilObject, SchedulerAssociation, MethodContextClass}
use Rattle.st_model.specs.Values.{Value, Small}
use Rattle.st_model.specs.Machine.{ObjectMemory, Head, Step, answer, ◌>>=◌, ◌>>◌}
use Rattle.st_model.specs.Steps.{of_page, same_value, check, or_die, class_of, new_object, fetch_field, store_field}
use Rattle.st_model.specs.Methods.{flag_of, temporary_count, literal_count, context_size, method_header, method_arguments}
use Rattle.st_model.specs.Lookup.{find}
use Rattle.st_model.specs.Storage.{check_not_method_class}
use Rattle.st_model.specs.Contexts.{fetch_scheduled_registers}
use Rattle.st_model.specs.Table.{Table, table, bounded_table}
use Rattle.st_scope.specs.Tables.{member_named}
use Rattle.st_install.specs.Symbols.{symbol_named}
use Rattle.st_kernel_text.specs.Parts.{Start}

-- The words on the stack of a new context are the temporary variables. With flag 6 a header has the number of a variable in place
-- of their count; there are none.
abbrev pub first_words : Value → ℕ
first_words header = if flag_of header == 6 then 0 else temporary_count header

-- where process and context were made, the registers are fetched
unfoldable pub fetch_if : Bool → Step Table Bool
fetch_if false = answer false
fetch_if true = fetch_scheduled_registers table >> answer true

module _ {H : Type 0} (m : ObjectMemory H) where
  -- WHAT IS THERE

  -- the value of the first global of this name
  unfoldable pub global_value : Head → List ℕ → Step H Value
  global_value head name = do
    globals ← or_die dead.Field head.globals
    found ← member_named m globals name
    association ← or_die dead.Field found
    fetch_field m association 1

  -- the Symbol of this text
  unfoldable pub symbol_of : Head → List ℕ → Step H Value
  symbol_of head text = do
    association ← or_die dead.Field head.symbols
    symbols ← fetch_field m association 1
    found ← symbol_named m symbols text
    or_die dead.Field found

  -- the method for a selector in a class or in the nearest superclass that has one; it takes no arguments
  unfoldable pub unary_method : Value → Value → Step H Value
  unary_method class selector = do
    found ← find m class selector
    method ← or_die dead.Field found
    n ← method_arguments m method
    check dead.Field (n == 0)
    answer method

  -- the method that an object has for the selector of this text
  unfoldable pub method_of : Head → Value → List ℕ → Step H Value
  method_of head receiver text = do
    class ← class_of m receiver
    selector ← symbol_of head text
    unary_method class selector

  -- WHAT IS MADE

  -- the instruction pointer of the first bytecode as it is stored, the stack pointer, the method and the receiver; all else is nil
  unfoldable pub fill_first_context : (context method header receiver : Value) → Step H Unit
  fill_first_context context method header receiver = do
    store_field m context 1 (Small (2 * literal_count header + 3))
    store_field m context 2 (Small (first_words header))
    store_field m context 3 method
    store_field m context 5 receiver

  -- the process has the context and priority 4, and is the scheduler's active one; all else of it is nil
  unfoldable pub schedule : (process context : Value) → Step H Unit
  schedule process context = do
    store_field m process 1 context
    store_field m process 2 (Small 4)
    association ← of_page m SchedulerAssociation
    scheduler ← fetch_field m association 1
    store_field m scheduler 1 process

  unfoldable pub schedule_method : (process context method header receiver : Value) → Step H Bool
  schedule_method process context method header receiver = do
    fill_first_context context method header receiver
    schedule process context
    answer true

  -- A context of the method in this process, where there is room for it. A bounded memory answers nil where there is none.
  unfoldable pub in_new_context : (process method receiver : Value) → Step H Bool
  in_new_context process method receiver = do
    header ← method_header m method
    class ← of_page m MethodContextClass
    context ← new_object m class (context_size header)
    nil ← of_page m NilObject
    if same_value context nil then answer false else schedule_method process context method header receiver

  -- a process of this class and its context, in this order, where there is room for both
  unfoldable pub in_new_process : (class method receiver : Value) → Step H Bool
  in_new_process class method receiver = do
    check_not_method_class m class
    process ← new_object m class 4
    nil ← of_page m NilObject
    if same_value process nil then answer false else in_new_context process method receiver

-- THE BEGINNING

-- The receiver is a global's value, the process an instance of the global Process. It answers whether there was room for process and
-- context. Where there was, a machine can begin: its registers are fetched from the scheduler's process.
unfoldable pub begin_by : Head → Start → Step Table Bool
begin_by head s = do
  receiver ← global_value table head s.receiver
  method ← method_of table head receiver s.selector
  class ← global_value table head (codes "Process")
  made ← in_new_process bounded_table class method receiver
  fetch_if made
