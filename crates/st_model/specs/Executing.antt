-- What executes a method that was called (chapter 28), by its primitive where it has one.
use Rattle.std.specs.Prelude.{ℕ, ◌+◌, ◌-◌, ◌==◌, Option, Some, None, Bool, true, nat_lt, nat_le, if◌then◌else◌}
use Rattle.st_model.specs.declared.dead.Dead.TheVariants as dead
use Rattle.st_model.specs.declared.primitive.Primitive.{Primitive}
use Rattle.st_model.specs.declared.primitive.Primitive.TheVariants as named
use Rattle.st_model.specs.PrimitiveTable.{primitive_of}
use Rattle.st_model.specs.Values.{Value}
use Rattle.st_model.specs.Objects.{ArrayClass}
use Rattle.st_model.specs.Machine.{ObjectMemory, Step, answer, tried, ◌>>=◌, ◌>>◌}
use Rattle.st_model.specs.Outcomes.{Outcome}
use Rattle.st_model.specs.Outcomes as outcome
use Rattle.st_model.specs.Steps.{class_of, check, count_fields, fetch_field, transfer, get_active, get_sp, set_sp, push, pop, top, under, drop_words}
use Rattle.st_model.specs.Methods.{flag_of, temporary_count, method_header, method_primitive, method_arguments}
use Rattle.st_model.specs.Contexts.{activate}
use Rattle.st_model.specs.Lookup.{find}
use Rattle.st_model.specs.Sends.{Call, not_understood}
use Rattle.st_model.specs.Primitives.{answer_with, check_class}
use Rattle.st_model.specs.Arithmetic.{arithmetic, large_arithmetic, shift_large, equivalence, receiver_class, flush_cache}
use Rattle.st_model.specs.Storage.{primitive_say, storage}
use Rattle.st_model.specs.Blocks.{blocks}
use Rattle.st_model.specs.Processes.{processes}
use Rattle.st_model.specs.Input.{input}

-- a step that goes on
unfoldable pub goes_on : {H : Type 0} → Step H Unit → Step H Outcome
goes_on m = m >> answer outcome.Went

-- a primitive that comes to this outcome where it succeeds, and else fails
unfoldable pub if_done : {H : Type 0} → Outcome → Step H Bool → Step H (Option Outcome)
if_done o primitive = do
  succeeded ← primitive
  if succeeded then answer (Some o) else answer None

-- a primitive that can't fail
unfoldable pub succeeds : {H : Type 0} → Step H Outcome → Step H (Option Outcome)
succeeds m = do
  o ← m
  answer (Some o)

module _ {H : Type 0} (m : ObjectMemory H) where
  -- 128: the receiver's bytes are to be said
  unfoldable pub says : Step H (Option Outcome)
  says = do
    r ← top m
    if_done (outcome.Say r) (primitive_say m r)

  -- 97, 113 and 114: something is asked for, and the receiver stays as the answer
  unfoldable pub asks : Outcome → Step H Outcome
  asks o = do
    r ← top m
    answer_with m 0 r
    answer o

  -- What a primitive does with n arguments: how it ends, or none if it fails. 83 and 84 fail here, as of what is performed.
  unfoldable pub respond_by : ℕ → Primitive → Step H (Option Outcome)
  respond_by n (named.Arithmetic k) = if_done outcome.Went (arithmetic m k)
  respond_by n (named.LargeArithmetic k) = if_done outcome.Went (large_arithmetic m k)
  respond_by n named.LargeBitShift = if_done outcome.Went (shift_large m)
  respond_by n (named.Storage p) = if_done outcome.Went (storage m p)
  respond_by n (named.Blocks p) = if_done outcome.Went (blocks m n p)
  respond_by n named.Perform = answer None
  respond_by n named.PerformWith = answer None
  respond_by n (named.Processes p) = if_done outcome.Went (processes m p)
  respond_by n named.FlushCache = succeeds (goes_on (flush_cache m n))
  respond_by n (named.Input p) = if_done outcome.Went (input m p)
  respond_by n named.Snapshot = succeeds (asks outcome.Snapshot)
  respond_by n named.Equivalent = succeeds (goes_on (equivalence m))
  respond_by n named.Class = succeeds (goes_on (receiver_class m))
  respond_by n named.Quit = succeeds (asks outcome.Quit)
  respond_by n named.ExitToDebugger = succeeds (asks outcome.Debugger)
  respond_by n named.Say = says

  -- so a primitive responds, and none fails
  unfoldable pub respond_if_any : (Primitive → Step H (Option Outcome)) → Option Primitive → Step H (Option Outcome)
  respond_if_any responds None = answer None
  respond_if_any responds (Some p) = responds p

  -- The primitive of this number with n arguments. It fails if the table has none, as for 0, which is no primitive, and 40 to 54, 103
  -- and 104, which the book has for floating-point numbers, the scanning of characters and lines.
  unfoldable pub respond : ℕ → ℕ → Step H (Option Outcome)
  respond primitive n = respond_if_any (respond_by n) (primitive_of primitive n)

  -- a field of the word at the top takes its place
  unfoldable pub answer_field : ℕ → Step H Unit
  answer_field i = do
    x ← pop m
    v ← fetch_field m x i
    push m v

  -- without a primitive: flag 5 answers the receiver, which stays; 6 answers the field that the temporary count names; with
  -- all others the method is activated
  unfoldable pub by_flag : Call → Value → ℕ → Step H Outcome
  by_flag call header flag =
      if flag == 5 then answer outcome.Went else
      if flag == 6 then goes_on (answer_field (temporary_count header)) else goes_on (activate m call.method header call.arguments)

  -- where the primitive failed, the method is activated
  unfoldable pub or_activate : Call → Value → Option Outcome → Step H Outcome
  or_activate call header (Some o) = answer o
  or_activate call header None = goes_on (activate m call.method header call.arguments)

  unfoldable pub respond_by_extension : (ℕ → ℕ → Step H (Option Outcome)) → Call → Value → Step H Outcome
  respond_by_extension responds call header = do
    primitive ← method_primitive m call.method
    o ← responds primitive call.arguments
    or_activate call header o

  -- A method is executed by its header's flag: with 7 there is a header extension, and the method responds by its primitive.
  unfoldable pub execute_by : (ℕ → ℕ → Step H (Option Outcome)) → Call → Step H Outcome
  execute_by responds call = do
    header ← method_header m call.method
    if flag_of header == 7 then respond_by_extension responds call header else by_flag call header (flag_of header)

  -- 83 and 84, which perform a selector. The method is sought in the receiver's class.

  -- whether the method takes n arguments, where one was found; where none was, whatever is given is taken
  unfoldable pub takes : ℕ → Option Value → Step H Bool
  takes n None = answer true
  takes n (Some method) = do
    taken ← method_arguments m method
    answer (taken == n)

  -- It is executed with the n arguments at the top, or the message isn't understood. Of its primitives 83 and 84 fail.
  unfoldable pub execute_found : Value → Value → ℕ → Option Value → Step H Outcome
  execute_found class selector n (Some method) = execute_by respond (record { method = method; arguments = n })
  execute_found class selector n None = not_understood m class selector n >>= execute_by respond

  -- the selector leaves, which has n arguments above it
  unfoldable pub drop_selector : ℕ → Step H Unit
  drop_selector n = do
    c ← get_active
    sp ← get_sp
    transfer m n c (sp + 1 - n) c (sp - n)
    drop_words 1

  -- selector and Array leave, and the Array's n fields are pushed, to a place that a push may reach
  unfoldable pub spread_array : Value → ℕ → Step H Unit
  spread_array array n = do
    c ← get_active
    sp ← get_sp
    check dead.Sp (nat_le (sp - 2 + n) 16388)
    transfer m n array 0 c (sp - 1)
    set_sp (sp - 2 + n)

  -- the stack is arranged, and the method executed
  unfoldable pub perform_found : Value → Value → ℕ → Step H Unit → Option Value → Step H (Option Outcome)
  perform_found class selector n arrange found = do
    arrange
    succeeds (execute_found class selector n found)

  -- the selector is performed with n arguments, once these stand at the top; where the method doesn't take as many, this fails
  unfoldable pub perform : Value → Value → ℕ → Step H Unit → Step H (Option Outcome)
  perform receiver selector n arrange = do
    class ← class_of m receiver
    found ← find m class selector
    fits ← takes n found
    if fits then perform_found class selector n arrange found else answer None

  -- 83: the first of n + 1 arguments is performed with the others
  unfoldable pub primitive_perform : ℕ → Step H (Option Outcome)
  primitive_perform n = do
    r ← under m (n + 1)
    a ← under m n
    perform r a n (drop_selector n)

  -- an Array whose fields the active context has room for, in place of selector and Array
  unfoldable pub spreading : Value → Step H ℕ
  spreading array = do
    check_class m array ArrayClass
    n ← count_fields m array
    c ← get_active
    fields ← count_fields m c
    sp ← get_sp
    check dead.Sp (nat_lt (sp - 2 + n) fields)
    answer n

  unfoldable pub perform_fields : Value → Value → Value → Option ℕ → Step H (Option Outcome)
  perform_fields r a b None = answer None
  perform_fields r a b (Some n) = perform r a n (spread_array b n)

  -- 84: the first argument is performed with the fields of the second
  unfoldable pub primitive_perform_with : Step H (Option Outcome)
  primitive_perform_with = do
    r ← under m 2
    a ← under m 1
    b ← top m
    n ← tried (spreading b)
    perform_fields r a b n

  -- what a primitive does with n arguments, which may be 83 or 84
  unfoldable pub perform_by : ℕ → Primitive → Step H (Option Outcome)
  perform_by n named.Perform = primitive_perform (n - 1)
  perform_by n named.PerformWith = primitive_perform_with
  perform_by n p = respond_by n p

  -- the primitive of this number with n arguments, which may be 83 or 84
  unfoldable pub respond_or_perform : ℕ → ℕ → Step H (Option Outcome)
  respond_or_perform primitive n = respond_if_any (perform_by n) (primitive_of primitive n)

  -- the method is executed
  unfoldable pub execute : Call → Step H Outcome
  execute call = execute_by respond_or_perform call

  -- what a step calls is executed
  unfoldable pub executed : Step H Call → Step H Outcome
  executed step = step >>= execute

  unfoldable pub execute_if_any : Option Call → Step H Outcome
  execute_if_any None = answer outcome.Went
  execute_if_any (Some call) = execute call

  -- what a step calls is executed, if it calls anything
  unfoldable pub executed_if_any : Step H (Option Call) → Step H Outcome
  executed_if_any step = step >>= execute_if_any
