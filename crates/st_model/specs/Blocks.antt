-- Blocks (chapter 29, control primitives): a block is made, and its value is computed.
use Rattle.std.specs.Prelude.{ℕ, ◌+◌, ◌-◌, ◌==◌, ◌||◌, Option, Some, None, Bool, true, false, nat_le, ℤ, pos, ◌+ℤ◌, int_le}
use Rattle.st_model.specs.declared.dead.Dead.TheVariants as dead
use Rattle.st_model.specs.declared.primitive.BlockPrimitive.{BlockPrimitive}
use Rattle.st_model.specs.declared.primitive.BlockPrimitive.TheVariants as named
use Rattle.st_model.specs.Values.{Value, Small, small_integer}
use Rattle.st_model.specs.Objects.{MethodContextClass, BlockContextClass, ArrayClass}
use Rattle.st_model.specs.Machine.{ObjectMemory, Step, answer, tried, ◌>>=◌, ◌>>◌}
use Rattle.st_model.specs.Steps.{of_page, class_of, same_value, check, new_object, count_fields, fetch_field, store_field, fetch_integer, transfer, get_active, get_ip, get_sp, top, under, drop_words}
use Rattle.st_model.specs.Contexts.{home_of, switch}
use Rattle.st_model.specs.Primitives.{of_one, check_class, positive_small}

-- a block that takes as many arguments as an Array has fields
pub record Passing : Type 0 where
  pub count : ℕ
  pub first : ℤ

module _ {H : Type 0} (m : ObjectMemory H) where
  -- an instance of MethodContext or BlockContext
  unfoldable pub check_context : Value → Step H Unit
  check_context v = do
    class ← class_of m v
    method_context ← of_page m MethodContextClass
    block_context ← of_page m BlockContextClass
    check dead.Kind (same_value class method_context || same_value class block_context)

  -- the home that a block of the receiver has, where a block that takes this number of arguments may be made
  unfoldable pub home_of_block : Value → Value → Step H Value
  home_of_block r a = do
    check_context r
    arguments ← positive_small a
    home ← home_of m r
    fields ← count_fields m home
    check dead.Field (nat_le 6 fields)
    ip ← get_ip
    check dead.Ip (int_le (ip +ℤ pos 3) (pos 16383))
    answer home

  -- Its first instruction pointer, as it is stored, is that of the byte behind the jump round its bytecodes; the stack is empty,
  -- and the number of arguments and the home are as given.
  unfoldable pub fill_block : Value → Value → Value → Step H Unit
  fill_block block home a = do
    ip ← get_ip
    store_field m block 1 (small_integer (ip +ℤ pos 3))
    store_field m block 2 (Small 0)
    store_field m block 3 a
    store_field m block 4 (small_integer (ip +ℤ pos 3))
    store_field m block 5 home

  -- a new BlockContext as large as its home
  unfoldable pub new_block : Value → Value → Step H Value
  new_block home a = do
    class ← of_page m BlockContextClass
    fields ← count_fields m home
    block ← new_object m class fields
    fill_block block home a
    answer block

  -- 80: a block of the receiver's home
  unfoldable pub primitive_block_copy : Step H Bool
  primitive_block_copy = of_one m home_of_block (λ r a home. new_block home a)

  -- A block takes n arguments, and has fields for them. It gives its first instruction pointer.
  unfoldable pub start_of : Value → ℕ → Step H ℤ
  start_of block n = do
    check_class m block BlockContextClass
    fields ← count_fields m block
    x ← fetch_field m block 3
    arguments ← positive_small x
    check dead.Field (arguments == n)
    first ← fetch_integer m block 4
    check dead.Sp (nat_le (6 + n) fields)
    answer first

  -- it becomes the active context, with n words on its stack; the one that was active is its caller
  unfoldable pub enter_block : Value → ℕ → ℤ → Step H Unit
  enter_block block n first = do
    store_field m block 1 (small_integer first)
    store_field m block 2 (Small n)
    caller ← get_active
    store_field m block 0 caller
    switch m block

  -- the n words at the top are its arguments, and the receiver below them leaves with them
  unfoldable pub value_with_words : Value → ℕ → ℤ → Step H Bool
  value_with_words block n first = do
    c ← get_active
    sp ← get_sp
    transfer m n c (sp + 1 - n) block 6
    drop_words (n + 1)
    enter_block block n first
    answer true

  unfoldable pub value_if_any : Value → ℕ → Option ℤ → Step H Bool
  value_if_any block n None = answer false
  value_if_any block n (Some first) = value_with_words block n first

  -- 81: the receiver's value with n arguments
  unfoldable pub primitive_value : ℕ → Step H Bool
  primitive_value n = do
    r ← under m n
    first ← tried (start_of r n)
    value_if_any r n first

  unfoldable pub passing : Value → Value → Step H Passing
  passing block array = do
    check_class m array ArrayClass
    count ← count_fields m array
    first ← start_of block count
    answer (record { count = count; first = first })

  unfoldable pub value_with_fields : Value → Value → Passing → Step H Bool
  value_with_fields block array p = do
    transfer m p.count array 0 block 6
    drop_words 2
    enter_block block p.count p.first
    answer true

  unfoldable pub value_with_if_any : Value → Value → Option Passing → Step H Bool
  value_with_if_any block array None = answer false
  value_with_if_any block array (Some p) = value_with_fields block array p

  -- 82: the receiver's value with the fields of an Array as arguments
  unfoldable pub primitive_value_with : Step H Bool
  primitive_value_with = do
    r ← under m 1
    a ← top m
    p ← tried (passing r a)
    value_with_if_any r a p

  -- the primitives of this file, with n arguments
  unfoldable pub blocks : ℕ → BlockPrimitive → Step H Bool
  blocks n named.BlockCopy = primitive_block_copy
  blocks n named.Value = primitive_value n
  blocks n named.ValueWith = primitive_value_with
