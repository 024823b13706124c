-- The primitives on two SmallIntegers, and those that any receiver has (chapter 29).
use Rattle.std.specs.Prelude.{ℕ, ◌+◌, ◌==◌, Bool, nat_lt, if◌then◌else◌, ℤ}
use Rattle.st_model.specs.declared.dead.Dead.TheVariants as dead
use Rattle.st_model.specs.declared.integers.IntAnswer.{IntAnswer}
use Rattle.st_model.specs.declared.integers.IntAnswer.TheVariants.{Number, Truth, Point}
use Rattle.st_model.specs.Values.{Value, small_integer}
use Rattle.st_model.specs.Objects.{PointClass}
use Rattle.st_model.specs.Machine.{ObjectMemory, Step, answer, ◌>>=◌, ◌>>◌}
use Rattle.st_model.specs.Steps.{of_page, new_object, class_of, same_value, store_field, integer_or_die, or_die, top, under, look_at_words, drop_words}
use Rattle.st_model.specs.declared.integers.LargeAnswer.{LargeAnswer}
use Rattle.st_model.specs.declared.integers.LargeAnswer.TheVariants as wide
use Rattle.st_model.specs.Integers.{binary, large, large_shift}
use Rattle.st_model.specs.Primitives.{answer_with, primitive, truth, positive_value, number}

-- 176 to 186 are + - < > <= >= = ~= * / \\ and try 1 to 11; 187 to 191 are @ bitShift: // bitAnd: bitOr: and try 18 17 12 14
-- 15. So for the last two, of k 14 and 15, the primitive has the number k.
abbrev pub arithmetic_number : ℕ → ℕ
arithmetic_number k = if nat_lt k 11 then k + 1 else if k == 11 then 18 else if k == 12 then 17 else if k == 13 then 12 else k

module _ {H : Type 0} (m : ObjectMemory H) where
  -- a new Point of two integers
  unfoldable pub new_point : ℤ → ℤ → Step H Value
  new_point x y = do
    class ← of_page m PointClass
    point ← new_object m class 2
    store_field m point 0 (small_integer x)
    store_field m point 1 (small_integer y)
    answer point

  unfoldable pub value_of_answer : IntAnswer → Step H Value
  value_of_answer (Number n) = answer (small_integer n)
  value_of_answer (Truth b) = truth m b
  value_of_answer (Point x y) = new_point x y

  -- the integer of the SmallInteger k words below the top
  unfoldable pub integer_under : ℕ → Step H ℤ
  integer_under k = under m k >>= integer_or_die

  -- receiver and argument are SmallIntegers, of which the primitive has an answer
  unfoldable pub integer_answer : ℕ → Step H IntAnswer
  integer_answer n = do
    receiver ← integer_under 1
    argument ← integer_under 0
    or_die dead.NotSmall (binary n receiver argument)

  -- 1 to 18
  unfoldable pub arithmetic : ℕ → Step H Bool
  arithmetic n = primitive m 1 (integer_answer n) value_of_answer

  -- the integer from 0 up, of at most 16 bytes, k words below the top
  unfoldable pub large_under : ℕ → Step H ℕ
  large_under k = under m k >>= positive_value m 16

  -- receiver and argument are such integers, of which the primitive has an answer
  unfoldable pub large_answer : ℕ → Step H LargeAnswer
  large_answer n = do
    receiver ← large_under 1
    argument ← large_under 0
    or_die dead.NotSmall (large n receiver argument)

  unfoldable pub value_of_large : LargeAnswer → Step H Value
  value_of_large (wide.Number n) = number m n
  value_of_large (wide.Truth b) = truth m b

  -- 21 to 36
  unfoldable pub large_arithmetic : ℕ → Step H Bool
  large_arithmetic n = primitive m 1 (large_answer n) value_of_large

  unfoldable pub shift_answer : Step H ℕ
  shift_answer = do
    receiver ← large_under 1
    by ← integer_under 0
    or_die dead.NotSmall (large_shift receiver by)

  -- 37
  unfoldable pub shift_large : Step H Bool
  shift_large = primitive m 1 shift_answer (number m)

  -- 110: whether receiver and argument are the same word
  unfoldable pub equivalence : Step H Unit
  equivalence = do
    receiver ← under m 1
    argument ← top m
    v ← truth m (same_value receiver argument)
    answer_with m 1 v

  -- 111: the receiver's class
  unfoldable pub receiver_class : Step H Unit
  receiver_class = do
    receiver ← top m
    class ← class_of m receiver
    answer_with m 0 class

  -- 89, which is for a cache of methods: nothing is seen of it. The arguments leave, and the receiver stays as the answer.
  unfoldable pub flush_cache : ℕ → Step H Unit
  flush_cache n = look_at_words m n >> drop_words n
