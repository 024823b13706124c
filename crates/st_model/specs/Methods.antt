-- What the header of a method says (chapter 27). A header is a SmallInteger. Of its word bits 0 to 2 are the flag,
-- bits 3 to 7 the temporary count, which includes the arguments, bit 8 the large-context flag, and bits 9 to 14 the
-- literal count.
use Rattle.std.specs.Prelude.{ℕ, ◌+◌, ◌-◌, ◌/◌, ◌%◌, ◌==◌, length, Option, None, Bool, slice_get, nat_lt, if◌then◌else◌}
use Rattle.st_model.specs.declared.dead.Dead.TheVariants as dead
use Rattle.st_model.specs.Values.{Value, Small, Ref}
use Rattle.st_model.specs.Objects.{Object, is_method}
use Rattle.st_model.specs.Machine.{ObjectMemory, Step, answer, die, ◌>>=◌, ◌>>◌}
use Rattle.st_model.specs.Steps.{object, check, or_die}

-- the 15 bits of a SmallInteger; no header is anything else
abbrev pub bits_of : Value → ℕ
bits_of (Small n) = n
bits_of (Ref n) = 0

abbrev pub flag_of : Value → ℕ
flag_of header = bits_of header / 4096

abbrev pub temporary_count : Value → ℕ
temporary_count header = bits_of header / 128 % 32

abbrev pub is_large : Value → Bool
is_large header = bits_of header / 64 % 2 == 1

abbrev pub literal_count : Value → ℕ
literal_count header = bits_of header % 64

-- how many fields a context of the method has
abbrev pub context_size : Value → ℕ
context_size header = if is_large header then 38 else 18

-- the literal with k literals behind it; field 0 is the header
abbrev pub from_last : Object → ℕ → Option Value
from_last o k = if nat_lt (k + 1) (length o.fields) then slice_get o.fields (length o.fields - (k + 1)) else None

-- the header extension names a primitive in bits 7 to 14 of its word
unfoldable pub primitive_number : {H : Type 0} → Value → Step H ℕ
primitive_number (Small n) = answer (n % 256)
primitive_number (Ref n) = die dead.NotSmall

-- and the number of arguments in bits 2 to 6
unfoldable pub extension_arguments : {H : Type 0} → Value → Step H ℕ
extension_arguments (Small n) = answer (n / 256 % 32)
extension_arguments (Ref n) = die dead.NotSmall

module _ {H : Type 0} (m : ObjectMemory H) where
  unfoldable pub method_header : Value → Step H Value
  method_header v = do
    o ← object m v
    check dead.Kind (is_method o.kind)
    or_die dead.Field (slice_get o.fields 0)

  unfoldable pub literal_from_last : Value → ℕ → Step H Value
  literal_from_last v k = do
    o ← object m v
    check dead.Kind (is_method o.kind)
    or_die dead.Field (from_last o k)

  -- the extension is the next to last literal
  unfoldable pub method_primitive : Value → Step H ℕ
  method_primitive v = literal_from_last v 1 >>= primitive_number

  unfoldable pub arguments_by_extension : Value → Step H ℕ
  arguments_by_extension v = literal_from_last v 1 >>= extension_arguments

  unfoldable pub arguments_by : Value → ℕ → Step H ℕ
  arguments_by v flag = if flag == 7 then arguments_by_extension v else if nat_lt flag 5 then answer flag else answer 0

  -- how many arguments a method takes: a flag up to 4 is their number, with 7 the extension has it, and with 5 and 6 there are none
  unfoldable pub method_arguments : Value → Step H ℕ
  method_arguments v = do
    header ← method_header v
    arguments_by v (flag_of header)
