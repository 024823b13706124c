-- The code of a method: its header, literals and bytes, or why it has none.
use Rattle.std.specs.Prelude.{ℕ, ◌+◌, ◌*◌, Bool, true, false, not, ◌&&◌, ◌||◌, ◌==◌, nat_lt, nat_le, List, [], ◌∷◌, ◌++◌, length, Option, Some, None, is_some, Result, Ok, Err, if◌then◌else◌}
use Rattle.st_scan.specs.declared.token.Signed.{Signed}
use Rattle.st_scan.specs.Views.{MethodView}
use Rattle.st_emit.specs.Bounds.{most_literals, most_variables, small_room, large_room, most_bytes, most_primitive, most_flagged, returned_fields}
use Rattle.st_code.specs.declared.fault.Fault.{Fault}
use Rattle.st_code.specs.declared.fault.Cause.{Cause}
use Rattle.st_code.specs.declared.fault.Cause.TheVariants.{Literals, Temporaries, Depth, Jump, Primitive, Symbols, Size}
use Rattle.st_emit.specs.declared.instruction.Constant.TheVariants.{Receiver}
use Rattle.st_emit.specs.declared.instruction.InstructionOperand.TheVariants.{Field}
use Rattle.st_emit.specs.declared.instruction.Instruction.{Instruction}
use Rattle.st_emit.specs.Names.{NamesView, Scope, declared, or_else}
use Rattle.st_emit.specs.Literals.{LiteralView, number, owner, Named}
use Rattle.st_emit.specs.Nodes.{constant, variable, Body, nothing, returned}
use Rattle.st_emit.specs.Resolving.{Context, names_in_statements, statements_body}
use Rattle.st_emit.specs.Steps.{size, all_bytes, all_reach, sends_super}
use Rattle.st_emit.specs.Emitting.{method_code}
use Rattle.st_emit.specs.declared.level.Level.{Level}
use Rattle.st_emit.specs.Depths.{empty, method_level}
use Rattle.st_code.specs.declared.simple.Simple.{Simple}
use Rattle.st_code.specs.declared.simple.Simple.TheVariants.{Itself, ItsField}
use Rattle.st_code.specs.Faults.{fault_at, method_fault}

-- what a method is made of
pub record PartsView : Type 0 where
  pub selector : List ℕ
  pub header : ℕ
  pub literals : List LiteralView
  pub bytes : List ℕ

-- FLAG

-- a method that does no more than to return its receiver, or a variable of the receiver
abbrev pub simple : Body → Option Simple
simple nothing = Some Itself
simple (returned (constant Receiver)) = Some Itself
simple (returned (variable (Field n))) = Some (ItsField n)
simple _ = None

abbrev pub simple_flag : Option Simple → ℕ
simple_flag None = 0
simple_flag (Some Itself) = 5
simple_flag (Some (ItsField n)) = if nat_lt n returned_fields then 6 else 0

abbrev pub has_variables : MethodView → Bool
has_variables m = not (length m.arguments == 0 && length m.temporaries == 0)

abbrev pub flag_of : MethodView → Option Simple → ℕ
flag_of m s =
    if is_some m.primitive || nat_lt most_flagged (length m.arguments) then 7
    else (if has_variables m then length m.arguments else simple_flag s)

-- what stands in the header in place of a temporary count where the flag is 6
abbrev pub returned_field : Option Simple → ℕ
returned_field (Some (ItsField n)) = n
returned_field _ = 0

abbrev pub count_of : (flag : ℕ) → Option Simple → (variables : ℕ) → ℕ
count_of flag s variables = if flag == 6 then returned_field s else variables

-- LAST LITERALS

abbrev pub primitive_number : Option Signed → ℕ
primitive_number None = 0
primitive_number (Some n) = n.size

-- the number of arguments and the primitive
abbrev pub extension : MethodView → LiteralView
extension m = number (record { minus = false; size = length m.arguments * 256 + primitive_number m.primitive })

abbrev pub last_of : MethodView → (flag : ℕ) → List Instruction → List LiteralView
last_of m flag steps = if flag == 7 then extension m ∷ owner ∷ [] else (if sends_super steps then owner ∷ [] else [])

-- WHOLE METHODS

-- variables and words on the stack pass the room of a context
abbrev pub passes : (room variables : ℕ) → Level → Bool
passes room variables depth = nat_lt room (variables + depth.greatest) || nat_lt room depth.blocks

-- the large context flag, at its place in the header
abbrev pub room_bit : (variables : ℕ) → Level → ℕ
room_bit variables depth = if passes small_room variables depth then 128 else 0

abbrev pub fault_if : Bool → Cause → Option Fault
fault_if wrong cause = if wrong then fault_at 0 cause else None

abbrev pub is_primitive : Option Signed → Bool
is_primitive None = true
is_primitive (Some n) = not n.minus && nat_le 1 n.size && nat_le n.size most_primitive

abbrev pub symbols_fault : Bool → Option Fault
symbols_fault symbols = fault_if (not symbols) Symbols

abbrev pub primitive_fault : Option Signed → Option Fault
primitive_fault primitive = fault_if (not (is_primitive primitive)) Primitive

-- what passes the bounds of a method
abbrev pub bounds_fault : (literals variables : ℕ) → Level → List Instruction → Option Fault
bounds_fault literals variables depth steps =
    or_else (fault_if (nat_lt most_literals literals) Literals)
    (or_else (fault_if (nat_lt most_variables variables) Temporaries)
    (or_else (fault_if (passes large_room variables depth) Depth)
    (or_else (fault_if (not (all_reach steps)) Jump)
    (fault_if (nat_lt most_bytes (literals * 2 + 2 + size steps)) Size))))

-- what a method declares, its temporaries numbered from a number on
abbrev pub scope_from : ℕ → MethodView → Scope
scope_from first m = declared true first m.temporaries (declared false 0 m.arguments [])

module _ (tree : MethodView) (names : NamesView) where
  -- BODY

  -- the arguments are numbered first, then the temporaries, then the arguments of blocks in the order of the text
  abbrev pub own_variables : ℕ
  own_variables = length tree.arguments + length tree.temporaries

  abbrev pub variables : ℕ
  variables = own_variables + names_in_statements tree.body

  abbrev pub context : Context
  context = record {
    names = names;
    scope = scope_from (length tree.arguments) tree;
    next = own_variables;
  }

  -- the method's nodes, and the literals that its code names
  abbrev pub body : Named Body
  body = statements_body tree.body context []

  abbrev pub steps : List Instruction
  steps = method_code body.part

  abbrev pub depth : Level
  depth = method_level body.part empty

  -- FLAG

  abbrev pub flag : ℕ
  flag = flag_of tree (simple body.part)

  abbrev pub header_count : ℕ
  header_count = count_of flag (simple body.part) variables

  -- LITERALS

  abbrev pub last_literals : List LiteralView
  last_literals = last_of tree flag steps

  abbrev pub literals : List LiteralView
  literals = body.literals ++ last_literals

  -- HEADER

  abbrev pub header : ℕ
  header = flag * 8192 + header_count * 256 + room_bit variables depth + length literals * 2 + 1

  abbrev pub parts : PartsView
  parts = record { selector = tree.selector; header = header; literals = literals; bytes = all_bytes steps }

  -- FAULTS

  -- the faults of a method as a whole, in their order
  abbrev pub whole_fault : Option Fault
  whole_fault =
      or_else (symbols_fault names.symbols) (or_else (primitive_fault tree.primitive) (bounds_fault (length literals) variables depth steps))

  abbrev pub fault : Option Fault
  fault = or_else (method_fault names tree) whole_fault

  abbrev pub parts_or : Option Fault → Result PartsView Fault
  parts_or None = Ok parts
  parts_or (Some f) = Err f

  -- THE CODE: the parts of the method, or its first fault
  abbrev pub code : Result PartsView Fault
  code = parts_or fault
