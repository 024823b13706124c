-- From nodes to instructions. The sizes of parts come before the places to which jumps go.
use Rattle.std.specs.Prelude.{ℕ, zero, suc, ◌+◌, Bool, true, false, List, [], ◌∷◌, ◌++◌}
use Rattle.st_emit.specs.declared.instruction.Constant.{Constant}
use Rattle.st_emit.specs.declared.instruction.Constant.TheVariants.{Receiver, True, False, Nil, Context}
use Rattle.st_emit.specs.declared.instruction.InstructionOperand.{InstructionOperand}
use Rattle.st_emit.specs.declared.instruction.InstructionOperand.TheVariants.{Temporary, Literal}
use Rattle.st_emit.specs.declared.instruction.Instruction.{Instruction}
use Rattle.st_emit.specs.declared.instruction.Instruction.TheVariants.{Push, PushConstant, PushNumber, Store, PopStore, Pop, Duplicate, Send, SendSuper, SendSpecial, ReturnConstant, ReturnTop, ReturnBlock, Jump, JumpBack, JumpIf, JumpPast}
use Rattle.st_emit.specs.declared.form.By.{By}
use Rattle.st_emit.specs.declared.form.By.TheVariants.{Special, SelectorAt}
use Rattle.st_emit.specs.declared.form.OneSided.{OneSided}
use Rattle.st_emit.specs.declared.form.OneSided.TheVariants.{IfTrue, IfFalse, And, Or}
use Rattle.st_emit.specs.declared.form.TwoSided.{TwoSided}
use Rattle.st_emit.specs.declared.form.TwoSided.TheVariants.{TrueFirst, FalseFirst}
use Rattle.st_emit.specs.declared.form.Loop.{Loop}
use Rattle.st_emit.specs.declared.form.Loop.TheVariants.{WhileTrue, WhileFalse}
use Rattle.st_emit.specs.Steps.{size, size_of}
use Rattle.st_emit.specs.Resolving.{first_special, block_copy}
use Rattle.st_emit.specs.Nodes.{Node, constant, small, literal, variable, assign, block, send, one_sided, two_sided, loop, Body, nothing, last, next, returned, Messages, only, also, Nodes, none, node, count, returns}

-- the value of an expression is left on the stack, or popped
pub data Use : Type 0 where
  for_value : Use
  for_effect : Use

-- a value's code, and a 135 where it isn't used
abbrev pub used : Use → List Instruction → List Instruction
used for_value code = code
used for_effect code = code ++ Pop ∷ []

-- an assignment stores the value, and pops it where it isn't used
abbrev pub stored : Use → InstructionOperand → Instruction
stored for_value p = Store p
stored for_effect p = PopStore p

-- MESSAGES

abbrev pub send_step : (above : Bool) → By → (arguments : ℕ) → Instruction
send_step true (SelectorAt s) n = SendSuper n s
send_step true (Special code) n = SendSpecial code
send_step false (SelectorAt s) n = Send n s
send_step false (Special code) n = SendSpecial code

-- JUMPS

-- X, a jump on a boolean past the first side and its jump, the first side, a jump past the second, the second side
abbrev pub choice : (on : Bool) → (x first second : List Instruction) → List Instruction
choice on x first second =
    let over = Jump (size second) in
    x ++ JumpIf on (size first + size_of over) ∷ (first ++ over ∷ second)

-- X, a jump on a boolean past the rest, A and a 135, a jump back to X; then nil
abbrev pub repeat : (on : Bool) → (x a : List Instruction) → List Instruction
repeat on x a =
    let leave = JumpIf on (size a + 3) in
    x ++ leave ∷ (a ++ Pop ∷ JumpBack (size x + size_of leave + size a + 3) ∷ PushConstant Nil ∷ [])

-- the boolean on which the first side is passed, and what stands for the second side
abbrev pub passes_on : OneSided → Bool
passes_on IfTrue = false
passes_on IfFalse = true
passes_on And = false
passes_on Or = true

abbrev pub other_side : OneSided → Constant
other_side IfTrue = Nil
other_side IfFalse = Nil
other_side And = False
other_side Or = True

-- of two blocks the one for true stands first
abbrev pub chosen : TwoSided → (x a b : List Instruction) → List Instruction
chosen TrueFirst x a b = choice false x a b
chosen FalseFirst x a b = choice false x b a

abbrev pub leaves_on : Loop → Bool
leaves_on WhileTrue = false
leaves_on WhileFalse = true

-- BLOCKS

-- the arguments, last first
abbrev pub pop_arguments : (first n : ℕ) → List Instruction
pop_arguments first zero = []
pop_arguments first (suc n) = PopStore (Temporary (first + n)) ∷ pop_arguments first n

abbrev pub block_end : (returns : Bool) → List Instruction
block_end true = []
block_end false = ReturnBlock ∷ []

-- the active context, the argument count, a jump over the body
abbrev pub block_code : (argument_count inside : List Instruction) → List Instruction
block_code argument_count inside =
    PushConstant Context ∷ (argument_count ++ SendSpecial (first_special + block_copy) ∷ JumpPast (size inside) ∷ inside)

-- RETURNS

abbrev pub return_constant : Constant → List Instruction
return_constant Context = PushConstant Context ∷ ReturnTop ∷ []
return_constant k = ReturnConstant k ∷ []

-- of a node with this code
abbrev pub return_code : Node → List Instruction → List Instruction
return_code (constant k) code = return_constant k
return_code _ code = code ++ ReturnTop ∷ []

-- NODES

abbrev mutual
  pub code_of : Use → Node → List Instruction
  code_of u (constant k) = used u (PushConstant k ∷ [])
  code_of u (small n) = used u (PushNumber n ∷ [])
  code_of u (literal l place) = used u (Push (Literal place) ∷ [])
  code_of u (variable p) = used u (Push p ∷ [])
  code_of u (assign p n) = code_of for_value n ++ stored u p ∷ []
  code_of u (block first arguments n body) =
      used u (block_code (code_of for_value n) (pop_arguments first arguments ++ (body_code body ++ block_end (returns body))))
  code_of u (send above r ms) = used u (code_of for_value r ++ messages_code above ms)
  code_of u (one_sided side x a) = used u (choice (passes_on side) (code_of for_value x) (body_code a) (PushConstant (other_side side) ∷ []))
  code_of u (two_sided side x a b) = used u (chosen side (code_of for_value x) (body_code a) (body_code b))
  code_of u (loop kind x a) = used u (repeat (leaves_on kind) (body_code x) (body_code a))

  -- statements, with the last value left; nil where there are none
  pub body_code : Body → List Instruction
  body_code nothing = PushConstant Nil ∷ []
  body_code (last n) = code_of for_value n
  body_code (next n b) = code_of for_effect n ++ body_code b
  body_code (returned n) = return_code n (code_of for_value n)

  pub messages_code : (above : Bool) → Messages → List Instruction
  messages_code above (only s ns) = nodes_code ns ++ send_step above s.by (count ns) ∷ []
  messages_code above (also s ns ms) = Duplicate ∷ (nodes_code ns ++ send_step above s.by (count ns) ∷ Pop ∷ messages_code above ms)

  pub nodes_code : Nodes → List Instruction
  nodes_code none = []
  nodes_code (node n ns) = code_of for_value n ++ nodes_code ns

-- the statements of a method: none leaves its value, and without a ^ self is returned
abbrev pub method_code : Body → List Instruction
method_code nothing = ReturnConstant Receiver ∷ []
method_code (last n) = code_of for_effect n ++ ReturnConstant Receiver ∷ []
method_code (next n b) = code_of for_effect n ++ method_code b
method_code (returned n) = return_code n (code_of for_value n)
