-- Code has bytes.
use Rattle.std.proofs.Common.{◌≡◌, ℕ, ◌+◌, ◌-◌, ◌≤◌, Bool, true, false, List, [], ◌∷◌, ◌++◌, arith}
use Rattle.std.specs.Prelude.{if◌then◌else◌, nat_lt, nat_le, ◌&&◌}
use Rattle.st_emit.specs.Bounds.{short_pushes, short_literals, short_pops, short_selectors, short_arguments, long_selectors, long_arguments}
use Rattle.st_emit.specs.declared.instruction.Constant.TheVariants.{Receiver, Nil, Context}
use Rattle.st_emit.specs.declared.instruction.InstructionOperand.{InstructionOperand}
use Rattle.st_emit.specs.declared.instruction.InstructionOperand.TheVariants.{Field, Temporary, Literal, Shared}
use Rattle.st_emit.specs.declared.instruction.Instruction.{Instruction}
use Rattle.st_emit.specs.declared.instruction.Instruction.TheVariants.{Push, PushConstant, PushNumber, Store, PopStore, Pop, Duplicate, Send, SendSuper, SendSpecial, ReturnConstant, ReturnTop, ReturnBlock, Jump, JumpBack, JumpIf, JumpPast}
use Rattle.st_emit.specs.Steps.{size, size_of, long_if, is_short, long_send_size, push_size, pop_size}
use Rattle.st_emit.specs.declared.form.TwoSided.TheVariants.{TrueFirst, FalseFirst}
use Rattle.st_emit.specs.Nodes.{Node, constant, small, literal, variable, assign, block, send, one_sided, two_sided, loop, Body, nothing, last, next, returned}
use Rattle.st_emit.specs.Emitting.{Use, for_value, for_effect, used, stored, code_of, body_code, messages_code, return_code}

pub size-append : (a b : List Instruction) → size (a ++ b) ≡ size a + size b
size-append [] b = omega arith
size-append (x ∷ a) b = omega (arith, size-append a b)

long_some : (b : Bool) → 1 ≤ long_if b
long_some true = omega arith
long_some false = omega arith

push_some : (p : InstructionOperand) → 1 ≤ push_size p
push_some (Field n) = long_some (nat_lt n short_pushes)
push_some (Temporary n) = long_some (nat_lt n short_pushes)
push_some (Literal n) = long_some (nat_lt n short_literals)
push_some (Shared n) = long_some (nat_lt n short_literals)

pop_some : (p : InstructionOperand) → 1 ≤ pop_size p
pop_some (Field n) = long_some (nat_lt n short_pops)
pop_some (Temporary n) = long_some (nat_lt n short_pops)
pop_some (Literal n) = omega arith
pop_some (Shared n) = omega arith

two_or_three : (b : Bool) → 1 ≤ (if b then 2 else 3)
two_or_three true = omega arith
two_or_three false = omega arith

one_or : (b : Bool) (n : ℕ) → 1 ≤ n → 1 ≤ (if b then 1 else n)
one_or true n h = omega arith
one_or false n h = h

pub step_some : (s : Instruction) → 1 ≤ size_of s
step_some (Push p) = push_some p
step_some (PushConstant k) = omega arith
step_some (PushNumber n) = omega arith
step_some (Store p) = omega arith
step_some (PopStore p) = pop_some p
step_some Pop = omega arith
step_some Duplicate = omega arith
step_some (Send n s) = one_or (nat_lt s short_selectors && nat_le n short_arguments) (long_send_size n s) (two_or_three (nat_lt s long_selectors && nat_le n long_arguments))
step_some (SendSuper n s) = two_or_three (nat_lt s long_selectors && nat_le n long_arguments)
step_some (SendSpecial k) = omega arith
step_some (ReturnConstant k) = omega arith
step_some ReturnTop = omega arith
step_some ReturnBlock = omega arith
step_some (Jump d) = long_some (is_short d)
step_some (JumpBack d) = omega arith
step_some (JumpIf true d) = omega arith
step_some (JumpIf false d) = long_some (is_short d)
step_some (JumpPast d) = omega arith

-- behind code that has bytes
pub more_some : (a b : List Instruction) → 1 ≤ size a → 1 ≤ size (a ++ b)
more_some a b h = omega (arith, size-append a b, h)

pub first_some : (s : Instruction) (b : List Instruction) → 1 ≤ size (s ∷ b)
first_some s b = omega (arith, step_some s)

used_some : (u : Use) (code : List Instruction) → 1 ≤ size code → 1 ≤ size (used u code)
used_some for_value code h = h
used_some for_effect code h = more_some code (Pop ∷ []) h

mutual
  pub code_some : (u : Use) (n : Node) → 1 ≤ size (code_of u n)
  code_some u (constant k) = used_some u (PushConstant k ∷ []) (first_some (PushConstant k) [])
  code_some u (small n) = used_some u (PushNumber n ∷ []) (first_some (PushNumber n) [])
  code_some u (literal l place) = used_some u (Push (Literal place) ∷ []) (first_some (Push (Literal place)) [])
  code_some u (variable p) = used_some u (Push p ∷ []) (first_some (Push p) [])
  code_some u (assign p n) = more_some (code_of for_value n) (stored u p ∷ []) (code_some for_value n)
  code_some u (block first arguments n body) = used_some u _ (first_some (PushConstant Context) _)
  code_some u (send above r ms) = used_some u (code_of for_value r ++ messages_code above ms) (more_some (code_of for_value r) (messages_code above ms) (code_some for_value r))
  code_some u (one_sided side x a) = used_some u _ (more_some (code_of for_value x) _ (code_some for_value x))
  code_some u (two_sided TrueFirst x a b) = used_some u _ (more_some (code_of for_value x) _ (code_some for_value x))
  code_some u (two_sided FalseFirst x a b) = used_some u _ (more_some (code_of for_value x) _ (code_some for_value x))
  code_some u (loop kind x a) = used_some u _ (more_some (body_code x) _ (body_some x))

  pub body_some : (b : Body) → 1 ≤ size (body_code b)
  body_some nothing = first_some (PushConstant Nil) []
  body_some (last n) = code_some for_value n
  body_some (next n b) = more_some (code_of for_effect n) (body_code b) (code_some for_effect n)
  body_some (returned n) = return_some n

  return_some : (n : Node) → 1 ≤ size (return_code n (code_of for_value n))
  return_some (constant Receiver) = omega arith
  return_some (literal l place) = first_some (Push (Literal place)) (ReturnTop ∷ [])
  return_some (variable p) = first_some (Push p) (ReturnTop ∷ [])
  return_some (assign p n) = more_some (code_of for_value n ++ Store p ∷ []) (ReturnTop ∷ []) (more_some (code_of for_value n) (Store p ∷ []) (code_some for_value n))
  return_some (block first arguments n body) = first_some (PushConstant Context) _
  return_some (send above r ms) = more_some (code_of for_value r ++ messages_code above ms) (ReturnTop ∷ []) (more_some (code_of for_value r) (messages_code above ms) (code_some for_value r))
  return_some (one_sided side x a) = more_some _ (ReturnTop ∷ []) (more_some (code_of for_value x) _ (code_some for_value x))
  return_some (two_sided TrueFirst x a b) = more_some _ (ReturnTop ∷ []) (more_some (code_of for_value x) _ (code_some for_value x))
  return_some (two_sided FalseFirst x a b) = more_some _ (ReturnTop ∷ []) (more_some (code_of for_value x) _ (code_some for_value x))
  return_some (loop kind x a) = more_some _ (ReturnTop ∷ []) (more_some (body_code x) _ (body_some x))
  return_some n = omega arith
