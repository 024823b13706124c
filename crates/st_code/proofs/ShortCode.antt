-- A method's instructions say whether it is simple, as its nodes do: every other one has more instructions.
use Rattle.std.proofs.Common.{◌≡◌, ◌≤◌, Bool, List, [], ◌∷◌, ◌++◌, length, None, refl, arith}
use Rattle.std.proofs.lemmas.List.{length-append}
use Rattle.st_emit.specs.declared.instruction.Constant.TheVariants.{Receiver, True, False, Nil, Context}
use Rattle.st_emit.specs.declared.instruction.InstructionOperand.TheVariants.{Field, Temporary, Literal, Shared}
use Rattle.st_emit.specs.declared.instruction.Instruction.{Instruction}
use Rattle.st_emit.specs.declared.instruction.Instruction.TheVariants.{PushConstant, Store, PopStore, Pop}
use Rattle.st_emit.specs.declared.form.TwoSided.TheVariants.{TrueFirst, FalseFirst}
use Rattle.st_emit.specs.Nodes.{Node, Body, nothing, last, next, returned, Messages, only, also}
use Rattle.st_emit.specs.Nodes as nodes
use Rattle.st_emit.specs.Emitting.{for_value, for_effect, code_of, messages_code, method_code, return_code}
use Rattle.st_code.specs.Methods.{simple}
use Rattle.st_code.specs.inside.Simple.{simple_by}

-- SOME INSTRUCTIONS

some_behind : (xs ys : List Instruction) → 1 ≤ length ys → 1 ≤ length (xs ++ ys)
some_behind xs ys h = omega (arith, length-append xs ys)

two_behind : (xs ys : List Instruction) → 2 ≤ length ys → 2 ≤ length (xs ++ ys)
two_behind xs ys h = omega (arith, length-append xs ys)

cons_behind : (xs : List Instruction) (y : Instruction) (ys : List Instruction) → 1 ≤ length (xs ++ y ∷ ys)
cons_behind xs y ys = some_behind xs (y ∷ ys) (omega arith)

one_more : (xs : List Instruction) (y : Instruction) → 1 ≤ length xs → 2 ≤ length (xs ++ y ∷ [])
one_more xs y h = omega (arith, length-append xs (y ∷ []))

two_of : (xs ys : List Instruction) → 1 ≤ length xs → 1 ≤ length ys → 2 ≤ length (xs ++ ys)
two_of xs ys h k = omega (arith, length-append xs ys)

messages_some : (above : Bool) (ms : Messages) → 1 ≤ length (messages_code above ms)
messages_some above (only s ns) = cons_behind _ _ _
messages_some above (also s ns ms) = omega arith

-- a value of more than one instruction, whatever stands behind it
choice_two : (xs first second : List Instruction) (on over : Instruction) → 2 ≤ length (xs ++ on ∷ (first ++ over ∷ second))
choice_two xs first second on over = two_behind xs (on ∷ (first ++ over ∷ second)) (omega (arith, length-append first (over ∷ second)))

value_some : (n : Node) → 1 ≤ length (code_of for_value n)
value_some (nodes.constant k) = omega arith
value_some (nodes.small k) = omega arith
value_some (nodes.literal x p) = omega arith
value_some (nodes.variable p) = omega arith
value_some (nodes.assign p n) = cons_behind _ _ _
value_some (nodes.block f a x b) = omega arith
value_some (nodes.send above r ms) = some_behind _ _ (messages_some above ms)
value_some (nodes.one_sided side x a) = cons_behind _ _ _
value_some (nodes.two_sided TrueFirst x a b) = cons_behind _ _ _
value_some (nodes.two_sided FalseFirst x a b) = cons_behind _ _ _
value_some (nodes.loop kind x a) = cons_behind _ _ _

popped_two : (n : Node) → 2 ≤ length (code_of for_value n ++ Pop ∷ [])
popped_two n = one_more (code_of for_value n) Pop (value_some n)

effect_two : (n : Node) → 2 ≤ length (code_of for_effect n)
effect_two (nodes.assign p n) = one_more (code_of for_value n) (PopStore p) (value_some n)
effect_two n = popped_two n

returned_some : (n : Node) → 1 ≤ length (return_code n (code_of for_value n))
returned_some (nodes.assign p n) = cons_behind _ _ _
returned_some (nodes.send above r ms) = cons_behind _ _ _
returned_some (nodes.one_sided side x a) = cons_behind _ _ _
returned_some (nodes.two_sided side x a b) = cons_behind _ _ _
returned_some (nodes.loop kind x a) = cons_behind _ _ _
returned_some (nodes.constant Receiver) = omega arith
returned_some n = omega arith

method_some : (b : Body) → 1 ≤ length (method_code b)
method_some nothing = omega arith
method_some (last n) = cons_behind (code_of for_effect n) _ _
method_some (next n b) = some_behind (code_of for_effect n) _ (method_some b)
method_some (returned n) = returned_some n

-- SIMPLE METHODS

-- more than two instructions
none_by : (xs ys : List Instruction) → 2 ≤ length xs → 1 ≤ length ys → simple_by (xs ++ ys) ≡ None
none_by [] ys h k = absurd (omega arith)
none_by (x ∷ []) ys h k = absurd (omega arith)
none_by (x ∷ y ∷ []) [] h k = absurd (omega arith)
none_by (x ∷ y ∷ []) (z ∷ zs) h k = refl
none_by (x ∷ y ∷ z ∷ zs) ys h k = refl

none_by_end : (xs : List Instruction) (y : Instruction) → 2 ≤ length xs → simple_by (xs ++ y ∷ []) ≡ None
none_by_end xs y h = none_by xs (y ∷ []) h (omega arith)

pub simple_by_nodes : (b : Body) → simple_by (method_code b) ≡ simple b
simple_by_nodes nothing = refl
simple_by_nodes (last n) = none_by_end (code_of for_effect n) _ (effect_two n)
simple_by_nodes (next n b) = none_by (code_of for_effect n) _ (effect_two n) (method_some b)
simple_by_nodes (returned (nodes.constant Receiver)) = refl
simple_by_nodes (returned (nodes.constant True)) = refl
simple_by_nodes (returned (nodes.constant False)) = refl
simple_by_nodes (returned (nodes.constant Nil)) = refl
simple_by_nodes (returned (nodes.constant Context)) = refl
simple_by_nodes (returned (nodes.small k)) = refl
simple_by_nodes (returned (nodes.literal x p)) = refl
simple_by_nodes (returned (nodes.variable (Field n))) = refl
simple_by_nodes (returned (nodes.variable (Temporary n))) = refl
simple_by_nodes (returned (nodes.variable (Literal n))) = refl
simple_by_nodes (returned (nodes.variable (Shared n))) = refl
simple_by_nodes (returned (nodes.assign p n)) = none_by_end (code_of for_value (nodes.assign p n)) _ (one_more (code_of for_value n) (Store p) (value_some n))
simple_by_nodes (returned (nodes.block f a x b)) = none_by_end (code_of for_value (nodes.block f a x b)) _ (choice_two [] _ _ (PushConstant Context) _)
simple_by_nodes (returned (nodes.send above r ms)) = none_by_end (code_of for_value (nodes.send above r ms)) _ (two_of (code_of for_value r) (messages_code above ms) (value_some r) (messages_some above ms))
simple_by_nodes (returned (nodes.one_sided side x a)) = none_by_end (code_of for_value (nodes.one_sided side x a)) _ (choice_two _ _ _ _ _)
simple_by_nodes (returned (nodes.two_sided TrueFirst x a b)) = none_by_end (code_of for_value (nodes.two_sided TrueFirst x a b)) _ (choice_two _ _ _ _ _)
simple_by_nodes (returned (nodes.two_sided FalseFirst x a b)) = none_by_end (code_of for_value (nodes.two_sided FalseFirst x a b)) _ (choice_two _ _ _ _ _)
simple_by_nodes (returned (nodes.loop kind x a)) = none_by_end (code_of for_value (nodes.loop kind x a)) _ (choice_two _ _ _ _ _)
