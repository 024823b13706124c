-- The blocks of a method: each has a trace and a walk of its own.
use Rattle.std.specs.Prelude.{ℕ, zero, suc, ◌+◌, Bool, false, List, [], ◌∷◌}
use Rattle.st_emit.specs.declared.instruction.Instruction.TheVariants.{Jump, JumpIf}
use Rattle.st_emit.specs.declared.form.TwoSided.TheVariants.{TrueFirst, FalseFirst}
use Rattle.st_emit.specs.Literals.{LiteralView}
use Rattle.st_emit.specs.Steps.{size, size_of}
use Rattle.st_emit.specs.Nodes.{Node, constant, small, literal, variable, assign, block, send, one_sided, two_sided, loop, Body, nothing, last, next, returned, Messages, only, also, Nodes, none, node, count}
use Rattle.st_emit.specs.Emitting.{for_value, for_effect, code_of, body_code, nodes_code, send_step, passes_on, other_side, leaves_on, pop_arguments}
use Rattle.st_emit.specs.declared.instruction.Instruction.TheVariants.{PushConstant}
use Rattle.st_meaning.specs.declared.deed.Value.{Value}
use Rattle.st_meaning.specs.declared.deed.Value.TheVariants.{First}
use Rattle.st_meaning.specs.declared.deed.Variable.TheVariants.{Temporary}
use Rattle.st_meaning.specs.inside.Values.{AnswerView}
use Rattle.st_meaning.specs.inside.Runs.{Run, Outcome, gives, ◌>>=◌, assign_to, return_value}
use Rattle.st_meaning.specs.inside.Traces.{nil, body_value}
use Rattle.st_meaning.specs.inside.Walks.{walk}
use Rattle.st_meaning.specs.inside.Meanings.{before_all, enough_turns, enough_steps}

-- TRACE AND WALK

-- what the arguments of a block held at the start, as they stand on the stack, the last one on top
abbrev pub arguments_on : (first n : ℕ) → List Value
arguments_on first zero = []
arguments_on first (suc n) = First (Temporary (first + n)) ∷ arguments_on first n

module _ (most : ℕ) where
  -- each argument is assigned what it held, the last one first
  abbrev pub take_arguments : (first n : ℕ) → Run Value
  take_arguments first zero = gives nil
  take_arguments first (suc n) = assign_to most (Temporary (first + n)) (First (Temporary (first + n))) >>= λ v. take_arguments first n

  -- a block answers the value of its last statement
  abbrev pub block_value : (first arguments : ℕ) → Body → ℕ → Run Value
  block_value first arguments b n = take_arguments first arguments >>= λ v. (body_value most b n >>= λ w. return_value most w)

  abbrev pub block_trace : (first arguments : ℕ) → Body → List AnswerView → Outcome Value
  block_trace first arguments b answers = block_value first arguments b (enough_turns most) (before_all First answers)

  abbrev pub block_walk : List LiteralView → List ℕ → (at first arguments : ℕ) → List AnswerView → Outcome Value
  block_walk literals bytes at first arguments answers = walk most literals bytes (enough_steps most bytes) at (arguments_on first arguments) (before_all First answers)

-- EACH BLOCK

-- of a block: the place of its first byte, the number of its first argument, how many it has, and its statements
abbrev pub OfBlock : Type 1
OfBlock = (at first arguments : ℕ) → Body → Type 0

-- where a first and a second side begin, behind a receiver
abbrev pub first_at : (at : ℕ) → Node → Body → Body → ℕ
first_at at x a b = at + size (code_of for_value x) + size_of (JumpIf false (size (body_code a) + size_of (Jump (size (body_code b)))))

abbrev pub second_at : (at : ℕ) → Node → Body → Body → ℕ
second_at at x a b = first_at at x a b + size (body_code a) + size_of (Jump (size (body_code b)))

-- where the body of a block begins: behind the push of the context, the count, the copy and the jump over it
abbrev pub inside_at : (at : ℕ) → Node → ℕ
inside_at at n = at + 1 + size (code_of for_value n) + 1 + 2

-- something holds of each block of a node whose code stands at a place
module _ (P : OfBlock) where
  abbrev mutual
    pub Each : (at : ℕ) → Node → Type 0
    Each at (constant k) = Unit {0}
    Each at (small n) = Unit {0}
    Each at (literal l place) = Unit {0}
    Each at (variable p) = Unit {0}
    Each at (assign p n) = Each at n
    Each at (block first arguments n b) = P (inside_at at n) first arguments b × EachOfBody (inside_at at n + size (pop_arguments first arguments)) b
    Each at (send above r ms) = Each at r × EachOfMessages (at + size (code_of for_value r)) above ms
    Each at (one_sided side x a) = Each at x × EachOfBody (at + size (code_of for_value x) + size_of (JumpIf (passes_on side) (size (body_code a) + size_of (Jump (size (PushConstant (other_side side) ∷ [])))))) a
    Each at (two_sided TrueFirst x a b) = Each at x × EachOfBody (first_at at x a b) a × EachOfBody (second_at at x a b) b
    Each at (two_sided FalseFirst x a b) = Each at x × EachOfBody (first_at at x b a) b × EachOfBody (second_at at x b a) a
    Each at (loop kind x a) = EachOfBody at x × EachOfBody (at + size (body_code x) + size_of (JumpIf (leaves_on kind) (size (body_code a) + 3))) a

    pub EachOfBody : (at : ℕ) → Body → Type 0
    EachOfBody at nothing = Unit {0}
    EachOfBody at (last n) = Each at n
    EachOfBody at (next n b) = Each at n × EachOfBody (at + size (code_of for_effect n)) b
    EachOfBody at (returned n) = Each at n

    pub EachOfMessages : (at : ℕ) → (above : Bool) → Messages → Type 0
    EachOfMessages at above (only s ns) = EachOfNodes at ns
    EachOfMessages at above (also s ns ms) = EachOfNodes (at + 1) ns × EachOfMessages (at + 1 + size (nodes_code ns) + size_of (send_step above s.by (count ns)) + 1) above ms

    pub EachOfNodes : (at : ℕ) → Nodes → Type 0
    EachOfNodes at none = Unit {0}
    EachOfNodes at (node n ns) = Each at n × EachOfNodes (at + size (code_of for_value n)) ns
