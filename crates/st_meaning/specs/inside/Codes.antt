-- What one instruction does with a stack, whatever a variable and a value are: places and words of a machine, or those of a
-- walk.
use Rattle.std.specs.Prelude.{ℕ, zero, suc, ◌+◌, ◌-◌, ◌==◌, Bool, true, false, List, [], ◌∷◌, slice_get, Option, Some, None, if◌then◌else◌}
use Rattle.st_emit.specs.declared.instruction.Constant.{Constant}
use Rattle.st_emit.specs.declared.instruction.InstructionOperand.{InstructionOperand}
use Rattle.st_emit.specs.declared.instruction.InstructionOperand.TheVariants.{Literal}
use Rattle.st_emit.specs.declared.instruction.Instruction.{Instruction}
use Rattle.st_emit.specs.declared.instruction.Instruction.TheVariants.{Push, PushConstant, PushNumber, Store, PopStore, Pop, Duplicate, Send, SendSuper, SendSpecial, ReturnConstant, ReturnTop, ReturnBlock, Jump, JumpBack, JumpIf, JumpPast}
use Rattle.st_emit.specs.Resolving.{special_selectors, first_special, block_copy}
use Rattle.st_emit.specs.Selectors.{arity}

-- what there is: pseudo variables, numbers from -1 to 2 by one more, literals by their places, variables and what they hold
pub record Values (P A : Type 0) : Type 0 where
  pub constant : Constant → A
  pub small : ℕ → A
  pub literal : ℕ → Option A
  pub variable : InstructionOperand → A
  pub target : InstructionOperand → P
  pub selector : ℕ → Option (List ℕ)

pub data Walked (P A : Type 0) : Type 0 where
  -- the stack then
  went : List A → Walked P A
  -- a value is stored into a variable
  stored : P → A → List A → Walked P A
  -- a message, to super or not, with the stack below it
  sent : A → List ℕ → List A → (above : Bool) → List A → Walked P A
  -- a block is made
  copied : List A → Walked P A
  returned : A → Walked P A
  -- places ahead, and back
  ahead : ℕ → List A → Walked P A
  aback : ℕ → List A → Walked P A
  -- a jump ahead on a boolean
  tested : (on : Bool) → A → ℕ → List A → Walked P A
  stuck : Walked P A

abbrev pub on_top : {P A : Type 0} → List A → (A → List A → Walked P A) → Walked P A
on_top [] f = stuck
on_top (v ∷ s) f = f v s

abbrev pub on_some : {P A B : Type 0} → Option B → (B → Walked P A) → Walked P A
on_some None f = stuck
on_some (Some x) f = f x

-- the last n words as arguments, in order before others, and the receiver below them
abbrev pub on_message : {P A : Type 0} → ℕ → (arguments : List A) → List A → (A → List A → List A → Walked P A) → Walked P A
on_message n arguments [] f = stuck
on_message zero arguments (r ∷ s) f = f r arguments s
on_message (suc n) arguments (v ∷ s) f = on_message n (v ∷ arguments) s f

abbrev pub sends : {P A : Type 0} → (above : Bool) → ℕ → List ℕ → List A → Walked P A
sends above n text s = on_message n [] s (λ r arguments rest. sent r text arguments above rest)

-- a block is made of the context and the count on top of the stack
abbrev pub copies : {P A : Type 0} → List A → Walked P A
copies s = on_message 1 [] s (λ r arguments rest. copied rest)

-- a message by its own code has as many arguments as its selector says
abbrev pub sends_special : {P A : Type 0} → (code : ℕ) → List A → Walked P A
sends_special code s = if code == first_special + block_copy then copies s else on_some (slice_get special_selectors (code - first_special)) (λ text. sends false (arity text) text s)

abbrev pub walk_code : {P A : Type 0} → Values P A → Instruction → List A → Walked P A
walk_code v (Push (Literal n)) s = on_some (v.literal n) (λ x. went (x ∷ s))
walk_code v (Push p) s = went (v.variable p ∷ s)
walk_code v (PushConstant k) s = went (v.constant k ∷ s)
walk_code v (PushNumber n) s = went (v.small n ∷ s)
walk_code v (Store p) s = on_top s (λ x rest. stored (v.target p) x s)
walk_code v (PopStore p) s = on_top s (λ x rest. stored (v.target p) x rest)
walk_code v Pop s = on_top s (λ x rest. went rest)
walk_code v Duplicate s = on_top s (λ x rest. went (x ∷ s))
walk_code v (Send n k) s = on_some (v.selector k) (λ text. sends false n text s)
walk_code v (SendSuper n k) s = on_some (v.selector k) (λ text. sends true n text s)
walk_code v (SendSpecial code) s = sends_special code s
walk_code v (ReturnConstant k) s = returned (v.constant k)
walk_code v ReturnTop s = on_top s (λ x rest. returned x)
walk_code v ReturnBlock s = on_top s (λ x rest. returned x)
walk_code v (Jump d) s = ahead d s
walk_code v (JumpPast d) s = ahead d s
walk_code v (JumpBack d) s = aback d s
walk_code v (JumpIf on d) s = on_top s (λ x rest. tested on x d rest)
