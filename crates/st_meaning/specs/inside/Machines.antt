-- A bytecode of the machine beside one instruction of a walk: what stands in variables and on the stack, what is sent, and what is
-- returned (chapters 27 and 28). The machine is that over any memory.
use Rattle.std.specs.Prelude.{◌≡◌, ◌≢◌, ◌⊎◌, ℕ, zero, suc, ◌+◌, ◌-◌, ◌*◌, ◌%◌, ◌≤◌, ◌<◌, ◌==◌, ℤ, pos, ◌+ℤ◌, ◌-ℤ◌, Bool, true, false, not, List, [], ◌∷◌, length, slice_get, drop, Option, Some, None, option_map, if◌then◌else◌, nat_lt}
use Rattle.st_model.specs.Values.{Value, Small, Ref, integer}
use Rattle.st_model.specs.declared.page.PageObject.TheVariants.{TrueObject, FalseObject, NilObject, Selectors}
use Rattle.st_model.specs.Objects.{Object, is_pointers, is_method, first_unit}
use Rattle.st_model.specs.Machine.{ObjectMemory, State, Transition, Went, Step, answer, ◌>>◌}
use Rattle.st_model.specs.Outcomes.{Outcome}
use Rattle.st_model.specs.Outcomes as outcome
use Rattle.st_model.specs.Sends.{Call, send, send_to_super}
use Rattle.st_model.specs.Arithmetic.{arithmetic, arithmetic_number, equivalence, receiver_class}
use Rattle.st_model.specs.Blocks.{primitive_value}
use Rattle.st_model.specs.Executing.{executed, executed_if_any}
use Rattle.st_model.specs.Returns.{return_to_sender, return_to_caller}
use Rattle.st_model.specs.Bytecodes.{step}
use Rattle.st_model.specs.Cycles.{cycle, warned}
use Rattle.st_model.specs.Outcomes.{With}
use Rattle.st_model.specs.Settled.{reclaim}
use Rattle.st_emit.specs.declared.instruction.Constant.{Constant}
use Rattle.st_emit.specs.declared.instruction.Constant.TheVariants.{Receiver, True, False, Nil, Context}
use Rattle.st_emit.specs.declared.instruction.InstructionOperand.{InstructionOperand}
use Rattle.st_emit.specs.declared.instruction.InstructionOperand.TheVariants.{Field, Temporary, Literal, Shared}
use Rattle.st_emit.specs.declared.instruction.Instruction.{Instruction as Code}
use Rattle.st_emit.specs.declared.instruction.Instruction.TheVariants.{Push, Store, PopStore, Send, SendSuper, SendSpecial, ReturnConstant, ReturnBlock, JumpIf}
use Rattle.st_emit.specs.Resolving.{special_selectors, first_special}
use Rattle.st_emit.specs.Selectors.{arity}
use Rattle.st_resolved.specs.declared.reading.Found.{Found}
use Rattle.st_resolved.specs.Instructions.{instruction}
use Rattle.st_meaning.specs.inside.Codes.{Values, Walked, went, stored, sent, copied, returned, ahead, aback, tested, stuck, walk_code}

-- what stands in an object's field i, if it is of kind Pointers and has one, and in a method's literal i
abbrev pub field_in : Option Object → ℕ → Option Value
field_in None i = None
field_in (Some o) i = if is_pointers o.kind then slice_get o.fields i else None

abbrev pub literal_in : Option Object → ℕ → Option Value
literal_in None i = None
literal_in (Some o) i = if is_method o.kind then slice_get o.fields (i + 1) else None

-- a SmallInteger from -1 to 2, by one more
abbrev pub small_at : ℕ → Value
small_at zero = Small 32767
small_at (suc n) = Small n

-- arguments in their order, so that the last stands at the top, above others
abbrev pub laid : {A : Type 0} → List A → List A → List A
laid [] below = below
laid (v ∷ vs) below = laid vs (v ∷ below)

-- the machine takes the number of arguments that the bytes say
abbrev pub as_sent : Code → Code
as_sent (Send n i) = Send (n % 256) i
as_sent (SendSuper n i) = SendSuper (n % 256) i
as_sent code = code

-- an object that is stored is read again, and no other object changes
pub record KeepsOthers {H : Type 0} (m : ObjectMemory H) : Type 0 where
  pub same : (h : H) (n : ℕ) (o p : Object) → m.read h n ≡ Some p → m.read (m.replace h n o) n ≡ Some o
  pub other : (h : H) (n k : ℕ) (o : Object) → k ≢ n → m.read (m.replace h n o) k ≡ m.read h k

module _ {H : Type 0} (m : ObjectMemory H) where
  abbrev pub object_in : H → Value → Option Object
  object_in h (Small n) = None
  object_in h (Ref n) = m.read h n

  abbrev pub field_at : H → Value → ℕ → Option Value
  field_at h v i = field_in (object_in h v) i

  abbrev pub literal_at : State H → ℕ → Option Value
  literal_at s i = literal_in (object_in s.memory s.registers.method) i

  -- an association's value is its field 1
  abbrev pub value_at : H → Option Value → Option Value
  value_at h None = None
  value_at h (Some v) = field_at h v 1

  -- what a variable holds: a field of the receiver, a temporary of the home, a literal, or the value of an association among these
  abbrev pub variable_at : State H → InstructionOperand → Option Value
  variable_at s (Field n) = field_at s.memory s.registers.receiver n
  variable_at s (Temporary n) = field_at s.memory s.registers.home (6 + n)
  variable_at s (Literal n) = literal_at s n
  variable_at s (Shared n) = value_at s.memory (literal_at s n)

  abbrev pub constant_at : State H → Constant → Value
  constant_at s Receiver = s.registers.receiver
  constant_at s Context = s.registers.active
  constant_at s True = Ref (m.named s.memory TrueObject)
  constant_at s False = Ref (m.named s.memory FalseObject)
  constant_at s Nil = Ref (m.named s.memory NilObject)

  -- the bytes of a symbol
  abbrev pub text_at : H → Option Value → Option (List ℕ)
  text_at h None = None
  text_at h (Some v) = option_map (λ (o : Object). o.units) (object_in h v)

  -- what a walk has, by what stands in the machine
  abbrev pub values_in : State H → Values InstructionOperand (Option Value)
  values_in s = record {
    constant = λ k. Some (constant_at s k);
    small = λ n. Some (small_at n);
    literal = λ n. option_map Some (literal_at s n);
    variable = variable_at s;
    target = λ p. p;
    selector = λ n. text_at s.memory (literal_at s n);
  }

  -- so many words of a context, from this field down
  abbrev pub words_from : H → Value → ℕ → ℕ → List (Option Value)
  words_from h c at zero = []
  words_from h c at (suc n) = field_at h c at ∷ words_from h c (at - 1) n

  -- the active stack, its top first, above so many of its fields from field 6 on
  abbrev pub stack_in : (below : ℕ) → State H → List (Option Value)
  stack_in below s = words_from s.memory s.registers.active s.registers.sp (s.registers.sp - (5 + below))

  -- CONDITIONS

  -- a temporary that code names is one of the method's
  abbrev pub IsNamed : (temporaries : ℕ) → InstructionOperand → Type 0
  IsNamed temporaries (Temporary n) = n < temporaries
  IsNamed temporaries p = Unit {0}

  abbrev pub NamesOne : (temporaries : ℕ) → Code → Type 0
  NamesOne k (Push p) = IsNamed k p
  NamesOne k (Store p) = IsNamed k p
  NamesOne k (PopStore p) = IsNamed k p
  NamesOne k code = Unit {0}

  abbrev pub IsApart : State H → Option Value → Type 0
  IsApart s v = (v ≢ Some s.registers.receiver) × (v ≢ Some s.registers.home) × (v ≢ Some s.registers.active)

  -- an association into which the code stores is none of the three objects
  abbrev pub StoresApart : State H → Code → Type 0
  StoresApart s (Store (Shared n)) = IsApart s (literal_at s n)
  StoresApart s (PopStore (Shared n)) = IsApart s (literal_at s n)
  StoresApart s code = Unit {0}

  -- the page's special selectors are those of the codes from 176 on, each with its number of arguments
  pub record IsSelector (s : State H) (k : ℕ) (text : List ℕ) : Type 0 where
    pub selector : Value
    pub count : ℕ
    pub stands : field_at s.memory (Ref (m.named s.memory Selectors)) (2 * k) ≡ Some selector
    pub spelled : text_at s.memory (Some selector) ≡ Some text
    pub counted : field_at s.memory (Ref (m.named s.memory Selectors)) (2 * k + 1) ≡ Some (Small count)
    pub arguments : integer count ≡ pos (arity text)

  abbrev pub NamesSelectors : State H → Type 0
  NamesSelectors s = (k : ℕ) (text : List ℕ) → slice_get special_selectors k ≡ Some text → IsSelector s k text

  -- a code of its own is a message by a selector of the page
  abbrev pub SendsNamed : State H → Code → Type 0
  SendsNamed s (SendSpecial c) = NamesSelectors s
  SendsNamed s code = Unit {0}

  -- what is tested is one of two objects
  abbrev pub TestsTwo : State H → Code → Type 0
  TestsTwo s (JumpIf on d) = m.named s.memory TrueObject ≢ m.named s.memory FalseObject
  TestsTwo s code = Unit {0}

  -- No two of the objects that a store may reach are one. The stack begins above the temporaries where the active context is the
  -- home, and else with field 6.
  pub record IsWalked (s : State H) (temporaries below : ℕ) (code : Code) : Type 0 where
    pub no_home : s.registers.receiver ≢ s.registers.home
    pub no_active : s.registers.receiver ≢ s.registers.active
    pub apart : StoresApart s code
    pub names : NamesOne temporaries code
    pub selectors : SendsNamed s code
    pub booleans : TestsTwo s code
    pub home : s.registers.active ≡ s.registers.home → below ≡ temporaries
    pub block : s.registers.active ≢ s.registers.home → below ≡ 0
    pub stack : 5 + below ≤ s.registers.sp

  -- the next byte is number `at` of the method's bytes
  pub record IsCode (s : State H) (bytes : List ℕ) (at : ℕ) : Type 0 where
    pub object : Object
    pub method : object_in s.memory s.registers.method ≡ Some object
    pub units : object.units ≡ bytes
    pub place : s.registers.ip ≡ pos (first_unit object + at)
    pub all_bytes : (i u : ℕ) → slice_get bytes i ≡ Some u → u < 256

  -- WHAT BECOMES OF IT

  -- the instruction pointer stands so many bytes further on
  abbrev pub behind : State H → ℕ → State H
  behind s n = record s { registers = record s.registers { ip = s.registers.ip +ℤ pos n } }

  -- the receiver's fields and the home's temporaries, which are so many
  abbrev pub IsOwn : (temporaries : ℕ) → InstructionOperand → Type 0
  IsOwn temporaries (Field n) = Unit {0}
  IsOwn temporaries (Temporary n) = n < temporaries
  IsOwn temporaries p = ⊥

  abbrev pub Keeps : (temporaries : ℕ) → State H → State H → Type 0
  Keeps temporaries s t = (p : InstructionOperand) → IsOwn temporaries p → variable_at t p ≡ variable_at s p

  abbrev pub KeepsBut : (temporaries : ℕ) → InstructionOperand → State H → State H → Type 0
  KeepsBut temporaries q s t = (p : InstructionOperand) → IsOwn temporaries p → p ≢ q → variable_at t p ≡ variable_at s p

  -- the machine goes on in the same context, with this stack, at this place
  pub record GoesOn (below : ℕ) (stack : List (Option Value)) (at : ℤ) (s t : State H) : Type 0 where
    pub active : t.registers.active ≡ s.registers.active
    pub home : t.registers.home ≡ s.registers.home
    pub method : t.registers.method ≡ s.registers.method
    pub receiver : t.registers.receiver ≡ s.registers.receiver
    pub stands : stack_in below t ≡ stack
    pub place : t.registers.ip ≡ at

  -- how a message is sent
  abbrev pub sends_by : (above : Bool) → Value → ℕ → Step H Call
  sends_by true selector n = send_to_super m selector n
  sends_by false selector n = send m selector n

  -- it is done, and counts as a success
  abbrev pub succeeds : Step H Unit → Step H Bool
  succeeds n = n >> answer true

  -- the primitive that is tried first for the special selector of this number
  abbrev pub primitive_first : ℕ → Option (Step H Bool)
  primitive_first k =
      if nat_lt k 16 then Some (arithmetic m (arithmetic_number k)) else
      if k == 22 then Some (succeeds (equivalence m)) else
      if k == 23 then Some (succeeds (receiver_class m)) else
      if k == 25 then Some (primitive_value m 0) else
      if k == 26 then Some (primitive_value m 1) else None

  -- a primitive answers the message by a code of its own
  pub record Answers (code : Code) (u t : State H) (o : Transition (State H) Outcome) : Type 0 where
    pub number : ℕ
    pub of_code : code ≡ SendSpecial (first_special + number)
    pub primitive : Step H Bool
    pub first : primitive_first number ≡ Some primitive
    pub done : primitive.run u ≡ Went true t
    pub went : o ≡ Went outcome.Went t

  -- From u, behind the code, it sends this message: receiver and arguments are the words that stand on the stack for it, and the
  -- selector has this text; or a primitive answers it.
  pub record Sends (below : ℕ) (code : Code) (above : Bool) (text : List ℕ) (receiver : Option Value) (arguments rest : List (Option Value)) (u t : State H) (o : Transition (State H) Outcome) : Type 0 where
    pub selector : Value
    pub spelled : text_at u.memory (Some selector) ≡ Some text
    pub stack : stack_in below u ≡ laid arguments (receiver ∷ rest)
    pub goes : (o ≡ (executed m (sends_by above selector (length arguments))).run u) ⊎ Answers code u t o

  -- a block's end returns to its caller, all others to the sender of the home
  abbrev pub return_by : Code → Value → Step H (Option Call)
  return_by ReturnBlock v = return_to_caller m v
  return_by code v = return_to_sender m v

  -- a constant is returned from the state as it is, all else once it is popped
  abbrev pub returning : Code → State H → State H
  returning (ReturnConstant c) u = u
  returning code u = record u { registers = record u.registers { sp = u.registers.sp - 1 } }

  -- it returns this value
  pub record Returns (code : Code) (value : Option Value) (u : State H) (o : Transition (State H) Outcome) : Type 0 where
    pub word : Value
    pub is : value ≡ Some word
    pub goes : o ≡ (executed_if_any m (return_by code word)).run (returning code u)

  abbrev pub boolean_at : State H → Bool → Option Value
  boolean_at s true = Some (constant_at s True)
  boolean_at s false = Some (constant_at s False)

  -- What the machine makes of s by this code, in a step that comes to o and leaves t, where u is s behind the code: it is what the
  -- code's part of a walk says.
  abbrev pub Shows : (temporaries below : ℕ) → Code → Walked InstructionOperand (Option Value) → (u t : State H) → Transition (State H) Outcome → Type 0
  Shows k b code (went st) u t o = GoesOn b st u.registers.ip u t × Keeps k u t
  Shows k b code (stored p v st) u t o = GoesOn b st u.registers.ip u t × (variable_at t p ≡ v) × KeepsBut k p u t
  Shows k b code (ahead d st) u t o = GoesOn b st (u.registers.ip +ℤ pos d) u t × Keeps k u t
  Shows k b code (aback d st) u t o = GoesOn b st (u.registers.ip -ℤ pos d) u t × Keeps k u t
  Shows k b code (tested on v d st) u t o =
      (v ≡ boolean_at u on → GoesOn b st (u.registers.ip +ℤ pos d) u t × Keeps k u t)
      × (v ≡ boolean_at u (not on) → GoesOn b st u.registers.ip u t × Keeps k u t)
  Shows k b code (sent receiver text arguments above rest) u t o = Sends b code above text receiver arguments rest u t o
  Shows k b code (returned v) u t o = Returns code v u o
  Shows k b code (copied st) u t o = Unit {0}
  Shows k b code stuck u t o = Unit {0}

  -- From s, whose next bytes are this instruction, a step that goes does what the code's part of a walk says.
  abbrev pub StepWalks : Type 0
  StepWalks =
      (s t : State H) (z : Outcome) (bytes : List ℕ) (at temporaries below : ℕ) (x : Found) → IsCode s bytes at → instruction (drop at bytes) ≡ Some x
      → IsWalked s temporaries below (as_sent x.step) → (step m).run s ≡ Went z t
      → Shows temporaries below (as_sent x.step) (walk_code (values_in s) (as_sent x.step) (stack_in below s)) (behind s x.size) t ((step m).run s)

  -- no signal is pending and no process waits
  pub record IsCalm (s : State H) : Type 0 where
    pub pending : s.world.devices.pending ≡ []
    pub waiting : s.world.devices.new_process ≡ Ref (m.named s.memory NilObject)

  -- a cycle that ends with an outcome is that step, and then what comes after it
  abbrev pub CycleSteps : Type 0
  CycleSteps =
      (s u : State H) (z : Outcome) → IsCalm s → cycle m s ≡ Went (With z) u
      → (t : State H) × ((step m).run s ≡ Went z t) × (u ≡ warned m (reclaim m t))
