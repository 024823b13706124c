-- What the code of a walk holds, as definitions see it.
use Rattle.std.specs.Prelude.{◌≡◌, ◌≢◌, ◌≤◌, ℕ, zero, suc, ◌+◌, List, [], ◌∷◌, ◌++◌, length, reverse, drop, slice_get, Option, Some, None, Bool, true, false, if◌then◌else◌}
use Rattle.st_meaning.specs.declared.deed.Variable.{Variable}
use Rattle.st_meaning.specs.declared.deed.Variable.TheVariants.{Field, Temporary, Shared}
use Rattle.st_emit.specs.declared.instruction.Instruction.{Instruction}
use Rattle.st_emit.specs.declared.instruction.Instruction.TheVariants.{Push, Store, PopStore}
use Rattle.st_meaning.specs.declared.deed.Value.{Value}
use Rattle.st_resolved.specs.Instructions.{instruction}
use Rattle.st_code.specs.Methods.{PartsView}
use Rattle.st_meaning.specs.declared.deed.Value.TheVariants.{First, Constant}
use Rattle.st_meaning.specs.declared.fault.MeaningFault.{MeaningFault}
use Rattle.st_meaning.specs.declared.fault.MeaningFault.TheVariants.{Long, OutOfMemory}
use Rattle.st_meaning.specs.declared.held.Held.{Held}
use Rattle.st_meaning.specs.declared.course.Course.{Course}
use Rattle.st_meaning.specs.declared.code.Walked.{Walked}
use Rattle.st_meaning.specs.declared.code.Walked.TheVariants as walked
use Rattle.st_meaning.specs.declared.code.Top.{Top}
use Rattle.st_meaning.specs.declared.code.Top.TheVariants as top
use Rattle.st_meaning.specs.inside.Values.{DeedView, IsShort}
use Rattle.st_meaning.specs.inside.Deeds.{answers_view, deeds_view, Lists}
use Rattle.st_meaning.specs.inside.Runs.{Going, Outcome, went, over, long, Run}
use Rattle.st_meaning.specs.inside.Codes as codes
use Rattle.st_meaning.specs.inside.Walks.{Next, on_boolean, done, act_found}
use Rattle.st_meaning.specs.inside.Meanings.{most, start_of}

-- VARIABLES

-- a value that is known, or what there was at the start
abbrev pub known : Option (Option Value) → Value → Value
known (Some (Some v)) start = v
known _ start = start

abbrev pub held_of : Held → Variable → Value
held_of h (Field n) = known (slice_get h.fields.items n) (First (Field n))
held_of h (Temporary n) = known (slice_get h.temporaries.items n) (start_of h.arguments (Temporary n))
held_of h (Shared n) = known (slice_get h.shared.items n) (First (Shared n))

-- a table for the variables that code can name
pub record IsTable (h : Held) : Type 0 where
  pub fields : length h.fields.items ≡ 64
  pub temporaries : length h.temporaries.items ≡ 64
  pub shared : length h.shared.items ≡ 64

-- a course with its tables, which has made no more blocks than it has deeds, and has no more of these than it may
pub record IsSound (c : Course) : Type 0 where
  pub table : IsTable c.held
  pub blocks : c.blocks ≤ length c.deeds.items
  pub few : length c.deeds.items ≤ most

-- a list with another value at a place
pub record IsPut (old new : List (Option Value)) (n : ℕ) (v : Value) : Type 0 where
  pub many : length new ≡ length old
  pub here : slice_get new n ≡ Some (Some v)
  pub others : (m : ℕ) → m ≢ n → slice_get new m ≡ slice_get old m

-- RUNS

abbrev pub going_view : Course → Going
going_view c = record { deeds = deeds_view c.deeds.items; answers = answers_view c.answers.now; held = held_of c.held; blocks = c.blocks; backs = c.backs }

abbrev pub with_deed : DeedView → Going → Going
with_deed d g = record g { deeds = g.deeds ++ d ∷ [] }

abbrev pub with_back : Going → Going
with_back g = record g { backs = g.backs + 1 }

-- what went on with something, or came to its end
abbrev pub Goes : {A : Type 0} → Outcome A → Option A → Going → Type 0
Goes o (Some x) g = o ≡ went x g
Goes o None g = o ≡ over g

-- where a run is too long, this is so
abbrev pub IsLong : Type 0 → MeaningFault → Type 0
IsLong P Long = P
IsLong P OutOfMemory = Unit {0}

-- INSTRUCTIONS

-- a stack's words, the last one on top
abbrev pub stack_view : List Value → List Value
stack_view items = reverse items

-- with this stack then
abbrev pub walked_view : Walked → List Value → codes.Walked Variable Value
walked_view walked.Went s = codes.went s
walked_view (walked.Stored p v) s = codes.stored p v s
walked_view (walked.Sent receiver selector arguments above) s = codes.sent receiver selector.now arguments.items above s
walked_view walked.Copied s = codes.copied s
walked_view (walked.Returned v) s = codes.returned v
walked_view (walked.Ahead d) s = codes.ahead d s
walked_view (walked.Back d) s = codes.aback d s
walked_view (walked.Tested on v d) s = codes.tested on v d s
walked_view walked.Stuck s = codes.stuck

-- this is what an instruction does, and the stack is this one then
abbrev pub Does : codes.Walked Variable Value → (new : List Value) → Walked → Type 0
Does what new w = walked_view w (stack_view new) ≡ what

-- the top of a stack, and what is below it
abbrev pub IsTop : (old : List Value) → Option Value → (new : List Value) → Type 0
IsTop old (Some v) new = stack_view old ≡ v ∷ stack_view new
IsTop old None new = stack_view old ≡ []

-- what is done with the top of a stack
abbrev pub top_walked : Top → List Value → codes.Walked Variable Value
top_walked (top.Stored p) s = codes.on_top s (λ x rest. codes.stored p x s)
top_walked (top.Popped p) s = codes.on_top s (λ x rest. codes.stored p x rest)
top_walked top.Dropped s = codes.on_top s (λ x rest. codes.went rest)
top_walked top.Doubled s = codes.on_top s (λ x rest. codes.went (x ∷ s))
top_walked top.Returned s = codes.on_top s (λ x rest. codes.returned x)
top_walked (top.Tested on d) s = codes.on_top s (λ x rest. codes.tested on x d rest)

-- true or false, by their numbers; every other value is none
abbrev pub boolean : Value → Option Bool
boolean (Constant (suc zero)) = Some true
boolean (Constant (suc (suc zero))) = Some false
boolean v = None

-- an instruction whose places have 8 bits
abbrev pub NamesShort : Instruction → Type 0
NamesShort (Push p) = IsShort p
NamesShort (Store p) = IsShort p
NamesShort (PopStore p) = IsShort p
NamesShort step = Unit {0}

-- whether a jump on a boolean jumps; a value that is none is the end
abbrev pub Tests : Bool → Value → Course → Course → Option Bool → Type 0
Tests on v old new (Some jumps) = (jump go : Run Value) → on_boolean most on v jump go (going_view old) ≡ (if jumps then jump else go) (going_view new)
Tests on v old new None = (jump go : Run Value) → on_boolean most on v jump go (going_view old) ≡ over (going_view new)

abbrev pub IsLongTest : Bool → Value → Course → Type 0
IsLongTest on v old = (jump go : Run Value) → on_boolean most on v jump go (going_view old) ≡ long

-- with a value on the stack the code goes on there; without one it doesn't
abbrev pub IsBehind : Option Value → (at : ℕ) → (old new : List Value) → Option ℕ → Type 0
IsBehind (Some v) at old new o = (o ≡ Some at) × (stack_view new ≡ v ∷ stack_view old)
IsBehind None at old new o = o ≡ None

-- whatever comes next: the walk goes on at a place and with a stack, or it is over
abbrev pub Continues : (Next → Outcome Value) → List Value → Course → Option ℕ → Type 0
Continues m s c (Some at) = (f : Next) → m f ≡ f at (stack_view s) (going_view c)
Continues m s c None = (f : Next) → Lists (m f) (going_view c).deeds

abbrev pub IsTooLong : (Next → Outcome Value) → Type 0
IsTooLong m = (f : Next) → m f ≡ long

-- what becomes of what an instruction does, behind which the code goes on at this place
abbrev pub becomes : Walked → (at : ℕ) → List Value → Course → (Next → Outcome Value)
becomes w at s c f = done most (walked_view w (stack_view s)) f at (going_view c)

-- what becomes of a jump on a boolean, whatever is on the stack
abbrev pub Jumps : Bool → Value → (distance at : ℕ) → (old new : Course) → Option ℕ → Type 0
Jumps on v distance at old new o = (s : List Value) → Continues (becomes (walked.Tested on v distance) at s old) s new o

abbrev pub IsLongJump : Bool → Value → (distance at : ℕ) → Course → Type 0
IsLongJump on v distance at old = (s : List Value) → IsTooLong (becomes (walked.Tested on v distance) at s old)

-- and of the instruction at a place
abbrev pub advances : PartsView → (at : ℕ) → List Value → Course → (Next → Outcome Value)
advances p at s c f = act_found most p.literals (instruction (drop at p.bytes)) f at (stack_view s) (going_view c)
