-- The stack: the active context, the one that it returns to, and so on (chapter 27). Field 0 of a context is its sender.
use Rattle.std.specs.Prelude.{codes, ℕ, zero, suc, List, [], ◌∷◌, ◌++◌, length, slice_get, Option, Some, None, Bool, ◌&&◌, nat_le, option_and_then, option_map, if◌then◌else◌}
use Rattle.std.specs.List.{flat_map}
use Rattle.st_model.specs.Values.{Value, Small, Ref}
use Rattle.st_model.specs.Objects.{is_pointers}
use Rattle.st_model.specs.Table.{Table}
use Rattle.st_model.specs.View.{is_live, object_of}
use Rattle.st_model.specs.Text.{values_text, numbers_text}

-- an object of kind Pointers with 6 fields or more
abbrev pub has_fields : Table → Value → Bool
has_fields t v = is_live t v && is_pointers (object_of t v).kind && nat_le 6 (length (object_of t v).fields)

-- one of the first 6 fields of such an object
unfoldable pub field_of : Table → Value → ℕ → Option Value
field_of t v i = if has_fields t v then slice_get (object_of t v).fields i else None

-- Field 3 of a method context is its method; that of a block context is an argument count, and its home is field 5.
abbrev pub home_by : Table → Value → Value → Option Value
home_by t context (Small n) = field_of t context 5
home_by t context (Ref n) = Some context

-- the home of a context
abbrev pub home_in : Table → Value → Option Value
home_in t context = option_and_then (home_by t context) (field_of t context 3)

-- the method of its home; none, where one of the two hasn't the form of a context
unfoldable pub method_in : Table → Value → Option Value
method_in t context = option_and_then (λ home. field_of t home 3) (home_in t context)

-- a context of the stack, its method and its sender
pub record Call : Type 0 where
  pub context : Value
  pub method : Value
  pub sender : Value

abbrev pub call_by : Value → Option Value → Option Value → Option Call
call_by context (Some method) (Some sender) = Some (record { context = context; method = method; sender = sender })
call_by context _ _ = None

unfoldable pub call_in : Table → Value → Option Call
call_in t context = call_by context (method_in t context) (field_of t context 0)

-- a context, and what follows from its sender; or there is none
abbrev pub call_and : Option Call → (Value → List Call) → List Call
call_and None others = []
call_and (Some call) others = call ∷ others call.sender

-- the contexts from this one on, at most so many, up to the first word that is no context
unfoldable pub calls : Table → ℕ → Value → List Call
calls t zero context = []
calls t (suc most) context = call_and (call_in t context) (λ sender. calls t most sender)

-- the most contexts that are shown
abbrev pub most_calls : ℕ
most_calls = 100

-- a context and its method
abbrev pub frame_line : Call → List ℕ
frame_line call = codes "frame" ++ (values_text (call.context ∷ call.method ∷ []) ++ codes "\n")

-- how many contexts there are, and each of them
abbrev pub stack_lines : List Call → List ℕ
stack_lines cs = (codes "stack" ++ (numbers_text (length cs ∷ []) ++ codes "\n")) ++ flat_map frame_line cs

abbrev pub stack_text : Table → Value → List ℕ
stack_text t active = stack_lines (calls t most_calls active)
