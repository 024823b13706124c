-- What is done to a node, as code behind the node's own. A loop has none: its node stands in it as statements.
use Rattle.std.specs.Prelude.{false, List, [], ◌∷◌}
use Rattle.st_emit.specs.declared.instruction.Instruction.{Instruction}
use Rattle.st_emit.specs.declared.instruction.Instruction.TheVariants.{PushConstant, Store}
use Rattle.st_emit.specs.declared.level.Level.{Level}
use Rattle.st_emit.specs.declared.form.TwoSided.{TwoSided}
use Rattle.st_emit.specs.declared.form.TwoSided.TheVariants.{TrueFirst, FalseFirst}
use Rattle.st_emit.specs.Nodes.{Body, Tail, assigned, sent, sided, chosen, looped}
use Rattle.st_emit.specs.Emitting.{choice, body_code, messages_code, passes_on, other_side}
use Rattle.st_emit.specs.Depths.{pushed, popped, beside, joined, body_level, messages_level}

abbrev pub two_code : TwoSided → Body → Body → List Instruction
two_code TrueFirst a b = choice false [] (body_code a) (body_code b)
two_code FalseFirst a b = choice false [] (body_code b) (body_code a)

abbrev pub tail_code : Tail → List Instruction
tail_code (assigned p) = Store p ∷ []
tail_code (sent above ms) = messages_code above ms
tail_code (sided side a) = choice (passes_on side) [] (body_code a) (PushConstant (other_side side) ∷ [])
tail_code (chosen side a b) = two_code side a b
tail_code (looped kind a) = []

-- behind two sides, the first of which begins at a level
abbrev pub two_level : Body → Body → Level → Level
two_level a b start = let first = body_level a start in joined first (body_level b (beside start first))

abbrev pub chosen_level : TwoSided → Body → Body → Level → Level
chosen_level TrueFirst a b start = two_level a b start
chosen_level FalseFirst a b start = two_level b a start

abbrev pub sided_level : Body → Level → Level
sided_level a start = let first = body_level a start in joined first (pushed (beside start first))

abbrev pub tail_level : Tail → Level → Level
tail_level (assigned p) l = l
tail_level (sent above ms) l = messages_level ms l
tail_level (sided side a) l = sided_level a (popped 1 l)
tail_level (chosen side a b) l = chosen_level side a b (popped 1 l)
tail_level (looped kind a) l = l

-- code that stands behind that of its node: that of an assignment, and that of messages
abbrev pub IsAssigned : Tail → Type 0
IsAssigned (assigned p) = Unit {0}
IsAssigned _ = ⊥

abbrev pub IsSent : Tail → Type 0
IsSent (sent above ms) = Unit {0}
IsSent (sided side a) = Unit {0}
IsSent (chosen side a b) = Unit {0}
IsSent _ = ⊥
