-- How many words code has on the stack at once, on any path from its first byte.
use Rattle.std.specs.Prelude.{ℕ, ◌+◌, ◌-◌, true, false, ◌||◌, max, if◌then◌else◌}
use Rattle.st_emit.specs.declared.instruction.Constant.TheVariants.{Context}
use Rattle.st_emit.specs.declared.form.TwoSided.TheVariants.{TrueFirst, FalseFirst}
use Rattle.st_emit.specs.declared.level.Level.{Level}
use Rattle.st_emit.specs.Emitting.{Use, for_value, for_effect}
use Rattle.st_emit.specs.Nodes.{Node, constant, small, literal, variable, assign, block, send, one_sided, two_sided, loop, Body, nothing, last, next, returned, Messages, only, also, Nodes, none, node, count}

-- one word more
abbrev pub pushed : Level → Level
pushed l = if l.live then record l { height = l.height + 1; greatest = max l.greatest (l.height + 1) } else l

-- n words fewer
abbrev pub popped : ℕ → Level → Level
popped n l = record l { height = l.height - n }

abbrev pub level_used : Use → Level → Level
level_used for_value l = l
level_used for_effect l = popped 1 l

-- no path goes on
abbrev pub ended : Level → Level
ended l = record l { live = false }

-- where the second side begins, given where the first began and ended; and behind both, given where both ended
abbrev pub beside : Level → Level → Level
beside start first = record first { height = start.height; live = start.live }

abbrev pub joined : Level → Level → Level
joined first second = record second { height = (if second.live then second.height else first.height); live = first.live || second.live }

-- where a block's body begins, and behind the block
abbrev pub within : ℕ → Level → Level
within arguments l = record { height = arguments; live = true; greatest = arguments; blocks = l.blocks }

abbrev pub around : Level → Level → Level
around l body = record l { blocks = max body.blocks body.greatest }

-- a return, given where the statement begins and where its value is on the stack; constants are returned without a push
abbrev pub return_level : Node → (start value : Level) → Level
return_level (constant Context) start value = ended value
return_level (constant k) start value = ended start
return_level _ start value = ended value

abbrev mutual
  pub level_of : Use → Node → Level → Level
  level_of u (constant k) l = level_used u (pushed l)
  level_of u (small n) l = level_used u (pushed l)
  level_of u (literal x place) l = level_used u (pushed l)
  level_of u (variable p) l = level_used u (pushed l)
  level_of u (assign p n) l = level_used u (level_of for_value n l)
  level_of u (block first arguments n body) l =
      let outside = popped 1 (level_of for_value n (pushed l)) in
      level_used u (around outside (body_level body (popped arguments (within arguments outside))))
  level_of u (send above r ms) l = level_used u (messages_level ms (level_of for_value r l))
  level_of u (one_sided side x a) l =
      let start = popped 1 (level_of for_value x l) in
      let first = body_level a start in
      level_used u (joined first (pushed (beside start first)))
  level_of u (two_sided TrueFirst x a b) l =
      let start = popped 1 (level_of for_value x l) in
      let first = body_level a start in
      level_used u (joined first (body_level b (beside start first)))
  level_of u (two_sided FalseFirst x a b) l =
      let start = popped 1 (level_of for_value x l) in
      let first = body_level b start in
      level_used u (joined first (body_level a (beside start first)))
  level_of u (loop kind x a) l =
      let start = popped 1 (body_level x l) in
      let first = body_level a start in
      level_used u (pushed (beside start first))

  pub body_level : Body → Level → Level
  body_level nothing l = pushed l
  body_level (last n) l = level_of for_value n l
  body_level (next n b) l = body_level b (level_of for_effect n l)
  body_level (returned n) l = return_level n l (level_of for_value n l)

  pub messages_level : Messages → Level → Level
  messages_level (only s ns) l = popped (count ns) (nodes_level ns l)
  messages_level (also s ns ms) l = messages_level ms (popped 1 (popped (count ns) (nodes_level ns (pushed l))))

  pub nodes_level : Nodes → Level → Level
  nodes_level none l = l
  nodes_level (node n ns) l = nodes_level ns (level_of for_value n l)

-- the statements of a method
abbrev pub method_level : Body → Level → Level
method_level nothing l = l
method_level (last n) l = level_of for_effect n l
method_level (next n b) l = method_level b (level_of for_effect n l)
method_level (returned n) l = return_level n l (level_of for_value n l)

-- before a method's first byte
abbrev pub empty : Level
empty = record { height = 0; live = true; greatest = 0; blocks = 0 }
