-- What a method's source means: the list of what it does, by recursion on its nodes.
use Rattle.std.specs.Prelude.{ℕ, zero, suc, Bool, List, [], ◌∷◌}
use Rattle.st_emit.specs.declared.instruction.Constant.TheVariants.{Receiver, True, False, Nil}
use Rattle.st_emit.specs.declared.form.OneSided.{OneSided}
use Rattle.st_emit.specs.declared.form.OneSided.TheVariants.{IfTrue, IfFalse, And, Or}
use Rattle.st_emit.specs.declared.form.TwoSided.{TwoSided}
use Rattle.st_emit.specs.declared.form.TwoSided.TheVariants.{TrueFirst, FalseFirst}
use Rattle.st_emit.specs.declared.form.Loop.{Loop}
use Rattle.st_emit.specs.declared.form.Loop.TheVariants.{WhileTrue, WhileFalse}
use Rattle.st_emit.specs.Nodes.{Node, Body, nothing, last, next, returned, Messages, only, also, Nodes, none, node}
use Rattle.st_emit.specs.Nodes as nodes
use Rattle.st_meaning.specs.declared.deed.Value.{Value}
use Rattle.st_meaning.specs.inside.Values.{constant_value, literal_value, small_value, variable_of}
use Rattle.st_meaning.specs.inside.Runs.{Run, went, unfinished, gives, ◌>>=◌, assign_to, answer_to, make_block, return_value, jump_back, decide, in_order}

abbrev pub nil : Value
nil = constant_value Nil

module _ (most : ℕ) where
  -- ifTrue: and ifFalse: give nil where their block isn't done, and: gives false, or: gives true
  abbrev pub sided : OneSided → Value → (a : Run Value) → Run Value
  sided IfTrue v a = decide most v a (gives nil)
  sided IfFalse v a = decide most v (gives nil) a
  sided And v a = decide most v a (gives (constant_value False))
  sided Or v a = decide most v (gives (constant_value True)) a

  abbrev pub chosen : TwoSided → Value → (a b : Run Value) → Run Value
  chosen TrueFirst v a b = decide most v a b
  chosen FalseFirst v a b = decide most v b a

  abbrev pub goes_on : Loop → Value → (again leave : Run Value) → Run Value
  goes_on WhileTrue v again leave = decide most v again leave
  goes_on WhileFalse v again leave = decide most v leave again

  -- a loop, of at most n turns
  abbrev pub turns : ℕ → Loop → (x a : Run Value) → Run Value
  turns zero kind x a = λ g. unfinished
  turns (suc n) kind x a =
      x >>= λ v. goes_on kind v (a >>= λ w. jump_back most (turns n kind x a)) (gives nil)

  -- the value of a node, where each loop makes at most n turns
  abbrev mutual
    pub value_of : Node → ℕ → Run Value
    value_of (nodes.constant k) n = gives (constant_value k)
    value_of (nodes.small k) n = gives (small_value k)
    value_of (nodes.literal x place) n = gives (literal_value x place)
    value_of (nodes.variable p) n = λ g. went (g.held (variable_of p)) g
    value_of (nodes.assign p x) n = value_of x n >>= λ v. assign_to most (variable_of p) v
    value_of (nodes.block first arguments c body) n = make_block most
    value_of (nodes.send above r ms) n = value_of r n >>= λ v. messages_value ms above v n
    value_of (nodes.one_sided side x a) n = value_of x n >>= λ v. sided side v (body_value a n)
    value_of (nodes.two_sided side x a b) n = value_of x n >>= λ v. chosen side v (body_value a n) (body_value b n)
    value_of (nodes.loop kind x a) n = turns n kind (body_value x n) (body_value a n)

    pub body_value : Body → ℕ → Run Value
    body_value nothing n = gives nil
    body_value (last x) n = value_of x n
    body_value (next x b) n = value_of x n >>= λ v. body_value b n
    body_value (returned x) n = value_of x n >>= λ v. return_value most v

    -- the answer of the last one of messages to a receiver
    pub messages_value : Messages → (above : Bool) → Value → ℕ → Run Value
    messages_value (only s ns) above r n = nodes_values ns [] n >>= λ vs. answer_to most r s.selector (in_order vs) above
    messages_value (also s ns ms) above r n =
        (nodes_values ns [] n >>= λ vs. answer_to most r s.selector (in_order vs) above) >>= λ v. messages_value ms above r n

    -- the values of nodes, the last one first, before others
    pub nodes_values : Nodes → List Value → ℕ → Run (List Value)
    nodes_values none vs n = gives vs
    nodes_values (node x xs) vs n = value_of x n >>= λ v. nodes_values xs (v ∷ vs) n

  -- the statements of a method
  abbrev pub method_value : Body → ℕ → Run Value
  method_value nothing n = return_value most (constant_value Receiver)
  method_value (last x) n = value_of x n >>= λ v. return_value most (constant_value Receiver)
  method_value (next x b) n = value_of x n >>= λ v. method_value b n
  method_value (returned x) n = value_of x n >>= λ v. return_value most v
