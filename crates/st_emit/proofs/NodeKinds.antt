-- Which nodes a tree has: only assignments are assigned, and only names are constants.
use Rattle.std.proofs.Common.{◌≡◌, ℕ, Bool, true, false, not, ◌&&◌, List, [], ◌∷◌, ◌++◌, Option, Some, None, refl}
use Rattle.std.specs.Prelude.{if◌then◌else◌}
use Rattle.st_scan.specs.declared.token.Signed.{Signed}
use Rattle.st_scan.specs.Views.{ContentView, ExpressionView, is_super}
use Rattle.st_scan.specs.Views as views
use Rattle.st_scan.specs.inside.Chains.{LinkView, assigned, sent}
use Rattle.st_emit.specs.declared.instruction.Constant.{Constant}
use Rattle.st_emit.specs.declared.instruction.Constant.TheVariants.{Receiver, True, False, Nil, Context}
use Rattle.st_emit.specs.declared.instruction.Instruction.TheVariants.{Pop, ReturnTop, ReturnConstant}
use Rattle.st_emit.specs.declared.form.TwoSided.TheVariants.{TrueFirst, FalseFirst}
use Rattle.st_emit.specs.declared.form.Form.{Form}
use Rattle.st_emit.specs.declared.form.Form.TheVariants.{Message as Plain, One, Two, Repeated}
use Rattle.st_emit.specs.declared.level.Level.{Level}
use Rattle.st_emit.specs.Names.{constant_named}
use Rattle.st_emit.specs.Literals.{LiteralView, small_number, Naming, Named}
use Rattle.st_emit.specs.Nodes.{Node, Tail, with_tail}
use Rattle.st_emit.specs.Nodes as nodes
use Rattle.st_emit.specs.Resolving.{Context as Surroundings, behind, names_in, place_of_name, constant_or, small_or, content_node, Message, plain_tail, form_named, formed, single_tail, sends_tail, messages_of, is_plain, expression_node}
use Rattle.st_emit.specs.Emitting.{for_value, for_effect, code_of, return_code}
use Rattle.st_emit.specs.Depths.{level_of, popped, ended, return_level}
use Rattle.st_emit.specs.inside.Shapes.{IsNoAssignment, returned_constant, but_context}
use Rattle.st_emit.specs.inside.Around.{link_tail}
use Rattle.st_emit.specs.inside.Tails.{IsAssigned, IsSent}

-- TAILS

-- an assignment is assigned, and messages are sent
abbrev pub IsTailOf : LinkView → Tail → Type 0
IsTailOf (assigned target) t = IsAssigned t
IsTailOf (sent ms) t = IsSent t

-- what is sent, or a loop
abbrev IsNotAssigned : Tail → Type 0
IsNotAssigned (nodes.assigned p) = ⊥
IsNotAssigned _ = Unit {0}

formed_sent : (form : Form) (ms : List (Naming Node)) (otherwise : Naming Tail) (ls : List LiteralView) → IsSent (otherwise ls).part → IsSent (formed form false ms otherwise ls).part
formed_sent Plain ms otherwise ls h = h
formed_sent (One side) [] otherwise ls h = h
formed_sent (One side) (a ∷ []) otherwise ls h = tt
formed_sent (One side) (a ∷ b ∷ ms) otherwise ls h = h
formed_sent (Two TrueFirst) [] otherwise ls h = h
formed_sent (Two TrueFirst) (a ∷ []) otherwise ls h = h
formed_sent (Two TrueFirst) (a ∷ b ∷ []) otherwise ls h = tt
formed_sent (Two TrueFirst) (a ∷ b ∷ c ∷ ms) otherwise ls h = h
formed_sent (Two FalseFirst) [] otherwise ls h = h
formed_sent (Two FalseFirst) (a ∷ []) otherwise ls h = h
formed_sent (Two FalseFirst) (a ∷ b ∷ []) otherwise ls h = tt
formed_sent (Two FalseFirst) (a ∷ b ∷ c ∷ ms) otherwise ls h = h
formed_sent (Repeated kind) ms otherwise ls h = h

formed_other : (form : Form) (is_block : Bool) (ms : List (Naming Node)) (otherwise : Naming Tail) (ls : List LiteralView) → IsNotAssigned (otherwise ls).part → IsNotAssigned (formed form is_block ms otherwise ls).part
formed_other Plain is_block ms otherwise ls h = h
formed_other (One side) is_block [] otherwise ls h = h
formed_other (One side) is_block (a ∷ []) otherwise ls h = tt
formed_other (One side) is_block (a ∷ b ∷ ms) otherwise ls h = h
formed_other (Two TrueFirst) is_block [] otherwise ls h = h
formed_other (Two TrueFirst) is_block (a ∷ []) otherwise ls h = h
formed_other (Two TrueFirst) is_block (a ∷ b ∷ []) otherwise ls h = tt
formed_other (Two TrueFirst) is_block (a ∷ b ∷ c ∷ ms) otherwise ls h = h
formed_other (Two FalseFirst) is_block [] otherwise ls h = h
formed_other (Two FalseFirst) is_block (a ∷ []) otherwise ls h = h
formed_other (Two FalseFirst) is_block (a ∷ b ∷ []) otherwise ls h = tt
formed_other (Two FalseFirst) is_block (a ∷ b ∷ c ∷ ms) otherwise ls h = h
formed_other (Repeated kind) false ms otherwise ls h = h
formed_other (Repeated kind) true [] otherwise ls h = h
formed_other (Repeated kind) true (a ∷ []) otherwise ls h = tt
formed_other (Repeated kind) true (a ∷ b ∷ ms) otherwise ls h = h

single_sent : (above : Bool) (m : Message) (ls : List LiteralView) → IsSent (single_tail above false m ls).part
single_sent above m ls = by_test (not above && m.all_blocks)
  where
    by_test : (b : Bool) → IsSent ((if b then formed (form_named m.selector) false m.arguments (plain_tail above m []) else plain_tail above m []) ls).part
    by_test true = formed_sent (form_named m.selector) m.arguments (plain_tail above m []) ls tt
    by_test false = tt

single_other : (above is_block : Bool) (m : Message) (ls : List LiteralView) → IsNotAssigned (single_tail above is_block m ls).part
single_other above is_block m ls = by_test (not above && m.all_blocks)
  where
    by_test : (b : Bool) → IsNotAssigned ((if b then formed (form_named m.selector) is_block m.arguments (plain_tail above m []) else plain_tail above m []) ls).part
    by_test true = formed_other (form_named m.selector) is_block m.arguments (plain_tail above m []) ls tt
    by_test false = tt

sends_sent : (above : Bool) (ms : List Message) (ls : List LiteralView) → IsSent (sends_tail above false ms ls).part
sends_sent above [] ls = tt
sends_sent above (m ∷ []) ls = single_sent above m ls
sends_sent above (m ∷ o ∷ ms) ls = tt

sends_other : (above is_block : Bool) (ms : List Message) (ls : List LiteralView) → IsNotAssigned (sends_tail above is_block ms ls).part
sends_other above is_block [] ls = tt
sends_other above is_block (m ∷ []) ls = single_other above is_block m ls
sends_other above is_block (m ∷ o ∷ ms) ls = tt

-- what a link does stands behind what it is done to
pub tail_kind : (above : Bool) (l : LinkView) (c : Surroundings) (ls : List LiteralView) → IsTailOf l (link_tail above l c ls).part
tail_kind above (assigned target) c ls = tt
tail_kind above (sent ms) c ls = sends_sent above (messages_of ms c) ls

-- NODES

abbrev IsOther : Node → Type 0
IsOther (nodes.assign p n) = ⊥
IsOther _ = Unit {0}

abbrev IsNoConstant : Node → Type 0
IsNoConstant (nodes.constant k) = ⊥
IsNoConstant _ = Unit {0}

tail_other : (n : Node) (t : Tail) → IsNotAssigned t → IsOther (with_tail n t)
tail_other n (nodes.assigned p) h = h
tail_other n (nodes.sent above ms) h = tt
tail_other n (nodes.sided side a) h = tt
tail_other n (nodes.chosen side a b) h = tt
tail_other n (nodes.looped kind a) h = tt

tail_no_constant : (n : Node) (t : Tail) → IsNoConstant (with_tail n t)
tail_no_constant n (nodes.assigned p) = tt
tail_no_constant n (nodes.sent above ms) = tt
tail_no_constant n (nodes.sided side a) = tt
tail_no_constant n (nodes.chosen side a b) = tt
tail_no_constant n (nodes.looped kind a) = tt

small_other : (k : Option ℕ) (n : Signed) (ls : List LiteralView) → IsOther (small_or k n ls).part
small_other None n ls = tt
small_other (Some k) n ls = tt

small_no_constant : (k : Option ℕ) (n : Signed) (ls : List LiteralView) → IsNoConstant (small_or k n ls).part
small_no_constant None n ls = tt
small_no_constant (Some k) n ls = tt

content_other : (w : ContentView) (ls : List LiteralView) → IsOther (content_node w ls).part
content_other (views.number n) ls = small_other (small_number n) n ls
content_other w ls = tt

content_no_constant : (w : ContentView) (ls : List LiteralView) → IsNoConstant (content_node w ls).part
content_no_constant (views.number n) ls = small_no_constant (small_number n) n ls
content_no_constant w ls = tt

-- only an assignment is one
node_other : (e : ExpressionView) (c : Surroundings) (ls : List LiteralView) → IsNoAssignment e → IsOther (expression_node e c ls).part
node_other (views.variable n) c ls h = by_name (constant_named n.text)
  where
    by_name : (k : Option Constant) → IsOther (constant_or k (place_of_name c n) ls).part
    by_name None = tt
    by_name (Some k) = tt
node_other (views.literal e) c ls h = content_other e.what ls
node_other (views.block ns body) c ls h = tt
node_other (views.assign target e) c ls h = absurd h
node_other (views.send r ms) c ls h =
    let n = expression_node r c ls in
    tail_other n.part _ (sends_other (is_super r) (is_plain r) (messages_of ms (behind c (names_in r))) n.literals)

-- an effect of what is no assignment is its value, popped
other_code : (n : Node) → IsOther n → code_of for_effect n ≡ code_of for_value n ++ Pop ∷ []
other_code (nodes.assign p n) h = absurd h
other_code n h = refl

other_level : (n : Node) (v : Level) → IsOther n → level_of for_effect n v ≡ popped 1 (level_of for_value n v)
other_level (nodes.constant k) v h = refl
other_level (nodes.small k) v h = refl
other_level (nodes.literal x p) v h = refl
other_level (nodes.variable p) v h = refl
other_level (nodes.assign p n) v h = absurd h
other_level (nodes.block f a x b) v h = refl
other_level (nodes.send above r ms) v h = refl
other_level (nodes.one_sided side x a) v h = refl
other_level (nodes.two_sided TrueFirst x a b) v h = refl
other_level (nodes.two_sided FalseFirst x a b) v h = refl
other_level (nodes.loop kind x a) v h = refl

pub effect_code : (e : ExpressionView) (c : Surroundings) (ls : List LiteralView) → IsNoAssignment e → code_of for_effect (expression_node e c ls).part ≡ code_of for_value (expression_node e c ls).part ++ Pop ∷ []
effect_code e c ls h = other_code (expression_node e c ls).part (node_other e c ls h)

pub effect_level : (e : ExpressionView) (c : Surroundings) (ls : List LiteralView) (v : Level) → IsNoAssignment e → level_of for_effect (expression_node e c ls).part v ≡ popped 1 (level_of for_value (expression_node e c ls).part v)
effect_level e c ls v h = other_level (expression_node e c ls).part v (node_other e c ls h)

-- RETURNS

-- the value is returned from the stack
pub record IsReturned (n : Node) : Type 0 where
  pub code : return_code n (code_of for_value n) ≡ code_of for_value n ++ ReturnTop ∷ []
  pub level : (l : Level) → return_level n l (level_of for_value n l) ≡ ended (level_of for_value n l)

no_constant_returned : (n : Node) → IsNoConstant n → IsReturned n
no_constant_returned (nodes.constant k) h = absurd h
no_constant_returned n h = record { code = refl; level = λ l. refl }

pub value_returned : (e : ExpressionView) (c : Surroundings) (ls : List LiteralView) → returned_constant e ≡ None → IsReturned (expression_node e c ls).part
value_returned (views.variable n) c ls h = by_name (constant_named n.text) h
  where
    by_name : (k : Option Constant) → but_context k ≡ None → IsReturned (constant_or k (place_of_name c n) ls).part
    by_name None h = record { code = refl; level = λ l. refl }
    by_name (Some Context) h = record { code = refl; level = λ l. refl }
    by_name (Some Receiver) h = absurd cc
    by_name (Some True) h = absurd cc
    by_name (Some False) h = absurd cc
    by_name (Some Nil) h = absurd cc
value_returned (views.literal e) c ls h = no_constant_returned _ (content_no_constant e.what ls)
value_returned (views.block ns body) c ls h = no_constant_returned _ tt
value_returned (views.assign target e) c ls h = no_constant_returned _ tt
value_returned (views.send r ms) c ls h =
    let n = expression_node r c ls in
    no_constant_returned _ (tail_no_constant n.part (sends_tail (is_super r) (is_plain r) (messages_of ms (behind c (names_in r))) n.literals).part)

-- the constant is returned by a code of its own, and names nothing
pub record IsConstant (n : Named Node) (k : Constant) (ls : List LiteralView) : Type 0 where
  pub code : return_code n.part (code_of for_value n.part) ≡ ReturnConstant k ∷ []
  pub level : (l : Level) → return_level n.part l (level_of for_value n.part l) ≡ ended l
  pub literals : n.literals ≡ ls

pub constant_returned : (e : ExpressionView) (c : Surroundings) (ls : List LiteralView) (k : Constant) → returned_constant e ≡ Some k → IsConstant (expression_node e c ls) k ls × (names_in e ≡ 0)
constant_returned (views.variable n) c ls k h = (by_name (constant_named n.text) h, refl)
  where
    by_name : (j : Option Constant) → but_context j ≡ Some k → IsConstant (constant_or j (place_of_name c n) ls) k ls
    by_name None h = absurd cc
    by_name (Some Context) h = absurd cc
    by_name (Some Receiver) h = record { code = cc; level = λ l. refl; literals = refl }
    by_name (Some True) h = record { code = cc; level = λ l. refl; literals = refl }
    by_name (Some False) h = record { code = cc; level = λ l. refl; literals = refl }
    by_name (Some Nil) h = record { code = cc; level = λ l. refl; literals = refl }
constant_returned (views.literal e) c ls k h = absurd cc
constant_returned (views.block ns body) c ls k h = absurd cc
constant_returned (views.assign target e) c ls k h = absurd cc
constant_returned (views.send r ms) c ls k h = absurd cc
