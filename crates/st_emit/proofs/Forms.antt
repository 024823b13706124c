-- Messages, statements and forms, from what was added for their parts.
use Rattle.std.proofs.Common.{◌≡◌, ℕ, ◌+◌, ◌<◌, Bool, true, false, List, [], ◌∷◌, ◌++◌, length, drop, refl, sym, ap, ◌∙◌, append_assoc, append-nil, arith}
use Rattle.std.specs.Prelude.{slice_set}
use Rattle.std.proofs.lemmas.List.{length-map, drop_at}
use Rattle.st_scan.specs.declared.tree.Name.{Name}
use Rattle.st_scan.specs.declared.tree.Expression.{Expression}
use Rattle.st_scan.specs.declared.tree.Message.{Message}
use Rattle.st_scan.specs.declared.tree.Statement.{Statement}
use Rattle.st_scan.specs.Views.{NameView, names_view, ExpressionView, StatementsView, MessagesView, ExpressionsView, expression_view, expressions_view, messages_view, statements_view, message, statement, block}
use Rattle.st_scan.specs.Views as views
use Rattle.st_emit.specs.declared.instruction.Constant.TheVariants.{Nil, Context as ActiveContext}
use Rattle.st_emit.specs.declared.instruction.Instruction.{Instruction}
use Rattle.st_emit.specs.declared.instruction.Instruction.TheVariants.{PushConstant, Pop, Duplicate, SendSpecial, Jump, JumpBack, JumpIf, JumpPast}
use Rattle.st_emit.specs.declared.level.Level.{Level}
use Rattle.st_emit.specs.declared.draft.Draft.{Draft}
use Rattle.st_emit.specs.Names.{Scope, declared}
use Rattle.st_emit.specs.Literals.{LiteralView}
use Rattle.st_emit.specs.inside.Views.{literals_view}
use Rattle.st_emit.specs.Nodes.{Node, Body, Nodes, count, returns}
use Rattle.st_emit.specs.Nodes as nodes
use Rattle.st_emit.specs.Steps.{size, size_of}
use Rattle.st_emit.specs.Emitting.{for_effect, code_of, body_code, nodes_code, send_step, choice, repeat, block_end, pop_arguments}
use Rattle.st_emit.specs.Depths.{level_of, body_level, nodes_level, pushed, popped, beside, joined, around, within}
use Rattle.st_emit.specs.Resolving.{Context, behind, inside, names_in, names_in_all, expression_node, statements_body, all_nodes, nodes_of, sending, before}
use Rattle.st_emit.specs.inside.Shapes.{returning}
use Rattle.st_emit.specs.inside.Drafts.{Part, Adds, step_part}
use Rattle.st_emit.specs.inside.Around.{values_part, send_part, message_part, cascade_part, effect_part, body_part, value_part, number_part, choice_level, block_body_part, arguments_part}
use Rattle.st_emit.proofs.Adding.{then_part, IsSamePart, adds_then, set_behind, drop_behind, size-append}

-- MESSAGES

-- as many nodes as expressions
count_nodes : (es : List Expression) (c : Context) (ls : List LiteralView) → count (all_nodes (nodes_of (expressions_view es) c) ls).part ≡ length es
count_nodes [] c ls = refl
count_nodes (e ∷ es) c ls =
    let r = count_nodes es (behind c (names_in (expression_view e))) (expression_node (expression_view e) c ls).literals in
    omega (arith, r)

-- the arguments, then the send
pub message_same : (above : Bool) (c : Context) (selector : List ℕ) (es : List Expression) (n : ℕ) (ls : List LiteralView) → n ≡ length es
    → IsSamePart (then_part (values_part c (expressions_view es)) (send_part above selector n) ls) (message_part above c selector (expressions_view es) ls)
message_same above c selector es n ls h =
    let ns = all_nodes (nodes_of (expressions_view es) c) ls in
    let k = h ∙ sym (count_nodes es c ls) in
    record {
      steps = ap (λ (i : ℕ). nodes_code ns.part ++ send_step above (sending above selector ns.literals).part.by i ∷ []) k;
      literals = refl;
      level = λ l. ap (λ (i : ℕ). popped i (nodes_level ns.part l)) k;
    }

-- one message before others of a cascade
abbrev pub message_before : (above : Bool) → Context → List ℕ → ExpressionsView → List LiteralView → Part
message_before above c selector es = then_part (then_part (step_part Duplicate pushed) (message_part above c selector es)) (step_part Pop (popped 1))

pub cascade_turn : (above : Bool) (c : Context) (selector : List ℕ) (es : ExpressionsView) (others : List Message) (ls : List LiteralView) → 0 < length others
    → IsSamePart (then_part (message_before above c selector es) (cascade_part above (behind c (names_in_all es)) (messages_view others)) ls) (cascade_part above c (message selector es (messages_view others)) ls)
cascade_turn above c selector es [] ls h = absurd (omega arith)
cascade_turn above c selector es (o ∷ os) ls h = record { steps = simp append_assoc; literals = refl; level = λ l. refl }

-- STATEMENTS

abbrev IsSome : Body → Type 0
IsSome nodes.nothing = ⊥
IsSome _ = Unit {0}

before_code : (n : Node) (b : Body) → IsSome b → body_code (before n b) ≡ code_of for_effect n ++ body_code b
before_code n nodes.nothing h = absurd h
before_code n (nodes.last m) h = refl
before_code n (nodes.next m b) h = refl
before_code n (nodes.returned m) h = refl

before_level : (n : Node) (b : Body) (v : Level) → IsSome b → body_level (before n b) v ≡ body_level b (level_of for_effect n v)
before_level n nodes.nothing v h = absurd h
before_level n (nodes.last m) v h = refl
before_level n (nodes.next m b) v h = refl
before_level n (nodes.returned m) v h = refl

before_some : (n : Node) (b : Body) → IsSome (before n b)
before_some n nodes.nothing = tt
before_some n (nodes.last m) = tt
before_some n (nodes.next m b) = tt
before_some n (nodes.returned m) = tt

statements_some : (ss : List Statement) (c : Context) (ls : List LiteralView) → 0 < length ss → IsSome (statements_body (statements_view ss) c ls).part
statements_some [] c ls h = absurd (omega arith)
statements_some (s ∷ ss) c ls h = by_return s.returns
  where
    by_return : (r : Bool) → IsSome (statements_body (views.statement r (expression_view s.value) (statements_view ss)) c ls).part
    by_return true = tt
    by_return false =
        let n = expression_node (expression_view s.value) c ls in
        before_some n.part (statements_body (statements_view ss) (behind c (names_in (expression_view s.value))) n.literals).part

-- a statement before others
pub body_turn : (e : ExpressionView) (others : List Statement) (c : Context) (ls : List LiteralView) → 0 < length others
    → IsSamePart (then_part (effect_part c e) (body_part (behind c (names_in e)) (statements_view others)) ls) (body_part c (statement false e (statements_view others)) ls)
body_turn e others c ls h =
    let n = expression_node e c ls in
    let b = statements_body (statements_view others) (behind c (names_in e)) n.literals in
    let some = statements_some others (behind c (names_in e)) n.literals h in
    record { steps = sym (before_code n.part b.part some); literals = refl; level = λ l. sym (before_level n.part b.part l some) }

-- CHOICES

choice_steps : (on : Bool) (base d2 d4 a b : List Instruction) (x o : Instruction) (test over inside n passed : ℕ)
    → test ≡ length base → d2 ≡ (base ++ x ∷ []) ++ a → over ≡ length d2 → d4 ≡ (d2 ++ o ∷ []) ++ b
    → inside ≡ size (drop (test + 1) d2) → n ≡ size (drop (over + 1) d4) → passed ≡ inside + size_of (Jump n)
    → slice_set (slice_set d4 over (Jump n)) test (JumpIf on passed) ≡ base ++ choice on [] a b
choice_steps on base d2 d4 a b x o test over inside n passed t e2 v e4 i m p =
    let first : inside ≡ size a = i ∙ ap (λ (l : List Instruction). size (drop (test + 1) l)) e2 ∙ ap size (drop_behind base a x test t) in
    let second : n ≡ size b = m ∙ ap (λ (l : List Instruction). size (drop (over + 1) l)) e4 ∙ ap size (drop_behind d2 b o over v) in
    let whole : passed ≡ size a + size_of (Jump (size b)) = p ∙ ap (λ (k : ℕ). k + size_of (Jump n)) first ∙ ap (λ (k : ℕ). size a + size_of (Jump k)) second in
    let inner : slice_set d4 over (Jump n) ≡ (base ++ x ∷ []) ++ (a ++ Jump (size b) ∷ b) =
    ap (λ (l : List Instruction). slice_set l over (Jump n)) e4 ∙ set_behind d2 b o (Jump n) over v ∙ ap (λ (l : List Instruction). l ++ Jump n ∷ b) e2
    ∙ append_assoc (base ++ x ∷ []) a (Jump n ∷ b) ∙ ap (λ (k : ℕ). (base ++ x ∷ []) ++ (a ++ Jump k ∷ b)) second in
    ap (λ (l : List Instruction). slice_set l test (JumpIf on passed)) inner ∙ set_behind base (a ++ Jump (size b) ∷ b) x (JumpIf on passed) test t
    ∙ ap (λ (k : ℕ). base ++ JumpIf on k ∷ (a ++ Jump (size b) ∷ b)) whole

-- two sides, from the drafts on the way
pub choice_done : (on : Bool) (p q : List LiteralView → Part) (d0 d1 d2 d3 d3' d4 : Draft) (test over inside n passed : ℕ)
    → Adds (step_part (JumpIf on 0) (popped 1)) d0 d1 → Adds p d1 d2 → Adds (step_part (Jump 0) (λ l. l)) d2 d3
    → d3'.steps.items ≡ d3.steps.items → literals_view d3'.literals.items ≡ literals_view d3.literals.items → d3'.level ≡ beside d1.level d3.level
    → Adds q d3' d4 → test ≡ length d0.steps.items → over ≡ length d2.steps.items
    → inside ≡ size (drop (test + 1) d2.steps.items) → n ≡ size (drop (over + 1) d4.steps.items) → passed ≡ inside + size_of (Jump n)
    → let a = p (literals_view d0.literals.items) in let b = q a.literals in
    (slice_set (slice_set d4.steps.items over (Jump n)) test (JumpIf on passed) ≡ d0.steps.items ++ choice on [] a.steps b.steps)
    × (literals_view d4.literals.items ≡ b.literals)
    × (joined d3.level d4.level ≡ choice_level a.level b.level (popped 1 d0.level))
choice_done on p q d0 d1 d2 d3 d3' d4 test over inside n passed a1 a2 a3 s l v a4 t o i m w =
    let ls = literals_view d0.literals.items in
    let a = p ls in
    let b = q a.literals in
    let pa : p (literals_view d1.literals.items) ≡ a = ap p a1.literals in
    let lits : literals_view d3'.literals.items ≡ a.literals = l ∙ a3.literals ∙ a2.literals ∙ ap (λ (x : Part). x.literals) pa in
    let qb : q (literals_view d3'.literals.items) ≡ b = ap q lits in
    let e2 : d2.steps.items ≡ (d0.steps.items ++ JumpIf on 0 ∷ []) ++ a.steps = a2.steps ∙ ap (λ (x : Part). d1.steps.items ++ x.steps) pa ∙ ap (λ (x : List Instruction). x ++ a.steps) a1.steps in
    let e4 : d4.steps.items ≡ (d2.steps.items ++ Jump 0 ∷ []) ++ b.steps = a4.steps ∙ ap (λ (x : Part). d3'.steps.items ++ x.steps) qb ∙ ap (λ (x : List Instruction). x ++ b.steps) (s ∙ a3.steps) in
    let first : d3.level ≡ a.level (popped 1 d0.level) = a3.level ∙ a2.level ∙ ap (λ (x : Part). x.level d1.level) pa ∙ ap a.level a1.level in
    let start : d3'.level ≡ beside (popped 1 d0.level) (a.level (popped 1 d0.level)) = v ∙ ap (λ (x : Level). beside x d3.level) a1.level ∙ ap (beside (popped 1 d0.level)) first in
    let second : d4.level ≡ b.level (beside (popped 1 d0.level) (a.level (popped 1 d0.level))) = a4.level ∙ ap (λ (x : Part). x.level d3'.level) qb ∙ ap b.level start in (
      choice_steps on d0.steps.items d2.steps.items d4.steps.items a.steps b.steps (JumpIf on 0) (Jump 0) test over inside n passed t e2 o e4 i m w,
      a4.literals ∙ ap (λ (x : Part). x.literals) qb,
      ap (λ (x : Level). joined x d4.level) first ∙ ap (joined (a.level (popped 1 d0.level))) second,
    )

-- LOOPS

loop_steps : (on : Bool) (base d1 d3 d5 d6 d7 x a : List Instruction) (begin test inside n passed : ℕ)
    → begin ≡ length base → d1 ≡ base ++ x → test ≡ length d1 → d3 ≡ (d1 ++ JumpIf on 0 ∷ []) ++ a → inside ≡ size (drop (test + 1) d3) → n ≡ inside + 3
    → d5 ≡ slice_set (d3 ++ Pop ∷ []) test (JumpIf on n) → passed ≡ size (drop begin d5) + 2 → d6 ≡ d5 ++ JumpBack passed ∷ [] → d7 ≡ d6 ++ PushConstant Nil ∷ []
    → d7 ≡ base ++ repeat on x a
loop_steps on base d1 d3 d5 d6 d7 x a begin test inside n passed b e1 t e3 i m e5 p e6 e7 =
    let leave = JumpIf on (size a + 3) in
    let long : n ≡ size a + 3 = m ∙ ap (λ (k : ℕ). k + 3) (i ∙ ap (λ (l : List Instruction). size (drop (test + 1) l)) e3 ∙ ap size (drop_behind d1 a (JumpIf on 0) test t)) in
    let set : d5 ≡ d1 ++ leave ∷ (a ++ Pop ∷ []) =
    e5 ∙ ap (λ (l : List Instruction). slice_set (l ++ Pop ∷ []) test (JumpIf on n)) e3
    ∙ ap (λ (l : List Instruction). slice_set l test (JumpIf on n)) (append_assoc (d1 ++ JumpIf on 0 ∷ []) a (Pop ∷ []))
    ∙ set_behind d1 (a ++ Pop ∷ []) (JumpIf on 0) (JumpIf on n) test t
    ∙ ap (λ (k : ℕ). d1 ++ JumpIf on k ∷ (a ++ Pop ∷ [])) long in
    let whole : d5 ≡ base ++ (x ++ leave ∷ (a ++ Pop ∷ [])) = set ∙ ap (λ (l : List Instruction). l ++ leave ∷ (a ++ Pop ∷ [])) e1 ∙ append_assoc base x (leave ∷ (a ++ Pop ∷ [])) in
    let dropped : drop begin d5 ≡ x ++ leave ∷ (a ++ Pop ∷ []) = ap (drop begin) whole ∙ drop_at base (x ++ leave ∷ (a ++ Pop ∷ [])) begin (sym b) in
    let back : passed ≡ size x + size_of leave + size a + 3 = omega (arith, p, ap size dropped, size-append x (leave ∷ (a ++ Pop ∷ [])), size-append a (Pop ∷ [])) in
    e7 ∙ ap (λ (l : List Instruction). l ++ PushConstant Nil ∷ []) (e6 ∙ ap (λ (l : List Instruction). l ++ JumpBack passed ∷ []) whole)
    ∙ ap (λ (k : ℕ). ((base ++ (x ++ leave ∷ (a ++ Pop ∷ []))) ++ JumpBack k ∷ []) ++ PushConstant Nil ∷ []) back
    ∙ simp append_assoc

pub loop_done : (on : Bool) (p q : List LiteralView → Part) (d0 d1 d2 d3 d4 d5 d6 d6' d7 : Draft) (begin test inside n passed : ℕ)
    → begin ≡ length d0.steps.items → Adds p d0 d1 → test ≡ length d1.steps.items → Adds (step_part (JumpIf on 0) (popped 1)) d1 d2 → Adds q d2 d3
    → inside ≡ size (drop (test + 1) d3.steps.items) → Adds (step_part Pop (λ l. l)) d3 d4 → n ≡ inside + 3
    → d5.steps.items ≡ slice_set d4.steps.items test (JumpIf on n) → literals_view d5.literals.items ≡ literals_view d4.literals.items → d5.level ≡ d4.level
    → passed ≡ size (drop begin d5.steps.items) + 2 → Adds (step_part (JumpBack passed) (λ l. l)) d5 d6
    → d6'.steps.items ≡ d6.steps.items → literals_view d6'.literals.items ≡ literals_view d6.literals.items → d6'.level ≡ beside d2.level d6.level
    → Adds (step_part (PushConstant Nil) pushed) d6' d7
    → let x = p (literals_view d0.literals.items) in let a = q x.literals in
    (d7.steps.items ≡ d0.steps.items ++ repeat on x.steps a.steps)
    × (literals_view d7.literals.items ≡ a.literals)
    × (d7.level ≡ pushed (beside (popped 1 (x.level d0.level)) (a.level (popped 1 (x.level d0.level)))))
loop_done on p q d0 d1 d2 d3 d4 d5 d6 d6' d7 begin test inside n passed b a1 t a2 a3 i a4 m s5 l5 v5 w a6 s6 l6 v6 a7 =
    let x = p (literals_view d0.literals.items) in
    let a = q x.literals in
    let qa : q (literals_view d2.literals.items) ≡ a = ap q (a2.literals ∙ a1.literals) in
    let e3 : d3.steps.items ≡ (d1.steps.items ++ JumpIf on 0 ∷ []) ++ a.steps = a3.steps ∙ ap (λ (y : Part). d2.steps.items ++ y.steps) qa ∙ ap (λ (y : List Instruction). y ++ a.steps) a2.steps in
    let start : d2.level ≡ popped 1 (x.level d0.level) = a2.level ∙ ap (popped 1) a1.level in
    let end : d6.level ≡ a.level (popped 1 (x.level d0.level)) = a6.level ∙ v5 ∙ a4.level ∙ a3.level ∙ ap (λ (y : Part). y.level d2.level) qa ∙ ap a.level start in (
      loop_steps on d0.steps.items d1.steps.items d3.steps.items d5.steps.items d6.steps.items d7.steps.items x.steps a.steps begin test inside n passed b a1.steps t e3 i m
          (s5 ∙ ap (λ (y : List Instruction). slice_set y test (JumpIf on n)) a4.steps) w a6.steps (a7.steps ∙ ap (λ (y : List Instruction). y ++ PushConstant Nil ∷ []) s6),
      a7.literals ∙ l6 ∙ a6.literals ∙ l5 ∙ a4.literals ∙ a3.literals ∙ ap (λ (y : Part). y.literals) qa,
      a7.level ∙ ap pushed (v6 ∙ ap (λ (y : Level). beside y d6.level) start ∙ ap (beside (popped 1 (x.level d0.level))) end),
    )

-- a loop that ends on a boolean
abbrev pub loop_with : (on : Bool) → (p q : List LiteralView → Part) → List LiteralView → Part
loop_with on p q ls =
    let x = p ls in
    let a = q x.literals in
    record { steps = repeat on x.steps a.steps; literals = a.literals; level = λ l. let start = popped 1 (x.level l) in pushed (beside start (a.level start)) }

-- BLOCKS

-- the surroundings within a block
pub inside_is : (c : Context) (ns : List NameView) (scope : Scope) (n next : ℕ) → scope ≡ declared false c.next ns c.scope → n ≡ length ns → next ≡ c.next + n → record { names = c.names; scope = scope; next = next } ≡ inside c ns
inside_is c [] scope n next s h k =
    let same : scope ≡ c.scope = s ∙ append-nil c.scope in
    let zero_more : next ≡ c.next = omega (arith, h, k) in
    λ i. record { names = c.names; scope = same i; next = zero_more i }
inside_is c (x ∷ xs) scope n next s h k =
    let more : next ≡ c.next + length (x ∷ xs) = k ∙ ap (λ (m : ℕ). c.next + m) h in
    λ i. record { names = c.names; scope = s i; next = more i }

before_returns : (n : Node) (b : Body) → returns (before n b) ≡ returns b
before_returns n nodes.nothing = refl
before_returns n (nodes.last m) = refl
before_returns n (nodes.next m b) = refl
before_returns n (nodes.returned m) = refl

pub returns_body : (ss : StatementsView) (c : Context) (ls : List LiteralView) → returns (statements_body ss c ls).part ≡ returning ss
returns_body views.no_statements c ls = refl
returns_body (views.statement true e ss) c ls = refl
returns_body (views.statement false e ss) c ls =
    let n = expression_node e c ls in
    before_returns n.part (statements_body ss (behind c (names_in e)) n.literals).part ∙ returns_body ss (behind c (names_in e)) n.literals

-- the arguments and the statements of a block, and its end
pub block_body_same : (c : Context) (ns : List NameView) (ss : StatementsView) (n : ℕ) (returned : Bool) (outside start : Level) (ls : List LiteralView)
    → n ≡ length ns → returned ≡ returning ss → start ≡ within n outside
    → let p = then_part (then_part (arguments_part c.next n) (body_part (inside c ns) ss)) (λ ls. record { steps = block_end returned; literals = ls; level = λ l. l }) in
    ((p ls).steps ≡ (block_body_part c ns ss ls).steps) × ((p ls).literals ≡ (block_body_part c ns ss ls).literals) × ((p ls).level start ≡ (block_body_part c ns ss ls).level outside)
block_body_same c ns ss n returned outside start ls h r s =
    let b = statements_body ss (inside c ns) ls in
    let flag : returned ≡ returns b.part = r ∙ sym (returns_body ss (inside c ns) ls) in (
      append_assoc (pop_arguments c.next n) (body_code b.part) (block_end returned)
          ∙ ap (λ (k : ℕ). pop_arguments c.next k ++ (body_code b.part ++ block_end returned)) h
          ∙ ap (λ (x : Bool). pop_arguments c.next (length ns) ++ (body_code b.part ++ block_end x)) flag,
      refl,
      ap (λ (l : Level). body_level b.part (popped n l)) s ∙ ap (λ (k : ℕ). body_level b.part (popped k (within k outside))) h,
    )

pub adds_nothing : (d : Draft) → Adds (λ ls. record { steps = []; literals = ls; level = λ l. l }) d d
adds_nothing d = record { steps = sym (append-nil d.steps.items); literals = refl; level = refl }

pub block_body_adds : (c : Context) (ns : List NameView) (ss : StatementsView) (n : ℕ) (returned : Bool) (old start mid end : Draft)
    → n ≡ length ns → returned ≡ returning ss → start.level ≡ within n old.level → start.steps.items ≡ old.steps.items → start.literals.items ≡ old.literals.items
    → Adds (then_part (arguments_part c.next n) (body_part (inside c ns) ss)) start mid → Adds (λ ls. record { steps = block_end returned; literals = ls; level = λ l. l }) mid end → Adds (block_body_part c ns ss) old end
block_body_adds c ns ss n returned old start mid end h r v s l a b =
    let whole = adds_then (then_part (arguments_part c.next n) (body_part (inside c ns) ss)) (λ ls. record { steps = block_end returned; literals = ls; level = λ l. l }) start mid end a b in
    let same = block_body_same c ns ss n returned old.level start.level (literals_view start.literals.items) h r v in
    let lits : literals_view start.literals.items ≡ literals_view old.literals.items = ap literals_view l in
    record {
      steps =
          whole.steps ∙ ap (λ (x : List Instruction). start.steps.items ++ x) same.0 ∙ ap (λ (x : List Instruction). x ++ (block_body_part c ns ss (literals_view start.literals.items)).steps) s
          ∙ ap (λ (x : List LiteralView). old.steps.items ++ (block_body_part c ns ss x).steps) lits;
      literals = whole.literals ∙ same.1 ∙ ap (λ (x : List LiteralView). (block_body_part c ns ss x).literals) lits;
      level = whole.level ∙ same.2 ∙ ap (λ (x : List LiteralView). (block_body_part c ns ss x).level old.level) lits;
    }

pub block_done : (c : Context) (ns : List NameView) (ss : StatementsView) (k : ℕ) (d0 d1 d2 d3 d4 d5 : Draft) (past n : ℕ)
    → k ≡ length ns → Adds (step_part (PushConstant ActiveContext) pushed) d0 d1 → Adds (number_part (record { minus = false; size = k })) d1 d2 → Adds (step_part (SendSpecial 200) (popped 1)) d2 d3
    → past ≡ length d3.steps.items → Adds (step_part (JumpPast 0) (λ l. l)) d3 d4 → Adds (block_body_part c ns ss) d4 d5 → n ≡ size (drop (past + 1) d5.steps.items)
    → let whole = value_part c (block ns ss) (literals_view d0.literals.items) in
    (slice_set d5.steps.items past (JumpPast n) ≡ d0.steps.items ++ whole.steps) × (literals_view d5.literals.items ≡ whole.literals) × (around d3.level d5.level ≡ whole.level d0.level)
block_done c ns ss k d0 d1 d2 d3 d4 d5 past n h a1 a2 a3 t a4 a5 m =
    let number = λ (j : ℕ). number_part (record { minus = false; size = j }) in
    let front = then_part (then_part (step_part (PushConstant ActiveContext) pushed) (number k)) (step_part (SendSpecial 200) (popped 1)) in
    let f : Adds front d0 d3 = adds_then (then_part (step_part (PushConstant ActiveContext) pushed) (number k)) (step_part (SendSpecial 200) (popped 1)) d0 d2 d3 (adds_then (step_part (PushConstant ActiveContext) pushed) (number k) d0 d1 d2 a1 a2) a3 in
    let ls = literals_view d0.literals.items in
    let x = number k ls in
    let i = block_body_part c ns ss x.literals in
    let same : block_body_part c ns ss (literals_view d4.literals.items) ≡ i = ap (block_body_part c ns ss) (a4.literals ∙ f.literals) in
    let e5 : d5.steps.items ≡ (d3.steps.items ++ JumpPast 0 ∷ []) ++ i.steps = a5.steps ∙ ap (λ (y : Part). d4.steps.items ++ y.steps) same ∙ ap (λ (y : List Instruction). y ++ i.steps) a4.steps in
    let long : n ≡ size i.steps = m ∙ ap (λ (y : List Instruction). size (drop (past + 1) y)) e5 ∙ ap size (drop_behind d3.steps.items i.steps (JumpPast 0) past t) in
    let inner : d5.level ≡ i.level d3.level = a5.level ∙ ap (λ (y : Part). y.level d4.level) same ∙ ap i.level a4.level in
    let steps_of = λ (j : ℕ). d0.steps.items ++ PushConstant ActiveContext ∷ ((number j ls).steps ++ SendSpecial 200 ∷ JumpPast (size (block_body_part c ns ss (number j ls).literals).steps) ∷ (block_body_part c ns ss (number j ls).literals).steps) in
    let flat : (d0.steps.items ++ (((PushConstant ActiveContext ∷ []) ++ x.steps) ++ SendSpecial 200 ∷ [])) ++ JumpPast (size i.steps) ∷ i.steps ≡ steps_of k = simp append_assoc in (
      ap (λ (y : List Instruction). slice_set y past (JumpPast n)) e5 ∙ set_behind d3.steps.items i.steps (JumpPast 0) (JumpPast n) past t
          ∙ ap (λ (j : ℕ). d3.steps.items ++ JumpPast j ∷ i.steps) long
          ∙ ap (λ (y : List Instruction). y ++ JumpPast (size i.steps) ∷ i.steps) f.steps
          ∙ flat ∙ ap steps_of h,
      a5.literals ∙ ap (λ (y : Part). y.literals) same ∙ ap (λ (j : ℕ). (block_body_part c ns ss (number j ls).literals).literals) h,
      ap (around d3.level) inner ∙ ap (λ (v : Level). around v (i.level v)) f.level
          ∙ ap (λ (j : ℕ). let v = popped 1 ((number j ls).level (pushed d0.level)) in around v ((block_body_part c ns ss (number j ls).literals).level v)) h,
    )

pub names_many : (names : List Name) → length names ≡ length (names_view names)
names_many names = sym (length-map names _)
