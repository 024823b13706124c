-- Nodes that have the same code.
use Rattle.std.proofs.Common.{◌≡◌, ℕ, ◌+◌, Bool, false, List, [], ◌∷◌, ◌++◌, refl, ap, ap₂, ◌∙◌}
use Rattle.st_emit.specs.declared.instruction.Constant.TheVariants.{Nil}
use Rattle.st_emit.specs.declared.instruction.InstructionOperand.{InstructionOperand}
use Rattle.st_emit.specs.declared.instruction.Instruction.{Instruction}
use Rattle.st_emit.specs.declared.instruction.Instruction.TheVariants.{PushConstant, Pop, Duplicate, ReturnTop}
use Rattle.st_emit.specs.declared.level.Level.{Level}
use Rattle.st_emit.specs.declared.form.OneSided.{OneSided}
use Rattle.st_emit.specs.declared.form.TwoSided.TheVariants.{TrueFirst, FalseFirst}
use Rattle.st_emit.specs.declared.form.Loop.{Loop}
use Rattle.st_emit.specs.Nodes.{Sending, Node, constant, assign, block, send, one_sided, two_sided, loop, Body, nothing, last, next, returned, Messages, only, also, Nodes, node, count, returns, body_of}
use Rattle.st_emit.specs.Emitting.{Use, for_value, for_effect, used, stored, choice, repeat, code_of, body_code, messages_code, nodes_code, return_code, block_code, block_end, pop_arguments, passes_on, other_side, leaves_on, send_step}
use Rattle.st_emit.specs.Depths.{level_of, body_level, messages_level, nodes_level, return_level, level_used, pushed, popped, beside, joined, around, within, ended}
use Rattle.st_emit.specs.Resolving.{before}

pub record SameBody (x y : Body) : Type 0 where
  pub code : body_code x ≡ body_code y
  pub level : (l : Level) → body_level x l ≡ body_level y l
  pub returns : returns x ≡ returns y

pub record Same (x y : Node) : Type 0 where
  pub code : (u : Use) → code_of u x ≡ code_of u y
  pub level : (u : Use) (l : Level) → level_of u x l ≡ level_of u y l
  pub back : return_code x (code_of for_value x) ≡ return_code y (code_of for_value y)
  pub back_level : (l : Level) → return_level x l (level_of for_value x l) ≡ return_level y l (level_of for_value y l)
  pub inner : SameBody (body_of x) (body_of y)

pub record SameNodes (x y : Nodes) : Type 0 where
  pub code : nodes_code x ≡ nodes_code y
  pub level : (l : Level) → nodes_level x l ≡ nodes_level y l
  pub count : count x ≡ count y

pub record SameMessages (x y : Messages) : Type 0 where
  pub code : (above : Bool) → messages_code above x ≡ messages_code above y
  pub level : (l : Level) → messages_level x l ≡ messages_level y l

pub body_same : (b : Body) → SameBody b b
body_same b = record { code = refl; level = λ l. refl; returns = refl }

pub same : (n : Node) → Same n n
same n = record { code = λ u. refl; level = λ u l. refl; back = refl; back_level = λ l. refl; inner = body_same (body_of n) }

pub same_on : (x y z : Node) → Same x y → Same y z → Same x z
same_on x y z a b = record {
  code = λ u. a.code u ∙ b.code u;
  level = λ u l. a.level u l ∙ b.level u l;
  back = a.back ∙ b.back;
  back_level = λ l. a.back_level l ∙ b.back_level l;
  inner = record { code = a.inner.code ∙ b.inner.code; level = λ l. a.inner.level l ∙ b.inner.level l; returns = a.inner.returns ∙ b.inner.returns };
}

-- code that is returned by a 124
abbrev top : List Instruction → List Instruction
top c = c ++ ReturnTop ∷ []

pub same_assign : (p : InstructionOperand) (x y : Node) → Same x y → Same (assign p x) (assign p y)
same_assign p x y s =
    record {
      code = λ u. ap (λ (c : List Instruction). c ++ stored u p ∷ []) (s.code for_value);
      level = λ u l. ap (level_used u) (s.level for_value l);
      back = ap (λ (c : List Instruction). top (c ++ stored for_value p ∷ [])) (s.code for_value);
      back_level = λ l. ap ended (s.level for_value l);
      inner = body_same nothing;
    }

pub same_send : (above : Bool) (x y : Node) (ms ns : Messages) → Same x y → SameMessages ms ns → Same (send above x ms) (send above y ns)
same_send above x y ms ns s m =
    let code = λ (u : Use). ap₂ (λ (a b : List Instruction). used u (a ++ b)) (s.code for_value) (m.code above) in
    let level = λ (l : Level). ap (messages_level ms) (s.level for_value l) ∙ m.level (level_of for_value y l) in
    record {
      code = code;
      level = λ u l. ap (level_used u) (level l);
      back = ap top (code for_value);
      back_level = λ l. ap ended (level l);
      inner = body_same nothing;
    }

pub same_block : (first other n : ℕ) (x y : Node) (a b : Body) → pop_arguments first n ≡ pop_arguments other n → Same x y → SameBody a b → Same (block first n x a) (block other n y b)
same_block first other n x y a b p s h =
    let inside : pop_arguments first n ++ (body_code a ++ block_end (returns a)) ≡ pop_arguments other n ++ (body_code b ++ block_end (returns b)) =
    ap (λ (q : List Instruction). q ++ (body_code a ++ block_end (returns a))) p
    ∙ ap (λ (c : List Instruction). pop_arguments other n ++ (c ++ block_end (returns a))) h.code
    ∙ ap (λ (r : Bool). pop_arguments other n ++ (body_code b ++ block_end r)) h.returns in
    let code = λ (u : Use). ap₂ (λ (c i : List Instruction). used u (block_code c i)) (s.code for_value) inside in
    let outside = λ (l : Level). ap (popped 1) (s.level for_value (pushed l)) in
    let level = λ (l : Level).
    ap (λ (o : Level). around o (body_level a (popped n (within n o)))) (outside l)
    ∙ ap (around (popped 1 (level_of for_value y (pushed l)))) (h.level (popped n (within n (popped 1 (level_of for_value y (pushed l)))))) in
    record {
      code = code;
      level = λ u l. ap (level_used u) (level l);
      back = ap top (code for_value);
      back_level = λ l. ap ended (level l);
      inner = h;
    }

pub same_sided : (side : OneSided) (x y : Node) (a b : Body) → Same x y → SameBody a b → Same (one_sided side x a) (one_sided side y b)
same_sided side x y a b s h =
    let code = λ (u : Use). ap₂ (λ (c d : List Instruction). used u (choice (passes_on side) c d (PushConstant (other_side side) ∷ []))) (s.code for_value) h.code in
    let level = λ (l : Level).
    ap (λ (v : Level). let start = popped 1 v in let first = body_level a start in joined first (pushed (beside start first))) (s.level for_value l)
    ∙ ap (λ (first : Level). joined first (pushed (beside (popped 1 (level_of for_value y l)) first))) (h.level (popped 1 (level_of for_value y l))) in
    record {
      code = code;
      level = λ u l. ap (level_used u) (level l);
      back = ap top (code for_value);
      back_level = λ l. ap ended (level l);
      inner = body_same nothing;
    }

pub same_chosen : (x y : Node) (a a' b b' : Body) → Same x y → SameBody a a' → SameBody b b' → Same (two_sided TrueFirst x a b) (two_sided TrueFirst y a' b')
same_chosen x y a a' b b' s h k =
    let code = λ (u : Use).
    ap₂ (λ (c d : List Instruction). used u (choice false c d (body_code b))) (s.code for_value) h.code
    ∙ ap (λ (d : List Instruction). used u (choice false (code_of for_value y) (body_code a') d)) k.code in
    let level = λ (l : Level).
    let start = popped 1 (level_of for_value y l) in
    ap (λ (v : Level). let s = popped 1 v in let first = body_level a s in joined first (body_level b (beside s first))) (s.level for_value l)
    ∙ ap (λ (first : Level). joined first (body_level b (beside start first))) (h.level start)
    ∙ ap (joined (body_level a' start)) (k.level (beside start (body_level a' start))) in
    record {
      code = code;
      level = λ u l. ap (level_used u) (level l);
      back = ap top (code for_value);
      back_level = λ l. ap ended (level l);
      inner = body_same nothing;
    }

-- of two sides the one for true stands first
pub same_turned : (x : Node) (a b : Body) → Same (two_sided TrueFirst x b a) (two_sided FalseFirst x a b)
same_turned x a b = record { code = λ u. refl; level = λ u l. refl; back = refl; back_level = λ l. refl; inner = body_same nothing }

-- a second side that is a constant
pub same_constant : (side : OneSided) (x : Node) (a : Body) → passes_on side ≡ false → Same (one_sided side x a) (two_sided TrueFirst x a (last (constant (other_side side))))
same_constant side x a e =
    let code = λ (u : Use). ap (λ (on : Bool). used u (choice on (code_of for_value x) (body_code a) (PushConstant (other_side side) ∷ []))) e in
    record { code = code; level = λ u l. refl; back = ap top (code for_value); back_level = λ l. refl; inner = body_same nothing }

pub same_loop : (kind : Loop) (x y a b : Body) → SameBody x y → SameBody a b → Same (loop kind x a) (loop kind y b)
same_loop kind x y a b s h =
    let code = λ (u : Use). ap₂ (λ (c d : List Instruction). used u (repeat (leaves_on kind) c d)) s.code h.code in
    let level = λ (l : Level).
    let start = popped 1 (body_level y l) in
    ap (λ (v : Level). let s = popped 1 v in pushed (beside s (body_level a s))) (s.level l) ∙ ap (λ (first : Level). pushed (beside start first)) (h.level start) in
    record {
      code = code;
      level = λ u l. ap (level_used u) (level l);
      back = ap top (code for_value);
      back_level = λ l. ap ended (level l);
      inner = body_same nothing;
    }

-- STATEMENTS

abbrev pub IsSome : Body → Type 0
IsSome nothing = ⊥
IsSome _ = Unit {0}

pub before_next : (n : Node) (b : Body) → IsSome b → before n b ≡ next n b
before_next n nothing h = absurd h
before_next n (last m) h = refl
before_next n (next m b) h = refl
before_next n (returned m) h = refl

pub before_some : (n : Node) (b : Body) → IsSome (before n b)
before_some n nothing = tt
before_some n (last m) = tt
before_some n (next m b) = tt
before_some n (returned m) = tt

pub same_next : (x y : Node) (a b : Body) → Same x y → SameBody a b → SameBody (next x a) (next y b)
same_next x y a b s h = record {
  code = ap₂ (λ (c d : List Instruction). c ++ d) (s.code for_effect) h.code;
  level = λ l. ap (body_level a) (s.level for_effect l) ∙ h.level (level_of for_effect y l);
  returns = h.returns;
}

pub same_last : (x y : Node) → Same x y → SameBody (last x) (last y)
same_last x y s = record { code = s.code for_value; level = λ l. s.level for_value l; returns = refl }

pub same_returned : (x y : Node) → Same x y → SameBody (returned x) (returned y)
same_returned x y s = record { code = s.back; level = λ l. s.back_level l; returns = refl }

pub same_nothing : SameBody (last (constant Nil)) nothing
same_nothing = record { code = refl; level = λ l. refl; returns = refl }

-- MESSAGES

pub same_node : (x y : Node) (ms ns : Nodes) → Same x y → SameNodes ms ns → SameNodes (node x ms) (node y ns)
same_node x y ms ns s h = record {
  code = ap₂ (λ (c d : List Instruction). c ++ d) (s.code for_value) h.code;
  level = λ l. ap (nodes_level ms) (s.level for_value l) ∙ h.level (level_of for_value y l);
  count = ap (λ (k : ℕ). k + 1) h.count;
}

pub same_only : (t : Sending) (ms ns : Nodes) → SameNodes ms ns → SameMessages (only t ms) (only t ns)
same_only t ms ns h = record {
  code = λ above. ap₂ (λ (c : List Instruction) (k : ℕ). c ++ send_step above t.by k ∷ []) h.code h.count;
  level = λ l. ap₂ (λ (k : ℕ) (v : Level). popped k v) h.count (h.level l);
}

pub same_also : (t : Sending) (ms ns : Nodes) (xs ys : Messages) → SameNodes ms ns → SameMessages xs ys → SameMessages (also t ms xs) (also t ns ys)
same_also t ms ns xs ys h k = record {
  code = λ above.
      ap₂ (λ (c : List Instruction) (i : ℕ). Duplicate ∷ (c ++ send_step above t.by i ∷ Pop ∷ messages_code above xs)) h.code h.count
      ∙ ap (λ (d : List Instruction). Duplicate ∷ (nodes_code ns ++ send_step above t.by (count ns) ∷ Pop ∷ d)) (k.code above);
  level = λ l.
      ap₂ (λ (i : ℕ) (v : Level). messages_level xs (popped 1 (popped i v))) h.count (h.level (pushed l))
      ∙ k.level (popped 1 (popped (count ns) (nodes_level ns (pushed l))));
}

pub same_back : (x : Node) (a b : Body) → Same (two_sided FalseFirst x a b) (two_sided TrueFirst x b a)
same_back x a b = record { code = λ u. refl; level = λ u l. refl; back = refl; back_level = λ l. refl; inner = body_same nothing }
