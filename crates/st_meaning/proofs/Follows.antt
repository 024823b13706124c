-- The walk over a node's code does what the node's trace does.
use Rattle.std.proofs.Common.{◌≡◌, ℕ, zero, suc, ◌+◌, ◌-◌, ◌%◌, ◌<◌, ◌==◌, Option, Some, Bool, true, false, List, [], ◌∷◌, ◌++◌, length, refl, sym, ap, ◌∙◌, subst, arith, ne_eqb, zero-add}
use Rattle.std.proofs.lemmas.Bool.Decides.{nat_tests}
use Rattle.std.specs.Prelude.{if◌then◌else◌, nat_lt, slice_get, option_map}
use Rattle.st_emit.specs.declared.instruction.Constant.{Constant}
use Rattle.st_emit.specs.declared.instruction.Constant.TheVariants.{Receiver, True, False, Nil, Context}
use Rattle.st_emit.specs.declared.instruction.InstructionOperand.{InstructionOperand}
use Rattle.st_emit.specs.declared.instruction.InstructionOperand.TheVariants.{Field, Temporary, Literal, Shared}
use Rattle.st_emit.specs.declared.instruction.Instruction.{Instruction}
use Rattle.st_emit.specs.declared.instruction.Instruction.TheVariants.{Push, PushConstant, PushNumber, Store, PopStore, Pop, Duplicate, Send, SendSuper, SendSpecial, ReturnConstant, ReturnTop, Jump, JumpBack, JumpIf, JumpPast}
use Rattle.st_emit.specs.declared.form.By.{By}
use Rattle.st_emit.specs.declared.form.By.TheVariants.{Special, SelectorAt}
use Rattle.st_emit.specs.declared.form.OneSided.{OneSided}
use Rattle.st_emit.specs.declared.form.OneSided.TheVariants.{IfTrue, IfFalse, And, Or}
use Rattle.st_emit.specs.declared.form.TwoSided.{TwoSided}
use Rattle.st_emit.specs.declared.form.TwoSided.TheVariants.{TrueFirst, FalseFirst}
use Rattle.st_emit.specs.declared.form.Loop.{Loop}
use Rattle.st_emit.specs.declared.form.Loop.TheVariants.{WhileTrue, WhileFalse}
use Rattle.st_emit.specs.Emitting.{Use}
use Rattle.st_emit.specs.Emitting.{for_value, for_effect}
use Rattle.st_emit.specs.Literals.{LiteralView}
use Rattle.st_emit.specs.Resolving.{special_selectors, first_special, block_copy}
use Rattle.st_emit.specs.Selectors.{arity}
use Rattle.st_emit.specs.Steps.{size, size_of, is_short}
use Rattle.st_emit.specs.Nodes.{Node, constant, small, literal, variable, assign, block, send, one_sided, two_sided, loop, Body, nothing, last, next, returned, Messages, only, also, Nodes, none, node, count, returns}
use Rattle.st_emit.specs.Emitting.{used, stored, send_step, choice, repeat, code_of, body_code, messages_code, nodes_code, return_code, return_constant, block_code, block_end, pop_arguments, passes_on, other_side, leaves_on, chosen}
use Rattle.st_resolved.specs.inside.Placed.{IsCount, Placed, BodyPlaced, MessagesPlaced, NodesPlaced, IsFound, IsVariable}
use Rattle.st_resolved.specs.Instructions.{read_as, long_count}
use Rattle.st_resolved.proofs.Sizes.{size-append}
use Rattle.st_meaning.specs.declared.deed.Variable.{Variable}
use Rattle.st_meaning.specs.declared.deed.Value.{Value}
use Rattle.st_meaning.specs.declared.deed.Value.TheVariants as values
use Rattle.st_meaning.specs.inside.Values.{constant_value, assigned, unsure, returned as has_returned, literal_value, small_value, variable_of}
use Rattle.st_meaning.specs.inside.Runs.{Going, Outcome, went, over, long, stuck, unfinished, Run, gives, then_go, ◌>>=◌, did, ends, changed, assign_to, answer_to, make_block, return_value, be_unsure, jump_back, decide, in_order, in_order_before}
use Rattle.st_meaning.specs.inside.Runs as runs
use Rattle.st_meaning.specs.inside.Traces.{nil, sided, turns, goes_on, value_of, body_value, messages_value, nodes_values}
use Rattle.st_meaning.specs.inside.Traces as traces
use Rattle.st_meaning.specs.inside.Codes as codes
use Rattle.st_meaning.specs.inside.Walks.{Next, selector_of, act, done, walk, on_boolean}
use Rattle.st_meaning.proofs.Living.{Always, always_then, always_both, onward, onward_then, goes, body_goes, nodes_go, Few, BodyFew, MessagesFew, NodesFew, lives, body_lives, nodes_live}
use Rattle.st_meaning.proofs.Leads as leads

abbrev pub nil' : Value
nil' = constant_value Nil

-- what an expression leaves on the stack
abbrev pub left_by : Use → List Value → Value → List Value
left_by for_value s v = v ∷ s
left_by for_effect s v = s

module _ (most : ℕ) (literals : List LiteralView) (bytes : List ℕ) where
  abbrev pub Stand : ℕ → List Instruction → Type 0
  Stand at xs = leads.Stand most literals bytes at xs

  abbrev pub Leads : {A : Type 0} → ℕ → List Value → Going → ℕ → (A → List Value) → Outcome A → Type 0
  Leads at s g at' st o = leads.Leads most literals bytes at s g at' st o

  abbrev pub go : ℕ → Next
  go k = walk most literals bytes k

  pub front : (at : ℕ) (a b : List Instruction) → Stand at (a ++ b) → Stand at a
  front = leads.stand_front most literals bytes

  pub back : (at : ℕ) (a b : List Instruction) → Stand at (a ++ b) → Stand (at + size a) b
  back = leads.stand_back most literals bytes

  at_end : {A : Type 0} (at at1 at2 : ℕ) (s : List Value) (g : Going) (st : A → List Value) (o : Outcome A) → at1 ≡ at2 → Leads at s g at1 st o → Leads at s g at2 st o
  at_end = leads.leads_at most literals bytes

  act_at : (at : ℕ) (x : Instruction) (s : List Value) (g : Going) (xs : List Instruction) → Stand at (x ∷ xs) → (k : ℕ) → go (suc k) at s g ≡ act most literals (read_as x) (go k) (at + size_of x) s g
  act_at = leads.one_act most literals bytes

  -- an instruction that pushes a value
  pushes : (at : ℕ) (x : Instruction) (xs : List Instruction) (s : List Value) (g : Going) (v : Value) → Stand at (x ∷ xs)
      → ((k : ℕ) → act most literals (read_as x) (go k) (at + size_of x) s g ≡ go k (at + size_of x) (v ∷ s) g)
      → Leads at s g (at + size (x ∷ [])) (λ (w : Value). w ∷ s) (went v g)
  pushes at x xs s g v has does =
      let e : at + size_of x ≡ at + size (x ∷ []) = omega arith in
      record { by = λ k. (suc k, act_at at x s g xs has k ∙ does k ∙ ap (λ n. go k n (v ∷ s) g) e) }

  -- code whose value isn't used
  used_leads : (u : Use) (at : ℕ) (code : List Instruction) (s : List Value) (g : Going) (o : Outcome Value) → Stand at (used u code)
      → (Stand at code → Leads at s g (at + size code) (λ v. v ∷ s) o) → Leads at s g (at + size (used u code)) (left_by u s) o
  used_leads for_value at code s g o has run = run has
  used_leads for_effect at code s g o has run =
      let e : at + size code + 1 ≡ at + size (code ++ Pop ∷ []) = omega (arith, size-append code (Pop ∷ [])) in
      leads.leads_at most literals bytes at (at + size code + 1) _ s g (λ (v : Value). s) o e
      (dropped o (run (front at code (Pop ∷ []) has)))
    where
      dropped : (o : Outcome Value) → Leads at s g (at + size code) (λ (v : Value). v ∷ s) o → Leads at s g (at + size code + 1) (λ (v : Value). s) o
      dropped (went v g') l =
          record { by = λ k. let a = l.by (suc k) in (a.0, a.1 ∙ leads.one_act most literals bytes (at + size code) Pop (v ∷ s) g' [] (back at code (Pop ∷ []) has) k) }
      dropped (over d) l = l
      dropped long l = l
      dropped (stuck d) l = l
      dropped unfinished l = tt

  -- a value that is returned
  pub returns_leads : {A : Type 0} (at at' : ℕ) (x : Instruction) (xs : List Instruction) (s : List Value) (g : Going) (st : A → List Value) (v : Value) → Stand at (x ∷ xs)
      → ((k : ℕ) → act most literals (read_as x) (go k) (at + size_of x) s g ≡ return_value most v g)
      → Leads at s g at' st (return_value most {A = A} v g)
  unfolding return_value
  returns_leads at at' x xs s g st v has does =
      leads.over_leads most literals bytes at at' s g st (has_returned v) (λ k. leads.one_act most literals bytes at x s g xs has k ∙ does k)

  -- a conditional jump
  jumps : {A : Type 0} (on : Bool) (d at at' : ℕ) (xs : List Instruction) (v : Value) (s : List Value) (g : Going) (st : A → List Value) (jump stay : Run A)
      → Stand at (JumpIf on d ∷ xs)
      → Leads (at + size_of (JumpIf on d) + d) s g at' st (jump g) → Leads (at + size_of (JumpIf on d)) s g at' st (stay g)
      → Leads at (v ∷ s) g at' st (on_boolean most on v jump stay g)
  unfolding be_unsure
  jumps {A} on d at at' xs v s g st jump stay has j t = by_value on v (leads.one_act most literals bytes at (JumpIf on d) (v ∷ s) g xs has) j t
    where
      taken : (v : Value) (at1 : ℕ) (o : Outcome A) → ((k : ℕ) → go (suc k) at (v ∷ s) g ≡ go k at1 s g) → Leads at1 s g at' st o → Leads at (v ∷ s) g at' st o
      taken v at1 o e l = leads.comes_leads most literals bytes at at1 at' (v ∷ s) s g g st o (record { by = λ k. (suc k, e k) }) l

      unsure_leads : (v : Value) → ((k : ℕ) → go (suc k) at (v ∷ s) g ≡ did most {A = Value} (unsure v) (ends) g) → Leads at (v ∷ s) g at' st (did most {A = A} (unsure v) (ends) g)
      unsure_leads v e = leads.over_leads most literals bytes at at' (v ∷ s) g st (unsure v) e

      by_value : (on : Bool) (v : Value) → ((k : ℕ) → go (suc k) at (v ∷ s) g ≡ act most literals (JumpIf on d) (go k) (at + size_of (JumpIf on d)) (v ∷ s) g)
          → Leads (at + size_of (JumpIf on d) + d) s g at' st (jump g) → Leads (at + size_of (JumpIf on d)) s g at' st (stay g)
          → Leads at (v ∷ s) g at' st (on_boolean most on v jump stay g)
      by_value true (values.Constant (suc zero)) e j t = taken (values.Constant (suc zero)) (at + size_of (JumpIf true d) + d) (jump g) e j
      by_value true (values.Constant (suc (suc zero))) e j t = taken (values.Constant (suc (suc zero))) (at + size_of (JumpIf true d)) (stay g) e t
      by_value true (values.Constant zero) e j t = unsure_leads (values.Constant zero) e
      by_value true (values.Constant (suc (suc (suc i)))) e j t = unsure_leads (values.Constant (suc (suc (suc i)))) e
      by_value true (values.Number z) e j t = unsure_leads (values.Number z) e
      by_value true (values.First p) e j t = unsure_leads (values.First p) e
      by_value true (values.Literal n) e j t = unsure_leads (values.Literal n) e
      by_value true (values.Block n) e j t = unsure_leads (values.Block n) e
      by_value true (values.Answer n) e j t = unsure_leads (values.Answer n) e
      by_value false (values.Constant (suc zero)) e j t = taken (values.Constant (suc zero)) (at + size_of (JumpIf false d)) (stay g) e t
      by_value false (values.Constant (suc (suc zero))) e j t = taken (values.Constant (suc (suc zero))) (at + size_of (JumpIf false d) + d) (jump g) e j
      by_value false (values.Constant zero) e j t = unsure_leads (values.Constant zero) e
      by_value false (values.Constant (suc (suc (suc i)))) e j t = unsure_leads (values.Constant (suc (suc (suc i)))) e
      by_value false (values.Number z) e j t = unsure_leads (values.Number z) e
      by_value false (values.First p) e j t = unsure_leads (values.First p) e
      by_value false (values.Literal n) e j t = unsure_leads (values.Literal n) e
      by_value false (values.Block n) e j t = unsure_leads (values.Block n) e
      by_value false (values.Answer n) e j t = unsure_leads (values.Answer n) e

  -- a choice between two sides, behind the value of its test
  choice_leads : {A : Type 0} (on : Bool) (a b : List Instruction) (at : ℕ) (v : Value) (s : List Value) (g : Going) (st : A → List Value) (run_a run_b : Run A)
      → Stand at (choice on [] a b)
      → ((at1 : ℕ) → Stand at1 a → Leads at1 s g (at1 + size a) st (run_a g)) → ((at1 : ℕ) → Stand at1 b → Leads at1 s g (at1 + size b) st (run_b g))
      → Leads at (v ∷ s) g (at + size (choice on [] a b)) st (on_boolean most on v run_b run_a g)
  choice_leads {A} on a b at v s g st run_a run_b has ra rb =
      jumps on d at _ (a ++ over ∷ b) v s g st run_b run_a has
      (at_end at_b (at_b + size b) end s g st (run_b g) (omega (arith, sizes)) (rb at_b stand_b))
      (over_leads (run_a g) (ra at_a (front at_a a (over ∷ b) has.1)))
    where
      over : Instruction
      over = Jump (size b)

      d : ℕ
      d = size a + size_of over

      at_a : ℕ
      at_a = at + size_of (JumpIf on d)

      at_b : ℕ
      at_b = at_a + d

      end : ℕ
      end = at + size (choice on [] a b)

      sizes : size (a ++ over ∷ b) ≡ size a + (size_of over + size b)
      sizes = size-append a (over ∷ b)

      stand_over : Stand (at_a + size a) (over ∷ b)
      stand_over = back at_a a (over ∷ b) has.1

      stand_b : Stand at_b b
      stand_b = let e : at_a + size a + size_of over ≡ at_b = omega arith in subst (λ n. Stand n b) e stand_over.1

      over_leads : (o : Outcome A) → Leads at_a s g (at_a + size a) st o → Leads at_a s g end st o
      over_leads (went x g') l =
          let e : at_a + size a + size_of over + size b ≡ end = omega (arith, sizes) in
          record { by = λ k. let c = l.by (suc k) in (c.0, c.1 ∙ act_at (at_a + size a) over (st x) g' b stand_over k ∙ ap (λ n. go k n (st x) g') e) }
      over_leads (runs.over d) l = l
      over_leads long l = l
      over_leads (stuck d) l = l
      over_leads unfinished l = tt

  -- SENDS

  -- the arguments and the receiver of a message, as they stand on the stack
  message_on : (vs acc : List Value) (r : Value) (s : List Value) (f : Value → List Value → List Value → codes.Walked Variable Value) → codes.on_message (length vs) acc (vs ++ r ∷ s) f ≡ f r (in_order_before vs acc) s
  message_on [] acc r s f = refl
  message_on (v ∷ vs) acc r s f = message_on vs (v ∷ acc) r s f

  sent_is : (above : Bool) (text : List ℕ) (n at : ℕ) (vs : List Value) (r : Value) (s : List Value) (g : Going) (k : ℕ) → length vs ≡ n
      → done most (codes.sends above n text (vs ++ r ∷ s)) (go k) at g ≡ then_go (answer_to most r text (in_order vs) above g) (λ v. go k at (v ∷ s))
  sent_is above text n at vs r s g k len =
      ap (λ i. done most (codes.sends above i text (vs ++ r ∷ s)) (go k) at g) (sym len)
      ∙ ap (λ w. done most w (go k) at g) (message_on vs [] r s (λ q arguments rest. codes.sent q text arguments above rest))

  -- a message is found with as many arguments as it has
  abbrev SendingPlaced : (above : Bool) → List ℕ → By → ℕ → Type 0
  SendingPlaced above text by n = IsFound literals above text by × (arity text ≡ n)

  few_read : (n j : ℕ) → n < 256 → (if nat_lt n 256 then n else long_count (n % 256) j) ≡ n
  few_read n j h = let e : nat_lt n 256 ≡ true = grind (arith, nat_tests, h) in ap (λ (b : Bool). if b then n else long_count (n % 256) j) e

  -- the instruction that sends a message
  sends : (above : Bool) (text : List ℕ) (by : By) (n at : ℕ) (vs : List Value) (r : Value) (s : List Value) (g : Going) (xs : List Instruction) → length vs ≡ n → n < 256 → SendingPlaced above text by n
      → Stand at (send_step above by n ∷ xs)
      → (k : ℕ) → go (suc k) at (vs ++ r ∷ s) g ≡ then_go (answer_to most r text (in_order vs) above g) (λ v. go k (at + size_of (send_step above by n)) (v ∷ s))
  sends true text (SelectorAt j) n at vs r s g xs len few p has k =
      act_at at (SendSuper n j) (vs ++ r ∷ s) g xs has k
      ∙ ap (λ (i : ℕ). act most literals (SendSuper i j) (go k) (at + size_of (SendSuper n j)) (vs ++ r ∷ s) g) (few_read n j few)
      ∙ ap (λ (o : Option LiteralView). done most (codes.on_some (selector_of o) (λ t. codes.sends true n t (vs ++ r ∷ s))) (go k) (at + size_of (SendSuper n j)) g) p.0
      ∙ sent_is true text n (at + size_of (SendSuper n j)) vs r s g k len
  sends false text (SelectorAt j) n at vs r s g xs len few p has k =
      act_at at (Send n j) (vs ++ r ∷ s) g xs has k
      ∙ ap (λ (i : ℕ). act most literals (Send i j) (go k) (at + size_of (Send n j)) (vs ++ r ∷ s) g) (few_read n j few)
      ∙ ap (λ (o : Option LiteralView). done most (codes.on_some (selector_of o) (λ t. codes.sends false n t (vs ++ r ∷ s))) (go k) (at + size_of (Send n j)) g) p.0
      ∙ sent_is false text n (at + size_of (Send n j)) vs r s g k len
  sends true text (Special j) n at vs r s g xs len few p has k = absurd p.0
  sends false text (Special code) n at vs r s g xs len few p has k =
      let no : code == first_special + block_copy ≡ false = ne_eqb code (first_special + block_copy) p.0.other in
      let copies : codes.Walked Variable Value = codes.on_message 1 [] (vs ++ r ∷ s) (λ q arguments rest. codes.copied rest) in
      let plain : Option (List ℕ) → codes.Walked Variable Value = λ o. codes.on_some o (λ t. codes.sends false (arity t) t (vs ++ r ∷ s)) in
      act_at at (SendSpecial code) (vs ++ r ∷ s) g xs has k
      ∙ ap (λ (b : Bool). done most (if b then copies else plain (slice_get special_selectors (code - first_special))) (go k) (at + 1) g) no
      ∙ ap (λ (o : Option (List ℕ)). done most (plain o) (go k) (at + 1) g) p.0.is
      ∙ sent_is false text (arity text) (at + 1) vs r s g k (len ∙ sym p.1)

  -- as many values as nodes
  values_count : (ns : Nodes) (vs : List Value) (m : ℕ) (g : Going) (n : ℕ) → length vs + count ns ≡ n → Always (λ (ws : List Value). length ws ≡ n) (nodes_values most ns vs m g)
  values_count none vs m g n e = let e' : length vs ≡ n = omega arith in e'
  values_count (node x xs) vs m g n e =
      always_then (λ (v : Value). Unit {0}) (λ (ws : List Value). length ws ≡ n) (value_of most x m g) (λ v. nodes_values most xs (v ∷ vs) m) (onward (Unit {0}) (value_of most x m g) tt)
      (λ v g' u. let e' : length (v ∷ vs) + count xs ≡ n = omega arith in values_count xs (v ∷ vs) m g' n e')

  counted : (ns : Nodes) (m : ℕ) (g : Going) → NodesPlaced literals ns → Always (λ (vs : List Value). (length vs ≡ count ns) × (nodes_go ns ≡ true)) (nodes_values most ns [] m g)
  counted ns m g p =
      always_both (λ (vs : List Value). length vs ≡ count ns) (λ vs. nodes_go ns ≡ true) (nodes_values most ns [] m g) (values_count ns [] m g (count ns) (zero-add (count ns))) (nodes_live most literals ns [] m g p)

  -- one run after another, with what its value is
  pub leads_where : {A B : Type 0} (P : A → Type 0) (at at1 at2 : ℕ) (s : List Value) (g : Going) (st1 : A → List Value) (st2 : B → List Value) (o : Outcome A) (f : A → Run B)
      → Always P o → Leads at s g at1 st1 o → ((x : A) (g' : Going) → P x → Leads at1 (st1 x) g' at2 st2 (f x g')) → Leads at s g at2 st2 (then_go o f)
  leads_where P at at1 at2 s g st1 st2 (went x g') f p l r = leads.comes_leads most literals bytes at at1 at2 s (st1 x) g g' st2 (f x g') l (r x g' p)
  leads_where P at at1 at2 s g st1 st2 (runs.over d) f p l r = l
  leads_where P at at1 at2 s g st1 st2 long f p l r = l
  leads_where P at at1 at2 s g st1 st2 (stuck d) f p l r = l
  leads_where P at at1 at2 s g st1 st2 unfinished f p l r = tt

  pub then_leads : {A B : Type 0} (at at1 at2 : ℕ) (s : List Value) (g : Going) (st1 : A → List Value) (st2 : B → List Value) (o : Outcome A) (f : A → Run B)
      → Leads at s g at1 st1 o → ((x : A) (g' : Going) → Leads at1 (st1 x) g' at2 st2 (f x g')) → Leads at s g at2 st2 (then_go o f)
  then_leads = leads.leads_then most literals bytes

  -- a message whose arguments are on the stack
  send_leads : (above : Bool) (text : List ℕ) (by : By) (n at : ℕ) (vs : List Value) (r : Value) (s : List Value) (g : Going) (xs : List Instruction) → length vs ≡ n → n < 256 → SendingPlaced above text by n
      → Stand at (send_step above by n ∷ xs)
      → Leads at (vs ++ r ∷ s) g (at + size_of (send_step above by n)) (λ v. v ∷ s) (answer_to most r text (in_order vs) above g)
  send_leads above text by n at vs r s g xs len few p has =
      leads.act_leads most literals bytes at (at + size_of (send_step above by n)) (vs ++ r ∷ s) g (λ v. v ∷ s) (answer_to most r text (in_order vs) above g) (sends above text by n at vs r s g xs len few p has)

  -- VARIABLES AND LITERALS

  reads : (p : InstructionOperand) → IsVariable p → (f : Next) (at : ℕ) (s : List Value) (g : Going) → act most literals (Push p) f at s g ≡ f at (g.held (variable_of p) ∷ s) g
  reads (Field n) v f at s g = refl
  reads (Temporary n) v f at s g = refl
  reads (Shared n) v f at s g = refl
  reads (Literal n) v f at s g = absurd v

  -- an assignment gives the value that was assigned
  stored_same : (p : Variable) (v : Value) (s : List Value) (k at : ℕ) (g : Going) → then_go (assign_to most p v g) (λ w. go k at (v ∷ s)) ≡ then_go (assign_to most p v g) (λ w. go k at (w ∷ s))
  unfolding assign_to did
  stored_same p v s k at g = by_test (length g.deeds == most)
    where
      by_test : (b : Bool) → then_go (if b then long else went v (record g { deeds = g.deeds ++ assigned p v ∷ []; held = changed p v g.held })) (λ w. go k at (v ∷ s))
          ≡ then_go (if b then long else went v (record g { deeds = g.deeds ++ assigned p v ∷ []; held = changed p v g.held })) (λ w. go k at (w ∷ s))
      by_test true = refl
      by_test false = refl

  literal_pushed : (x : LiteralView) (place : ℕ) (f : Next) (at : ℕ) (s : List Value) (g : Going) → slice_get literals place ≡ Some x → act most literals (Push (Literal place)) f at s g ≡ f at (literal_value x place ∷ s) g
  literal_pushed x place f at s g p = ap (λ (o : Option LiteralView). done most (codes.on_some (option_map (λ l. literal_value l place) o) (λ y. codes.went (y ∷ s))) f at g) p

  pub stores : (u : Use) (p : InstructionOperand) (at : ℕ) (v : Value) (s : List Value) (g : Going) (xs : List Instruction) → Stand at (stored u p ∷ xs) → Leads at (v ∷ s) g (at + size_of (stored u p)) (left_by u s) (assign_to most (variable_of p) v g)
  stores for_value p at v s g xs has = leads.act_leads most literals bytes at _ (v ∷ s) g (λ w. w ∷ s) (assign_to most (variable_of p) v g) (λ k. act_at at (Store p) (v ∷ s) g xs has k ∙ stored_same (variable_of p) v s k (at + size_of (Store p)) g)
  stores for_effect p at v s g xs has = leads.act_leads most literals bytes at _ (v ∷ s) g (λ w. s) (assign_to most (variable_of p) v g) (act_at at (PopStore p) (v ∷ s) g xs has)

  -- BLOCKS

  -- the count of arguments, some value
  count_comes : (n : Node) (at : ℕ) (s : List Value) (g : Going) → Placed literals n → IsCount n → Stand at (code_of for_value n) → (v : Value) × leads.Comes most literals bytes at s g (at + size (code_of for_value n)) (v ∷ s) g
  count_comes (small k) at s g p c has = (small_value k, pushes at (PushNumber k) [] s g (small_value k) has (λ j. refl))
  count_comes (literal x place) at s g p c has =
      (literal_value x place, pushes at (Push (Literal place)) [] s g (literal_value x place) has (λ j. literal_pushed x place (go j) (at + size_of (Push (Literal place))) s g p))
  count_comes (constant k) at s g p c has = absurd c
  count_comes (variable q) at s g p c has = absurd c
  count_comes (assign q x) at s g p c has = absurd c
  count_comes (block f i x b) at s g p c has = absurd c
  count_comes (send above r ms) at s g p c has = absurd c
  count_comes (one_sided side x a) at s g p c has = absurd c
  count_comes (two_sided side x a b) at s g p c has = absurd c
  count_comes (loop kind x a) at s g p c has = absurd c

  -- a jump over a block's body
  past : (d : ℕ) (f : Next) (at : ℕ) (s : List Value) (g : Going) → act most literals (read_as (JumpPast d)) f at s g ≡ f (at + d) s g
  past d f at s g = by_test (is_short d)
    where
      by_test : (b : Bool) → act most literals (if b then JumpPast d else Jump d) f at s g ≡ f (at + d) s g
      by_test true = refl
      by_test false = refl

  block_leads : (n : Node) (inside : List Instruction) (at : ℕ) (s : List Value) (g : Going) → Placed literals n → IsCount n → Stand at (block_code (code_of for_value n) inside)
      → Leads at s g (at + size (block_code (code_of for_value n) inside)) (λ v. v ∷ s) (make_block most g)
  block_leads n inside at s g p c has =
      leads.comes_leads most literals bytes at at2 _ s (counted.0 ∷ constant_value Context ∷ s) g g (λ (v : Value). v ∷ s) (make_block most g) to_copy
      (then_at (make_block most g) (act_at at2 (SendSpecial (first_special + block_copy)) (counted.0 ∷ constant_value Context ∷ s) g (JumpPast (size inside) ∷ inside) stand_copy))
    where
      code : List Instruction
      code = code_of for_value n

      rest : List Instruction
      rest = SendSpecial (first_special + block_copy) ∷ JumpPast (size inside) ∷ inside

      at1 : ℕ
      at1 = at + 1

      at2 : ℕ
      at2 = at1 + size code

      stand_copy : Stand at2 rest
      stand_copy = back at1 code rest has.1

      counted : (v : Value) × leads.Comes most literals bytes at1 (constant_value Context ∷ s) g at2 (v ∷ constant_value Context ∷ s) g
      counted = count_comes n at1 (constant_value Context ∷ s) g p c (front at1 code rest has.1)

      to_copy : leads.Comes most literals bytes at s g at2 (counted.0 ∷ constant_value Context ∷ s) g
      to_copy = record { by = λ k. let b = counted.1.by k in (suc b.0, act_at at (PushConstant Context) s g _ has b.0 ∙ b.1) }

      end : ℕ
      end = at + size (block_code code inside)

      then_at : (o : Outcome Value) → ((k : ℕ) → go (suc k) at2 (counted.0 ∷ constant_value Context ∷ s) g ≡ then_go o (λ v. go k (at2 + 1) (v ∷ s))) → Leads at2 (counted.0 ∷ constant_value Context ∷ s) g end (λ (v : Value). v ∷ s) o
      then_at (went v g') h =
          let e : at2 + 1 + 2 + size inside ≡ end = omega (arith, size-append code rest) in
          record { by = λ k. (suc (suc k), h (suc k) ∙ act_at (at2 + 1) (JumpPast (size inside)) (v ∷ s) g' inside stand_copy.1 k ∙ past (size inside) (go k) (at2 + 1 + 2) (v ∷ s) g' ∙ ap (λ i. go k i (v ∷ s) g') e) }
      then_at (runs.over d) h = (1, h 0)
      then_at long h = (1, h 0)
      then_at (stuck d) h = (1, h 0)
      then_at unfinished h = tt

  -- CONDITIONAL FORMS

  side_leads : (side : OneSided) (a : List Instruction) (at : ℕ) (v : Value) (s : List Value) (g : Going) (run_a : Run Value)
      → Stand at (choice (passes_on side) [] a (PushConstant (other_side side) ∷ []))
      → ((at1 : ℕ) → Stand at1 a → Leads at1 s g (at1 + size a) (λ (w : Value). w ∷ s) (run_a g))
      → Leads at (v ∷ s) g (at + size (choice (passes_on side) [] a (PushConstant (other_side side) ∷ []))) (λ (w : Value). w ∷ s) (sided most side v run_a g)
  side_leads IfTrue a at v s g run_a has ra = choice_leads false a (PushConstant Nil ∷ []) at v s g (λ (w : Value). w ∷ s) run_a (gives nil') has ra (λ at1 h. pushes at1 (PushConstant Nil) [] s g nil' h (λ j. refl))
  side_leads IfFalse a at v s g run_a has ra = choice_leads true a (PushConstant Nil ∷ []) at v s g (λ (w : Value). w ∷ s) run_a (gives nil') has ra (λ at1 h. pushes at1 (PushConstant Nil) [] s g nil' h (λ j. refl))
  side_leads And a at v s g run_a has ra =
      choice_leads false a (PushConstant False ∷ []) at v s g (λ (w : Value). w ∷ s) run_a (gives (constant_value False)) has ra (λ at1 h. pushes at1 (PushConstant False) [] s g (constant_value False) h (λ j. refl))
  side_leads Or a at v s g run_a has ra =
      choice_leads true a (PushConstant True ∷ []) at v s g (λ (w : Value). w ∷ s) run_a (gives (constant_value True)) has ra (λ at1 h. pushes at1 (PushConstant True) [] s g (constant_value True) h (λ j. refl))

  two_leads : (side : TwoSided) (a b : List Instruction) (at : ℕ) (v : Value) (s : List Value) (g : Going) (run_a run_b : Run Value)
      → Stand at (chosen side [] a b)
      → ((at1 : ℕ) → Stand at1 a → Leads at1 s g (at1 + size a) (λ (w : Value). w ∷ s) (run_a g))
      → ((at1 : ℕ) → Stand at1 b → Leads at1 s g (at1 + size b) (λ (w : Value). w ∷ s) (run_b g))
      → Leads at (v ∷ s) g (at + size (chosen side [] a b)) (λ (w : Value). w ∷ s) (traces.chosen most side v run_a run_b g)
  two_leads TrueFirst a b at v s g run_a run_b has ra rb = choice_leads false a b at v s g (λ (w : Value). w ∷ s) run_a run_b has ra rb
  two_leads FalseFirst a b at v s g run_a run_b has ra rb = choice_leads false b a at v s g (λ (w : Value). w ∷ s) run_b run_a has rb ra

  goes_by : (kind : Loop) (v : Value) (again leave : Run Value) → goes_on most kind v again leave ≡ on_boolean most (leaves_on kind) v leave again
  goes_by WhileTrue v again leave = refl
  goes_by WhileFalse v again leave = refl

  -- a loop's turn, and what comes after the jump back
  turn_leads : (P : Type 0) (kind : Loop) (x a : List Instruction) (at : ℕ) (s : List Value) (run_x run_a rest : Run Value) (g : Going) → Stand at (repeat (leaves_on kind) x a)
      → Always (λ (v : Value). P) (run_x g) → Leads at s g (at + size x) (λ (v : Value). v ∷ s) (run_x g)
      → (P → (at1 : ℕ) (g : Going) → Stand at1 a → Leads at1 s g (at1 + size a) (λ (v : Value). v ∷ s) (run_a g))
      → ((g : Going) → Leads at s g (at + size (repeat (leaves_on kind) x a)) (λ (v : Value). v ∷ s) (rest g))
      → Leads at s g (at + size (repeat (leaves_on kind) x a)) (λ (v : Value). v ∷ s) (then_go (run_x g) (λ v. goes_on most kind v (run_a >>= λ w. jump_back most rest) (gives nil')))
  unfolding jump_back
  turn_leads P kind x a at s run_x run_a rest g has lx rx ra more =
      leads_where (λ (v : Value). P) at at1 end s g st st (run_x g) (λ v. goes_on most kind v again (gives nil')) lx rx
      (λ v g' p. subst (λ (run : Run Value). Leads at1 (v ∷ s) g' end st (run g')) (sym (goes_by kind v again (gives nil')))
      (jumps on (size a + 3) at1 end behind v s g' st (gives nil') again stand_test (leaves g') (stays p g')))
    where
      on : Bool
      on = leaves_on kind

      leave : Instruction
      leave = JumpIf on (size a + 3)

      back_by : ℕ
      back_by = size x + size_of leave + size a + 3

      behind : List Instruction
      behind = a ++ Pop ∷ JumpBack back_by ∷ PushConstant Nil ∷ []

      st : Value → List Value
      st = λ v. v ∷ s

      at1 : ℕ
      at1 = at + size x

      at_a : ℕ
      at_a = at1 + size_of leave

      at_pop : ℕ
      at_pop = at_a + size a

      end : ℕ
      end = at + size (repeat (leaves_on kind) x a)

      again : Run Value
      again = run_a >>= λ w. jump_back most rest

      sizes : end ≡ at_pop + 4
      sizes = omega (arith, size-append x (leave ∷ behind), size-append a (Pop ∷ JumpBack back_by ∷ PushConstant Nil ∷ []))

      stand_test : Stand at1 (leave ∷ behind)
      stand_test = back at x (leave ∷ behind) has

      stand_pop : Stand at_pop (Pop ∷ JumpBack back_by ∷ PushConstant Nil ∷ [])
      stand_pop = back at_a a (Pop ∷ JumpBack back_by ∷ PushConstant Nil ∷ []) stand_test.1

      leaves : (g' : Going) → Leads (at_a + (size a + 3)) s g' end st (went nil' g')
      leaves g' =
          let e : at_pop + 1 + 2 ≡ at_a + (size a + 3) = omega arith in
          let e' : at_a + (size a + 3) + 1 ≡ end = omega (arith, sizes) in
          let has' = subst (λ i. Stand i (PushConstant Nil ∷ [])) e stand_pop.1.1 in
          record { by = λ k. (suc k, act_at (at_a + (size a + 3)) (PushConstant Nil) s g' [] has' k ∙ ap (λ i. go k i (nil' ∷ s) g') e') }

      -- the jump back
      by_test : (g2 : Going) (b : Bool) → ((k : ℕ) → go (suc k) (at_pop + 1) s g2 ≡ (if b then long else go k at s (record g2 { backs = g2.backs + 1 })))
          → Leads (at_pop + 1) s g2 end st (if b then long else rest (record g2 { backs = g2.backs + 1 }))
      by_test g2 true h = (1, h 0)
      by_test g2 false h =
          leads.comes_leads most literals bytes (at_pop + 1) at end s s g2 (record g2 { backs = g2.backs + 1 }) st (rest (record g2 { backs = g2.backs + 1 })) (record { by = λ k. (suc k, h k) }) (more (record g2 { backs = g2.backs + 1 }))

      turns_back : (g2 : Going) → Leads (at_pop + 1) s g2 end st (jump_back most rest g2)
      turns_back g2 =
          let start_again : at_pop + 1 + 2 - back_by ≡ at = omega arith in
          by_test g2 (g2.backs == most) (λ k. act_at (at_pop + 1) (JumpBack back_by) s g2 (PushConstant Nil ∷ []) stand_pop.1 k ∙ ap (λ i. jump_back most (go k i s) g2) start_again)

      stays : P → (g' : Going) → Leads at_a s g' end st (again g')
      stays p g' =
          then_leads at_a at_pop end s g' st st (run_a g') (λ w. jump_back most rest) (ra p at_a g' (front at_a a (Pop ∷ JumpBack back_by ∷ PushConstant Nil ∷ []) stand_test.1))
          (λ w g2. leads.comes_leads most literals bytes at_pop (at_pop + 1) end (w ∷ s) s g2 g2 st (jump_back most rest g2) (record { by = λ k. (suc k, act_at at_pop Pop (w ∷ s) g2 (JumpBack back_by ∷ PushConstant Nil ∷ []) stand_pop k) }) (turns_back g2))

  turns_lead : (P : Type 0) (kind : Loop) (x a : List Instruction) (at : ℕ) (s : List Value) (run_x run_a : Run Value) → Stand at (repeat (leaves_on kind) x a)
      → ((g : Going) → Always (λ (v : Value). P) (run_x g)) → ((g : Going) → Leads at s g (at + size x) (λ (v : Value). v ∷ s) (run_x g))
      → (P → (at1 : ℕ) (g : Going) → Stand at1 a → Leads at1 s g (at1 + size a) (λ (v : Value). v ∷ s) (run_a g))
      → (n : ℕ) (g : Going) → Leads at s g (at + size (repeat (leaves_on kind) x a)) (λ (v : Value). v ∷ s) (turns most n kind run_x run_a g)
  turns_lead P kind x a at s run_x run_a has lx rx ra zero g = tt
  turns_lead P kind x a at s run_x run_a has lx rx ra (suc n) g =
      turn_leads P kind x a at s run_x run_a (turns most n kind run_x run_a) g has (lx g) (rx g) ra (λ g3. turns_lead P kind x a at s run_x run_a has lx rx ra n g3)

  -- RETURNS

  pub constant_returns : (k : Constant) {A : Type 0} (at at' : ℕ) (s : List Value) (g : Going) (st : A → List Value) → Stand at (return_constant k) → Leads at s g at' st (return_value most {A = A} (constant_value k) g)
  constant_returns Receiver at at' s g st has = returns_leads at at' (ReturnConstant Receiver) [] s g st (constant_value Receiver) has (λ k. refl)
  constant_returns True at at' s g st has = returns_leads at at' (ReturnConstant True) [] s g st (constant_value True) has (λ k. refl)
  constant_returns False at at' s g st has = returns_leads at at' (ReturnConstant False) [] s g st (constant_value False) has (λ k. refl)
  constant_returns Nil at at' s g st has = returns_leads at at' (ReturnConstant Nil) [] s g st (constant_value Nil) has (λ k. refl)
  constant_returns Context at at' s g st has =
      leads.comes_leads most literals bytes at (at + 1) at' s (constant_value Context ∷ s) g g st _ (record { by = λ k. (suc k, act_at at (PushConstant Context) s g (ReturnTop ∷ []) has k) })
      (returns_leads (at + 1) at' ReturnTop [] (constant_value Context ∷ s) g st (constant_value Context) has.1 (λ k. refl))

  -- the value of a node that is no constant, returned
  value_returns : {A : Type 0} (code : List Instruction) (at at' : ℕ) (s : List Value) (g : Going) (st : A → List Value) (o : Outcome Value) → Stand at (code ++ ReturnTop ∷ [])
      → (Stand at code → Leads at s g (at + size code) (λ v. v ∷ s) o) → Leads at s g at' st (then_go o (λ v. return_value most {A = A} v))
  value_returns code at at' s g st o has run =
      then_leads at (at + size code) at' s g (λ v. v ∷ s) st o (λ v. return_value most v) (run (front at code (ReturnTop ∷ []) has))
      (λ v g'. returns_leads (at + size code) at' ReturnTop [] (v ∷ s) g' st v (back at code (ReturnTop ∷ []) has) (λ k. refl))

  pub node_returns : {A : Type 0} (n : Node) (m at at' : ℕ) (s : List Value) (g : Going) (st : A → List Value) → Stand at (return_code n (code_of for_value n))
      → (Stand at (code_of for_value n) → Leads at s g (at + size (code_of for_value n)) (λ v. v ∷ s) (value_of most n m g))
      → Leads at s g at' st (then_go (value_of most n m g) (λ v. return_value most {A = A} v))
  node_returns (constant k) m at at' s g st has run = constant_returns k at at' s g st has
  node_returns (small k) m at at' s g st has run = value_returns (code_of for_value (small k)) at at' s g st (value_of most (small k) m g) has run
  node_returns (literal x place) m at at' s g st has run = value_returns (code_of for_value (literal x place)) at at' s g st (value_of most (literal x place) m g) has run
  node_returns (variable q) m at at' s g st has run = value_returns (code_of for_value (variable q)) at at' s g st (value_of most (variable q) m g) has run
  node_returns (assign q x) m at at' s g st has run = value_returns (code_of for_value (assign q x)) at at' s g st (value_of most (assign q x) m g) has run
  node_returns (block f i x b) m at at' s g st has run = value_returns (code_of for_value (block f i x b)) at at' s g st (value_of most (block f i x b) m g) has run
  node_returns (send above r ms) m at at' s g st has run = value_returns (code_of for_value (send above r ms)) at at' s g st (value_of most (send above r ms) m g) has run
  node_returns (one_sided side x a) m at at' s g st has run = value_returns (code_of for_value (one_sided side x a)) at at' s g st (value_of most (one_sided side x a) m g) has run
  node_returns (two_sided side x a b) m at at' s g st has run = value_returns (code_of for_value (two_sided side x a b)) at at' s g st (value_of most (two_sided side x a b) m g) has run
  node_returns (loop kind x a) m at at' s g st has run = value_returns (code_of for_value (loop kind x a)) at at' s g st (value_of most (loop kind x a) m g) has run

  -- NODES

  mutual
    pub node_leads : (n : Node) (u : Use) (m at : ℕ) (s : List Value) (g : Going) → Placed literals n → Few n → Stand at (code_of u n)
        → Leads at s g (at + size (code_of u n)) (left_by u s) (value_of most n m g)
    node_leads (constant k) u m at s g p few has = used_leads u at (PushConstant k ∷ []) s g (went (constant_value k) g) has (λ h. pushes at (PushConstant k) [] s g (constant_value k) h (λ j. refl))
    node_leads (small k) u m at s g p few has =
        used_leads u at (PushNumber k ∷ []) s g (went (small_value k) g) has (λ h. pushes at (PushNumber k) [] s g (small_value k) h (λ j. refl))
    node_leads (literal x place) u m at s g p few has =
        used_leads u at (Push (Literal place) ∷ []) s g (went (literal_value x place) g) has
        (λ h. pushes at (Push (Literal place)) [] s g (literal_value x place) h (λ j. literal_pushed x place (go j) (at + size_of (Push (Literal place))) s g p))
    node_leads (variable q) u m at s g p few has =
        used_leads u at (Push q ∷ []) s g (went (g.held (variable_of q)) g) has (λ h. pushes at (Push q) [] s g (g.held (variable_of q)) h (λ j. reads q p (go j) (at + size_of (Push q)) s g))
    node_leads (assign q x) u m at s g p few has =
        let c = code_of for_value x in
        let e : at + size c + size_of (stored u q) ≡ at + size (c ++ stored u q ∷ []) = omega (arith, size-append c (stored u q ∷ [])) in
        at_end _ _ _ s g (left_by u s) (value_of most (assign q x) m g) e
        (then_leads at (at + size c) _ s g (λ v. v ∷ s) (left_by u s) (value_of most x m g) (λ v. assign_to most (variable_of q) v) (node_leads x for_value m at s g p few (front at c _ has))
        (λ v g'. stores u q (at + size c) v s g' [] (back at c _ has)))
    node_leads (block f i x b) u m at s g p few has =
        used_leads u at (block_code (code_of for_value x) (pop_arguments f i ++ (body_code b ++ block_end (returns b)))) s g (make_block most g) has
        (λ h. block_leads x (pop_arguments f i ++ (body_code b ++ block_end (returns b))) at s g p.0 p.1 h)
    node_leads (send above r ms) u m at s g p few has =
        let c = code_of for_value r in
        used_leads u at (c ++ messages_code above ms) s g (value_of most (send above r ms) m g) has
        (λ h. let e : at + size c + size (messages_code above ms) ≡ at + size (c ++ messages_code above ms) = omega (arith, size-append c (messages_code above ms)) in
        at_end _ _ _ s g (λ (v : Value). v ∷ s) (value_of most (send above r ms) m g) e
        (leads_where (λ (v : Value). goes r ≡ true) at (at + size c) _ s g (λ v. v ∷ s) (λ (v : Value). v ∷ s) (value_of most r m g) (λ v. messages_value most ms above v m)
        (lives most literals r m g p.0) (node_leads r for_value m at s g p.0 few.0 (front at c _ h))
        (λ v g' alive. messages_lead ms above v m (at + size c) s g' p.1 (few.1 alive) (back at c _ h))))
    node_leads (one_sided side x a) u m at s g p few has =
        let c = code_of for_value x in
        let t = choice (passes_on side) [] (body_code a) (PushConstant (other_side side) ∷ []) in
        used_leads u at (c ++ t) s g (value_of most (one_sided side x a) m g) has
        (λ h. let e : at + size c + size t ≡ at + size (c ++ t) = omega (arith, size-append c t) in
        at_end _ _ _ s g (λ (v : Value). v ∷ s) (value_of most (one_sided side x a) m g) e
        (leads_where (λ (v : Value). goes x ≡ true) at (at + size c) _ s g (λ v. v ∷ s) (λ (v : Value). v ∷ s) (value_of most x m g) (λ v. sided most side v (body_value most a m))
        (lives most literals x m g p.0) (node_leads x for_value m at s g p.0 few.0 (front at c t h))
        (λ v g' alive. side_leads side (body_code a) (at + size c) v s g' (body_value most a m) (back at c t h) (λ at1 h1. body_leads a m at1 s g' p.1 (few.1 alive) h1))))
    node_leads (two_sided TrueFirst x a b) u m at s g p few has =
        let c = code_of for_value x in
        let t = choice false [] (body_code a) (body_code b) in
        used_leads u at (c ++ t) s g (value_of most (two_sided TrueFirst x a b) m g) has
        (λ h. let e : at + size c + size t ≡ at + size (c ++ t) = omega (arith, size-append c t) in
        at_end _ _ _ s g (λ (v : Value). v ∷ s) (value_of most (two_sided TrueFirst x a b) m g) e
        (leads_where (λ (v : Value). goes x ≡ true) at (at + size c) _ s g (λ v. v ∷ s) (λ (v : Value). v ∷ s) (value_of most x m g) (λ v. traces.chosen most TrueFirst v (body_value most a m) (body_value most b m))
        (lives most literals x m g p.0) (node_leads x for_value m at s g p.0 few.0 (front at c t h))
        (λ v g' alive. two_leads TrueFirst (body_code a) (body_code b) (at + size c) v s g' (body_value most a m) (body_value most b m) (back at c t h)
        (λ at1 h1. body_leads a m at1 s g' p.1 (few.1 alive).0 h1) (λ at1 h1. body_leads b m at1 s g' p.2 (few.1 alive).1 h1))))
    node_leads (two_sided FalseFirst x a b) u m at s g p few has =
        let c = code_of for_value x in
        let t = choice false [] (body_code b) (body_code a) in
        used_leads u at (c ++ t) s g (value_of most (two_sided FalseFirst x a b) m g) has
        (λ h. let e : at + size c + size t ≡ at + size (c ++ t) = omega (arith, size-append c t) in
        at_end _ _ _ s g (λ (v : Value). v ∷ s) (value_of most (two_sided FalseFirst x a b) m g) e
        (leads_where (λ (v : Value). goes x ≡ true) at (at + size c) _ s g (λ v. v ∷ s) (λ (v : Value). v ∷ s) (value_of most x m g) (λ v. traces.chosen most FalseFirst v (body_value most a m) (body_value most b m))
        (lives most literals x m g p.0) (node_leads x for_value m at s g p.0 few.0 (front at c t h))
        (λ v g' alive. two_leads FalseFirst (body_code a) (body_code b) (at + size c) v s g' (body_value most a m) (body_value most b m) (back at c t h)
        (λ at1 h1. body_leads a m at1 s g' p.1 (few.1 alive).0 h1) (λ at1 h1. body_leads b m at1 s g' p.2 (few.1 alive).1 h1))))
    node_leads (loop kind x a) u m at s g p few has =
        used_leads u at (repeat (leaves_on kind) (body_code x) (body_code a)) s g (value_of most (loop kind x a) m g) has
        (λ h. turns_lead (body_goes x ≡ true) kind (body_code x) (body_code a) at s (body_value most x m) (body_value most a m) h (λ g'. body_lives most literals x m g' p.0)
        (λ g'. body_leads x m at s g' p.0 few.0 (front at (body_code x) _ h)) (λ alive at1 g' h1. body_leads a m at1 s g' p.1 (few.1 alive) h1) m g)

    pub body_leads : (b : Body) (m at : ℕ) (s : List Value) (g : Going) → BodyPlaced literals b → BodyFew b → Stand at (body_code b)
        → Leads at s g (at + size (body_code b)) (λ (v : Value). v ∷ s) (body_value most b m g)
    body_leads nothing m at s g p few has = pushes at (PushConstant Nil) [] s g nil' has (λ j. refl)
    body_leads (last n) m at s g p few has = node_leads n for_value m at s g p few has
    body_leads (next n b) m at s g p few has =
        let c = code_of for_effect n in
        let e : at + size c + size (body_code b) ≡ at + size (c ++ body_code b) = omega (arith, size-append c (body_code b)) in
        at_end _ _ _ s g (λ (v : Value). v ∷ s) (body_value most (next n b) m g) e
        (leads_where (λ (v : Value). goes n ≡ true) at (at + size c) _ s g (λ (v : Value). s) (λ (v : Value). v ∷ s) (value_of most n m g) (λ v. body_value most b m)
        (lives most literals n m g p.0) (node_leads n for_effect m at s g p.0 few.0 (front at c _ has))
        (λ v g' alive. body_leads b m (at + size c) s g' p.1 (few.1 alive) (back at c _ has)))
    body_leads (returned n) m at s g p few has = node_returns n m at _ s g (λ (v : Value). v ∷ s) has (λ h. node_leads n for_value m at s g p few h)

    pub messages_lead : (ms : Messages) (above : Bool) (r : Value) (m at : ℕ) (s : List Value) (g : Going) → MessagesPlaced literals above ms → MessagesFew ms → Stand at (messages_code above ms)
        → Leads at (r ∷ s) g (at + size (messages_code above ms)) (λ (v : Value). v ∷ s) (messages_value most ms above r m g)
    messages_lead (only t ns) above r m at s g p few has =
        let c = nodes_code ns in
        let x = send_step above t.by (count ns) in
        let e : at + size c + size_of x ≡ at + size (c ++ x ∷ []) = omega (arith, size-append c (x ∷ [])) in
        at_end _ _ _ (r ∷ s) g (λ (v : Value). v ∷ s) (messages_value most (only t ns) above r m g) e
        (leads_where (λ (vs : List Value). (length vs ≡ count ns) × (nodes_go ns ≡ true)) at (at + size c) _ (r ∷ s) g (λ vs. vs ++ r ∷ s) (λ (v : Value). v ∷ s) (nodes_values most ns [] m g) (λ vs. answer_to most r t.selector (in_order vs) above)
        (counted ns m g p.0) (nodes_lead ns [] m at (r ∷ s) g p.0 few.0 (front at c _ has))
        (λ vs g' h. send_leads above t.selector t.by (count ns) (at + size c) vs r s g' [] h.0 (few.1 h.1) (p.1.found, p.1.many) (back at c _ has)))
    messages_lead (also t ns ms) above r m at s g p few has =
        let c = nodes_code ns in
        let x = send_step above t.by (count ns) in
        let tail = messages_code above ms in
        let rest = x ∷ Pop ∷ tail in
        let at1 = at + 1 in
        let at2 = at1 + size c + size_of x in
        let inner = λ (vs : List Value). answer_to most r t.selector (in_order vs) above in
        let e : at2 + 1 + size tail ≡ at + size (Duplicate ∷ (c ++ rest)) = omega (arith, size-append c rest) in
        at_end _ _ _ (r ∷ s) g (λ (v : Value). v ∷ s) (messages_value most (also t ns ms) above r m g) e
        (leads.comes_leads most literals bytes at at1 (at2 + 1 + size tail) (r ∷ s) (r ∷ r ∷ s) g g (λ (v : Value). v ∷ s) (messages_value most (also t ns ms) above r m g)
        (record { by = λ k. (suc k, act_at at Duplicate (r ∷ s) g (c ++ rest) has k) })
        (leads_where (λ (v : Value). nodes_go ns ≡ true) at1 at2 (at2 + 1 + size tail) (r ∷ r ∷ s) g (λ v. v ∷ r ∷ s) (λ (v : Value). v ∷ s) (then_go (nodes_values most ns [] m g) inner) (λ v. messages_value most ms above r m)
        (onward_then (nodes_go ns ≡ true) (nodes_go ns ≡ true) (nodes_values most ns [] m g) inner (nodes_live most literals ns [] m g p.0) (λ vs g1 h. onward (nodes_go ns ≡ true) (inner vs g1) h))
        (leads_where (λ (vs : List Value). (length vs ≡ count ns) × (nodes_go ns ≡ true)) at1 (at1 + size c) at2 (r ∷ r ∷ s) g (λ vs. vs ++ r ∷ r ∷ s) (λ (v : Value). v ∷ r ∷ s) (nodes_values most ns [] m g) inner
        (counted ns m g p.0) (nodes_lead ns [] m at1 (r ∷ r ∷ s) g p.0 few.0 (front at1 c rest has.1))
        (λ vs g' h. send_leads above t.selector t.by (count ns) (at1 + size c) vs r (r ∷ s) g' (Pop ∷ tail) h.0 (few.1 h.1).0 (p.1.found, p.1.many) (back at1 c rest has.1)))
        (λ v g' alive. leads.comes_leads most literals bytes at2 (at2 + 1) (at2 + 1 + size tail) (v ∷ r ∷ s) (r ∷ s) g' g' (λ (w : Value). w ∷ s) (messages_value most ms above r m g')
        (record { by = λ k. (suc k, act_at at2 Pop (v ∷ r ∷ s) g' tail (back at1 c rest has.1).1 k) })
        (messages_lead ms above r m (at2 + 1) s g' p.2 (few.1 alive).1 (back at1 c rest has.1).1.1))))

    pub nodes_lead : (ns : Nodes) (vs : List Value) (m at : ℕ) (s : List Value) (g : Going) → NodesPlaced literals ns → NodesFew ns → Stand at (nodes_code ns)
        → Leads at (vs ++ s) g (at + size (nodes_code ns)) (λ (ws : List Value). ws ++ s) (nodes_values most ns vs m g)
    nodes_lead none vs m at s g p few has = record { by = λ k. let e : at ≡ at + 0 = omega arith in (k, ap (λ i. go k i (vs ++ s) g) e) }
    nodes_lead (node x xs) vs m at s g p few has =
        let c = code_of for_value x in
        let e : at + size c + size (nodes_code xs) ≡ at + size (c ++ nodes_code xs) = omega (arith, size-append c (nodes_code xs)) in
        at_end _ _ _ (vs ++ s) g (λ (ws : List Value). ws ++ s) (nodes_values most (node x xs) vs m g) e
        (leads_where (λ (v : Value). goes x ≡ true) at (at + size c) _ (vs ++ s) g (λ v. v ∷ (vs ++ s)) (λ (ws : List Value). ws ++ s) (value_of most x m g) (λ v. nodes_values most xs (v ∷ vs) m)
        (lives most literals x m g p.0) (node_leads x for_value m at (vs ++ s) g p.0 few.0 (front at c _ has))
        (λ v g' alive. nodes_lead xs (v ∷ vs) m (at + size c) s g' p.1 (few.1 alive) (back at c _ has)))
