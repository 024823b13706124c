-- Each row of the machine does what a walk's code says: what it pushes, stores, passes, sends and returns.
use Rattle.std.proofs.Common.{◌≡◌, ◌≢◌, ◌⊎◌, inl, inr, ℕ, zero, suc, ◌+◌, ◌<◌, ◌≤◌, List, [], ◌∷◌, Option, Some, refl, sym, ap, ◌∙◌, subst, arith}
use Rattle.std.specs.Prelude.{◌-◌, ℤ, pos, ◌+ℤ◌, ◌-ℤ◌, option_map}
use Rattle.st_model.specs.declared.bytecode.Operand.{Operand}
use Rattle.st_model.specs.declared.bytecode.Operand.TheVariants.{ReceiverVariable, TemporaryVariable, LiteralConstant, LiteralVariable}
use Rattle.st_model.specs.declared.bytecode.Constant.{Constant as Pushed_constant}
use Rattle.st_model.specs.declared.bytecode.Constant.TheVariants as constant
use Rattle.st_model.specs.declared.page.PageObject.TheVariants.{TrueObject, FalseObject, NilObject}
use Rattle.st_model.specs.Values.{Value, Small, Ref}
use Rattle.st_model.specs.Machine.{ObjectMemory, State, Transition, Went, Step, answer, die, ◌>>=◌}
use Rattle.st_model.specs.Steps.{of_page, push, top, jump}
use Rattle.st_model.specs.Outcomes.{Outcome}
use Rattle.st_model.specs.Outcomes as outcome
use Rattle.st_model.specs.Executing.{goes_on}
use Rattle.st_model.specs.Bytecodes.{fetch_receiver_variable, fetch_temporary_variable, fetch_literal_constant, fetch_literal_variable, fetch_operand, store_receiver_variable, store_temporary_variable, store_literal_variable, store_operand, push_operand, store_and_pop, push_receiver, constant_value, push_constant, pop_stack, duplicate_top, push_active_context}
use Rattle.st_emit.specs.declared.instruction.Constant.TheVariants.{Receiver, Context}
use Rattle.st_emit.specs.declared.instruction.InstructionOperand.{InstructionOperand}
use Rattle.st_emit.specs.declared.instruction.InstructionOperand.TheVariants.{Field, Temporary, Literal, Shared}
use Rattle.st_emit.specs.declared.instruction.Instruction.{Instruction as Code}
use Rattle.st_emit.specs.declared.instruction.Instruction.TheVariants.{Push, PushConstant, Store, PopStore, Pop, Duplicate}
use Rattle.st_resolved.specs.Instructions.{place_of, pushed_constant}
use Rattle.st_meaning.specs.inside.Codes.{Walked, went, stored, ahead, aback, on_top, on_some, walk_code}
use Rattle.st_meaning.specs.inside.Machines.{KeepsOthers, literal_in, object_in, field_at, literal_at, value_at, variable_at, values_in, words_from, stack_in, IsApart, IsWalked, IsOwn, Keeps, KeepsBut, GoesOn, Shows}
use Rattle.st_meaning.proofs.Inverting.{split, split_next, Reads, read_then, answered, receiver_reads, home_reads, method_reads, active_reads, receiver_is, home_is, method_is, active_is, field_reads, field_is, literal_reads, literal_is, top_reads, top_is, pop_is, push_is, store_is, jump_is, then_reads, Stored, Topped}
use Rattle.st_meaning.proofs.Standing.{field_same, field_else, field_other, field_apart, literal_kept, words_kept, pushed_words, popped_words}

some_same : {A : Type 0} (a b : A) → Some a ≡ Some b → a ≡ b
some_same a b e = cc

field_same_number : (a b : ℕ) → Field a ≡ Field b → a ≡ b
field_same_number a b e = cc

module _ {H : Type 0} (m : ObjectMemory H) (laws : KeepsOthers m) (k b : ℕ) where
  -- what doesn't depend on the code
  pub record Frame (u : State H) : Type 0 where
    pub no_home : u.registers.receiver ≢ u.registers.home
    pub no_active : u.registers.receiver ≢ u.registers.active
    pub home : u.registers.active ≡ u.registers.home → b ≡ k
    pub stack : 5 + b ≤ u.registers.sp

  pub frame_of : (u : State H) (c : Code) → IsWalked m u k b c → Frame u
  frame_of u c w = record { no_home = w.no_home; no_active = w.no_active; home = w.home; stack = w.stack }

  abbrev pub PushedIn : Value → State H → State H → Type 0
  PushedIn x u t = GoesOn m b (Some x ∷ stack_in m b u) u.registers.ip u t × Keeps m k u t

  -- a temporary lies below the stack
  below_stack : (u : State H) (n : ℕ) → Frame u → n < k → u.registers.home ≡ u.registers.active → 6 + n ≢ u.registers.sp + 1
  below_stack u n f l e q =
      let d : b ≡ k = f.home (sym e) in
      let s = f.stack in
      absurd (omega (arith, l, d, s, q))

  pushed_keeps : (u : State H) (g : H) (x : Value) → Frame u → Stored m u.memory g u.registers.active (u.registers.sp + 1) x
      → (r : ℕ) → Keeps m k u (record u { memory = g; registers = record u.registers { sp = r } })
  pushed_keeps u g x f st r (Field n) own = field_other m laws u.memory g _ _ x st u.registers.receiver n f.no_active
  pushed_keeps u g x f st r (Temporary n) own = field_apart m laws u.memory g _ _ x st u.registers.home (6 + n) (below_stack u n f own)
  pushed_keeps u g x f st r (Literal n) own = absurd own
  pushed_keeps u g x f st r (Shared n) own = absurd own

  pushed_stack : (u : State H) (g : H) (x : Value) → Frame u → Stored m u.memory g u.registers.active (u.registers.sp + 1) x
      → words_from m g u.registers.active (u.registers.sp + 1) ((u.registers.sp + 1) - (5 + b)) ≡ Some x ∷ stack_in m b u
  pushed_stack u g x f st =
      pushed_words m laws g u.registers.active u.registers.sp b x f.stack (field_same m laws u.memory g _ _ x st)
      ∙ ap (λ ws. Some x ∷ ws) (words_kept m laws u.memory g _ _ x st u.registers.active u.registers.sp _ (λ e. inr (omega arith)))

  pub push_shows : (u t : State H) (x : Value) (y : Unit {0}) → Frame u → (push m x).run u ≡ Went y t → PushedIn x u t
  push_shows u t x y f q =
      let p = push_is m x u t y q in
      subst (PushedIn x u) (sym p.is) (
        record { active = refl; home = refl; method = refl; receiver = refl; stands = pushed_stack u p.memory x f p.stored; place = refl },
        pushed_keeps u p.memory x f p.stored (u.registers.sp + 1),
      )

  -- STORES

  abbrev StoredAt : InstructionOperand → Value → State H → State H → Type 0
  StoredAt p x u t = GoesOn m b (stack_in m b u) u.registers.ip u t × (variable_at m t p ≡ Some x) × KeepsBut m k p u t

  goes_with : (u : State H) (g : H) → words_from m g u.registers.active u.registers.sp (u.registers.sp - (5 + b)) ≡ stack_in m b u
      → GoesOn m b (stack_in m b u) u.registers.ip u (record u { memory = g })
  goes_with u g e = record { active = refl; home = refl; method = refl; receiver = refl; stands = e; place = refl }

  field_kept : (u : State H) (g : H) (n : ℕ) (x : Value) → Frame u → Stored m u.memory g u.registers.receiver n x
      → (p : InstructionOperand) → IsOwn m k p → p ≢ Field n → variable_at m (record u { memory = g }) p ≡ variable_at m u p
  field_kept u g n x f st (Field j) own d = field_else m laws u.memory g _ _ x st j (λ e. d (ap Field e))
  field_kept u g n x f st (Temporary j) own d = field_other m laws u.memory g _ _ x st u.registers.home (6 + j) (λ e. f.no_home (sym e))
  field_kept u g n x f st (Literal j) own d = absurd own
  field_kept u g n x f st (Shared j) own d = absurd own

  field_stored : (u : State H) (g : H) (n : ℕ) (x : Value) → Frame u → Stored m u.memory g u.registers.receiver n x → StoredAt (Field n) x u (record u { memory = g })
  field_stored u g n x f st = (
    goes_with u g (words_kept m laws u.memory g _ _ x st u.registers.active u.registers.sp _ (λ e. absurd (f.no_active (sym e)))),
    field_same m laws u.memory g _ _ x st,
    field_kept u g n x f st,
  )

  temporary_kept : (u : State H) (g : H) (n : ℕ) (x : Value) → Frame u → Stored m u.memory g u.registers.home (6 + n) x
      → (p : InstructionOperand) → IsOwn m k p → p ≢ Temporary n → variable_at m (record u { memory = g }) p ≡ variable_at m u p
  temporary_kept u g n x f st (Field j) own d = field_other m laws u.memory g _ _ x st u.registers.receiver j f.no_home
  temporary_kept u g n x f st (Temporary j) own d = field_else m laws u.memory g _ _ x st (6 + j) (λ e. d (ap Temporary (omega (arith, e))))
  temporary_kept u g n x f st (Literal j) own d = absurd own
  temporary_kept u g n x f st (Shared j) own d = absurd own

  under_stack : (u : State H) (n : ℕ) → Frame u → n < k → u.registers.active ≡ u.registers.home → 6 + n + (u.registers.sp - (5 + b)) ≤ u.registers.sp
  under_stack u n f l e =
      let d : b ≡ k = f.home e in
      let s = f.stack in
      omega (arith, l, d, s)

  temporary_stored : (u : State H) (g : H) (n : ℕ) (x : Value) → Frame u → n < k → Stored m u.memory g u.registers.home (6 + n) x → StoredAt (Temporary n) x u (record u { memory = g })
  temporary_stored u g n x f l st = (
    goes_with u g (words_kept m laws u.memory g _ _ x st u.registers.active u.registers.sp _ (λ e. inl (under_stack u n f l e))),
    field_same m laws u.memory g _ _ x st,
    temporary_kept u g n x f st,
  )

  -- the receiver, the home and the active context aren't this object
  record Apart (u : State H) (a : Value) : Type 0 where
    receiver : u.registers.receiver ≢ a
    home : u.registers.home ≢ a
    active : u.registers.active ≢ a

  apart_of : (u : State H) (a : Value) (v : Option Value) → v ≡ Some a → IsApart m u v → Apart u a
  apart_of u a v e d = record {
    receiver = λ q. d.0 (e ∙ ap Some (sym q));
    home = λ q. d.1 (e ∙ ap Some (sym q));
    active = λ q. d.2 (e ∙ ap Some (sym q));
  }

  shared_kept : (u : State H) (g : H) (n : ℕ) (a x : Value) → Apart u a → Stored m u.memory g a 1 x
      → (p : InstructionOperand) → IsOwn m k p → p ≢ Shared n → variable_at m (record u { memory = g }) p ≡ variable_at m u p
  shared_kept u g n a x d st (Field j) own e = field_other m laws u.memory g _ _ x st u.registers.receiver j d.receiver
  shared_kept u g n a x d st (Temporary j) own e = field_other m laws u.memory g _ _ x st u.registers.home (6 + j) d.home
  shared_kept u g n a x d st (Literal j) own e = absurd own
  shared_kept u g n a x d st (Shared j) own e = absurd own

  shared_stored : (u : State H) (g : H) (n : ℕ) (a x : Value) → literal_at m u n ≡ Some a → Apart u a → Stored m u.memory g a 1 x → StoredAt (Shared n) x u (record u { memory = g })
  shared_stored u g n a x e d st = (
    goes_with u g (words_kept m laws u.memory g _ _ x st u.registers.active u.registers.sp _ (λ q. absurd (d.active q))),
    ap (value_at m g) (literal_kept m laws u.memory g _ _ x st u.registers.method n ∙ e) ∙ field_same m laws u.memory g _ _ x st,
    shared_kept u g n a x d st,
  )

  -- what a store's code asks
  abbrev MayStore : State H → InstructionOperand → Type 0
  MayStore u (Temporary n) = n < k
  MayStore u (Shared n) = IsApart m u (literal_at m u n)
  MayStore u p = Unit {0}

  pub literal_then : (u : State H) (n : ℕ) → Reads (fetch_literal_constant m n)
  unfolding fetch_literal_constant
  literal_then u n = then_reads _ _ method_reads (λ v. literal_reads m v n)

  pub literal_fetched : (n : ℕ) (u w : State H) (a : Value) → (fetch_literal_constant m n).run u ≡ Went a w → literal_at m u n ≡ Some a
  unfolding fetch_literal_constant
  literal_fetched n u w a q =
      let p = read_then _ _ u w a method_reads q in
      subst (λ v. literal_in (object_in m u.memory v) n ≡ Some a) (method_is u u p.mid p.first) (literal_is m p.mid n u w a p.rest)

  store_shows : (o : Operand) (u t : State H) (x : Value) (y : Unit {0}) → Frame u → MayStore u (place_of o) → (store_operand m o x).run u ≡ Went y t → StoredAt (place_of o) x u t
  unfolding store_operand store_receiver_variable store_temporary_variable store_literal_variable die
  store_shows (ReceiverVariable n) u t x y f may q =
      let p = read_then _ _ u t y receiver_reads q in
      let c = store_is m p.mid n x u t y p.rest in
      let e : p.mid ≡ u.registers.receiver = receiver_is u u p.mid p.first in
      subst (StoredAt (Field n) x u) (sym c.is) (field_stored u c.memory n x f (subst (λ v. Stored m u.memory c.memory v n x) e c.stored))
  store_shows (TemporaryVariable n) u t x y f may q =
      let p = read_then _ _ u t y home_reads q in
      let c = store_is m p.mid (6 + n) x u t y p.rest in
      let e : p.mid ≡ u.registers.home = home_is u u p.mid p.first in
      subst (StoredAt (Temporary n) x u) (sym c.is) (temporary_stored u c.memory n x f may (subst (λ v. Stored m u.memory c.memory v (6 + n) x) e c.stored))
  store_shows (LiteralConstant n) u t x y f may q = cc
  store_shows (LiteralVariable n) u t x y f may q =
      let p = read_then _ _ u t y (literal_then u n) q in
      let c = store_is m p.mid 1 x u t y p.rest in
      let e : literal_at m u n ≡ Some p.mid = literal_fetched n u u p.mid p.first in
      subst (StoredAt (Shared n) x u) (sym c.is) (shared_stored u c.memory n p.mid x e (apart_of u p.mid (literal_at m u n) e may) c.stored)

  -- ROWS

  -- what a row shows that takes u to o
  abbrev pub RowShows : Step H Outcome → Code → State H → Type 0
  RowShows n c u = (t : State H) (o : Transition (State H) Outcome) (z : Outcome) → IsWalked m u k b c → o ≡ n.run u → o ≡ Went z t
      → Shows m k b c (walk_code (values_in m u) c (stack_in m b u)) u t o

  pub record Done (n : Step H Unit) (u t : State H) : Type 0 where
    pub unit : Unit {0}
    pub run : n.run u ≡ Went unit t

  pub done_of : (n : Step H Unit) (u t : State H) (o : Transition (State H) Outcome) (z : Outcome) → o ≡ (goes_on n).run u → o ≡ Went z t → Done n u t
  unfolding goes_on
  done_of n u t o z e q =
      let p = split_next n (answer outcome.Went) u t z (sym e ∙ q) in
      let a = answered outcome.Went z p.state t p.rest in
      record { unit = p.mid; run = subst (λ w. n.run u ≡ Went p.mid w) a.1 p.first }

  -- pushes

  fetched : (o : Operand) (u w : State H) (x : Value) → (fetch_operand m o).run u ≡ Went x w → (variable_at m u (place_of o) ≡ Some x) × (w ≡ u)
  unfolding fetch_operand fetch_receiver_variable fetch_temporary_variable fetch_literal_variable
  fetched (ReceiverVariable n) u w x q =
      let p = read_then _ _ u w x receiver_reads q in
      (subst (λ v. field_at m u.memory v n ≡ Some x) (receiver_is u u p.mid p.first) (field_is m p.mid n u w x p.rest), field_reads m p.mid n u w x p.rest)
  fetched (TemporaryVariable n) u w x q =
      let p = read_then _ _ u w x home_reads q in
      (subst (λ v. field_at m u.memory v (6 + n) ≡ Some x) (home_is u u p.mid p.first) (field_is m p.mid (6 + n) u w x p.rest), field_reads m p.mid (6 + n) u w x p.rest)
  fetched (LiteralConstant n) u w x q = (literal_fetched n u w x q, literal_then u n u w x q)
  fetched (LiteralVariable n) u w x q =
      let p = read_then _ _ u w x (literal_then u n) q in
      (ap (value_at m u.memory) (literal_fetched n u u p.mid p.first) ∙ field_is m p.mid 1 u w x p.rest, field_reads m p.mid 1 u w x p.rest)

  record Pushes (o : Operand) (u t : State H) : Type 0 where
    value : Value
    stands : variable_at m u (place_of o) ≡ Some value
    pushed : PushedIn value u t

  pushes : (o : Operand) (u t : State H) (y : Unit {0}) → Frame u → (push_operand m o).run u ≡ Went y t → Pushes o u t
  unfolding push_operand
  pushes o u t y f q =
      let p = split _ _ u t y q in
      let e = fetched o u p.state p.mid p.first in
      record { value = p.mid; stands = e.0; pushed = push_shows u t p.mid y f (subst (λ w. (push m p.mid).run w ≡ Went y t) e.1 p.rest) }

  shown_push : (o : Operand) (u t : State H) (x : Value) (z : Transition (State H) Outcome) → variable_at m u (place_of o) ≡ Some x → PushedIn x u t
      → Shows m k b (Push (place_of o)) (walk_code (values_in m u) (Push (place_of o)) (stack_in m b u)) u t z
  shown_push (ReceiverVariable n) u t x z e p = subst (λ v. GoesOn m b (v ∷ stack_in m b u) u.registers.ip u t × Keeps m k u t) (sym e) p
  shown_push (TemporaryVariable n) u t x z e p = subst (λ v. GoesOn m b (v ∷ stack_in m b u) u.registers.ip u t × Keeps m k u t) (sym e) p
  shown_push (LiteralConstant n) u t x z e p =
      subst (λ l. Shows m k b (Push (Literal n)) (on_some (option_map Some l) (λ y. went (y ∷ stack_in m b u))) u t z) (sym e) p
  shown_push (LiteralVariable n) u t x z e p = subst (λ v. GoesOn m b (v ∷ stack_in m b u) u.registers.ip u t × Keeps m k u t) (sym e) p

  pub push_row : (o : Operand) (u : State H) → RowShows (goes_on (push_operand m o)) (Push (place_of o)) u
  push_row o u t z out w e q =
      let d = done_of (push_operand m o) u t z out e q in
      let p = pushes o u t d.unit (frame_of u (Push (place_of o)) w) d.run in
      shown_push o u t p.value z p.stands p.pushed

  pub receiver_row : (u : State H) → RowShows (goes_on (push_receiver m)) (PushConstant Receiver) u
  unfolding push_receiver
  receiver_row u t z out w e q =
      let d = done_of _ u t z out e q in
      let p = read_then _ _ u t d.unit receiver_reads d.run in
      subst (λ x. PushedIn x u t) (receiver_is u u p.mid p.first) (push_shows u t p.mid d.unit (frame_of u (PushConstant Receiver) w) p.rest)

  pub context_row : (u : State H) → RowShows (goes_on (push_active_context m)) (PushConstant Context) u
  unfolding push_active_context
  context_row u t z out w e q =
      let d = done_of _ u t z out e q in
      let p = read_then _ _ u t d.unit active_reads d.run in
      subst (λ x. PushedIn x u t) (active_is u u p.mid p.first) (push_shows u t p.mid d.unit (frame_of u (PushConstant Context) w) p.rest)

  -- the words of constants
  abbrev pub constant_word : Pushed_constant → State H → Value
  constant_word constant.True u = Ref (m.named u.memory TrueObject)
  constant_word constant.False u = Ref (m.named u.memory FalseObject)
  constant_word constant.Nil u = Ref (m.named u.memory NilObject)
  constant_word constant.MinusOne u = Small 32767
  constant_word constant.Zero u = Small 0
  constant_word constant.One u = Small 1
  constant_word constant.Two u = Small 2

  pub constant_got : (c : Pushed_constant) (u w : State H) (x : Value) → (constant_value m c).run u ≡ Went x w → (x ≡ constant_word c u) × (w ≡ u)
  unfolding constant_value of_page answer
  constant_got constant.True u w x q = let a : x ≡ Ref (m.named u.memory TrueObject) = cc in let s : w ≡ u = cc in (a, s)
  constant_got constant.False u w x q = let a : x ≡ Ref (m.named u.memory FalseObject) = cc in let s : w ≡ u = cc in (a, s)
  constant_got constant.Nil u w x q = let a : x ≡ constant_word constant.Nil u = cc in let s : w ≡ u = cc in (a, s)
  constant_got constant.MinusOne u w x q = let a : x ≡ Small 32767 = cc in let s : w ≡ u = cc in (a, s)
  constant_got constant.Zero u w x q = let a : x ≡ Small 0 = cc in let s : w ≡ u = cc in (a, s)
  constant_got constant.One u w x q = let a : x ≡ Small 1 = cc in let s : w ≡ u = cc in (a, s)
  constant_got constant.Two u w x q = let a : x ≡ Small 2 = cc in let s : w ≡ u = cc in (a, s)

  shown_constant : (c : Pushed_constant) (u t : State H) (z : Transition (State H) Outcome) → PushedIn (constant_word c u) u t
      → Shows m k b (pushed_constant c) (walk_code (values_in m u) (pushed_constant c) (stack_in m b u)) u t z
  shown_constant constant.True u t z p = p
  shown_constant constant.False u t z p = p
  shown_constant constant.Nil u t z p = p
  shown_constant constant.MinusOne u t z p = p
  shown_constant constant.Zero u t z p = p
  shown_constant constant.One u t z p = p
  shown_constant constant.Two u t z p = p

  pub constant_row : (c : Pushed_constant) (u : State H) → RowShows (goes_on (push_constant m c)) (pushed_constant c) u
  unfolding push_constant
  constant_row c u t z out w e q =
      let d = done_of _ u t z out e q in
      let p = split _ _ u t d.unit d.run in
      let g = constant_got c u p.state p.mid p.first in
      shown_constant c u t z
      (subst (λ x. PushedIn x u t) g.0 (push_shows u t p.mid d.unit (frame_of u (pushed_constant c) w) (subst (λ s. (push m p.mid).run s ≡ Went d.unit t) g.1 p.rest)))

  -- the top of the stack

  pub top_on : (u : State H) (x : Value) → Frame u → 5 + b < u.registers.sp → Topped m u x → stack_in m b u ≡ Some x ∷ stack_in m b (record u { registers = record u.registers { sp = u.registers.sp - 1 } })
  top_on u x f l p = popped_words m laws u.memory u.registers.active u.registers.sp b x l p.stands

  -- no word is on the stack
  pub empty_on : (u : State H) → Frame u → u.registers.sp ≤ 5 + b → stack_in m b u ≡ []
  empty_on u f l =
      let n : u.registers.sp - (5 + b) ≡ 0 = omega (arith, l) in
      ap (words_from m u.memory u.registers.active u.registers.sp) n

  below_or_not : (a c : ℕ) → (a < c) ⊎ (c ≤ a)
  below_or_not zero zero = inr (omega arith)
  below_or_not zero (suc c) = inl (omega arith)
  below_or_not (suc a) zero = inr (omega arith)
  below_or_not (suc a) (suc c) = elim (below_or_not a c) [
    | inl l ↦ inl (omega (arith, l))
    | inr l ↦ inr (omega (arith, l))
  ]

  -- what a code shows that takes the top: nothing where the stack is empty
  pub by_top : (u t : State H) (z : Transition (State H) Outcome) (c : Code) (x : Value) (g : Option Value → List (Option Value) → Walked InstructionOperand (Option Value)) → Frame u → Topped m u x
      → (5 + b < u.registers.sp → Shows m k b c (g (Some x) (stack_in m b (record u { registers = record u.registers { sp = u.registers.sp - 1 } }))) u t z)
      → Shows m k b c (on_top (stack_in m b u) g) u t z
  by_top u t z c x g f p shows = elim (below_or_not (5 + b) u.registers.sp) [
    | inl l ↦ subst (λ s. Shows m k b c (on_top s g) u t z) (sym (top_on u x f l p)) (shows l)
    | inr l ↦ subst (λ s. Shows m k b c (on_top s g) u t z) (sym (empty_on u f l)) tt
  ]

  -- stores

  abbrev pub lowered : State H → State H
  lowered u = record u { registers = record u.registers { sp = u.registers.sp - 1 } }

  lowered_frame : (u : State H) → Frame u → 5 + b < u.registers.sp → Frame (lowered u)
  lowered_frame u f l = record { no_home = f.no_home; no_active = f.no_active; home = f.home; stack = omega (arith, l) }

  may_pop_store : (u : State H) (o : Operand) → IsWalked m u k b (PopStore (place_of o)) → MayStore u (place_of o)
  may_pop_store u (ReceiverVariable n) w = tt
  may_pop_store u (TemporaryVariable n) w = w.names
  may_pop_store u (LiteralConstant n) w = tt
  may_pop_store u (LiteralVariable n) w = w.apart

  may_store : (u : State H) (o : Operand) → IsWalked m u k b (Store (place_of o)) → MayStore u (place_of o)
  may_store u (ReceiverVariable n) w = tt
  may_store u (TemporaryVariable n) w = w.names
  may_store u (LiteralConstant n) w = tt
  may_store u (LiteralVariable n) w = w.apart

  may_lowered : (u : State H) (p : InstructionOperand) → MayStore u p → MayStore (lowered u) p
  may_lowered u (Field n) y = tt
  may_lowered u (Temporary n) y = y
  may_lowered u (Literal n) y = tt
  may_lowered u (Shared n) y = y

  -- what is shown of the state without its top is shown of the state with it
  kept_lowered : (u t : State H) (q : InstructionOperand) → KeepsBut m k q (lowered u) t → KeepsBut m k q u t
  kept_lowered u t q h (Field n) own d = h (Field n) own d
  kept_lowered u t q h (Temporary n) own d = h (Temporary n) own d
  kept_lowered u t q h (Literal n) own d = absurd own
  kept_lowered u t q h (Shared n) own d = absurd own

  stored_lowered : (u t : State H) (p : InstructionOperand) (x : Value) (c : Code) (z : Transition (State H) Outcome) → StoredAt p x (lowered u) t
      → Shows m k b c (stored p (Some x) (stack_in m b (lowered u))) u t z
  stored_lowered u t p x c z h =
      (record { active = h.0.active; home = h.0.home; method = h.0.method; receiver = h.0.receiver; stands = h.0.stands; place = h.0.place }, h.1, kept_lowered u t p h.2)

  pub pop_store_row : (o : Operand) (u : State H) → RowShows (goes_on (store_and_pop m o)) (PopStore (place_of o)) u
  unfolding store_and_pop
  pop_store_row o u t z out w e q =
      let f = frame_of u (PopStore (place_of o)) w in
      let d = done_of _ u t z out e q in
      let p = split _ _ u t d.unit d.run in
      let r = pop_is m u p.state p.mid p.first in
      by_top u t z (PopStore (place_of o)) p.mid (λ x rest. stored (place_of o) x rest) f r.top (λ l.
      stored_lowered u t (place_of o) p.mid (PopStore (place_of o)) z
      (store_shows o (lowered u) t p.mid d.unit (lowered_frame u f l) (may_lowered u (place_of o) (may_pop_store u o w)) (subst (λ s. (store_operand m o p.mid).run s ≡ Went d.unit t) r.is p.rest)))

  -- the top stays
  abbrev pub store_top : Operand → Step H Unit
  store_top o = top m >>= (λ x. store_operand m o x)

  stored_shown : (u t : State H) (p : InstructionOperand) (x : Value) (z : Transition (State H) Outcome) → Frame u → Topped m u x → StoredAt p x u t
      → Shows m k b (Store p) (on_top (stack_in m b u) (λ y rest. stored p y (stack_in m b u))) u t z
  stored_shown u t p x z f top h = elim (below_or_not (5 + b) u.registers.sp) [
    | inl l ↦ subst (λ (s : List (Option Value)). Shows m k b (Store p) (on_top s (λ y rest. stored p y (stack_in m b u))) u t z) (sym (top_on u x f l top)) h
    | inr l ↦ subst (λ (s : List (Option Value)). Shows m k b (Store p) (on_top s (λ y rest. stored p y (stack_in m b u))) u t z) (sym (empty_on u f l)) tt
  ]

  pub store_row : (o : Operand) (u : State H) → RowShows (goes_on (store_top o)) (Store (place_of o)) u
  store_row o u t z out w e q =
      let f = frame_of u (Store (place_of o)) w in
      let d = done_of _ u t z out e q in
      let p = read_then _ _ u t d.unit (top_reads m) d.run in
      stored_shown u t (place_of o) p.mid z f (top_is m u u p.mid p.first) (store_shows o u t p.mid d.unit f (may_store u o w) p.rest)

  -- the stack

  same_keeps : (u : State H) (r : ℕ) (i : ℤ) → Keeps m k u (record u { registers = record u.registers { sp = r; ip = i } })
  same_keeps u r i (Field n) own = refl
  same_keeps u r i (Temporary n) own = refl
  same_keeps u r i (Literal n) own = absurd own
  same_keeps u r i (Shared n) own = absurd own

  popped_shown : (u : State H) (z : Transition (State H) Outcome) (c : Code) → Shows m k b c (went (stack_in m b (lowered u))) u (lowered u) z
  popped_shown u z c = (record { active = refl; home = refl; method = refl; receiver = refl; stands = refl; place = refl }, same_keeps u (u.registers.sp - 1) u.registers.ip)

  pub pop_row : (u : State H) → RowShows (goes_on (pop_stack m)) Pop u
  unfolding pop_stack
  pop_row u t z out w e q =
      let f = frame_of u Pop w in
      let d = done_of _ u t z out e q in
      let p = split _ _ u t d.unit d.run in
      let r = pop_is m u p.state p.mid p.first in
      let a = answered tt d.unit p.state t p.rest in
      by_top u t z Pop p.mid (λ x rest. went rest) f r.top (λ l.
      subst (λ s. Shows m k b Pop (went (stack_in m b (lowered u))) u s z) (sym r.is ∙ a.1) (popped_shown u z Pop))

  duplicated_shown : (u t : State H) (x : Value) (z : Transition (State H) Outcome) → Frame u → Topped m u x → PushedIn x u t
      → Shows m k b Duplicate (on_top (stack_in m b u) (λ y rest. went (y ∷ stack_in m b u))) u t z
  duplicated_shown u t x z f top h = elim (below_or_not (5 + b) u.registers.sp) [
    | inl l ↦ subst (λ (s : List (Option Value)). Shows m k b Duplicate (on_top s (λ y rest. went (y ∷ stack_in m b u))) u t z) (sym (top_on u x f l top)) h
    | inr l ↦ subst (λ (s : List (Option Value)). Shows m k b Duplicate (on_top s (λ y rest. went (y ∷ stack_in m b u))) u t z) (sym (empty_on u f l)) tt
  ]

  pub duplicate_row : (u : State H) → RowShows (goes_on (duplicate_top m)) Duplicate u
  unfolding duplicate_top
  duplicate_row u t z out w e q =
      let f = frame_of u Duplicate w in
      let d = done_of _ u t z out e q in
      let p = read_then _ _ u t d.unit (top_reads m) d.run in
      duplicated_shown u t p.mid z f (top_is m u u p.mid p.first) (push_shows u t p.mid d.unit f p.rest)

  -- jumps

  pub jumped : (u : State H) (i : ℤ) (st : List (Option Value)) (r : ℕ) → words_from m u.memory u.registers.active r (r - (5 + b)) ≡ st
      → GoesOn m b st i u (record u { registers = record u.registers { sp = r; ip = i } }) × Keeps m k u (record u { registers = record u.registers { sp = r; ip = i } })
  jumped u i st r e = (record { active = refl; home = refl; method = refl; receiver = refl; stands = e; place = refl }, same_keeps u r i)

  pub ahead_row : (d : ℕ) (c : Code) (u : State H) → walk_code (values_in m u) c (stack_in m b u) ≡ ahead d (stack_in m b u) → RowShows (goes_on (jump (pos d))) c u
  ahead_row d c u is t z out w e q =
      let r = done_of _ u t z out e q in
      let j = jump_is m (pos d) u t r.unit r.run in
      subst (λ x. Shows m k b c x u t z) (sym is)
      (subst (λ s. GoesOn m b (stack_in m b u) (u.registers.ip +ℤ pos d) u s × Keeps m k u s) (sym j) (jumped u (u.registers.ip +ℤ pos d) (stack_in m b u) u.registers.sp refl))

  pub back_row : (d : ℕ) (i : ℤ) (c : Code) (u : State H) → u.registers.ip +ℤ i ≡ u.registers.ip -ℤ pos d → walk_code (values_in m u) c (stack_in m b u) ≡ aback d (stack_in m b u) → RowShows (goes_on (jump i)) c u
  back_row d i c u same is t z out w e q =
      let r = done_of _ u t z out e q in
      let j = jump_is m i u t r.unit r.run in
      subst (λ x. Shows m k b c x u t z) (sym is)
      (subst (λ s. GoesOn m b (stack_in m b u) (u.registers.ip -ℤ pos d) u s × Keeps m k u s) (sym j)
      (subst (λ y. GoesOn m b (stack_in m b u) y u (record u { registers = record u.registers { ip = u.registers.ip +ℤ i } }) × Keeps m k u (record u { registers = record u.registers { ip = u.registers.ip +ℤ i } })) same
      (jumped u (u.registers.ip +ℤ i) (stack_in m b u) u.registers.sp refl)))
