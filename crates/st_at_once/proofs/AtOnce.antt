-- What is done at once is the bytecode: it dies of the same cause, or goes on to the same state.
use Rattle.std.proofs.Common.{◌≡◌, ℕ, Bool, true, false, Option, Some, None, Result, Ok, Err, refl, sym, ap, ◌∙◌, subst}
use Rattle.std.proofs.lemmas.Int.{to_z-of_z}
use Rattle.std.specs.Prelude.{◌==◌, if◌then◌else◌, ℤ, pos, ◌+◌, ◌*◌}
use Rattle.st_model.specs.declared.dead.Dead.{Dead}
use Rattle.st_model.specs.declared.dead.Dead.TheVariants as dead
use Rattle.st_model.specs.declared.bytecode.Bytecode.{Bytecode}
use Rattle.st_model.specs.declared.bytecode.Bytecode.TheVariants as code
use Rattle.st_model.specs.declared.integers.IntAnswer.{IntAnswer}
use Rattle.st_model.specs.declared.integers.IntAnswer.TheVariants.{Number, Truth, Point}
use Rattle.st_model.specs.Values.{Value, Small, Ref, is_small, integer, integer_of}
use Rattle.st_model.specs.Integers.{binary}
use Rattle.st_model.specs.declared.page.PageObject.{PageObject}
use Rattle.st_model.specs.declared.page.PageObject.TheVariants.{FalseObject, TrueObject}
use Rattle.st_model.specs.Outcomes.{Outcome}
use Rattle.st_model.specs.Outcomes as outcome
use Rattle.st_model.specs.Machine.{ObjectMemory, State, Transition, Died, Went, Step, answer, die, tried, or_left, after, ◌>>=◌, ◌>>◌}
use Rattle.st_model.specs.Steps.{same_value, or_die, integer_or_die, under, jump, next_byte}
use Rattle.st_model.specs.Sends.{Call}
use Rattle.st_model.specs.Returns.{calls_nothing, jump_on}
use Rattle.st_model.specs.Primitives.{succeed, primitive}
use Rattle.st_model.specs.Arithmetic.{arithmetic, arithmetic_number, integer_answer, value_of_answer, integer_under}
use Rattle.st_model.specs.Executing.{goes_on, execute_if_any, executed_if_any}
use Rattle.st_model.specs.Bytecodes.{or_send, arithmetic_by, arithmetic_send, primitive_send, short_jump_on_false, long_jump_on_true, long_jump_on_false, bytecode}
use Rattle.st_model.specs.Table.{Table}
use Rattle.st_model.proofs.Runs.{run-tried_went, run-tried_died}
use Rattle.st_control.specs.inside.AtOnce.{at_once, jump_at_once}
use Rattle.st_frames.proofs.Doing.{rows}
use Rattle.st_at_once.specs.inside.AtOnce.{argument_answer, answered_at_once, arithmetic_at_once_by, arithmetic_at_once, primitive_at_once, long_jump_at_once, bytecode_at_once}
use Rattle.st_control.proofs.Tries.{some_answer, no_answer, passed}
use Rattle.st_at_once.proofs.Pairs.{reads, word_under, under-reads, number-same, truth-same}

-- a primitive on SmallIntegers that is tried

pub ruleset pairs = (rows, some_answer, no_answer, passed, to_z-of_z)

pub by-answers : (m : ObjectMemory Table) (k : ℕ) (v : Value) (a : IntAnswer) (s : State Table) → is_small v ≡ true
    → (argument_answer m (arithmetic_number k) (integer_of v)).run s ≡ Went a s → (arithmetic_at_once_by m k v).run s ≡ (answered_at_once m (Some a)).run s
unfolding arithmetic_at_once_by ◌>>=◌ after
by-answers m k (Small n) a s l e = rw (run-tried_went (argument_answer m (arithmetic_number k) (integer n)) s s a e) refl
by-answers m k (Ref n) a s l e = cc

pub by-fails : (m : ObjectMemory Table) (k : ℕ) (v : Value) (cause : Dead) (s : State Table) → is_small v ≡ true
    → (argument_answer m (arithmetic_number k) (integer_of v)).run s ≡ Died cause → (arithmetic_at_once_by m k v).run s ≡ Went false s
unfolding arithmetic_at_once_by answered_at_once ◌>>=◌ after answer
by-fails m k (Small n) cause s l e = rw (run-tried_died (argument_answer m (arithmetic_number k) (integer n)) s cause e) refl
by-fails m k (Ref n) cause s l e = cc

pub by-object : (m : ObjectMemory Table) (k : ℕ) (v : Value) (s : State Table) → is_small v ≡ false → (arithmetic_at_once_by m k v).run s ≡ Went false s
unfolding arithmetic_at_once_by answer
by-object m k (Small n) s e = cc
by-object m k (Ref n) s e = refl

pub ruleset tries = (rows, by-answers, by-fails, by-object, passed, to_z-of_z)

-- The second dies of the cause of which the first does, and where the first was done, it answers x and leaves the same state.

abbrev pub As : {S A : Type 0} → A → Transition S Bool → Transition S A → Type 0
As x (Died cause) o = o ≡ Died cause
As x (Went true t) o = o ≡ Went x t
As x (Went false t) o = Unit {0}

abbrev pub IsAs : {A : Type 0} → A → Step Table Bool → Step Table A → Type 0
IsAs x p q = (s : State Table) → As x (p.run s) (q.run s)

after-as : {A B : Type 0} (x : B) (o : Transition (State Table) A) (f : A → Step Table Bool) (g : A → Step Table B) → ((a : A) → IsAs x (f a) (g a))
    → As x (after o (λ a t. (f a).run t)) (after o (λ a t. (g a).run t))
unfolding after
after-as x (Died cause) f g h = refl
after-as x (Went a t) f g h = h a t

then-as : {A B : Type 0} (x : B) (m : Step Table A) (f : A → Step Table Bool) (g : A → Step Table B) → ((a : A) → IsAs x (f a) (g a)) → IsAs x (m >>= f) (m >>= g)
unfolding ◌>>=◌
then-as x m f g h s = after-as x (m.run s) f g h

if-as : {A : Type 0} (x : A) (b : Bool) (p q : Step Table Bool) (u v : Step Table A) → IsAs x p u → IsAs x q v → IsAs x (if b then p else q) (if b then u else v)
if-as x true p q u v h k = h
if-as x false p q u v h k = k

not-as : {A : Type 0} (x : A) (q : Step Table A) → IsAs x (answer false) q
unfolding answer
not-as x q s = tt

done-as : {A : Type 0} (x : A) (o : Transition (State Table) Unit) → As x (after o (λ a t. Went true t)) (after o (λ a t. Went x t))
unfolding after
done-as x (Died cause) = refl
done-as x (Went a t) = refl

goes_on-as : (m : Step Table Unit) → IsAs outcome.Went (at_once m) (goes_on m)
unfolding at_once goes_on ◌>>◌ ◌>>=◌ answer
goes_on-as m s = done-as outcome.Went (m.run s)

calls_nothing-as : (m : Step Table Unit) → IsAs None (at_once m) (calls_nothing m)
unfolding at_once calls_nothing ◌>>◌ ◌>>=◌ answer
calls_nothing-as m s = done-as None (m.run s)

choice-as : (b : Bool) (q : Step Table (Option Call)) → IsAs None (answer b) (if b then answer None else q)
unfolding answer
choice-as true q s = refl
choice-as false q s = tt

self-as : (o : Transition (State Table) Bool) → As true o o
self-as (Died cause) = refl
self-as (Went true t) = refl
self-as (Went false t) = tt

executed-on : (m : ObjectMemory Table) (o : Transition (State Table) Bool) (r : Transition (State Table) (Option Call)) → As None o r
    → As outcome.Went o (after r (λ c t. (execute_if_any m c).run t))
unfolding after execute_if_any answer
executed-on m (Died cause) r h = rw h refl
executed-on m (Went true t) r h = rw h refl
executed-on m (Went false t) r h = tt

-- a step that may call, and called nothing
executed-as : (m : ObjectMemory Table) (p : Step Table Bool) (q : Step Table (Option Call)) → IsAs None p q → IsAs outcome.Went p (executed_if_any m q)
unfolding executed_if_any ◌>>=◌
executed-as m p q h s = executed-on m (p.run s) (q.run s) (h s)

tried-on : (e : Step Table Outcome) (o r : Transition (State Table) Bool) → As true o r
    → As outcome.Went o (after r (λ b t. (if b then answer outcome.Went else e).run t))
unfolding after answer
tried-on e (Died cause) r h = rw h refl
tried-on e (Went true t) r h = rw h refl
tried-on e (Went false t) r h = tt

-- a primitive that succeeded
or_send-on : (m : ObjectMemory Table) (k : ℕ) (o : Transition (State Table) Bool) (q : Step Table Bool) (s : State Table) → As true o (q.run s)
    → As outcome.Went o ((or_send m k q).run s)
unfolding or_send ◌>>=◌
or_send-on m k o q s h = tried-on _ o (q.run s) h

module _ (m : ObjectMemory Table) where
  -- a primitive on SmallIntegers, where the receiver was read

  same-as : (o r : Transition (State Table) Bool) → o ≡ r → As true o r
  same-as o r e = subst (As true o) e (self-as o)

  failed-as : (s : State Table) (r : Transition (State Table) Bool) → As true ((answered_at_once m None).run s) r
  unfolding answered_at_once answer
  failed-as s r = tt

  point-as : (a b : ℤ) (s : State Table) (r : Transition (State Table) Bool) → As true ((answered_at_once m (Some (Point a b))).run s) r
  unfolding answered_at_once answer
  point-as a b s r = tt

  abbrev answers : Option IntAnswer → State Table → Transition (State Table) Bool
  answers a t = (answered_at_once m a).run t

  abbrev succeeds : Option IntAnswer → State Table → Transition (State Table) Bool
  succeeds a t = (succeed m 1 (value_of_answer m) a).run t

  -- where the conditions are tried, from the state s
  abbrev TriedAs : State Table → Transition (State Table) IntAnswer → Type 0
  TriedAs s o = As true (after (or_left s o) answers) (after (or_left s o) succeeds)

  answered-as : (a : IntAnswer) (s : State Table) (x y : Value) → word_under m 1 s ≡ Ok x → word_under m 0 s ≡ Ok y → As true (answers (Some a) s) (succeeds (Some a) s)
  answered-as (Number n) s x y receiver argument = same-as _ _ (number-same m s x y receiver argument n)
  answered-as (Truth b) s x y receiver argument = same-as _ _ (truth-same m s x y receiver argument b)
  answered-as (Point a b) s x y receiver argument = point-as a b s _

  binary-as : (o : Option IntAnswer) (s : State Table) (x y : Value) → word_under m 1 s ≡ Ok x → word_under m 0 s ≡ Ok y → TriedAs s ((or_die dead.NotSmall o).run s)
  unfolding or_die die answer after
  binary-as None s x y receiver argument = failed-as s _
  binary-as (Some a) s x y receiver argument = answered-as a s x y receiver argument

  argument-as : (n : ℕ) (i : ℤ) (s : State Table) (x : Value) (w : Result Value Dead) → word_under m 1 s ≡ Ok x → word_under m 0 s ≡ w
      → TriedAs s (after (after (reads w s) (λ v t. (integer_or_die v).run t)) (λ j t. (or_die dead.NotSmall (binary n i j)).run t))
  unfolding integer_or_die die answer after
  argument-as n i s x (Err cause) receiver argument = failed-as s _
  argument-as n i s x (Ok (Ref k)) receiver argument = failed-as s _
  argument-as n i s x (Ok (Small k)) receiver argument = binary-as (binary n i (integer k)) s x (Small k) receiver argument

  conditions-as : (n : ℕ) (i : ℤ) (s : State Table) (x : Value) → word_under m 1 s ≡ Ok x → TriedAs s ((argument_answer m n i).run s)
  unfolding argument_answer integer_under ◌>>=◌
  conditions-as n i s x receiver =
      subst (λ o. TriedAs s (after (after o (λ v t. (integer_or_die v).run t)) (λ j t. (or_die dead.NotSmall (binary n i j)).run t))) (sym (under-reads m 0 s))
      (argument-as n i s x (word_under m 0 s) receiver refl)

  -- the receiver is the one that was read
  receiver-same : (n k : ℕ) (s : State Table) → (under m 1).run s ≡ Went (Small k) s → (integer_answer m n).run s ≡ (argument_answer m n (integer k)).run s
  unfolding integer_answer argument_answer integer_under integer_or_die answer after ◌>>=◌
  receiver-same n k s e = ap (λ o. after (after o (λ v t. (integer_or_die v).run t)) (λ j t. (argument_answer m n j).run t)) e

  arithmetic_by-as : (k : ℕ) (v : Value) (s : State Table) → word_under m 1 s ≡ Ok v → As outcome.Went ((arithmetic_at_once_by m k v).run s) ((arithmetic_by m k v).run s)
  unfolding arithmetic_at_once_by arithmetic_by arithmetic primitive tried ◌>>=◌ answer
  arithmetic_by-as k (Ref n) s e = tt
  arithmetic_by-as k (Small n) s e =
      let read : (under m 1).run s ≡ Went (Small n) s = under-reads m 1 s ∙ ap (λ o. reads o s) e in
      let tries : TriedAs s ((argument_answer m (arithmetic_number k) (integer n)).run s) = conditions-as (arithmetic_number k) (integer n) s (Small n) e in
      or_send-on m k _ (arithmetic m (arithmetic_number k)) s
      (subst (λ o. As true (after (or_left s ((argument_answer m (arithmetic_number k) (integer n)).run s)) answers) (after (or_left s o) succeeds))
      (sym (receiver-same (arithmetic_number k) n s read)) tries)

  receiver-as : (k : ℕ) (s : State Table) (w : Result Value Dead) → word_under m 1 s ≡ w
      → As outcome.Went (after (reads w s) (λ v t. (arithmetic_at_once_by m k v).run t)) (after (reads w s) (λ v t. (arithmetic_by m k v).run t))
  unfolding after
  receiver-as k s (Err cause) e = refl
  receiver-as k s (Ok v) e = arithmetic_by-as k v s e

  arithmetic-as : (k : ℕ) → IsAs outcome.Went (arithmetic_at_once m k) (arithmetic_send m k)
  unfolding arithmetic_at_once arithmetic_send ◌>>=◌
  arithmetic-as k s =
      subst (λ o. As outcome.Went (after o (λ v t. (arithmetic_at_once_by m k v).run t)) (after o (λ v t. (arithmetic_by m k v).run t))) (sym (under-reads m 1 s))
      (receiver-as k s (word_under m 1 s) refl)

  primitive-as : (k : ℕ) → IsAs outcome.Went (primitive_at_once m k) (primitive_send m k)
  unfolding primitive_at_once primitive_send
  primitive-as k = if-as _ (k == 22) _ _ _ _ (goes_on-as _) (if-as _ (k == 23) _ _ _ _ (goes_on-as _) (not-as _ _))

  jump_on-as : (wanted other : PageObject) (d : ℤ) → IsAs None (jump_at_once m wanted other d) (jump_on m wanted other d)
  unfolding jump_at_once jump_on
  jump_on-as wanted other d =
      then-as _ _ _ _ (λ x. then-as _ _ _ _ (λ a. then-as _ _ _ _ (λ b. if-as _ (same_value x a) _ _ _ _ (calls_nothing-as (jump d)) (choice-as (same_value x b) _))))

  long_jump-as : (wanted other : PageObject) (i : ℕ) → IsAs None (long_jump_at_once m wanted other i) (next_byte m >>= (λ b. jump_on m wanted other (pos (i * 256 + b))))
  unfolding long_jump_at_once
  long_jump-as wanted other i = then-as _ _ _ _ (λ b. jump_on-as wanted other (pos (i * 256 + b)))

  pub bytecode-as : (b : Bytecode) → IsAs outcome.Went (bytecode_at_once m b) (bytecode m b)
  unfolding bytecode_at_once bytecode short_jump_on_false long_jump_on_true long_jump_on_false
  bytecode-as (code.Push operand) = goes_on-as _
  bytecode-as (code.StoreAndPop operand) = goes_on-as _
  bytecode-as code.PushReceiver = goes_on-as _
  bytecode-as (code.PushConstant c) = goes_on-as _
  bytecode-as code.ExtendedPush = goes_on-as _
  bytecode-as code.ExtendedStore = goes_on-as _
  bytecode-as code.ExtendedStoreAndPop = goes_on-as _
  bytecode-as code.PopStack = goes_on-as _
  bytecode-as code.DuplicateTop = goes_on-as _
  bytecode-as code.PushActiveContext = goes_on-as _
  bytecode-as (code.ShortUnconditionalJump i) = goes_on-as _
  bytecode-as (code.ShortJumpOnFalse i) = executed-as m _ _ (jump_on-as FalseObject TrueObject (pos (i + 1)))
  bytecode-as (code.LongUnconditionalJump i) = goes_on-as _
  bytecode-as (code.LongJumpOnTrue i) = executed-as m _ _ (long_jump-as TrueObject FalseObject i)
  bytecode-as (code.LongJumpOnFalse i) = executed-as m _ _ (long_jump-as FalseObject TrueObject i)
  bytecode-as (code.ArithmeticSend k) = arithmetic-as k
  bytecode-as (code.PrimitiveSend k) = primitive-as k
  bytecode-as b = not-as _ _
