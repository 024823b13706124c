-- Steps of the numbers that primitives use, by cases.
use Rattle.std.proofs.Common.{◌≡◌, ◌≢◌, ℕ, zero, suc, Bool, false, refl, arith}
use Rattle.std.specs.Prelude.{◌-◌, ◌%◌}
use Rattle.st_model.specs.declared.dead.Dead.{Dead}
use Rattle.st_model.specs.Values.{Value, Small}
use Rattle.st_model.specs.Machine.{ObjectMemory, State, Transition, Died, Went, Step, answer, after, tried, ◌>>=◌, ◌>>◌}
use Rattle.st_model.specs.Table.{Table}
use Rattle.st_model.specs.Steps.{pop}
use Rattle.st_model.specs.Primitives.{pop_words, succeed, primitive}
use Rattle.st_frames.specs.inside.Answering.{succeed_with, succeed_by}
use Rattle.st_model.proofs.Runs.{run-passed, run-failed, run-some, run-none}
use Rattle.st_frames.proofs.Doing.{rows}
use Rattle.st_model.specs.Methods.{literal_count}

pub ruleset tests = (run-passed, run-failed)

pub pops-none : (m : ObjectMemory Table) (n : ℕ) (s : State Table) → n ≡ 0 → (pop_words m n).run s ≡ Went tt s
unfolding pop_words answer
pops-none m n s e = rw e refl

pub pops-more : (m : ObjectMemory Table) (n : ℕ) (s : State Table) → n ≢ 0 → (pop_words m n).run s ≡ (pop m >>= (λ x. pop_words m (n - 1))).run s
unfolding pop_words ◌>>=◌
pops-more m zero s d = absurd (d refl)
pops-more m (suc n) s d = let f : suc n - 1 ≡ n = omega arith in rw f refl

pub ruleset pops = (pops-none, pops-more)

-- what a header counts, of the bits of its word
pub counts-bits : (n : ℕ) → literal_count (Small n) ≡ n % 64
counts-bits n = refl

pub ruleset counts = (counts-bits)

-- a primitive whose conditions fail, and one whose conditions hold
pub primitive-failed : {A : Type 0} (m : ObjectMemory Table) (n : ℕ) (c : Step Table A) (f : A → Step Table Value) (s : State Table) (k : Dead) → c.run s ≡ Died k → (primitive m n c f).run s ≡ Went false s
unfolding primitive succeed tried ◌>>=◌ after answer
primitive-failed m n c f s k e = rw e refl

module _ {A : Type 0} (m : ObjectMemory Table) (n : ℕ) (c : Step Table A) (f : A → Step Table Value) (s : State Table) (a : A) where
  pub primitive-held : (v : Value) (t : State Table) (x : Transition (State Table) Bool) → c.run s ≡ Went a s → (f a).run s ≡ Went v t → (succeed_with m n v).run t ≡ x → (primitive m n c f).run s ≡ x
  unfolding primitive succeed tried succeed_with ◌>>=◌ ◌>>◌ after answer
  primitive-held v t x e h k = rw (e, h) k

  -- its effect and what follows are done by one call
  pub primitive-done : (x : Transition (State Table) Bool) → c.run s ≡ Went a s → (succeed_by m n (f a)).run s ≡ x → (primitive m n c f).run s ≡ x
  unfolding succeed_by primitive succeed tried succeed_with ◌>>=◌ ◌>>◌ after answer
  primitive-done x e k = rw e k

-- its effect dies
pub primitive-died : {A : Type 0} (m : ObjectMemory Table) (n : ℕ) (c : Step Table A) (f : A → Step Table Value) (s : State Table) (a : A) (k : Dead) → c.run s ≡ Went a s → (f a).run s ≡ Died k
    → (primitive m n c f).run s ≡ Died k
unfolding primitive succeed tried ◌>>=◌ ◌>>◌ after
primitive-died m n c f s a k e h = rw (e, h) refl

-- its conditions give the answer
pub primitive-given : (m : ObjectMemory Table) (n : ℕ) (c : Step Table Value) (s : State Table) (v : Value) (x : Transition (State Table) Bool) → c.run s ≡ Went v s → (succeed_with m n v).run s ≡ x
    → (primitive m n c answer).run s ≡ x
unfolding primitive succeed tried succeed_with ◌>>=◌ ◌>>◌ after answer
primitive-given m n c s v x e k = rw e k

-- they give the bits of a SmallInteger that is answered
pub primitive-small : (m : ObjectMemory Table) (n : ℕ) (c : Step Table ℕ) (s : State Table) (k : ℕ) (x : Transition (State Table) Bool) → c.run s ≡ Went k s → (succeed_with m n (Small k)).run s ≡ x
    → (primitive m n c (λ i. answer (Small i))).run s ≡ x
unfolding primitive succeed tried succeed_with ◌>>=◌ ◌>>◌ after answer
primitive-small m n c s k x e h = rw e h

-- and one word
pub primitive-same : {A : Type 0} (m : ObjectMemory Table) (n : ℕ) (c : Step Table A) (s : State Table) (a : A) (v : Value) (x : Transition (State Table) Bool) → c.run s ≡ Went a s → (succeed_with m n v).run s ≡ x
    → (primitive m n c (λ i. answer v)).run s ≡ x
unfolding primitive succeed tried succeed_with ◌>>=◌ ◌>>◌ after answer
primitive-same m n c s a v x e h = rw e h

pub ruleset tries = (rows, primitive-given, primitive-small, primitive-failed, primitive-died, primitive-held)

pub ruleset effects = (rows, primitive-failed)

pub ruleset options = (run-some, run-none)
