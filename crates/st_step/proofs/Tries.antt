-- Primitives on two SmallIntegers that are tried, and sends for which they are tried first.
use Rattle.std.proofs.Common.{◌≡◌, ℕ, Some, true, false, refl}
use Rattle.st_model.specs.declared.dead.Dead.{Dead}
use Rattle.st_model.specs.Values.{Value, Small, Ref, is_small}
use Rattle.st_model.specs.Machine.{ObjectMemory, State, Died, Went, answer, after, ◌>>=◌}
use Rattle.st_model.specs.Sends.{special_send}
use Rattle.st_model.specs.Executing.{executed}
use Rattle.st_model.specs.declared.integers.IntAnswer.{IntAnswer}
use Rattle.st_model.specs.Primitives.{succeed, primitive}
use Rattle.st_model.specs.Arithmetic.{arithmetic, arithmetic_number, integer_answer, value_of_answer}
use Rattle.st_model.specs.Bytecodes.{or_send, arithmetic_by}
use Rattle.st_model.specs.Table.{Table}
use Rattle.st_model.proofs.Runs.{run-tried_went, run-tried_died}
use Rattle.st_frames.proofs.Doing.{rows}

-- a primitive on SmallIntegers that is tried: it succeeds with what it answers, or fails

pub arithmetic-answers : (m : ObjectMemory Table) (n : ℕ) (a : IntAnswer) (s : State Table) → (integer_answer m n).run s ≡ Went a s
    → (arithmetic m n).run s ≡ (succeed m 1 (value_of_answer m) (Some a)).run s
unfolding arithmetic primitive ◌>>=◌ after
arithmetic-answers m n a s e = rw (run-tried_went (integer_answer m n) s s a e) refl

pub arithmetic-fails : (m : ObjectMemory Table) (n : ℕ) (k : Dead) (s : State Table) → (integer_answer m n).run s ≡ Died k
    → (arithmetic m n).run s ≡ Went false s
unfolding arithmetic primitive succeed ◌>>=◌ after answer
arithmetic-fails m n k s e = rw (run-tried_died (integer_answer m n) s k e) refl

pub ruleset tries = (rows, arithmetic-answers, arithmetic-fails)

pub arithmetic-small : (m : ObjectMemory Table) (k : ℕ) (v : Value) (s : State Table) → is_small v ≡ true
    → (arithmetic_by m k v).run s ≡ (or_send m k (arithmetic m (arithmetic_number k))).run s
unfolding arithmetic_by
arithmetic-small m k (Small n) s e = refl
arithmetic-small m k (Ref n) s e = cc

pub arithmetic-object : (m : ObjectMemory Table) (k : ℕ) (v : Value) (s : State Table) → is_small v ≡ false → (arithmetic_by m k v).run s ≡ (executed m (special_send m k)).run s
unfolding arithmetic_by
arithmetic-object m k (Small n) s e = cc
arithmetic-object m k (Ref n) s e = refl

pub ruleset sends = (arithmetic-small, arithmetic-object)
