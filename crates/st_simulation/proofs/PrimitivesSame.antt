-- Primitives over births do the same over pointers: how one is tried, those on SmallIntegers, and those of any receiver.
use Rattle.std.proofs.Common.{◌≡◌, ℕ, zero, suc, Option, Some, None, Bool, true, false, refl}
use Rattle.std.specs.Prelude.{ℤ}
use Rattle.st_model.specs.declared.integers.IntAnswer.{IntAnswer}
use Rattle.st_model.specs.declared.integers.IntAnswer.TheVariants.{Number, Truth, Point}
use Rattle.st_model.specs.Values.{Value, Small, Ref, renamed}
use Rattle.st_model.specs.Machine.{ObjectMemory, Step}
use Rattle.st_model.specs.Primitives.{pop_words, answer_with, succeed, primitive, truth, bits_or_die, positive_small}
use Rattle.st_model.specs.Arithmetic.{new_point, value_of_answer, integer_under, integer_answer, arithmetic, equivalence, receiver_class, flush_cache}
use Rattle.st_simulation.proofs.Same.{Simulation, ValueSame, OptionalSame, SameValue, SameAnswer, strict, steps_same}
use Rattle.st_simulation.proofs.StepsSame.{parts_same}

module _ {H K : Type 0} {M : ObjectMemory H} {N : ObjectMemory K} (sim : Simulation M N) where
  pub integer_under-same : (k : ℕ) → SameAnswer sim (integer_under M k) (integer_under N k)
  unfolding integer_under
  integer_under-same k = search parts_same depth 16 fits 4000

  integer_answer-same : (n : ℕ) → SameAnswer sim (integer_answer M n) (integer_answer N n)
  unfolding integer_answer
  integer_answer-same n = search (parts_same, integer_under-same) depth 16 fits 4000

  pub bits_or_die-same : (v w : Value) → ValueSame sim v w → SameAnswer sim (bits_or_die v) (bits_or_die w)
  unfolding bits_or_die
  bits_or_die-same (Small n) w h = rw h.is (search steps_same)
  bits_or_die-same (Ref n) w h = rw h.is (search steps_same)

  pub positive_small-same : (v w : Value) → ValueSame sim v w → SameAnswer sim (positive_small v) (positive_small w)
  unfolding positive_small
  positive_small-same v w h = search (parts_same, bits_or_die-same) depth 24 fits 4000

module _ {H K : Type 0} {M : ObjectMemory H} {N : ObjectMemory K} (sim : Simulation M N) (makes : sim.makes) where
  pop_words-same : (n : ℕ) → SameAnswer sim (pop_words M n) (pop_words N n)
  unfolding pop_words
  pop_words-same zero = search steps_same
  pop_words-same (suc n) = search (parts_same, pop_words-same n) depth 16 fits 4000

  pub answer_with-same : (n : ℕ) (v w : Value) → ValueSame sim v w → SameAnswer sim (answer_with M n v) (answer_with N n w)
  unfolding answer_with
  answer_with-same n v w h = search (parts_same, pop_words-same) depth 16 fits 4000

  succeed-same : {A : Type 0} (n : ℕ) (f : A → Step H Value) (g : A → Step K Value) (a : Option A) → ((x : A) → SameValue sim (f x) (g x))
      → SameAnswer sim (succeed M n f a) (succeed N n g a)
  unfolding succeed
  succeed-same n f g None h = search steps_same
  succeed-same n f g (Some x) h = search (steps_same, h, answer_with-same) depth 16 fits 4000

  -- its conditions make nothing
  pub primitive-same : {A : Type 0} (n : ℕ) (p : Step H A) (q : Step K A) (f : A → Step H Value) (g : A → Step K Value)
      → SameAnswer sim p q → SameAnswer (strict sim) p q → ((x : A) → SameValue sim (f x) (g x)) → SameAnswer sim (primitive M n p f) (primitive N n q g)
  unfolding primitive
  primitive-same n p q f g h k l = search (steps_same, succeed-same) depth 16 fits 4000

  succeed_value-same : (n : ℕ) (f : Value → Step H Value) (g : Value → Step K Value) (a b : Option Value) → OptionalSame sim a b → ((x y : Value) → ValueSame sim x y → SameValue sim (f x) (g y))
      → SameAnswer sim (succeed M n f a) (succeed N n g b)
  unfolding succeed
  succeed_value-same n f g None b h k = rw h.is (search steps_same)
  succeed_value-same n f g (Some x) b h k =
      let l : ValueSame sim x (renamed sim.name x) = record { live = h.live; is = refl } in
      rw h.is (search (steps_same, k, answer_with-same) depth 16 fits 4000)

  -- conditions that give a value
  pub primitive_value-same : (n : ℕ) (p : Step H Value) (q : Step K Value) (f : Value → Step H Value) (g : Value → Step K Value)
      → SameValue sim p q → SameValue (strict sim) p q → ((x y : Value) → ValueSame sim x y → SameValue sim (f x) (g y)) → SameAnswer sim (primitive M n p f) (primitive N n q g)
  unfolding primitive
  primitive_value-same n p q f g h k l = search (steps_same, succeed_value-same) depth 16 fits 4000

  pub truth-same : (b c : Bool) → c ≡ b → SameValue sim (truth M b) (truth N c)
  unfolding truth
  truth-same true c e = rw e (search parts_same)
  truth-same false c e = rw e (search parts_same)

  pub new_point-same : (x y : ℤ) → SameValue sim (new_point M x y) (new_point N x y)
  unfolding new_point
  new_point-same x y = search parts_same depth 24 fits 4000

  value_of_answer-same : (a : IntAnswer) → SameValue sim (value_of_answer M a) (value_of_answer N a)
  unfolding value_of_answer
  value_of_answer-same (Number n) = search steps_same
  value_of_answer-same (Truth b) = truth-same b b (λ i. b)
  value_of_answer-same (Point x y) = new_point-same x y

  pub arithmetic-same : (n : ℕ) → SameAnswer sim (arithmetic M n) (arithmetic N n)
  unfolding arithmetic
  arithmetic-same n = primitive-same 1 _ _ _ _ (integer_answer-same sim n) (integer_answer-same (strict sim) n) value_of_answer-same

  pub equivalence-same : SameAnswer sim (equivalence M) (equivalence N)
  unfolding equivalence
  equivalence-same = search (parts_same, truth-same, answer_with-same) depth 24 fits 4000

  pub receiver_class-same : SameAnswer sim (receiver_class M) (receiver_class N)
  unfolding receiver_class
  receiver_class-same = search (parts_same, answer_with-same) depth 24 fits 4000

  pub flush_cache-same : (n : ℕ) → SameAnswer sim (flush_cache M n) (flush_cache N n)
  unfolding flush_cache
  flush_cache-same n = search parts_same depth 16 fits 4000
