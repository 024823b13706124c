-- What is done in a trace or a walk, one deed after the other.
use Rattle.std.specs.Prelude.{ℕ, zero, suc, ◌+◌, ◌==◌, nat_lt, Bool, ◌&&◌, List, [], ◌∷◌, ◌++◌, length, if◌then◌else◌}
use Rattle.st_meaning.specs.declared.deed.Variable.{Variable}
use Rattle.st_meaning.specs.declared.deed.Variable.TheVariants.{Field, Temporary, Shared}
use Rattle.st_meaning.specs.declared.deed.Value.{Value}
use Rattle.st_meaning.specs.declared.deed.Value.TheVariants.{Constant, Block}
use Rattle.st_meaning.specs.inside.Values.{AnswerView, DeedView, sent, assigned, made, returned, unsure, same_variable}

-- VARIABLES

abbrev pub number_of : Variable → ℕ
number_of (Field n) = n
number_of (Temporary n) = n
number_of (Shared n) = n

-- what the variables hold once one has another value; no code names a variable from 64 on
abbrev pub changed : Variable → Value → (Variable → Value) → Variable → Value
changed p v held q = if nat_lt (number_of p) 64 && same_variable p q then v else held q

-- after changes, one behind the other
abbrev pub all_changed : List (Variable × Value) → (Variable → Value) → Variable → Value
all_changed [] held = held
all_changed (c ∷ cs) held = all_changed cs (changed c.0 c.1 held)

-- RUNS

-- how far a trace or a walk has come: its deeds, the answers that are left, what the variables hold, how many blocks were
-- made, and how many jumps went back
pub record Going : Type 0 where
  pub deeds : List DeedView
  pub answers : List AnswerView
  pub held : Variable → Value
  pub blocks : ℕ
  pub backs : ℕ

-- how a run ends: it goes on with something, it is over after this, it is too long, the code can't go on after this, or
-- its bound ran out
pub data Outcome (A : Type 0) : Type 0 where
  went : A → Going → Outcome A
  over : Going → Outcome A
  long : Outcome A
  stuck : Going → Outcome A
  unfinished : Outcome A

abbrev pub Run : Type 0 → Type 0
Run A = Going → Outcome A

abbrev pub gives : {A : Type 0} → A → Run A
gives x = λ g. went x g

abbrev pub then_go : {A B : Type 0} → Outcome A → (A → Run B) → Outcome B
then_go (went x g) f = f x g
then_go (over g) f = over g
then_go long f = long
then_go (stuck g) f = stuck g
then_go unfinished f = unfinished

infixl 10 ◌>>=◌
abbrev pub ◌>>=◌ : {A B : Type 0} → Run A → (A → Run B) → Run B
m >>= f = λ g. then_go (m g) f

-- values that stand in the other order, before others; and alone
abbrev pub in_order_before : List Value → List Value → List Value
in_order_before [] others = others
in_order_before (v ∷ vs) others = in_order_before vs (v ∷ others)

abbrev pub in_order : List Value → List Value
in_order vs = in_order_before vs []

abbrev pub ends : {A : Type 0} → Run A
ends = λ g. over g

-- the next answer, if there is one
abbrev pub take_answer : List AnswerView → Run Value
take_answer [] = ends
take_answer (a ∷ rest) = λ g. went a.value (record g { answers = rest; held = all_changed a.changes g.held })

-- the most deeds, and the most jumps back
module _ (most : ℕ) where
  -- one more deed, and going on, or ending there
  unfoldable pub did : {A : Type 0} → DeedView → Run A → Run A
  did d next = λ g. if length g.deeds == most then long else next (record g { deeds = g.deeds ++ d ∷ [] })

  unfoldable pub assign_to : Variable → Value → Run Value
  assign_to p v = did (assigned p v) (λ g. went v (record g { held = changed p v g.held }))

  unfoldable pub answer_to : Value → List ℕ → List Value → Bool → Run Value
  answer_to receiver selector arguments above = did (sent receiver selector arguments above) (λ g. take_answer g.answers g)

  unfoldable pub make_block : Run Value
  make_block = λ g. did (made g.blocks) (λ h. went (Block g.blocks) (record h { blocks = g.blocks + 1 })) g

  unfoldable pub return_value : {A : Type 0} → Value → Run A
  return_value v = did (returned v) ends

  unfoldable pub be_unsure : {A : Type 0} → Value → Run A
  be_unsure v = did (unsure v) ends

  -- one more jump back
  unfoldable pub jump_back : {A : Type 0} → Run A → Run A
  jump_back next = λ g. if g.backs == most then long else next (record g { backs = g.backs + 1 })

  -- one way on true, another on false, which have the numbers 1 and 2
  abbrev pub decide : {A : Type 0} → Value → (on_true on_false : Run A) → Run A
  decide (Constant (suc zero)) on_true on_false = on_true
  decide (Constant (suc (suc zero))) on_true on_false = on_false
  decide v on_true on_false = be_unsure v
