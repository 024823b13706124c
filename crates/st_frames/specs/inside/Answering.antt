-- What functions do together that answer a primitive, and what they say of an object.
use Rattle.std.specs.Prelude.{◌≡◌, ℕ, List, length, Bool, true, Result, Ok}
use Rattle.st_model.specs.declared.dead.Dead.{Dead}
use Rattle.st_model.specs.declared.deed.Deed.{Deed}
use Rattle.st_model.specs.declared.kind.Kind.{Kind}
use Rattle.st_model.specs.declared.word.Word.{Word}
use Rattle.st_model.specs.Values.{Value, word}
use Rattle.st_model.specs.Machine.{ObjectMemory, Step, answer, ◌>>=◌, ◌>>◌}
use Rattle.st_model.specs.Table.{Table}
use Rattle.st_model.specs.inside.Calls.{Does, Reads, itself}
use Rattle.st_model.specs.Steps.{fetch_kind, fetch_bytes, store_bytes}
use Rattle.st_model.specs.Deeds.{changed_by, bytes_stored, over, with_deed}
use Rattle.st_model.specs.Primitives.{answer_with, number_of_bytes}
use Rattle.st_memory.specs.declared.objects.Objects.{Ghosts}
use Rattle.st_frames.specs.declared.answer.Answer.{Answer}
use Rattle.st_frames.specs.declared.registers.Registers.{Registers as Words}
use Rattle.st_frames.specs.inside.Rows.{state_of, with_left}

-- the object is of this kind
abbrev pub IsOfKind : {M : Type 0} → Ghosts M → M → Word → Kind → Type 0
IsOfKind o m v k = Reads (fetch_kind o.names (word v)) itself (o.table m) (Ok k)

-- From the state in which a deed is done besides, the call is this step but for a deed, which it leaves to be done; and it leaves
-- the world that the registers have beside them.
pub record RowFollows {M A B : Type 0} (o : Ghosts M) (d : Deed) (step : Step Table A) (f : B → A) (g : B → Deed) (m : M) (r : Words)
    (result : Result B Dead) (n : M) (q : Words) : Type 0 where
  pub does : Does step f (with_deed d (state_of o m r)) result (with_left g result (state_of o n q))
  pub world : q.world.now ≡ r.world.now

-- where there is a result, n bytes of the object from a place on can be stored, and else storing them dies so
abbrev pub StoresBytes : {M : Type 0} → Ghosts M → M → Words → Word → ℕ → ℕ → Result (Unit {0}) Dead → Type 0
StoresBytes o m r v i n result = (bs : List ℕ) → length bs ≡ n
    → Does (store_bytes o.names (word v) i bs) itself (state_of o m r) result (over (λ t. changed_by (bytes_stored i bs) t (word v)) (state_of o m r))

-- the answer of an effect, and what it leaves to be done
abbrev pub answer_word : Answer → Value
answer_word a = word a.word

abbrev pub answer_deed : Answer → Deed
answer_deed a = a.deed

-- what answers nothing but a deed
abbrev pub no_word : Deed → Unit {0}
no_word d = tt

module _ {H : Type 0} (m : ObjectMemory H) where
  -- the number that n bytes say from one on
  unfoldable pub number_read : Value → ℕ → ℕ → Step H ℕ
  number_read v from n = do
    bytes ← fetch_bytes m v from n
    answer (number_of_bytes bytes)

  -- the answer takes the place of receiver and n arguments, and the primitive has succeeded
  unfoldable pub succeed_with : ℕ → Value → Step H Bool
  succeed_with n v = do
    answer_with m n v
    answer true

  -- so does what a step answers
  unfoldable pub succeed_by : ℕ → Step H Value → Step H Bool
  succeed_by n step = do
    v ← step
    succeed_with n v
