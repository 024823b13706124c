-- What a primitive takes whose effect and answer are done by one call: that call hasn't failed.
use Rattle.std.proofs.Common.{◌≡◌, ◌≤◌, ℕ, Bool, true, false, sym, arith}
use Rattle.std.specs.Prelude.{Result, Ok, Err}
use Rattle.st_model.specs.declared.dead.Dead.{Dead}
use Rattle.st_model.specs.Values.{Value}
use Rattle.st_model.specs.Machine.{ObjectMemory, State, Transition, Died, Went, Step, answer, after, ◌>>=◌, ◌>>◌}
use Rattle.st_model.specs.Table.{Table}
use Rattle.st_model.specs.inside.Calls.{Does}
use Rattle.st_model.specs.Primitives.{answer_with}
use Rattle.st_memory.specs.declared.objects.Objects.{Ghosts}
use Rattle.st_frames.specs.inside.Answering.{succeed_by, succeed_with}
use Rattle.st_frames.specs.declared.tried.Tried.{Tried}
use Rattle.st_frames.specs.declared.tried.Tried.TheVariants.{Failed, Done, Leaves}
use Rattle.st_frames.specs.inside.Rows.{Takes, tried_changes, is_done}

answered : (x : Transition (State Table) (Unit {0})) (t : State Table) (b : Bool) → after x (λ u w. Went true w) ≡ Went b t → b ≡ true
unfolding after
answered (Died k) t b e = cc
answered (Went u w) t b e = let p : true ≡ b = cc in sym p

module _ (m : ObjectMemory Table) (n : ℕ) where
  pushed : (x : Transition (State Table) Value) (t : State Table) (b : Bool) → after x (λ v w. after ((answer_with m n v).run w) (λ u w'. Went true w')) ≡ Went b t → b ≡ true
  unfolding after
  pushed (Died k) t b e = cc
  pushed (Went v w) t b e = answered ((answer_with m n v).run w) t b e

  succeeded : (step : Step Table Value) (s t : State Table) (b : Bool) → (succeed_by m n step).run s ≡ Went b t → b ≡ true
  unfolding succeed_by succeed_with ◌>>=◌ ◌>>◌ answer
  succeeded step s t b e = pushed (step.run s) t b e

  pub takes-most : {M : Type 0} (o : Ghosts M) (old new : M) (least most : ℕ) (step : Step Table Value) (s t : State Table) (x : Result Tried Dead) → Does (succeed_by m n step) is_done s x t
      → least ≤ most → Takes o least old new → Takes o (tried_changes most x) old new
  takes-most o old new least most step s t (Ok Failed) d l h = let e : false ≡ true = succeeded step s t false d in absurd cc
  takes-most o old new least most step s t (Ok Done) d l h = let r = h.room in record { room = omega (arith, l, r); fixed = h.fixed }
  takes-most o old new least most step s t (Ok Leaves) d l h = let r = h.room in record { room = omega (arith, l, r); fixed = h.fixed }
  takes-most o old new least most step s t (Err cause) d l h = let r = h.room in record { room = omega (arith, l, r); fixed = h.fixed }
