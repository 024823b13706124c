-- What a primitive is given that puts a value: where it isn't there, the primitive dies, and else it answers what is stored.
use Rattle.std.proofs.Common.{◌≡◌, Bool, ap}
use Rattle.std.specs.Prelude.{Result}
use Rattle.st_model.specs.declared.dead.Dead.{Dead}
use Rattle.st_model.specs.Values.{Value}
use Rattle.st_model.specs.Machine.{ObjectMemory, State, Transition, Died, Went, Step, answer, after, ◌>>=◌}
use Rattle.st_model.specs.Table.{Table}
use Rattle.st_model.specs.Steps.{top, under}
use Rattle.st_memory.specs.declared.objects.Objects.{Ghosts}
use Rattle.st_frames.specs.declared.registers.Registers.{Registers as Words}
use Rattle.st_frames.specs.declared.tried.Tried.{Tried}
use Rattle.st_frames.specs.inside.Rows.{state_of, RowTries}
use Rattle.st_storage.specs.inside.Storing.{Operands, put_operands}

died : {A B : Type 0} (a k : Dead) → (let x : Transition (State Table) A = Died a in x ≡ Died k) → (let x : Transition (State Table) B = Died a in x ≡ Died k)
died a k e = let q : a ≡ k = cc in ap (λ c. Died c) q

module _ (m : ObjectMemory Table) (f : Value → Value → Value → Step Table Bool) (k : Dead) where
  by_value : (r a : Value) (x : Transition (State Table) Value)
      → after x (λ b t. Went (let p : Operands = record { object = r; index = a; value = b } in p) t) ≡ Died k → after x (λ b t. (f r a b).run t) ≡ Died k
  unfolding after
  by_value r a (Died j) e = died j k e
  by_value r a (Went b t) e = cc

  by_index : (r : Value) (x : Transition (State Table) Value)
      → after x (λ a t. after ((top m).run t) (λ b u. Went (let p : Operands = record { object = r; index = a; value = b } in p) u)) ≡ Died k
      → after x (λ a t. after ((top m).run t) (λ b u. (f r a b).run u)) ≡ Died k
  unfolding after
  by_index r (Died j) e = died j k e
  by_index r (Went a t) e = by_value r a ((top m).run t) e

  by_object : (x : Transition (State Table) Value)
      → after x (λ r t. after ((under m 1).run t) (λ a u. after ((top m).run u) (λ b w. Went (let p : Operands = record { object = r; index = a; value = b } in p) w))) ≡ Died k
      → after x (λ r t. after ((under m 1).run t) (λ a u. after ((top m).run u) (λ b w. (f r a b).run w))) ≡ Died k
  unfolding after
  by_object (Died j) e = died j k e
  by_object (Went r t) e = by_index r ((under m 1).run t) e

  pub ungiven : (s : State Table) → (put_operands m).run s ≡ Died k → (under m 2 >>= (λ r. under m 1 >>= (λ a. top m >>= (λ b. f r a b)))).run s ≡ Died k
  unfolding put_operands ◌>>=◌ answer
  ungiven s e = by_object ((under m 2).run s) e

-- where it is there, the primitive is what its answer is by
pub put-by : {M : Type 0} (o : Ghosts M) (p e : Step Table Bool) (m n : M) (r q : Words) (result : Result Tried Dead)
    → ((y : Transition (State Table) Bool) → e.run (state_of o m r) ≡ y → p.run (state_of o m r) ≡ y)
    → RowTries o e m r result n q → RowTries o p m r result n q
put-by o p e m n r q result f h = record { does = f _ h.does; world = h.world }
