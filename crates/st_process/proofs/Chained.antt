-- Steps one after the other, of which each went on, or one died.
use Rattle.std.proofs.Common.{◌≡◌, refl}
use Rattle.st_model.specs.declared.dead.Dead.{Dead}
use Rattle.st_model.specs.Machine.{State, Transition, Died, Went, Step, after, ◌>>=◌, ◌>>◌}
use Rattle.st_model.specs.Table.{Table}

module _ {A B : Type 0} (p : Step Table A) (f : A → Step Table B) (s : State Table) where
  pub dies : (k : Dead) → p.run s ≡ Died k → (p >>= f).run s ≡ Died k
  unfolding ◌>>=◌ after
  dies k e = rw e refl

  pub goes : (a : A) (t : State Table) (x : Transition (State Table) B) → p.run s ≡ Went a t → (f a).run t ≡ x → (p >>= f).run s ≡ x
  unfolding ◌>>=◌ after
  goes a t x e h = rw e h

module _ {A B : Type 0} (p : Step Table A) (q : Step Table B) (s : State Table) where
  pub first-dies : (k : Dead) → p.run s ≡ Died k → (p >> q).run s ≡ Died k
  unfolding ◌>>◌ ◌>>=◌ after
  first-dies k e = rw e refl

  pub first-goes : (a : A) (t : State Table) (x : Transition (State Table) B) → p.run s ≡ Went a t → q.run t ≡ x → (p >> q).run s ≡ x
  unfolding ◌>>◌ ◌>>=◌ after
  first-goes a t x e h = rw e h
