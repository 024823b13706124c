-- The next element of a stream is taken or put where a deed is left, and then its position rises.
use Rattle.std.proofs.Common.{◌≡◌, ℕ, ◌+◌, false, refl}
use Rattle.st_model.specs.declared.dead.Dead.{Dead}
use Rattle.st_model.specs.declared.deed.Deed.{Deed}
use Rattle.st_model.specs.Values.{Value, Small}
use Rattle.st_model.specs.Machine.{ObjectMemory, State, Died, Went, answer, after, ◌>>=◌, ◌>>◌}
use Rattle.st_model.specs.Table.{Table, IsTabular}
use Rattle.st_model.specs.Steps.{fetch_field, store_field}
use Rattle.st_model.specs.Storage.{Standing, Putting, store_element, stream_element, take_next, put_next}
use Rattle.st_model.specs.Deeds.{copies_pixels, deed_done, world_done, with_deed}
use Rattle.st_simulation.proofs.Deeds.{deed_leaves, store_field-commutes}
use Rattle.st_frames.proofs.Commuting.{went, died}

module _ (m : ObjectMemory Table) (tabular : IsTabular m) (d : Deed) (plain : copies_pixels d ≡ false) where
  field-left : (v : Value) (i : ℕ) (x : Value) (s t : State Table) → (store_field m v i x).run s ≡ Went tt t → (store_field m v i x).run (with_deed d s) ≡ Went tt (with_deed d t)
  field-left v i x s t e = went (deed_done d) (world_done d) (store_field m v i x) tt s t (store_field-commutes (deed_done d) (world_done d) m tabular (deed_leaves d plain) v i x) e

  field-died : (v : Value) (i : ℕ) (x : Value) (s : State Table) (k : Dead) → (store_field m v i x).run s ≡ Died k → (store_field m v i x).run (with_deed d s) ≡ Died k
  field-died v i x s k e = died (deed_done d) (world_done d) (store_field m v i x) s k (store_field-commutes (deed_done d) (world_done d) m tabular (deed_leaves d plain) v i x) e

-- the next element of a stream is taken or put, and then its position rises
module _ (m : ObjectMemory Table) (tabular : IsTabular m) (d : Deed) (plain : copies_pixels d ≡ false) where
  pub taken-left : (v c x : Value) (p : Standing) (s t u : State Table) → (fetch_field m v 0).run s ≡ Went c s → (stream_element m c p.place p.characters).run s ≡ Went x (with_deed d t)
      → (store_field m v 1 (Small (p.position + 1))).run t ≡ Went tt u → (take_next m v p).run s ≡ Went x (with_deed d u)
  unfolding take_next ◌>>=◌ ◌>>◌ after answer
  taken-left v c x p s t u e f h = rw (e, f, field-left m tabular d plain v 1 (Small (p.position + 1)) t u h) refl

  pub taken-died : (v c x : Value) (p : Standing) (s t : State Table) (k : Dead) → (fetch_field m v 0).run s ≡ Went c s → (stream_element m c p.place p.characters).run s ≡ Went x (with_deed d t)
      → (store_field m v 1 (Small (p.position + 1))).run t ≡ Died k → (take_next m v p).run s ≡ Died k
  unfolding take_next ◌>>=◌ ◌>>◌ after answer
  taken-died v c x p s t k e f h = rw (e, f, field-died m tabular d plain v 1 (Small (p.position + 1)) t k h) refl

  pub put-left : (v c x : Value) (p : Putting) (s t u : State Table) → (fetch_field m v 0).run s ≡ Went c s → (store_element m c p.standing.place x p.unit).run s ≡ Went tt (with_deed d t)
      → (store_field m v 1 (Small (p.standing.position + 1))).run t ≡ Went tt u → (put_next m v x p).run s ≡ Went x (with_deed d u)
  unfolding put_next ◌>>=◌ ◌>>◌ after answer
  put-left v c x p s t u e f h = rw (e, f, field-left m tabular d plain v 1 (Small (p.standing.position + 1)) t u h) refl

  pub put-died : (v c x : Value) (p : Putting) (s t : State Table) (k : Dead) → (fetch_field m v 0).run s ≡ Went c s → (store_element m c p.standing.place x p.unit).run s ≡ Went tt (with_deed d t)
      → (store_field m v 1 (Small (p.standing.position + 1))).run t ≡ Died k → (put_next m v x p).run s ≡ Died k
  unfolding put_next ◌>>=◌ ◌>>◌ after answer
  put-died v c x p s t k e f h = rw (e, f, field-died m tabular d plain v 1 (Small (p.standing.position + 1)) t k h) refl
