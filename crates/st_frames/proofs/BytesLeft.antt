-- Bytes that are stored at once, and as a deed that is left: both come to one state where the first byte and the size are read.
use Rattle.std.proofs.Common.{◌≡◌, ℕ, zero, suc, ◌+◌, ◌<◌, ◌≤◌, List, [], ◌∷◌, length, Option, Some, None, Bool, true, false, refl, sym, ◌∙◌, ap, arith, inl, inr, ◌⊎◌, length-set}
use Rattle.std.specs.Prelude.{◌-◌, ◌&&◌, slice_get, nat_le, if◌then◌else◌}
use Rattle.std.proofs.lemmas.Bool.Decides.{nat_tests}
use Rattle.st_model.specs.declared.dead.Dead.{Dead}
use Rattle.st_model.specs.declared.dead.Dead.TheVariants as dead
use Rattle.st_model.specs.Values.{Value, Small, Ref}
use Rattle.st_model.specs.Objects.{Object, has_bytes, first_unit, size_of, object_with_unit}
use Rattle.st_model.specs.Machine.{ObjectMemory, State, Died, Went, Step, answer, die, after, ◌>>=◌, ◌>>◌}
use Rattle.st_model.specs.Table.{Table, entry, changed, IsTabular}
use Rattle.st_model.specs.Steps.{found, object_named, object, check, or_die, fetch_size, fetch_byte, store_byte, store_bytes}
use Rattle.st_model.specs.Deeds.{changed_object, changed_by, byte_stored, bytes_stored, over}
use Rattle.st_model.proofs.TableLemmas.{changed-some}
use Rattle.st_model.proofs.Leaving.{byte-left, byte-unleft}
use Rattle.st_model.proofs.KindTests.{bytes_pointers}
use Rattle.st_model.proofs.Entries.{changed-again}
use Rattle.st_model.proofs.Resting.{changed-itself}
use Rattle.st_model.proofs.Runs.{get-past}
use Rattle.st_memory.proofs.Bodies.{got_below}

pub got : {A : Type 0} (xs : List A) (i : ℕ) → i < length xs → (x : A) × (slice_get xs i ≡ Some x)
got [] i l = absurd (omega arith)
got (y ∷ xs) zero l = (y, refl)
got (y ∷ xs) (suc i) l = got xs i (omega arith)

-- where a byte is stored, kind, fields and the number of units stay
kept : {A : Type 0} (f : Object → A) (b : Bool) (p o : Object) → f p ≡ f o → f (if b then p else o) ≡ f o
kept f true p o e = e
kept f false p o e = refl

module _ (i x : ℕ) (o : Object) where
  stored_kind : (byte_stored i x o).kind ≡ o.kind
  stored_kind = kept (λ p. p.kind) (has_bytes o.kind && nat_le (first_unit o) i) (object_with_unit o (i - first_unit o) x) o refl

  stored_first : first_unit (byte_stored i x o) ≡ first_unit o
  stored_first = kept first_unit (has_bytes o.kind && nat_le (first_unit o) i) (object_with_unit o (i - first_unit o) x) o refl

  stored_length : length (byte_stored i x o).units ≡ length o.units
  stored_length = kept (λ p. length p.units) (has_bytes o.kind && nat_le (first_unit o) i) (object_with_unit o (i - first_unit o) x) o (length-set o.units (i - first_unit o) x)

-- an object is there that has this byte
pub record HasByte (t : Table) (n i : ℕ) (o : Object) : Type 0 where
  pub is : entry t n ≡ Some o
  pub bytes : has_bytes o.kind ≡ true
  pub low : first_unit o ≤ i
  pub high : i < first_unit o + length o.units

pub size_with_bytes : (o : Object) → has_bytes o.kind ≡ true → size_of o ≡ first_unit o + length o.units
size_with_bytes o e = rw (bytes_pointers o.kind e) refl

pub below : (x y : ℕ) → (x < y) ⊎ (y ≤ x)
below x y = grind arith

module _ (m : ObjectMemory Table) (tabular : IsTabular m) where
  looks : {A : Type 0} → (Object → Step Table A) → Option Object → Step Table A
  looks f x = found x >>= f

  pub read_is : (t : Table) (n : ℕ) → m.read t n ≡ entry t n
  read_is t n = λ j. tabular.read j t n

  byte_of : ℕ → Object → Step Table ℕ
  byte_of i o = check dead.Kind (has_bytes o.kind) >> (check dead.Field (nat_le (first_unit o) i) >> or_die dead.Field (slice_get o.units (i - first_unit o)))

  byte_looks : (n i : ℕ) (s : State Table) (y : Option Object) (w : ℕ) (u : State Table) → entry s.memory n ≡ y → (looks (byte_of i) y).run s ≡ Went w u → (o : Object) × HasByte s.memory n i o
  unfolding looks byte_of ◌>>=◌ ◌>>◌ after found answer die check or_die
  byte_looks n i s None w u e f = cc
  byte_looks n i s (Some o) w u e f = of_kind (has_bytes o.kind) (nat_le (first_unit o) i) (slice_get o.units (i - first_unit o)) refl refl refl f
    where
      of_kind : (b c : Bool) (x : Option ℕ) → has_bytes o.kind ≡ b → nat_le (first_unit o) i ≡ c → slice_get o.units (i - first_unit o) ≡ x
          → (check dead.Kind b >> (check dead.Field c >> or_die dead.Field x)).run s ≡ Went w u → (o : Object) × HasByte s.memory n i o
      of_kind false c x k l g f = cc
      of_kind true false x k l g f = cc
      of_kind true true None k l g f = cc
      of_kind true true (Some v) k l g f =
          let h = got_below o.units (i - first_unit o) v g in
          let a : first_unit o ≤ i = grind (arith, nat_tests) in
          (o, record { is = e; bytes = k; low = a; high = omega (arith, a, h) })

  pub has_byte : (n i w : ℕ) (s u : State Table) → (fetch_byte m (Ref n) i).run s ≡ Went w u → (o : Object) × HasByte s.memory n i o
  unfolding fetch_byte object object_named looks byte_of ◌>>=◌
  has_byte n i w s u e = byte_looks n i s (m.read s.memory n) w u (sym (read_is s.memory n)) e

  pub fetched : (n i : ℕ) (s : State Table) (o : Object) → HasByte s.memory n i o → (w : ℕ) × ((fetch_byte m (Ref n) i).run s ≡ Went w s)
  unfolding fetch_byte object object_named ◌>>=◌ ◌>>◌ after found answer check or_die
  fetched n i s o h =
      let r : m.read s.memory n ≡ Some o = read_is s.memory n ∙ h.is in
      let x = got o.units (i - first_unit o) (omega (arith, h.low, h.high)) in
      let l : nat_le (first_unit o) i ≡ true = let q = h.low in grind (arith, nat_tests) in
      (x.0, rw (r, h.bytes, l, x.1) refl)

  pub past : (n i : ℕ) (s : State Table) (o : Object) → entry s.memory n ≡ Some o → has_bytes o.kind ≡ true → first_unit o ≤ i → first_unit o + length o.units ≤ i
      → (fetch_byte m (Ref n) i).run s ≡ Died dead.Field
  unfolding fetch_byte object object_named ◌>>=◌ ◌>>◌ after found answer check or_die die
  past n i s o e k low high =
      let r : m.read s.memory n ≡ Some o = read_is s.memory n ∙ e in
      let x = get-past o.units (i - first_unit o) (omega (arith, low, high)) in
      let l : nat_le (first_unit o) i ≡ true = grind (arith, nat_tests) in
      rw (r, k, l, x) refl

  pub sized : (n k : ℕ) (s u : State Table) (o : Object) → entry s.memory n ≡ Some o → (fetch_size m (Ref n)).run s ≡ Went k u → k ≡ size_of o
  unfolding fetch_size object object_named ◌>>=◌ after found answer
  sized n k s u o e f =
      let r : m.read s.memory n ≡ Some o = read_is s.memory n ∙ e in
      let q = rw r at f in cc

  pub sized_there : (n : ℕ) (k : Dead) (s : State Table) (o : Object) → entry s.memory n ≡ Some o → (fetch_size m (Ref n)).run s ≡ Died k → ⊥
  unfolding fetch_size object object_named ◌>>=◌ after found answer
  sized_there n k s o e f =
      let r : m.read s.memory n ≡ Some o = read_is s.memory n ∙ e in
      let q = rw r at f in cc

  store_then : (v : Value) (i b : ℕ) (bs : List ℕ) (s u : State Table) → (store_byte m v i b).run s ≡ Went tt u → (store_bytes m v i (b ∷ bs)).run s ≡ (store_bytes m v (suc i) bs).run u
  unfolding store_bytes ◌>>◌ ◌>>=◌ after
  store_then v i b bs s u e = rw e refl

  store_died : (v : Value) (i b : ℕ) (bs : List ℕ) (s : State Table) (k : Dead) → (store_byte m v i b).run s ≡ Died k → (store_bytes m v i (b ∷ bs)).run s ≡ Died k
  unfolding store_bytes ◌>>◌ ◌>>=◌ after
  store_died v i b bs s k e = rw e refl

  stored_none : (v : Value) (i : ℕ) (s : State Table) → (store_bytes m v i []).run s ≡ Went tt s
  unfolding store_bytes answer
  stored_none v i s = refl

  stored_byte : (n i b : ℕ) (s : State Table) (o : Object) → HasByte s.memory n i o → (store_byte m (Ref n) i b).run s ≡ Went tt (record s { memory = changed s.memory n (byte_stored i b o) })
  stored_byte n i b s o h =
      let w = fetched n i s o h in
      byte-left m tabular (Ref n) i b w.0 s w.1 ∙ ap (λ y. Went tt (record s { memory = changed_object (byte_stored i b) s.memory n y })) h.is

  -- bytes that the object has
  stored_all : (n i : ℕ) (bs : List ℕ) (s : State Table) (o : Object) → entry s.memory n ≡ Some o → has_bytes o.kind ≡ true → first_unit o ≤ i → i + length bs ≤ first_unit o + length o.units
      → (store_bytes m (Ref n) i bs).run s ≡ Went tt (record s { memory = changed s.memory n (bytes_stored i bs o) })
  stored_all n i [] s o e k low high = stored_none (Ref n) i s ∙ ap (λ (t : Table). Went tt (record s { memory = t })) (sym (changed-itself s.memory n o e))
  stored_all n i (b ∷ bs) s o e k low high =
      let p = byte_stored i b o in
      let h : HasByte s.memory n i o = record { is = e; bytes = k; low = low; high = omega (arith, high) } in
      let a = stored_kind i b o in
      let f = stored_first i b o in
      let l = stored_length i b o in
      store_then (Ref n) i b bs s (record s { memory = changed s.memory n p }) (stored_byte n i b s o h)
      ∙ (stored_all n (suc i) bs (record s { memory = changed s.memory n p }) p (changed-some s.memory n p o e) (ap has_bytes a ∙ k) (omega (arith, f, low)) (omega (arith, f, l, high))
      ∙ ap (λ (t : Table). Went tt (record s { memory = t })) (changed-again s.memory n p (bytes_stored (suc i) bs p)))

  -- and more than it has
  stored_past : (n i : ℕ) (bs : List ℕ) (s : State Table) (o : Object) → entry s.memory n ≡ Some o → has_bytes o.kind ≡ true → first_unit o ≤ i → i ≤ first_unit o + length o.units
      → first_unit o + length o.units < i + length bs → (store_bytes m (Ref n) i bs).run s ≡ Died dead.Field
  stored_past n i [] s o e k low within high = absurd (omega (arith, within, high))
  stored_past n i (b ∷ bs) s o e k low within high =
      let p = byte_stored i b o in
      let a = stored_kind i b o in
      let f = stored_first i b o in
      let g = stored_length i b o in
      elim (below i (first_unit o + length o.units)) [
        | inl l ↦
            store_then (Ref n) i b bs s (record s { memory = changed s.memory n p }) (stored_byte n i b s o (record { is = e; bytes = k; low = low; high = l }))
            ∙ stored_past n (suc i) bs (record s { memory = changed s.memory n p }) p (changed-some s.memory n p o e) (ap has_bytes a ∙ k) (omega (arith, f, low)) (omega (arith, f, g, l)) (omega (arith, f, g, high))
        | inr l ↦ store_died (Ref n) i b bs s dead.Field (byte-unleft m tabular (Ref n) i b dead.Field s (past n i s o e k low l))
      ]

  -- of a value, by what is read first: its byte and its size
  pub bytes-left : (v : Value) (i : ℕ) (bs : List ℕ) (s : State Table) (w size : ℕ) → (fetch_byte m v i).run s ≡ Went w s → (fetch_size m v).run s ≡ Went size s → i + length bs ≤ size
      → (store_bytes m v i bs).run s ≡ Went tt (over (λ t. changed_by (bytes_stored i bs) t v) s)
  unfolding fetch_byte object ◌>>=◌ after die
  bytes-left (Small n) i bs s w size e f l = cc
  bytes-left (Ref n) i bs s w size e f l = by (has_byte n i w s s e)
    where
      by : ((o : Object) × HasByte s.memory n i o) → (store_bytes m (Ref n) i bs).run s ≡ Went tt (over (λ t. changed_by (bytes_stored i bs) t (Ref n)) s)
      by q =
          let o = q.0 in
          let h = q.1 in
          let z : size ≡ first_unit o + length o.units = sized n size s s o h.is f ∙ size_with_bytes o h.bytes in
          stored_all n i bs s o h.is h.bytes h.low (omega (arith, l, z)) ∙ ap (λ y. Went tt (record s { memory = changed_object (bytes_stored i bs) s.memory n y })) (sym h.is)

  pub bytes-past : (v : Value) (i : ℕ) (bs : List ℕ) (s : State Table) (w size : ℕ) → (fetch_byte m v i).run s ≡ Went w s → (fetch_size m v).run s ≡ Went size s → size < i + length bs
      → (store_bytes m v i bs).run s ≡ Died dead.Field
  unfolding fetch_byte object ◌>>=◌ after die
  bytes-past (Small n) i bs s w size e f l = cc
  bytes-past (Ref n) i bs s w size e f l = by (has_byte n i w s s e)
    where
      by : ((o : Object) × HasByte s.memory n i o) → (store_bytes m (Ref n) i bs).run s ≡ Died dead.Field
      by q =
          let o = q.0 in
          let h = q.1 in
          let z : size ≡ first_unit o + length o.units = sized n size s s o h.is f ∙ size_with_bytes o h.bytes in
          stored_past n i bs s o h.is h.bytes h.low (let a = h.high in omega (arith, a)) (omega (arith, l, z))

  pub bytes-unsized : (v : Value) (i : ℕ) (s : State Table) (w : ℕ) (k : Dead) → (fetch_byte m v i).run s ≡ Went w s → (fetch_size m v).run s ≡ Died k → ⊥
  unfolding fetch_byte object ◌>>=◌ after die
  bytes-unsized (Small n) i s w k e f = cc
  bytes-unsized (Ref n) i s w k e f = let q = has_byte n i w s s e in sized_there n k s q.0 q.1.is f

  pub bytes-unleft : (v : Value) (i : ℕ) (bs : List ℕ) (s : State Table) (k : Dead) → 0 < length bs → (fetch_byte m v i).run s ≡ Died k → (store_bytes m v i bs).run s ≡ Died k
  bytes-unleft v i [] s k l e = absurd (omega (arith, l))
  bytes-unleft v i (b ∷ bs) s k l e = store_died v i b bs s k (byte-unleft m tabular v i b k s e)
  -- bytes that are fetched

pub ruleset bytes = (bytes-left, bytes-past, bytes-unleft)

pub some_more : (bs : List ℕ) (n : ℕ) → length bs ≡ n → 1 ≤ n → 0 < length bs
some_more bs n e l = omega (arith, e, l)
