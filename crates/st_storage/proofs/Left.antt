-- Bytes and headers that are stored at once, and as a deed that is left: both come to one state where the bytes are read, or the
-- header and its count.
use Rattle.std.proofs.Common.{◌≡◌, ◌≢◌, ℕ, zero, suc, ◌+◌, ◌<◌, ◌≤◌, List, [], ◌∷◌, length, Option, Some, None, Bool, true, false, refl, sym, ◌∙◌, ap, arith, inl, inr, take, drop}
use Rattle.std.specs.Prelude.{◌-◌, ◌==◌, slice_get, nat_lt, nat_le}
use Rattle.std.proofs.lemmas.Bool.Decides.{nat_tests}
use Rattle.st_model.specs.declared.dead.Dead.{Dead}
use Rattle.st_model.specs.declared.dead.Dead.TheVariants as dead
use Rattle.st_model.specs.declared.kind.Kind.{Kind}
use Rattle.st_model.specs.declared.kind.Kind.TheVariants as kind
use Rattle.st_model.specs.Values.{Value, Small, Ref}
use Rattle.st_model.specs.Objects.{Object, is_bytes, is_method, has_bytes, first_unit, with_field}
use Rattle.st_model.specs.Machine.{ObjectMemory, State, Died, Went, Step, is_there, answer, die, after, ◌>>=◌, ◌>>◌}
use Rattle.st_model.specs.Table.{Table, table, entry, changed, IsTabular}
use Rattle.st_model.specs.Steps.{found, object_named, object, stored_at, store_at, set_field, check, or_die, fetch_kind, fetch_size, fetch_byte, fetch_bytes, store_bytes, fetch_method_field, store_method_field}
use Rattle.st_model.specs.Methods.{literal_count, method_header}
use Rattle.st_model.specs.Primitives.{bits_or_die}
use Rattle.st_model.specs.Storage.{count_literals, check_header, Replacing, replace_and_answer}
use Rattle.st_model.specs.Deeds.{changed_object, changed_by, bytes_stored, bytes_replaced, bytes_from, header_stored, literal_stored, over}
use Rattle.st_model.proofs.Leaving.{word-left, word-unleft, byte-left, byte-unleft, literal-left, died}
use Rattle.st_frames.proofs.BytesLeft.{got, HasByte, size_with_bytes, below, read_is, has_byte, fetched, past, sized}
use Rattle.st_memory.proofs.Bodies.{got_below}

module _ (m : ObjectMemory Table) (tabular : IsTabular m) where
  looks : {A : Type 0} → (Object → Step Table A) → Option Object → Step Table A
  looks f x = found x >>= f

  fetch_then : (v : Value) (i n b : ℕ) (bs : List ℕ) (s : State Table) → (fetch_byte m v i).run s ≡ Went b s → (fetch_bytes m v (suc i) n).run s ≡ Went bs s → (fetch_bytes m v i (suc n)).run s ≡ Went (b ∷ bs) s
  unfolding fetch_bytes ◌>>=◌ after answer
  fetch_then v i n b bs s e f = rw (e, f) refl

  fetched_none : (v : Value) (i : ℕ) (s : State Table) → (fetch_bytes m v i 0).run s ≡ Went [] s
  unfolding fetch_bytes answer
  fetched_none v i s = refl

  fetched_at : (n i : ℕ) (s : State Table) (o : Object) (b : ℕ) → HasByte s.memory n i o → slice_get o.units (i - first_unit o) ≡ Some b → (fetch_byte m (Ref n) i).run s ≡ Went b s
  unfolding fetch_byte object object_named ◌>>=◌ ◌>>◌ after found answer check or_die
  fetched_at n i s o b h x =
      let r : m.read s.memory n ≡ Some o = read_is m tabular s.memory n ∙ h.is in
      let l : nat_le (first_unit o) i ≡ true = let q = h.low in grind (arith, nat_tests) in
      rw (r, h.bytes, l, x) refl

  taken : (xs : List ℕ) (j : ℕ) (b n : ℕ) → slice_get xs j ≡ Some b → take (suc n) (drop j xs) ≡ b ∷ take n (drop (suc j) xs)
  taken [] j b n e = cc
  taken (x ∷ xs) zero b n e = let q : x ≡ b = cc in ap (λ y. y ∷ take n xs) q
  taken (x ∷ xs) (suc j) b n e = taken xs j b n e

  fetched_all : (n i k : ℕ) (s : State Table) (o : Object) → entry s.memory n ≡ Some o → has_bytes o.kind ≡ true → first_unit o ≤ i → i + k ≤ first_unit o + length o.units
      → (fetch_bytes m (Ref n) i k).run s ≡ Went (take k (drop (i - first_unit o) o.units)) s
  fetched_all n i zero s o e f low high = fetched_none (Ref n) i s
  fetched_all n i (suc k) s o e f low high =
      let x = got o.units (i - first_unit o) (omega (arith, low, high)) in
      let h : HasByte s.memory n i o = record { is = e; bytes = f; low = low; high = omega (arith, high) } in
      let j : suc i - first_unit o ≡ suc (i - first_unit o) = omega (arith, low) in
      let rest = fetched_all n (suc i) k s o e f (omega (arith, low)) (omega (arith, high)) in
      fetch_then (Ref n) i k x.0 (take k (drop (suc i - first_unit o) o.units)) s (fetched_at n i s o x.0 h x.1) rest
      ∙ ap (λ bs. Went bs s) (ap (λ a. x.0 ∷ take k (drop a o.units)) j ∙ sym (taken o.units (i - first_unit o) x.0 k x.1))

  kind_is : (n : ℕ) (s u : State Table) (k : Kind) (o : Object) → entry s.memory n ≡ Some o → (fetch_kind m (Ref n)).run s ≡ Went k u → k ≡ o.kind
  unfolding fetch_kind object object_named ◌>>=◌ after found answer
  kind_is n s u k o e f =
      let r : m.read s.memory n ≡ Some o = read_is m tabular s.memory n ∙ e in
      let q = rw r at f in cc

  pub bytes-fetched : (v : Value) (i k : ℕ) (s : State Table) (w size : ℕ) → (fetch_byte m v i).run s ≡ Went w s → (fetch_size m v).run s ≡ Went size s → (fetch_kind m v).run s ≡ Went kind.Bytes s
      → i + k ≤ size → (fetch_bytes m v i k).run s ≡ Went (bytes_from s.memory v i k) s
  unfolding fetch_byte object ◌>>=◌ after die
  bytes-fetched (Small n) i k s w size e f g l = cc
  bytes-fetched (Ref n) i k s w size e f g l = by (has_byte m tabular n i w s s e)
    where
      by : ((o : Object) × HasByte s.memory n i o) → (fetch_bytes m (Ref n) i k).run s ≡ Went (bytes_from s.memory (Ref n) i k) s
      by q =
          let o = q.0 in
          let h = q.1 in
          let z : size ≡ first_unit o + length o.units = sized m tabular n size s s o h.is f ∙ size_with_bytes o h.bytes in
          let b : is_bytes o.kind ≡ true = ap is_bytes (sym (kind_is n s s kind.Bytes o h.is g)) in
          fetched_all n i k s o h.is h.bytes h.low (omega (arith, l, z)) ∙ ap (λ bs. Went bs s) (sym (rw (h.is, b) refl))

  pub bytes-unfetched : (v : Value) (i k : ℕ) (s : State Table) (c : Dead) → 0 < k → (fetch_byte m v i).run s ≡ Died c → (fetch_bytes m v i k).run s ≡ Died c
  unfolding fetch_bytes ◌>>=◌ after
  bytes-unfetched v i zero s c l e = absurd (omega (arith, l))
  bytes-unfetched v i (suc k) s c l e = rw e refl

  fetch_died : (v : Value) (i n b : ℕ) (s : State Table) (k : Dead) → (fetch_byte m v i).run s ≡ Went b s → (fetch_bytes m v (suc i) n).run s ≡ Died k → (fetch_bytes m v i (suc n)).run s ≡ Died k
  unfolding fetch_bytes ◌>>=◌ after
  fetch_died v i n b s k e f = rw (e, f) refl

  -- more bytes than there are
  fetched_past : (n i k : ℕ) (s : State Table) (o : Object) → entry s.memory n ≡ Some o → has_bytes o.kind ≡ true → first_unit o ≤ i → i ≤ first_unit o + length o.units
      → first_unit o + length o.units < i + k → (fetch_bytes m (Ref n) i k).run s ≡ Died dead.Field
  fetched_past n i zero s o e f low within high = absurd (omega (arith, within, high))
  fetched_past n i (suc k) s o e f low within high = elim (below i (first_unit o + length o.units)) [
    | inl l ↦
        let w = fetched m tabular n i s o (record { is = e; bytes = f; low = low; high = l }) in
        fetch_died (Ref n) i k w.0 s dead.Field w.1 (fetched_past n (suc i) k s o e f (omega (arith, low)) (omega (arith, l)) (omega (arith, high)))
    | inr l ↦ bytes-unfetched (Ref n) i (suc k) s dead.Field (omega arith) (past m tabular n i s o e f low l)
  ]

  pub bytes-unfetchable : (v : Value) (i k : ℕ) (s : State Table) (w size : ℕ) → (fetch_byte m v i).run s ≡ Went w s → (fetch_size m v).run s ≡ Went size s → size < i + k
      → (fetch_bytes m v i k).run s ≡ Died dead.Field
  unfolding fetch_byte object ◌>>=◌ after die
  bytes-unfetchable (Small n) i k s w size e f l = cc
  bytes-unfetchable (Ref n) i k s w size e f l = by (has_byte m tabular n i w s s e)
    where
      by : ((o : Object) × HasByte s.memory n i o) → (fetch_bytes m (Ref n) i k).run s ≡ Died dead.Field
      by q =
          let o = q.0 in
          let h = q.1 in
          let z : size ≡ first_unit o + length o.units = sized m tabular n size s s o h.is f ∙ size_with_bytes o h.bytes in
          fetched_past n i k s o h.is h.bytes h.low (let a = h.high in omega (arith, a)) (omega (arith, l, z))

  taken_length : (xs : List ℕ) (j k : ℕ) → j + k ≤ length xs → length (take k (drop j xs)) ≡ k
  taken_length xs j zero l = refl
  taken_length [] j (suc k) l = absurd (omega (arith, l))
  taken_length (x ∷ xs) zero (suc k) l = ap (λ n. suc n) (taken_length xs zero k (omega (arith, l)))
  taken_length (x ∷ xs) (suc j) (suc k) l = taken_length xs j (suc k) (omega (arith, l))

  pub bytes-counted : (v : Value) (i k : ℕ) (s : State Table) (w size : ℕ) → (fetch_byte m v i).run s ≡ Went w s → (fetch_size m v).run s ≡ Went size s → (fetch_kind m v).run s ≡ Went kind.Bytes s
      → i + k ≤ size → length (bytes_from s.memory v i k) ≡ k
  unfolding fetch_byte object ◌>>=◌ after die
  bytes-counted (Small n) i k s w size e f g l = cc
  bytes-counted (Ref n) i k s w size e f g l = by (has_byte m tabular n i w s s e)
    where
      by : ((o : Object) × HasByte s.memory n i o) → length (bytes_from s.memory (Ref n) i k) ≡ k
      by q =
          let o = q.0 in
          let h = q.1 in
          let z : size ≡ first_unit o + length o.units = sized m tabular n size s s o h.is f ∙ size_with_bytes o h.bytes in
          let b : is_bytes o.kind ≡ true = ap is_bytes (sym (kind_is n s s kind.Bytes o h.is g)) in
          let low = h.low in
          rw (h.is, b) (taken_length o.units (i - first_unit o) k (omega (arith, l, z, low)))

  -- bytes stored in an object of kind Bytes
  of_kind_bytes : (n : ℕ) (s : State Table) (y : Option Object) → (looks (λ o. answer o.kind) y).run s ≡ Went kind.Bytes s → (o : Object) × (y ≡ Some o) × (is_bytes o.kind ≡ true)
  unfolding looks ◌>>=◌ after found answer die
  of_kind_bytes n s None e = cc
  of_kind_bytes n s (Some o) e = let q : o.kind ≡ kind.Bytes = cc in (o, refl, ap is_bytes q)

  pub bytes-replaced : (v : Value) (i : ℕ) (bs : List ℕ) (s : State Table) → (fetch_kind m v).run s ≡ Went kind.Bytes s
      → changed_by (bytes_stored i bs) s.memory v ≡ changed_by (bytes_replaced i bs) s.memory v
  unfolding fetch_kind object object_named looks ◌>>=◌ after die
  bytes-replaced (Small n) i bs s e = refl
  bytes-replaced (Ref n) i bs s e = by (of_kind_bytes n s (m.read s.memory n) e)
    where
      by : ((o : Object) × (m.read s.memory n ≡ Some o) × (is_bytes o.kind ≡ true)) → changed_by (bytes_stored i bs) s.memory (Ref n) ≡ changed_by (bytes_replaced i bs) s.memory (Ref n)
      by q =
          let is : entry s.memory n ≡ Some q.0 = sym (read_is m tabular s.memory n) ∙ q.1 in
          rw (is, q.2) refl

  -- bytes that become those of another object
  pub replace-none : (v w : Value) (p : Replacing) (s : State Table) → p.last + 1 - p.first ≡ 0 → (replace_and_answer m v w p).run s ≡ Went v s
  unfolding replace_and_answer fetch_bytes store_bytes ◌>>=◌ ◌>>◌ after answer
  replace-none v w p s e = rw e refl

  pub replace-unfetched : (v w : Value) (p : Replacing) (s : State Table) (k : Dead) → (fetch_bytes m w (p.from - 1) (p.last + 1 - p.first)).run s ≡ Died k → (replace_and_answer m v w p).run s ≡ Died k
  unfolding replace_and_answer ◌>>=◌ after
  replace-unfetched v w p s k e = rw e refl

  pub replace-unstored : (v w : Value) (p : Replacing) (s : State Table) (bs : List ℕ) (k : Dead) → (fetch_bytes m w (p.from - 1) (p.last + 1 - p.first)).run s ≡ Went bs s → (store_bytes m v (p.first - 1) bs).run s ≡ Died k
      → (replace_and_answer m v w p).run s ≡ Died k
  unfolding replace_and_answer ◌>>=◌ ◌>>◌ after
  replace-unstored v w p s bs k e f = rw (e, f) refl

  replace_done : (v w : Value) (p : Replacing) (s t : State Table) (bs : List ℕ) → (fetch_bytes m w (p.from - 1) (p.last + 1 - p.first)).run s ≡ Went bs s → (store_bytes m v (p.first - 1) bs).run s ≡ Went tt t
      → (replace_and_answer m v w p).run s ≡ Went v t
  unfolding replace_and_answer ◌>>=◌ ◌>>◌ after answer
  replace_done v w p s t bs e f = rw (e, f) refl

  replace_here : (v w : Value) (p : Replacing) (s : State Table) (bs : List ℕ) → bs ≡ bytes_from s.memory w (p.from - 1) (p.last + 1 - p.first) → (fetch_bytes m w (p.from - 1) (p.last + 1 - p.first)).run s ≡ Went bs s
      → (store_bytes m v (p.first - 1) bs).run s ≡ Went tt (over (λ t. changed_by (bytes_stored (p.first - 1) bs) t v) s) → (fetch_kind m v).run s ≡ Went kind.Bytes s
      → (replace_and_answer m v w p).run s ≡ Went v (over (λ t. changed_by (bytes_replaced (p.first - 1) (bytes_from t w (p.from - 1) (p.last + 1 - p.first))) t v) s)
  replace_here v w p s bs e f h k =
      replace_done v w p s (over (λ t. changed_by (bytes_stored (p.first - 1) bs) t v) s) bs f h
      ∙ ap (λ (t : Table). Went v (record s { memory = t })) (bytes-replaced v (p.first - 1) bs s k ∙ ap (λ vs. changed_by (bytes_replaced (p.first - 1) vs) s.memory v) e)

  pub replace-left : (v w : Value) (p : Replacing) (s : State Table) (u : Table) → s.memory ≡ u → (fetch_bytes m w (p.from - 1) (p.last + 1 - p.first)).run s ≡ Went (bytes_from u w (p.from - 1) (p.last + 1 - p.first)) s
      → (store_bytes m v (p.first - 1) (bytes_from u w (p.from - 1) (p.last + 1 - p.first))).run s ≡ Went tt (over (λ t. changed_by (bytes_stored (p.first - 1) (bytes_from u w (p.from - 1) (p.last + 1 - p.first))) t v) s)
      → (fetch_kind m v).run s ≡ Went kind.Bytes s
      → (replace_and_answer m v w p).run s ≡ Went v (over (λ t. changed_by (bytes_replaced (p.first - 1) (bytes_from t w (p.from - 1) (p.last + 1 - p.first))) t v) s)
  replace-left v w p s u q f h k = replace_here v w p s (bytes_from u w (p.from - 1) (p.last + 1 - p.first)) (ap (λ t. bytes_from t w (p.from - 1) (p.last + 1 - p.first)) (sym q)) f h k

  -- over the table of a state
  pub fetched-of : (v : Value) (i k : ℕ) (s : State Table) (t : Table) (w size : ℕ) → s.memory ≡ t → (fetch_byte m v i).run s ≡ Went w s → (fetch_size m v).run s ≡ Went size s → (fetch_kind m v).run s ≡ Went kind.Bytes s
      → i + k ≤ size → (fetch_bytes m v i k).run s ≡ Went (bytes_from t v i k) s
  fetched-of v i k s t w size q e f g l = bytes-fetched v i k s w size e f g l ∙ ap (λ u. Went (bytes_from u v i k) s) q

  pub counted-of : (v : Value) (i k : ℕ) (s : State Table) (t : Table) (w size : ℕ) → s.memory ≡ t → (fetch_byte m v i).run s ≡ Went w s → (fetch_size m v).run s ≡ Went size s → (fetch_kind m v).run s ≡ Went kind.Bytes s
      → i + k ≤ size → length (bytes_from t v i k) ≡ k
  counted-of v i k s t w size q e f g l = ap (λ u. length (bytes_from u v i k)) (sym q) ∙ bytes-counted v i k s w size e f g l

  -- headers

  header_by : Value → Option Object → Step Table (Unit {0})
  header_by x y =
      (looks (λ o. check dead.Kind (is_method o.kind) >> or_die dead.Field (slice_get o.fields 0)) y >>= (λ header. bits_or_die header >>= (λ bits. answer (literal_count (Small bits)))))
      >>= (λ n. bits_or_die x >>= (λ bits. check dead.Field (literal_count (Small bits) == n)))

  header_stored_there : (n : ℕ) (x : Value) (s : State Table) (o : Object) → entry s.memory n ≡ Some o → is_method o.kind ≡ true → 0 < length o.fields → is_there m s.memory x ≡ true
      → (store_method_field m (Ref n) 0 x).run s ≡ Went tt (record s { memory = changed s.memory n (with_field o 0 x) })
  unfolding store_method_field object object_named ◌>>=◌ ◌>>◌ after found answer check set_field store_at stored_at
  header_stored_there n x s o e k l there =
      let r : m.read s.memory n ≡ Some o = read_is m tabular s.memory n ∙ e in
      let b : nat_lt 0 (length o.fields) ≡ true = grind (arith, nat_tests) in
      rw (r, k, b, r, there) (λ j. Went tt (record s { memory = tabular.replace j s.memory n (with_field o 0 x) }))

  counted : (h : ℕ) (s : State Table) → is_there m s.memory (Small h) ≡ true → nat_lt h 32768 ≡ true
  counted h s e = e

  header_looks : (n h : ℕ) (s : State Table) (y : Option Object) → entry s.memory n ≡ y → (header_by (Small h) y).run s ≡ Went tt s → nat_lt h 32768 ≡ true
      → (o : Object) × (y ≡ Some o) × (is_method o.kind ≡ true) × (0 < length o.fields) × (header_stored (Small h) o ≡ with_field o 0 (Small h))
  unfolding header_by looks ◌>>=◌ ◌>>◌ after found answer die check or_die bits_or_die
  header_looks n h s None e f b = cc
  header_looks n h s (Some o) e f b = of_kind (is_method o.kind) (slice_get o.fields 0) refl refl f
    where
      counts : (g : ℕ) (c : Bool) → (literal_count (Small h) == literal_count (Small g)) ≡ c → (check dead.Field c).run s ≡ Went tt s → c ≡ true
      counts g true k f = refl
      counts g false k f = cc

      of_kind : (k : Bool) (x : Option Value) → is_method o.kind ≡ k → slice_get o.fields 0 ≡ x
          → (((check dead.Kind k >> or_die dead.Field x) >>= (λ header. bits_or_die header >>= (λ bits. answer (literal_count (Small bits))))) >>= (λ n. check dead.Field (literal_count (Small h) == n))).run s ≡ Went tt s
          → (p : Object) × (Some o ≡ Some p) × (is_method p.kind ≡ true) × (0 < length p.fields) × (header_stored (Small h) p ≡ with_field p 0 (Small h))
      of_kind false x k g f = cc
      of_kind true None k g f = cc
      of_kind true (Some (Ref r)) k g f = cc
      of_kind true (Some (Small r)) k g f =
          let l = got_below o.fields 0 (Small r) g in
          let c = counts r (literal_count (Small h) == literal_count (Small r)) refl f in
          (o, refl, k, l, rw (k, g, b, c) refl)

  -- what isn't there isn't stored
  not_stored : (n i : ℕ) (x : Value) (s : State Table) (o : Object) → stored_at m n i x s (Some o) false ≡ Died dead.Kind
  unfolding stored_at
  not_stored n i x s o = refl

  gone_object : (n i : ℕ) (x w : Value) (s u : State Table) (y : Option Object) → entry s.memory n ≡ y → (looks (λ o. check dead.Kind (is_method o.kind) >> or_die dead.Field (slice_get o.fields i)) y).run s ≡ Went w u → is_there m s.memory x ≡ false
      → (looks (λ o. check dead.Kind (is_method o.kind) >> (check dead.Field (nat_lt i (length o.fields)) >> set_field m (Ref n) i x)) y).run s ≡ Died dead.Kind
  unfolding looks ◌>>=◌ ◌>>◌ after found answer die check or_die set_field store_at
  gone_object n i x w s u None e f there = cc
  gone_object n i x w s u (Some o) e f there = of_kind (is_method o.kind) (slice_get o.fields i) refl f
    where
      of_kind : (b : Bool) (v : Option Value) → slice_get o.fields i ≡ v → (check dead.Kind b >> or_die dead.Field v).run s ≡ Went w u
          → (check dead.Kind b >> (check dead.Field (nat_lt i (length o.fields)) >> set_field m (Ref n) i x)).run s ≡ Died dead.Kind
      of_kind false v g f = cc
      of_kind true None g f = cc
      of_kind true (Some v) g f =
          let l = got_below o.fields i v g in
          let b : nat_lt i (length o.fields) ≡ true = grind (arith, nat_tests) in
          let r : m.read s.memory n ≡ Some o = read_is m tabular s.memory n ∙ e in
          rw (b, r, there) (not_stored n i x s o)

  pub field-gone : (v : Value) (i : ℕ) (x w : Value) (s u : State Table) → (fetch_method_field m v i).run s ≡ Went w u → is_there m s.memory x ≡ false → (store_method_field m v i x).run s ≡ Died dead.Kind
  unfolding fetch_method_field store_method_field object object_named looks ◌>>=◌ die after
  field-gone (Small n) i x w s u e there = cc
  field-gone (Ref n) i x w s u e there = gone_object n i x w s u (m.read s.memory n) (sym (read_is m tabular s.memory n)) e there

  pub field-missing : (v : Value) (i : ℕ) (x w : Value) (s : State Table) (t : Table) → s.memory ≡ t → (fetch_method_field m v i).run s ≡ Went w s → is_there m t x ≡ false → (store_method_field m v i x).run s ≡ Died dead.Kind
  field-missing v i x w s t q e there = field-gone v i x w s s e (ap (λ u. is_there m u x) q ∙ there)

  unfetched_object : (n i : ℕ) (x : Value) (k : Dead) (s : State Table) (y : Option Object) → (looks (λ o. check dead.Kind (is_method o.kind) >> or_die dead.Field (slice_get o.fields i)) y).run s ≡ Died k
      → (looks (λ o. check dead.Kind (is_method o.kind) >> (check dead.Field (nat_lt i (length o.fields)) >> set_field m (Ref n) i x)) y).run s ≡ Died k
  unfolding looks ◌>>=◌ ◌>>◌ after found answer die check or_die
  unfetched_object n i x k s None f = died dead.Kind k f
  unfetched_object n i x k s (Some o) f = of_kind (is_method o.kind) (slice_get o.fields i) refl f
    where
      past_it : slice_get o.fields i ≡ None → nat_lt i (length o.fields) ≡ false
      past_it g = elim (below i (length o.fields)) [
        | inl l ↦ let q = got o.fields i l in cc (q.1, g)
        | inr l ↦ grind (arith, nat_tests)
      ]

      of_kind : (b : Bool) (v : Option Value) → slice_get o.fields i ≡ v → (check dead.Kind b >> or_die dead.Field v).run s ≡ Died k
          → (check dead.Kind b >> (check dead.Field (nat_lt i (length o.fields)) >> set_field m (Ref n) i x)).run s ≡ Died k
      of_kind false v g f = died dead.Kind k f
      of_kind true None g f = rw (past_it g) (died dead.Field k f)
      of_kind true (Some v) g f = cc

  pub field-unfetched : (v : Value) (i : ℕ) (x : Value) (k : Dead) (s : State Table) → (fetch_method_field m v i).run s ≡ Died k → (store_method_field m v i x).run s ≡ Died k
  unfolding fetch_method_field store_method_field object object_named looks ◌>>=◌ die after
  field-unfetched (Small n) i x k s e = died dead.Small k e
  field-unfetched (Ref n) i x k s e = unfetched_object n i x k s (m.read s.memory n) e

  pub literal-done : (v : Value) (i : ℕ) (x w : Value) (s : State Table) → i ≢ 0 → (fetch_method_field m v i).run s ≡ Went w s → is_there m s.memory x ≡ true
      → (store_method_field m v i x).run s ≡ Went tt (over (λ t. changed_by (literal_stored (i - 1) x (is_there table t x)) t v) s)
  literal-done v i x w s d e there =
      let j : i - 1 + 1 ≡ i = omega arith in
      let f : (fetch_method_field m v (i - 1 + 1)).run s ≡ Went w s = rw j e in
      let h = literal-left m tabular v (i - 1) x w s there f in
      rw j at h

  no_header : (k : ℕ) (s : State Table) (y : Option Object) → (header_by (Ref k) y).run s ≡ Went tt s → ⊥
  unfolding header_by looks ◌>>=◌ ◌>>◌ after found answer die check or_die bits_or_die
  no_header k s None f = cc
  no_header k s (Some o) f = of_kind (is_method o.kind) (slice_get o.fields 0) f
    where
      of_kind : (b : Bool) (x : Option Value)
          → (((check dead.Kind b >> or_die dead.Field x) >>= (λ header. bits_or_die header >>= (λ bits. answer (literal_count (Small bits))))) >>= (λ n. bits_or_die (Ref k) >>= (λ bits. check dead.Field (literal_count (Small bits) == n)))).run s ≡ Went tt s → ⊥
      of_kind false x f = cc
      of_kind true None f = cc
      of_kind true (Some (Ref r)) f = cc
      of_kind true (Some (Small r)) f = cc

  -- a header that counts as many literals
  pub header-left : (v x : Value) (s : State Table) → (check_header m v x).run s ≡ Went tt s → is_there m s.memory x ≡ true → (store_method_field m v 0 x).run s ≡ Went tt (over (λ t. changed_by (header_stored x) t v) s)
  unfolding check_header count_literals method_header object object_named header_by looks bits_or_die ◌>>=◌ ◌>>◌ after die
  header-left (Small n) x s e there = cc
  header-left (Ref n) (Ref k) s e there = absurd (no_header k s (m.read s.memory n) e)
  header-left (Ref n) (Small h) s e there = by (header_looks n h s (m.read s.memory n) (sym (read_is m tabular s.memory n)) e there)
    where
      by : ((o : Object) × (m.read s.memory n ≡ Some o) × (is_method o.kind ≡ true) × (0 < length o.fields) × (header_stored (Small h) o ≡ with_field o 0 (Small h)))
          → (store_method_field m (Ref n) 0 (Small h)).run s ≡ Went tt (over (λ t. changed_by (header_stored (Small h)) t (Ref n)) s)
      by q =
          let o = q.0 in
          let is : entry s.memory n ≡ Some o = sym (read_is m tabular s.memory n) ∙ q.1 in
          header_stored_there n (Small h) s o is q.2 q.3 there
          ∙ (ap (λ p. Went tt (record s { memory = changed s.memory n p })) (sym q.4)
          ∙ ap (λ y. Went tt (record s { memory = changed_object (header_stored (Small h)) s.memory n y })) (sym is))

pub ruleset method_fields = (header-left, literal-done, field-gone, field-unfetched)

pub ruleset units = (word-left, word-unleft, byte-left, byte-unleft)
