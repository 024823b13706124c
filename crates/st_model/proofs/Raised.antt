-- A closed state over a table shows the births that it begins with.
use Rattle.std.proofs.Common.{◌≡◌, ℕ, ◌+◌, List, [], ◌∷◌, zero, suc, Option, Some, None, refl, sym, ◌∙◌, ap, subst, arith}
use Rattle.st_model.specs.Values.{Value, Small, Ref, renamed, renamed_all, IsLive, AllLive}
use Rattle.st_model.specs.Objects.{Object, place_of, renamed_object, IsLiveObject}
use Rattle.st_model.specs.Machine.{State, Registers, World, Head, table_root, head_roots, device_roots, roots_of}
use Rattle.st_model.specs.Births.{Births, object_born, borne}
use Rattle.st_model.specs.Table.{Table, entry}
use Rattle.st_model.specs.Show.{renamed_registers, renamed_world, renamed_head, renamed_option, pointer_of, IsKept, IsUsed, Shows, IsClosed, rank, births_from, raised}
use Rattle.st_model.proofs.BirthLemmas.{pointer_of-borne}
use Rattle.st_model.proofs.SettledLemmas.{bearer-borne}
use Rattle.st_model.proofs.Names.{all_append, parts_roots, roots-renamed}

-- names that are changed and changed back
module _ (P : ℕ → Type 0) (f g : ℕ → ℕ) (e : (n : ℕ) → P n → g (f n) ≡ n) where
  value_back : (v : Value) → IsLive P v → renamed g (renamed f v) ≡ v
  value_back (Small n) h = refl
  value_back (Ref n) h = ap (λ x. Ref x) (e n h)

  values_back : (vs : List Value) → AllLive P vs → renamed_all g (renamed_all f vs) ≡ vs
  values_back [] h = refl
  values_back (v ∷ vs) h = let a = value_back v h.0 in let b = values_back vs h.1 in λ i. a i ∷ b i

  object_back : (o : Object) → IsLiveObject P o → renamed_object g (renamed_object f o) ≡ o
  object_back o h = let a = e o.class h.class in let b = values_back o.fields h.fields in λ i. record { class = a i; kind = o.kind; fields = b i; units = o.units }

  option_back : (x : Option Value) → AllLive P (table_root x) → renamed_option g (renamed_option f x) ≡ x
  option_back None h = refl
  option_back (Some v) h = ap (λ x. Some x) (value_back v h.0)

  module _ (r : Registers) (a : Head) (w : World) (h : AllLive P (parts_roots r a w)) where
    registers_back : renamed_registers g (renamed_registers f r) ≡ r
    registers_back =
        let p = value_back r.active h.0 in
        let q = value_back r.home h.1.0 in
        let s = value_back r.method h.1.1.0 in
        let t = value_back r.receiver h.1.1.1.0 in
        λ i. record { active = p i; home = q i; method = s i; receiver = t i; ip = r.ip; sp = r.sp }

    parts : AllLive P (head_roots a) × AllLive P (device_roots w.devices)
    parts = all_append P (head_roots a) (device_roots w.devices) h.1.1.1.1

    head_back : renamed_head g (renamed_head f a) ≡ a
    head_back =
        let k = all_append P (table_root a.globals) (table_root a.symbols) parts.0 in
        let p = option_back a.globals k.0 in
        let q = option_back a.symbols k.1 in
        λ i. record { entries = a.entries; words = a.words; globals = p i; symbols = q i }

    world_back : renamed_world g (renamed_world f w) ≡ w
    world_back =
        let d = w.devices in
        let k = parts.1 in
        let p = value_back d.new_process k.0 in
        let q = value_back d.display k.1.0 in
        let s = value_back d.cursor k.1.1.0 in
        let t = value_back d.input_semaphore k.1.1.1.0 in
        let u = value_back d.timer k.1.1.1.1.0 in
        let v = value_back d.low_space k.1.1.1.1.1.0 in
        let x = values_back d.pending k.1.1.1.1.1.1 in
        λ i. record w { devices = record { new_process = p i; display = q i; cursor = s i; input_semaphore = t i; timer = u i; low_space = v i; pending = x i } }

module _ (P Q : ℕ → Type 0) (f : ℕ → ℕ) (e : (n : ℕ) → P n → Q (f n)) where
  value_live : (v : Value) → IsLive P v → IsLive Q (renamed f v)
  value_live (Small n) h = h
  value_live (Ref n) h = e n h

  values_live : (vs : List Value) → AllLive P vs → AllLive Q (renamed_all f vs)
  values_live [] h = h
  values_live (v ∷ vs) h = (value_live v h.0, values_live vs h.1)

  object_live : (o : Object) → IsLiveObject P o → IsLiveObject Q (renamed_object f o)
  object_live o h = record { class = e o.class h.class; fields = values_live o.fields h.fields }

-- each object is born under its rank, and bears its place
module _ (f : ℕ → ℕ) where
  born_there : (p : ℕ) (t : Table) (k : ℕ) (o : Object) → entry t k ≡ Some o
      → (borne (births_from f p t) (rank t k) ≡ Some (p + k)) × (object_born (births_from f p t) (rank t k) ≡ Some (renamed_object f o))
  born_there p [] k o e = cc
  born_there p (None ∷ t) zero o e = cc
  born_there p (Some a ∷ t) zero o e =
      let q : p ≡ p + 0 = omega arith in
      let same : a ≡ o = cc in
      (ap (λ n. Some n) q, ap (λ x. Some (renamed_object f x)) same)
  born_there p (None ∷ t) (suc k) o e =
      let q : suc p + k ≡ p + suc k = omega arith in
      let r = born_there (suc p) t k o e in
      (r.0 ∙ ap (λ n. Some n) q, r.1)
  born_there p (Some a ∷ t) (suc k) o e =
      let q : suc p + k ≡ p + suc k = omega arith in
      let r = born_there (suc p) t k o e in
      (r.0 ∙ ap (λ n. Some n) q, r.1)

  -- and there are no other births
  born_from : (p : ℕ) (t : Table) (n q : ℕ) → borne (births_from f p t) n ≡ Some q
      → (k : ℕ) × (o : Object) × (entry t k ≡ Some o) × (rank t k ≡ n) × (q ≡ p + k)
  born_from p [] n q e = cc
  born_from p (None ∷ t) n q e =
      let r = born_from (suc p) t n q e in
      let z = r.4 in
      (suc r.0, r.1, r.2, r.3, omega (arith, z))
  born_from p (Some a ∷ t) zero q e = let z : p ≡ q = cc in (0, a, refl, refl, omega (arith, z))
  born_from p (Some a ∷ t) (suc n) q e =
      let r = born_from (suc p) t n q e in
      let z = r.4 in
      (suc r.0, r.1, r.2, ap (λ x. suc x) r.3, omega (arith, z))

module _ (c : State Table) (closed : IsClosed c) where
  abbrev h : Births
  h = births_from (rank c.memory) 0 c.memory

  borne_at : (k : ℕ) (o : Object) → entry c.memory k ≡ Some o → borne h (rank c.memory k) ≡ Some k
  borne_at k o e = let q : 0 + k ≡ k = omega arith in (born_there (rank c.memory) 0 c.memory k o e).0 ∙ ap (λ n. Some n) q

  kept_at : (k : ℕ) → IsUsed c.memory k → IsKept h (rank c.memory k)
  kept_at k u = (k, borne_at k u.0 u.1)

  pointer_back : (k : ℕ) → IsUsed c.memory k → pointer_of h (rank c.memory k) ≡ k
  pointer_back k u = pointer_of-borne h (rank c.memory k) k (borne_at k u.0 u.1)

  -- the object of a birth that bears p
  object_of_birth : (n p : ℕ) (o : Object) → borne h n ≡ Some p → object_born h n ≡ Some o
      → (a : Object) × (entry c.memory p ≡ Some a) × (o ≡ renamed_object (rank c.memory) a) × (rank c.memory p ≡ n)
  object_of_birth n p o e f =
      let r = born_from (rank c.memory) 0 c.memory n p e in
      let z = r.4 in
      let q : r.0 ≡ p = omega (arith, z) in
      let b = (born_there (rank c.memory) 0 c.memory r.0 r.1 r.2).1 in
      let d : object_born h n ≡ Some (renamed_object (rank c.memory) r.1) = subst (λ m. object_born h m ≡ Some (renamed_object (rank c.memory) r.1)) r.3 b in
      (r.1, subst (λ m. entry c.memory m ≡ Some r.1) q r.2, (let s : o ≡ renamed_object (rank c.memory) r.1 = cc in s), subst (λ m. rank c.memory m ≡ n) q r.3)

  shows_objects : (n p : ℕ) (o : Object) → borne h n ≡ Some p → object_born h n ≡ Some o → entry c.memory p ≡ Some (renamed_object (pointer_of h) o)
  shows_objects n p o e f =
      let r = object_of_birth n p o e f in
      let live = closed.objects p r.0 r.1 in
      let back = object_back (IsUsed c.memory) (rank c.memory) (pointer_of h) pointer_back r.0 live in
      r.1 ∙ ap (λ x. Some x) (sym back ∙ ap (renamed_object (pointer_of h)) (sym r.2))

  apart : (m n p : ℕ) → borne h m ≡ Some p → borne h n ≡ Some p → m ≡ n
  apart m n p e f =
      let a = born_from (rank c.memory) 0 c.memory m p e in
      let b = born_from (rank c.memory) 0 c.memory n p f in
      let x = a.4 in
      let y = b.4 in
      let q : a.0 ≡ b.0 = omega (arith, x, y) in
      sym a.3 ∙ (ap (rank c.memory) q ∙ b.3)

  live_births : (n p : ℕ) (o : Object) → borne h n ≡ Some p → object_born h n ≡ Some o → IsLiveObject (IsKept h) o
  live_births n p o e f =
      let r = object_of_birth n p o e f in
      subst (λ x. IsLiveObject (IsKept h) x) (sym r.2) (object_live (IsUsed c.memory) (IsKept h) (rank c.memory) kept_at r.0 (closed.objects p r.0 r.1))

  pub raised_shown : Shows c (raised c)
  unfolding raised
  raised_shown = record {
    objects = shows_objects;
    only = λ p o e. (rank c.memory p, borne_at p o e);
    distinct = apart;
    closed = live_births;
    page = λ q. let u = closed.page q in bearer-borne h (rank c.memory (place_of q)) (place_of q) (borne_at (place_of q) u.0 u.1);
    roots = subst (λ vs. AllLive (IsKept h) vs) (sym (roots-renamed (rank c.memory) c.registers c.head c.world)) (values_live (IsUsed c.memory) (IsKept h) (rank c.memory) kept_at (roots_of c) closed.roots);
    registers = sym (registers_back (IsUsed c.memory) (rank c.memory) (pointer_of h) pointer_back c.registers c.head c.world closed.roots);
    world = sym (world_back (IsUsed c.memory) (rank c.memory) (pointer_of h) pointer_back c.registers c.head c.world closed.roots);
    head = sym (head_back (IsUsed c.memory) (rank c.memory) (pointer_of h) pointer_back c.registers c.head c.world closed.roots);
  }
