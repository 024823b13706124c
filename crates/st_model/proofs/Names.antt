-- Names in values and objects, under a change of names.
use Rattle.std.proofs.Common.{◌≡◌, ℕ, List, [], ◌∷◌, refl, ap, inl, inr}
use Rattle.std.specs.Prelude.{Option, Some, None, ◌++◌}
use Rattle.st_model.specs.Values.{Value, Small, Ref, renamed, renamed_all, IsLive, AllLive}
use Rattle.st_model.specs.Objects.{Object, renamed_object, IsLiveObject}
use Rattle.st_model.specs.Machine.{Registers, World, Head, table_root, head_roots, device_roots}
use Rattle.st_model.specs.Settled.{IsRefTo, AnyRefTo, Refers}
use Rattle.st_model.specs.Show.{renamed_registers, renamed_world, renamed_option, renamed_head}

module _ (P Q : ℕ → Type 0) (f : (n : ℕ) → P n → Q n) where
  pub map_live : (v : Value) → IsLive P v → IsLive Q v
  map_live (Small n) h = h
  map_live (Ref n) h = f n h

  pub map_all : (vs : List Value) → AllLive P vs → AllLive Q vs
  map_all [] h = h
  map_all (v ∷ vs) h = (map_live v h.0, map_all vs h.1)

  pub map_object : (o : Object) → IsLiveObject P o → IsLiveObject Q o
  map_object o h = record { class = f o.class h.class; fields = map_all o.fields h.fields }

-- where nothing is asked of a name

abbrev pub AnyName : ℕ → Type 0
AnyName n = Unit {0}

pub any_value : (v : Value) → IsLive AnyName v
any_value (Small n) = tt
any_value (Ref n) = tt

pub any_values : (vs : List Value) → AllLive AnyName vs
any_values [] = tt
any_values (v ∷ vs) = (any_value v, any_values vs)

pub any_object : (o : Object) → IsLiveObject AnyName o
any_object o = record { class = tt; fields = any_values o.fields }

-- the roots of the devices stand behind others

pub device_part : (P : ℕ → Type 0) (vs ws : List Value) → AllLive P (vs ++ ws) → AllLive P ws
device_part P [] ws h = h
device_part P (v ∷ vs) ws h = device_part P vs ws h.1

pub with_devices : (P : ℕ → Type 0) (vs ws us : List Value) → AllLive P (vs ++ ws) → AllLive P us → AllLive P (vs ++ us)
with_devices P [] ws us h k = k
with_devices P (v ∷ vs) ws us h k = (h.0, with_devices P vs ws us h.1 k)

module _ (P : ℕ → Type 0) (f g : ℕ → ℕ) (e : (n : ℕ) → P n → f n ≡ g n) where
  pub same_value : (v : Value) → IsLive P v → renamed f v ≡ renamed g v
  same_value (Small n) h = refl
  same_value (Ref n) h = ap (λ x. Ref x) (e n h)

  pub same_all : (vs : List Value) → AllLive P vs → renamed_all f vs ≡ renamed_all g vs
  same_all [] h = refl
  same_all (v ∷ vs) h = let a = same_value v h.0 in let b = same_all vs h.1 in cc

  pub same_object : (o : Object) → IsLiveObject P o → renamed_object f o ≡ renamed_object g o
  same_object o h = λ i. record { class = e o.class h.class i; kind = o.kind; fields = same_all o.fields h.fields i; units = o.units }

module _ (Q : ℕ → Type 0) (f : ℕ → ℕ) where
  pub live_back : (v : Value) → IsLive Q (renamed f v) → IsLive (λ n. Q (f n)) v
  live_back (Small n) h = h
  live_back (Ref n) h = h

  pub all_back : (vs : List Value) → AllLive Q (renamed_all f vs) → AllLive (λ n. Q (f n)) vs
  all_back [] h = h
  all_back (v ∷ vs) h = (live_back v h.0, all_back vs h.1)

  pub object_back : (o : Object) → IsLiveObject Q (renamed_object f o) → IsLiveObject (λ n. Q (f n)) o
  object_back o h = record { class = h.class; fields = all_back o.fields h.fields }

module _ (P Q : ℕ → Type 0) where
  pub both_value : (v : Value) → IsLive P v → IsLive Q v → IsLive (λ n. P n × Q n) v
  both_value (Small n) h k = tt
  both_value (Ref n) h k = (h, k)

  pub both_all : (vs : List Value) → AllLive P vs → AllLive Q vs → AllLive (λ n. P n × Q n) vs
  both_all [] h k = tt
  both_all (v ∷ vs) h k = (both_value v h.0 k.0, both_all vs h.1 k.1)

  pub both_object : (o : Object) → IsLiveObject P o → IsLiveObject Q o → IsLiveObject (λ n. P n × Q n) o
  both_object o h k = record { class = (h.class, k.class); fields = both_all o.fields h.fields k.fields }

module _ (f : ℕ → ℕ) (n : ℕ) where
  pub ref-renamed : (v : Value) → IsRefTo n v → IsRefTo (f n) (renamed f v)
  ref-renamed (Small x) h = h
  ref-renamed (Ref x) h = ap f h

  pub any-renamed : (vs : List Value) → AnyRefTo n vs → AnyRefTo (f n) (renamed_all f vs)
  any-renamed [] h = h
  any-renamed (v ∷ vs) (inl h) = inl (ref-renamed v h)
  any-renamed (v ∷ vs) (inr h) = inr (any-renamed vs h)

  pub refers-renamed : (o : Object) → Refers o n → Refers (renamed_object f o) (f n)
  refers-renamed o (inl h) = inl (ap f h)
  refers-renamed o (inr h) = inr (any-renamed o.fields h)

-- what a changed object refers to is the changed name of what the object refers to
module _ (P : ℕ → Type 0) (f : ℕ → ℕ) (k : ℕ) where
  pub ref_back : (v : Value) → IsLive P v → IsRefTo k (renamed f v) → (n : ℕ) × P n × IsRefTo n v × (k ≡ f n)
  ref_back (Small x) h r = absurd r
  ref_back (Ref x) h r = (x, h, refl, r)

  pub any_back : (vs : List Value) → AllLive P vs → AnyRefTo k (renamed_all f vs) → (n : ℕ) × P n × AnyRefTo n vs × (k ≡ f n)
  any_back [] h r = absurd r
  any_back (v ∷ vs) h (inl r) = let b = ref_back v h.0 r in (b.0, b.1, inl b.2, b.3)
  any_back (v ∷ vs) h (inr r) = let b = any_back vs h.1 r in (b.0, b.1, inr b.2, b.3)

  pub refers_back : (o : Object) → IsLiveObject P o → Refers (renamed_object f o) k → (n : ℕ) × P n × Refers o n × (k ≡ f n)
  refers_back o h (inl r) = (o.class, h.class, inl refl, r)
  refers_back o h (inr r) = let b = any_back o.fields h.fields r in (b.0, b.1, inr b.2, b.3)

pub all_append : (P : ℕ → Type 0) (xs ys : List Value) → AllLive P (xs ++ ys) → AllLive P xs × AllLive P ys
all_append P [] ys h = (tt, h)
all_append P (x ∷ xs) ys h = let r = all_append P xs ys h.1 in ((h.0, r.0), r.1)

renamed-append : (f : ℕ → ℕ) (xs ys : List Value) → renamed_all f (xs ++ ys) ≡ renamed_all f xs ++ renamed_all f ys
renamed-append f [] ys = refl
renamed-append f (x ∷ xs) ys = ap (λ vs. renamed f x ∷ vs) (renamed-append f xs ys)

table_root-renamed : (f : ℕ → ℕ) (x : Option Value) → table_root (renamed_option f x) ≡ renamed_all f (table_root x)
table_root-renamed f None = refl
table_root-renamed f (Some v) = refl

head_roots-renamed : (f : ℕ → ℕ) (a : Head) → head_roots (renamed_head f a) ≡ renamed_all f (head_roots a)
head_roots-renamed f a = rw (renamed-append f (table_root a.globals) (table_root a.symbols), table_root-renamed f a.globals, table_root-renamed f a.symbols) refl

abbrev pub parts_roots : Registers → Head → World → List Value
parts_roots r a w = r.active ∷ r.home ∷ r.method ∷ r.receiver ∷ (head_roots a ++ device_roots w.devices)

pub roots-renamed : (f : ℕ → ℕ) (r : Registers) (a : Head) (w : World)
    → parts_roots (renamed_registers f r) (renamed_head f a) (renamed_world f w) ≡ renamed_all f (parts_roots r a w)
roots-renamed f r a w = rw (renamed-append f (head_roots a) (device_roots w.devices), head_roots-renamed f a) refl

-- names that are the same where something lives rename the parts of a state alike
module _ (P : ℕ → Type 0) (f g : ℕ → ℕ) (e : (n : ℕ) → P n → f n ≡ g n) (r : Registers) (a : Head) (w : World) (h : AllLive P (parts_roots r a w)) where
  pub same_registers : renamed_registers f r ≡ renamed_registers g r
  same_registers =
      let p = same_value P f g e r.active h.0 in
      let q = same_value P f g e r.home h.1.0 in
      let s = same_value P f g e r.method h.1.1.0 in
      let t = same_value P f g e r.receiver h.1.1.1.0 in
      λ i. record { active = p i; home = q i; method = s i; receiver = t i; ip = r.ip; sp = r.sp }

  parts : AllLive P (head_roots a) × AllLive P (device_roots w.devices)
  parts = all_append P (head_roots a) (device_roots w.devices) h.1.1.1.1

  same_option : (x : Option Value) → AllLive P (table_root x) → renamed_option f x ≡ renamed_option g x
  same_option None k = refl
  same_option (Some v) k = ap (λ x. Some x) (same_value P f g e v k.0)

  pub same_head : renamed_head f a ≡ renamed_head g a
  same_head =
      let k = all_append P (table_root a.globals) (table_root a.symbols) parts.0 in
      let p = same_option a.globals k.0 in
      let q = same_option a.symbols k.1 in
      λ i. record { entries = a.entries; words = a.words; globals = p i; symbols = q i }

  pub same_world : renamed_world f w ≡ renamed_world g w
  same_world =
      let d = w.devices in
      let k = parts.1 in
      let p = same_value P f g e d.new_process k.0 in
      let q = same_value P f g e d.display k.1.0 in
      let s = same_value P f g e d.cursor k.1.1.0 in
      let t = same_value P f g e d.input_semaphore k.1.1.1.0 in
      let u = same_value P f g e d.timer k.1.1.1.1.0 in
      let v = same_value P f g e d.low_space k.1.1.1.1.1.0 in
      let x = same_all P f g e d.pending k.1.1.1.1.1.1 in
      λ i. record w {
        devices = record { new_process = p i; display = q i; cursor = s i; input_semaphore = t i; timer = u i; low_space = v i; pending = x i };
      }
