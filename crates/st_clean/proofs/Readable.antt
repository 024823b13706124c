-- The image of what is reached can be read: it is whole, and the registers can be fetched from it where they can be from all.
use Rattle.std.proofs.Common.{◌≡◌, ℕ, zero, suc, List, [], ◌∷◌, length, Option, Some, None, Bool, true, false, is_some, IsTrue, inl, inr, refl, sym, ap, ◌∙◌, subst, arith}
use Rattle.std.specs.Prelude.{ℤ, pos, negsuc, ◌+ℤ◌, ◌-ℤ◌, slice_get, slice_index_or, replicate, nat_lt, nat_le, if◌then◌else◌}
use Rattle.std.proofs.lemmas.List.{length-replicate}
use Rattle.st_model.specs.declared.dead.Dead.{Dead}
use Rattle.st_model.specs.declared.dead.Dead.TheVariants as dead
use Rattle.st_model.specs.declared.place.RootPlace.{RootPlace}
use Rattle.st_model.specs.declared.place.RootPlace.TheVariants as place
use Rattle.st_model.specs.declared.page.PageObject.TheVariants.{NilObject, SchedulerAssociation}
use Rattle.st_model.specs.Values.{Value, Small, Ref, is_small}
use Rattle.st_model.specs.Objects.{Object, nil, one, words_of, is_pointers, place_of}
use Rattle.st_model.specs.Machine.{Registers, State, Transition, Died, Went, Step, is_there, answer, die, after, ◌>>=◌, ◌>>◌}
use Rattle.st_model.specs.Settled.{AnyRefTo}
use Rattle.st_model.specs.Steps.{found, object_named, object, of_page, check, or_die, integer_or_die, fetch_field, fetch_integer, count_fields, are_there, registers_set, set_registers}
use Rattle.st_model.specs.Contexts.{home_by, home_of, stack_place, fetch_stack_pointer, context_registers, fetch_context_registers, scheduled_context, fetch_scheduled_registers}
use Rattle.st_model.specs.Start.{idle_state}
use Rattle.st_model.specs.Table.{Table, table, entry, settled_table, total_used}
use Rattle.st_model.specs.View.{View, Held, IsWhole, is_live, held_at, nothing_held, no_devices, idle_devices}
use Rattle.st_model.proofs.SettledLemmas.{settled-entry}
use Rattle.st_image.specs.inside.Back.{CanStart}
use Rattle.st_image.specs.HeadValues.{no_values, head_over}
use Rattle.st_image.proofs.Back.{formed}
use Rattle.st_model.specs.Faults.{IsWellFormed}
use Rattle.st_clean.specs.Reach.{IsReach, IsClosed}
use Rattle.st_clean.specs.Filling.{only}
use Rattle.st_clean.specs.Cleaning.{image_only}
use Rattle.st_clean.proofs.Below.{total-settled, complete_only}
use Rattle.st_clean.proofs.Closed.{reach_closed}
use Rattle.st_model.proofs.Reclaiming.{length-settled}

-- IT IS WHOLE

none_stays : (t : Table) (set : ℕ → Bool) → entry t 0 ≡ None → entry (settled_table t set) 0 ≡ None
none_stays [] set e = refl
none_stays (a ∷ t) set e = none_of a e (set 0)
  where
    none_of : (x : Option Object) → x ≡ None → (b : Bool) → (if b then x else None) ≡ None
    none_of x h true = h
    none_of x h false = refl

index_nil : (n k : ℕ) → slice_index_or (replicate n nil) k nil ≡ nil
index_nil zero k = refl
index_nil (suc n) zero = refl
index_nil (suc n) (suc k) = index_nil n k

idle_held : ℕ → Held
idle_held n = record { active = nil; home = nil; method = nil; receiver = nil; devices = idle_devices n }

nil_idle : (n : ℕ) (p : RootPlace) → held_at (idle_held n) p ≡ nil
unfolding idle_held
nil_idle n place.Active = refl
nil_idle n place.Home = refl
nil_idle n place.Method = refl
nil_idle n place.Receiver = refl
nil_idle n place.NewProcess = refl
nil_idle n place.Display = refl
nil_idle n place.Cursor = refl
nil_idle n place.InputSemaphore = refl
nil_idle n place.Timer = refl
nil_idle n place.LowSpace = refl
nil_idle n (place.Pending k) = index_nil n k

nothing_is : nothing_held ≡ idle_held 4096
unfolding nothing_held no_devices idle_held
nothing_is = refl

pending_many : length nothing_held.devices.pending ≡ 4096
unfolding nothing_held no_devices
pending_many = length-replicate 4096 nil

nil_known : (t : Table) (x : Value) → x ≡ nil → is_live t nil ≡ true → is_small x ≡ false → is_live t x ≡ true
nil_known t x e live small = subst (λ y. is_live t y ≡ true) (sym e) live

pub whole_only : (v : View) (set : ℕ → Bool) → IsWhole v → IsClosed v.objects v.head set → IsWhole (only v.objects v.head set)
whole_only v set whole closed =
    let complete = complete_only v set whole closed in
    record {
      places = length-settled v.objects set ∙ whole.places;
      unused = none_stays v.objects set whole.unused;
      complete = complete;
      formed = λ k o e. whole.formed k o (settled-entry v.objects set k o e).0;
      held = λ p. nil_known (settled_table v.objects set) (held_at nothing_held p) (ap (λ h. held_at h p) nothing_is ∙ nil_idle 4096 p) (complete.page NilObject);
      pending = pending_many;
      entries = let a = total-settled one v.objects set in let b = whole.entries in omega (arith, a, b);
      words = let a = total-settled words_of v.objects set in let b = whole.words in omega (arith, a, b);
      most_entries = whole.most_entries;
      most_words = whole.most_words;
    }

-- ITS REGISTERS CAN BE FETCHED

entry_same : (t : Table) (set : ℕ → Bool) (n : ℕ) → IsTrue (set n) → entry (settled_table t set) n ≡ entry t n
entry_same [] set n h = refl
entry_same (a ∷ t) set zero h = ap (λ b. if b then a else None) h
entry_same (a ∷ t) set (suc n) h = entry_same t (λ k. set (suc k)) n h

abbrev Any : {A : Type 0} → A → Type 0
Any a = Unit {0}

-- from two states that stay as they are, where the first step answers, so does the second, and alike
abbrev Alike : {A : Type 0} → (A → Type 0) → State Table → State Table → Transition (State Table) A → Transition (State Table) A → Type 0
Alike P s u (Died a) q = Unit {0}
Alike P s u (Went a x) (Died b) = ⊥
Alike P s u (Went a x) (Went b y) = (b ≡ a) × P a × (x ≡ s) × (y ≡ u)

-- where the first goes on, so does the second
abbrev AlsoGoes : {A : Type 0} → Transition (State Table) A → Transition (State Table) A → Type 0
AlsoGoes (Died a) q = Unit {0}
AlsoGoes (Went a x) (Died b) = ⊥
AlsoGoes (Went a x) (Went b y) = Unit {0}

-- a table, and what it has of a closed set
module _ (t : Table) (set : ℕ → Bool) (page : IsTrue (set (place_of SchedulerAssociation)))
    (closed : (n m : ℕ) (o : Object) → IsTrue (set n) → entry t n ≡ Some o → AnyRefTo m o.fields → IsTrue (set m)) where
  -- it names nothing outside
  abbrev In : Value → Type 0
  In (Small n) = Unit {0}
  In (Ref n) = IsTrue (set n)

  abbrev AllIn : Object → Type 0
  AllIn o = (m : ℕ) → AnyRefTo m o.fields → IsTrue (set m)

  abbrev RegistersIn : Registers → Type 0
  RegistersIn r = In r.active × In r.home × In r.method × In r.receiver

  record Reads {A : Type 0} (P : A → Type 0) (x : Step Table A) : Type 0 where
    pub go : (s u : State Table) → s.memory ≡ t → u.memory ≡ settled_table t set → Alike P s u (x.run s) (x.run u)

  pub record Goes {A : Type 0} (x : Step Table A) : Type 0 where
    pub go : (s u : State Table) → s.memory ≡ t → u.memory ≡ settled_table t set → AlsoGoes (x.run s) (x.run u)

  reads_answer : {A : Type 0} (P : A → Type 0) (a : A) → P a → Reads P (answer a)
  unfolding answer
  reads_answer P a p = record { go = λ s u e k. (refl, p, refl, refl) }

  reads_die : {A : Type 0} (P : A → Type 0) (cause : Dead) → Reads P (die {H = Table} {A = A} cause)
  unfolding die
  reads_die P cause = record { go = λ s u e k. tt }

  after_reads : {A B : Type 0} (P : A → Type 0) (Q : B → Type 0) (s u : State Table) (e : s.memory ≡ t) (k : u.memory ≡ settled_table t set) (o p : Transition (State Table) A) (f : A → Step Table B)
      → Alike P s u o p → ((a : A) → P a → Reads Q (f a)) → Alike Q s u (after o (λ a x. (f a).run x)) (after p (λ a y. (f a).run y))
  unfolding after
  after_reads P Q s u e k (Died a) p f q r = tt
  after_reads P Q s u e k (Went a x) (Died b) f q r = absurd q
  after_reads P Q s u e k (Went a x) (Went b y) f q r = rw (q.0, q.2, q.3) ((r a q.1).go s u e k)

  reads_then : {A B : Type 0} (P : A → Type 0) (Q : B → Type 0) (x : Step Table A) (f : A → Step Table B) → Reads P x → ((a : A) → P a → Reads Q (f a)) → Reads Q (x >>= f)
  unfolding ◌>>=◌
  reads_then P Q x f r q = record { go = λ s u e k. after_reads P Q s u e k (x.run s) (x.run u) f (r.go s u e k) q }

  reads_next : {A B : Type 0} (P : A → Type 0) (Q : B → Type 0) (x : Step Table A) (y : Step Table B) → Reads P x → Reads Q y → Reads Q (x >> y)
  unfolding ◌>>◌
  reads_next P Q x y r q = reads_then P Q x (λ a. y) r (λ a p. q)

  reads_found : (o : Option Object) → ((x : Object) → o ≡ Some x → AllIn x) → Reads AllIn (found o)
  unfolding found
  reads_found None h = reads_die AllIn _
  reads_found (Some o) h = reads_answer AllIn o (h o refl)

  reads_named : (n : ℕ) → IsTrue (set n) → Reads AllIn (object_named table n)
  unfolding object_named
  reads_named n h = record {
    go = λ s u e k.
        let same : entry u.memory n ≡ entry s.memory n = ap (λ x. entry x n) k ∙ (entry_same t set n h ∙ sym (ap (λ x. entry x n) e)) in
        let first = reads_found (entry s.memory n) (λ x is m r. closed n m x h (sym (ap (λ y. entry y n) e) ∙ is) r) in
        subst (λ o. Alike AllIn s u ((found (entry s.memory n)).run s) ((found o).run u)) (sym same) (first.go s u e k);
  }

  reads_object : (v : Value) → In v → Reads AllIn (object table v)
  unfolding object
  reads_object (Small n) h = reads_die AllIn _
  reads_object (Ref n) h = reads_named n h

  reads_page : Reads In (of_page table SchedulerAssociation)
  unfolding of_page
  reads_page = record { go = λ s u e k. (refl, page, refl, refl) }

  reads_check : (cause : Dead) (b : Bool) → Reads Any (check {H = Table} cause b)
  unfolding check
  reads_check cause true = reads_answer Any tt tt
  reads_check cause false = reads_die Any cause

  in_head : (v : Value) (vs : List Value) → ((m : ℕ) → AnyRefTo m (v ∷ vs) → IsTrue (set m)) → In v
  in_head (Small n) vs h = tt
  in_head (Ref n) vs h = h n (inl refl)

  in_field : (vs : List Value) (i : ℕ) (x : Value) → slice_get vs i ≡ Some x → ((m : ℕ) → AnyRefTo m vs → IsTrue (set m)) → In x
  in_field [] i x e h = cc
  in_field (v ∷ vs) zero x e h = subst In (same_some v x e) (in_head v vs h)
    where
      same_some : (a b : Value) → Some a ≡ Some b → a ≡ b
      same_some a b q = cc
  in_field (v ∷ vs) (suc i) x e h = in_field vs i x e (λ m r. h m (inr r))

  reads_or_die : (cause : Dead) (o : Option Value) → ((x : Value) → o ≡ Some x → In x) → Reads In (or_die {H = Table} cause o)
  unfolding or_die
  reads_or_die cause None h = reads_die In cause
  reads_or_die cause (Some v) h = reads_answer In v (h v refl)

  reads_integer_or_die : (v : Value) → Reads Any (integer_or_die {H = Table} v)
  unfolding integer_or_die
  reads_integer_or_die (Small n) = reads_answer Any _ tt
  reads_integer_or_die (Ref n) = reads_die Any _

  reads_field : (v : Value) (i : ℕ) → In v → Reads In (fetch_field table v i)
  unfolding fetch_field
  reads_field v i h =
      reads_then AllIn In _ _ (reads_object v h) (λ o p.
      reads_next Any In _ _ (reads_check _ _) (reads_or_die _ _ (λ x e. in_field o.fields i x e p)))

  reads_count : (v : Value) → In v → Reads Any (count_fields table v)
  unfolding count_fields
  reads_count v h = reads_then AllIn Any _ _ (reads_object v h) (λ o p. reads_next Any Any _ _ (reads_check _ _) (reads_answer Any _ tt))

  reads_integer : (v : Value) (i : ℕ) → In v → Reads Any (fetch_integer table v i)
  unfolding fetch_integer
  reads_integer v i h = reads_then In Any _ _ (reads_field v i h) (λ x p. reads_integer_or_die x)

  reads_home_by : (c v : Value) → In c → Reads In (home_by table c v)
  unfolding home_by
  reads_home_by c (Small n) h = reads_field c 5 h
  reads_home_by c (Ref n) h = reads_answer In c h

  reads_home : (c : Value) → In c → Reads In (home_of table c)
  unfolding home_of
  reads_home c h = reads_then In In _ _ (reads_field c 3 h) (λ v p. reads_home_by c v h)

  reads_stack_place : (c : Value) (n : ℤ) → In c → Reads Any (stack_place table c n)
  unfolding stack_place
  reads_stack_place c (pos n) h =
      reads_then Any Any _ _ (reads_count c h) (λ k p.
      reads_next Any Any _ _ (reads_check _ _) (reads_next Any Any _ _ (reads_check _ _) (reads_next Any Any _ _ (reads_check _ _) (reads_answer Any _ tt))))
  reads_stack_place c (negsuc n) h = reads_die Any _

  reads_stack_pointer : (c : Value) → In c → Reads Any (fetch_stack_pointer table c)
  unfolding fetch_stack_pointer
  reads_stack_pointer c h = reads_then Any Any _ _ (reads_integer c 2 h) (λ n p. reads_stack_place c _ h)

  reads_registers : (c : Value) → In c → Reads RegistersIn (context_registers table c)
  unfolding context_registers
  reads_registers c h =
      reads_then In RegistersIn _ _ (reads_home c h) (λ home i.
      reads_then In RegistersIn _ _ (reads_field home 3 i) (λ method j.
      reads_then In RegistersIn _ _ (reads_field home 5 i) (λ receiver k.
      reads_then Any RegistersIn _ _ (reads_integer c 1 h) (λ ip p.
      reads_then Any RegistersIn _ _ (reads_stack_pointer c h) (λ sp q.
      reads_answer RegistersIn _ (h, i, j, k))))))

  reads_scheduled : Reads In (scheduled_context table)
  unfolding scheduled_context
  reads_scheduled =
      reads_then In In _ _ reads_page (λ association p.
      reads_then In In _ _ (reads_field association 1 p) (λ scheduler q.
      reads_then In In _ _ (reads_field scheduler 1 q) (λ process r. reads_field process 1 r)))

  goes_after : {A B : Type 0} (P : A → Type 0) (s u : State Table) (e : s.memory ≡ t) (k : u.memory ≡ settled_table t set) (o p : Transition (State Table) A) (f : A → Step Table B)
      → Alike P s u o p → ((a : A) → P a → Goes (f a)) → AlsoGoes (after o (λ a x. (f a).run x)) (after p (λ a y. (f a).run y))
  unfolding after
  goes_after P s u e k (Died a) p f q r = tt
  goes_after P s u e k (Went a x) (Died b) f q r = absurd q
  goes_after P s u e k (Went a x) (Went b y) f q r = rw (q.0, q.2, q.3) ((r a q.1).go s u e k)

  goes_then : {A B : Type 0} (P : A → Type 0) (x : Step Table A) (f : A → Step Table B) → Reads P x → ((a : A) → P a → Goes (f a)) → Goes (x >>= f)
  unfolding ◌>>=◌
  goes_then P x f r q = record { go = λ s u e k. goes_after P s u e k (x.run s) (x.run u) f (r.go s u e k) q }

  same_there : (s u : State Table) (v : Value) → In v → s.memory ≡ t → u.memory ≡ settled_table t set → is_there table u.memory v ≡ is_there table s.memory v
  same_there s u (Small n) h e k = refl
  same_there s u (Ref n) h e k = ap (λ x. is_some x) (ap (λ x. entry x n) k ∙ (entry_same t set n h ∙ sym (ap (λ x. entry x n) e)))

  both_set : (r : Registers) (s u : State Table) (b c : Bool) → c ≡ b → AlsoGoes (registers_set r s b) (registers_set r u c)
  unfolding registers_set
  both_set r s u true true e = tt
  both_set r s u true false e = cc
  both_set r s u false c e = tt

  goes_set : (r : Registers) → RegistersIn r → Goes (set_registers table r)
  unfolding set_registers
  goes_set r h = record {
    go = λ s u e k.
        let there : (v : Value) → In v → is_there table u.memory v ≡ is_there table s.memory v = λ v i. same_there s u v i e k in
        both_set r s u (are_there table s.memory r) (are_there table u.memory r) (rw (there r.active h.0, there r.home h.1, there r.method h.2, there r.receiver h.3) refl);
  }

  pub goes_fetch : Goes (fetch_scheduled_registers table)
  unfolding fetch_scheduled_registers fetch_context_registers
  goes_fetch = goes_then In _ _ reads_scheduled (λ c p. goes_then RegistersIn _ _ (reads_registers c p) goes_set)

second_goes : (o p : Transition (State Table) Unit) (w : State Table) → o ≡ Went tt w → AlsoGoes o p → (d : State Table) × (p ≡ Went tt d)
second_goes (Died a) p w e h = cc
second_goes (Went x y) (Died b) w e h = absurd h
second_goes (Went x y) (Went z d) w e h = (d, refl)

pub starts_only : (v : View) (set : ℕ → Bool) → IsClosed v.objects v.head set → CanStart v → CanStart (only v.objects v.head set)
starts_only v set c can =
    let w = only v.objects v.head set in
    let goes = goes_fetch v.objects set (c.page SchedulerAssociation) (λ n m o h e r. c.onward n m o h e (inr r)) in
    second_goes ((fetch_scheduled_registers table).run (idle_state v)) ((fetch_scheduled_registers table).run (idle_state w)) can.0 can.1 (goes.go (idle_state v) (idle_state w) refl refl)

pub cleaned_formed : (v : View) (set : ℕ → Bool) → IsWhole v → CanStart v → IsReach v.objects v.head set → IsWellFormed (head_over no_values (image_only v.objects v.head set)) (image_only v.objects v.head set)
cleaned_formed v set whole can reach =
    let closed = reach_closed v.objects v.head set reach in
    formed (only v.objects v.head set) (whole_only v set whole closed) (starts_only v set closed can)
