-- The fetching of registers goes by what the objects are, whatever is held.
use Rattle.std.proofs.Common.{◌≡◌, ℕ, Option, Some, None, Bool, true, false, refl, sym, ap, ◌∙◌, is_some}
use Rattle.std.specs.Prelude.{ℤ, pos, negsuc}
use Rattle.st_model.specs.declared.dead.Dead.{Dead}
use Rattle.st_model.specs.Values.{Value, Small, Ref}
use Rattle.st_model.specs.Objects.{Object}
use Rattle.st_model.specs.declared.page.PageObject.TheVariants.{SchedulerAssociation}
use Rattle.st_model.specs.Machine.{ObjectMemory, Registers, State, Transition, Died, Went, Step, is_there, answer, die, after, ◌>>=◌, ◌>>◌}
use Rattle.st_model.specs.Steps.{found, object_named, object, of_page, check, or_die, integer_or_die, fetch_field, fetch_integer, count_fields, are_there, registers_set, set_registers}
use Rattle.st_model.specs.Contexts.{home_by, home_of, stack_place, fetch_stack_pointer, context_registers, fetch_context_registers, scheduled_context, fetch_scheduled_registers}

-- from two states that stay as they are, steps die of one cause or answer the same
abbrev Alike : {H A : Type 0} → State H → State H → Transition (State H) A → Transition (State H) A → Type 0
Alike s t (Died a) (Died b) = a ≡ b
Alike s t (Died a) (Went b y) = ⊥
Alike s t (Went a x) (Died b) = ⊥
Alike s t (Went a x) (Went b y) = (b ≡ a) × (x ≡ s) × (y ≡ t)

-- where the first goes on, so does the second, and the first leaves its memory
abbrev pub AlsoGoes : {H A : Type 0} → State H → Transition (State H) A → Transition (State H) A → Type 0
AlsoGoes s (Died a) p = Unit {0}
AlsoGoes s (Went a x) (Died b) = ⊥
AlsoGoes s (Went a x) (Went b y) = x.memory ≡ s.memory

-- two memories whose objects are the same, with the scheduler's association under one name
module _ {H : Type 0} (m : ObjectMemory H) (g h : H) (same : (n : ℕ) → m.read h n ≡ m.read g n) (page : m.named h SchedulerAssociation ≡ m.named g SchedulerAssociation) where
  record Reads {A : Type 0} (x : Step H A) : Type 0 where
    pub go : (s t : State H) → s.memory ≡ g → t.memory ≡ h → Alike s t (x.run s) (x.run t)

  pub record Goes {A : Type 0} (x : Step H A) : Type 0 where
    pub go : (s t : State H) → s.memory ≡ g → t.memory ≡ h → AlsoGoes s (x.run s) (x.run t)

  reads_answer : {A : Type 0} (a : A) → Reads (answer a)
  unfolding answer
  reads_answer a = record { go = λ s t e f. (refl, refl, refl) }

  reads_die : {A : Type 0} (cause : Dead) → Reads (die {H = H} {A = A} cause)
  unfolding die
  reads_die cause = record { go = λ s t e f. refl }

  after_reads : {A B : Type 0} (s t : State H) (e : s.memory ≡ g) (k : t.memory ≡ h) (o p : Transition (State H) A) (f : A → Step H B)
      → Alike s t o p → ((a : A) → Reads (f a)) → Alike s t (after o (λ a x. (f a).run x)) (after p (λ a y. (f a).run y))
  unfolding after
  after_reads s t e k (Died a) (Died b) f q r = q
  after_reads s t e k (Died a) (Went b y) f q r = absurd q
  after_reads s t e k (Went a x) (Died b) f q r = absurd q
  after_reads s t e k (Went a x) (Went b y) f q r = rw (q.0, q.1, q.2) ((r a).go s t e k)

  reads_then : {A B : Type 0} (x : Step H A) (f : A → Step H B) → Reads x → ((a : A) → Reads (f a)) → Reads (x >>= f)
  unfolding ◌>>=◌
  reads_then x f r q = record { go = λ s t e k. after_reads s t e k (x.run s) (x.run t) f (r.go s t e k) q }

  reads_next : {A B : Type 0} (x : Step H A) (y : Step H B) → Reads x → Reads y → Reads (x >> y)
  unfolding ◌>>◌
  reads_next x y r q = reads_then x (λ a. y) r (λ a. q)

  reads_found : (o : Option Object) → Reads (found {H = H} o)
  unfolding found
  reads_found None = reads_die _
  reads_found (Some o) = reads_answer o

  same_read : (s t : State H) (n : ℕ) → s.memory ≡ g → t.memory ≡ h → m.read t.memory n ≡ m.read s.memory n
  same_read s t n e k = ap (λ x. m.read x n) k ∙ (same n ∙ sym (ap (λ x. m.read x n) e))

  same_page : (s t : State H) → s.memory ≡ g → t.memory ≡ h → m.named t.memory SchedulerAssociation ≡ m.named s.memory SchedulerAssociation
  same_page s t e k = ap (λ x. m.named x SchedulerAssociation) k ∙ (page ∙ sym (ap (λ x. m.named x SchedulerAssociation) e))

  reads_named : (n : ℕ) → Reads (object_named m n)
  unfolding object_named
  reads_named n = record { go = λ s t e k. rw (same_read s t n e k) ((reads_found (m.read s.memory n)).go s t e k) }

  reads_object : (v : Value) → Reads (object m v)
  unfolding object
  reads_object (Small n) = reads_die _
  reads_object (Ref n) = reads_named n

  reads_page : Reads (of_page m SchedulerAssociation)
  unfolding of_page
  reads_page = record { go = λ s t e k. (ap (λ x. Ref x) (same_page s t e k), refl, refl) }

  reads_check : (cause : Dead) (b : Bool) → Reads (check {H = H} cause b)
  unfolding check
  reads_check cause true = reads_answer tt
  reads_check cause false = reads_die cause

  reads_or_die : {A : Type 0} (cause : Dead) (x : Option A) → Reads (or_die {H = H} cause x)
  unfolding or_die
  reads_or_die cause None = reads_die cause
  reads_or_die cause (Some a) = reads_answer a

  reads_integer_or_die : (v : Value) → Reads (integer_or_die {H = H} v)
  unfolding integer_or_die
  reads_integer_or_die (Small n) = reads_answer _
  reads_integer_or_die (Ref n) = reads_die _

  ruleset reading = (reads_answer, reads_die, reads_then, reads_next, reads_object, reads_page, reads_check, reads_or_die, reads_integer_or_die)

  reads_field : (v : Value) (i : ℕ) → Reads (fetch_field m v i)
  unfolding fetch_field
  reads_field v i = search reading depth 16 fits 4000

  reads_count : (v : Value) → Reads (count_fields m v)
  unfolding count_fields
  reads_count v = search reading depth 16 fits 4000

  reads_integer : (v : Value) (i : ℕ) → Reads (fetch_integer m v i)
  unfolding fetch_integer
  reads_integer v i = search (reading, reads_field) depth 16 fits 4000

  reads_home_by : (c v : Value) → Reads (home_by m c v)
  unfolding home_by
  reads_home_by c (Small n) = reads_field c 5
  reads_home_by c (Ref n) = reads_answer c

  reads_home : (c : Value) → Reads (home_of m c)
  unfolding home_of
  reads_home c = search (reading, reads_field, reads_home_by) depth 16 fits 4000

  reads_stack_place : (c : Value) (n : ℤ) → Reads (stack_place m c n)
  unfolding stack_place
  reads_stack_place c (pos n) = search (reading, reads_count) depth 16 fits 4000
  reads_stack_place c (negsuc n) = reads_die _

  reads_stack_pointer : (c : Value) → Reads (fetch_stack_pointer m c)
  unfolding fetch_stack_pointer
  reads_stack_pointer c = search (reading, reads_integer, reads_stack_place) depth 16 fits 4000

  reads_registers : (c : Value) → Reads (context_registers m c)
  unfolding context_registers
  reads_registers c = search (reading, reads_home, reads_field, reads_integer, reads_stack_pointer) depth 24 fits 4000

  reads_scheduled : Reads (scheduled_context m)
  unfolding scheduled_context
  reads_scheduled = search (reading, reads_field) depth 24 fits 4000

  goes_after : {A B : Type 0} (s t : State H) (e : s.memory ≡ g) (k : t.memory ≡ h) (o p : Transition (State H) A) (f : A → Step H B)
      → Alike s t o p → ((a : A) → Goes (f a)) → AlsoGoes s (after o (λ a x. (f a).run x)) (after p (λ a y. (f a).run y))
  unfolding after
  goes_after s t e k (Died a) (Died b) f q r = tt
  goes_after s t e k (Died a) (Went b y) f q r = absurd q
  goes_after s t e k (Went a x) (Died b) f q r = absurd q
  goes_after s t e k (Went a x) (Went b y) f q r = rw (q.0, q.1, q.2) ((r a).go s t e k)

  goes_then : {A B : Type 0} (x : Step H A) (f : A → Step H B) → Reads x → ((a : A) → Goes (f a)) → Goes (x >>= f)
  unfolding ◌>>=◌
  goes_then x f r q = record { go = λ s t e k. goes_after s t e k (x.run s) (x.run t) f (r.go s t e k) q }

  same_there : (s t : State H) (v : Value) → s.memory ≡ g → t.memory ≡ h → is_there m t.memory v ≡ is_there m s.memory v
  same_there s t (Small n) e k = refl
  same_there s t (Ref n) e k = ap (λ x. is_some x) (same_read s t n e k)

  both_set : (r : Registers) (s t : State H) (b : Bool) → AlsoGoes s (registers_set r s b) (registers_set r t b)
  unfolding registers_set
  both_set r s t true = refl
  both_set r s t false = tt

  goes_set : (r : Registers) → Goes (set_registers m r)
  unfolding set_registers
  goes_set r = record {
    go = λ s t e k.
        let there : (v : Value) → is_there m t.memory v ≡ is_there m s.memory v = λ v. same_there s t v e k in
        rw (there r.active, there r.home, there r.method, there r.receiver) (both_set r s t (are_there m s.memory r));
  }

  pub goes_fetch : Goes (fetch_scheduled_registers m)
  unfolding fetch_scheduled_registers fetch_context_registers
  goes_fetch = goes_then _ _ reads_scheduled (λ c. goes_then _ _ (reads_registers c) goes_set)
