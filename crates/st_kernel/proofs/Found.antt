-- A start that is found begins: each step of it goes, and the registers can be fetched from what it leaves.
use Rattle.std.proofs.Common.{◌≡◌, ◌≢◌, ◌∙◌, ℕ, ◌+◌, ◌*◌, ◌<◌, ◌≤◌, List, [], ◌∷◌, length, Bool, true, false, Option, Some, None, ◌⊎◌, inl, inr, refl, sym, ap, subst, arith, is_some, length-set}
use Rattle.std.specs.Prelude.{◌==◌, ◌&&◌, Result, Ok, Err, IfErr, pos, ◌+ℤ◌, ◌-ℤ◌, not, replicate, slice_get, slice_set, nat_lt, nat_le, if◌then◌else◌, unwrap_or}
use Rattle.std.proofs.lemmas.Bool.{ne_eqb, and_from}
use Rattle.std.proofs.lemmas.Bool.Decides.{nat_tests}
use Rattle.std.proofs.lemmas.List.{length-replicate}
use Rattle.st_model.specs.declared.dead.Dead.{Dead}
use Rattle.st_model.specs.declared.dead.Dead.TheVariants as dead
use Rattle.st_model.specs.declared.kind.Kind.TheVariants as kind
use Rattle.st_model.specs.declared.page.PageObject.{PageObject}
use Rattle.st_model.specs.declared.page.PageObject.TheVariants.{NilObject, SchedulerAssociation, MethodContextClass, MethodClass}
use Rattle.st_model.specs.Values.{Value, Small, Ref, integer}
use Rattle.st_model.specs.Objects.{Object, nil, place_of, is_pointers, is_method, with_field}
use Rattle.st_model.specs.Formed.{fresh_with}
use Rattle.st_model.specs.Machine.{Head, Registers, State, Transition, Died, Went, Step, is_there, has_room, after, answer, die, ◌>>=◌, ◌>>◌}
use Rattle.st_model.specs.Steps.{of_page, found, object_named, object, same_value, made, make_named, make, new_object, check, or_die, fetch_field, fetch_integer, integer_or_die, count_fields, store_field, are_there}
use Rattle.st_model.specs.Methods.{flag_of, temporary_count, literal_count, is_large, context_size, method_header}
use Rattle.st_model.specs.Storage.{check_not_method_class}
use Rattle.st_model.specs.Contexts.{home_by, home_of, stack_place, fetch_stack_pointer, context_registers, fetch_context_registers, scheduled_context, fetch_scheduled_registers}
use Rattle.st_model.specs.Table.{Table, entry, placed, first_free, table, bounded_table}
use Rattle.st_model.specs.View.{View, IsWhole, is_live, object_of, nothing}
use Rattle.st_model.specs.Start.{idle_state}
use Rattle.st_model.proofs.Runs.{run-then, run-next, after-went, run-answer, run-passed, run-some, run-set_registers}
use Rattle.st_model.proofs.TableLemmas.{placed-first, first_free-none}
use Rattle.st_model.proofs.Tabular.{fetch_field-as, count_fields-as}
use Rattle.st_install.proofs.Goes.{object_at, replaced-it, replaced-other, same_or_other, Goes, Tells, over, then_goes, next_goes, read_goes, answer_goes, tells_answer, tells_then, tells_page, tells_object, tells_field, tells_count, store_goes}
use Rattle.st_install.proofs.GoesSeeking.{bounded_reads}
use Rattle.st_kernel_text.specs.Parts.{Start}
use Rattle.st_kernel.specs.Starting.{method_of, first_words, fill_first_context, schedule, schedule_method, in_new_context, in_new_process, fetch_if, begin_by}
use Rattle.st_kernel.specs.Built.{Built, Fault, fault_at, begun_as, begun_in}
use Rattle.st_kernel.specs.inside.Following.{Ends}
use Rattle.st_kernel.specs.inside.Found.{Finds, IsFound, HasScheduler, scheduler_association, Begins, IsMissing}
use Rattle.st_install.proofs.GoesMaking.{placed_stands}
use Rattle.st_install.proofs.GoesStoring.{there_at}

-- STEPS

goes_as : {A : Type 0} (head : Head) (m : Step Table A) (t : Table) (P Q : A → Table → Type 0) → Goes head m t P → ((a : A) (u : Table) → P a u → Q a u) → Goes head m t Q
goes_as head m t P Q g f = record { value = g.value; next = g.next; goes = g.goes; leaves = f g.value g.next g.leaves }

-- one object has changed, and no other
record Puts (t u : Table) (v : Value) (o : Object) : Type 0 where
  pub is : object_at u v ≡ Some o
  pub others : (w : Value) → w ≢ v → object_at u w ≡ object_at t w

puts_then : (t u w : Table) (v : Value) (o p : Object) → Puts t u v o → Puts u w v p → Puts t w v p
puts_then t u w v o p h k = record { is = k.is; others = λ x d. k.others x d ∙ h.others x d }

there_by : (t : Table) (n : ℕ) (o : Object) → object_at t (Ref n) ≡ Some o → is_there bounded_table t (Ref n) ≡ true
there_by t n o e = ap is_some e

there_put : (t u : Table) (v : Value) (o : Object) (x : Value) → Puts t u v o → is_there bounded_table t x ≡ true → is_there bounded_table u x ≡ true
there_put t u v o (Small n) h e = e
there_put t u v o (Ref n) h e = elim (same_or_other (Ref n) v) as (λ m. is_there bounded_table u (Ref n) ≡ true) [
  | inl s ↦ there_by u n o (ap (object_at u) s ∙ h.is)
  | inr d ↦ ap is_some (h.others (Ref n) d) ∙ e
]

put_goes : (head : Head) (t : Table) (v : Value) (o : Object) (i : ℕ) (x : Value) → object_at t v ≡ Some o → is_pointers o.kind ≡ true → i < length o.fields → is_there bounded_table t x ≡ true
    → Goes head (store_field bounded_table v i x) t (λ a u. Puts t u v (with_field o i x))
put_goes head t v o i x e p l k =
    let q = with_field o i x in
    goes_as head _ t _ (λ a u. Puts t u v q) (store_goes t v o head e i x p l k)
    (λ a u h. subst (λ w. Puts t w v q) (sym h.is) (record { is = replaced-it t v q o e; others = λ w d. replaced-other t v w q d }))

-- THE CONTEXT

abbrev filled : Object → (method header receiver : Value) → Object
filled o method header receiver = with_field (with_field (with_field (with_field o 1 (Small (2 * literal_count header + 3))) 2 (Small (first_words header))) 3 method) 5 receiver

small_there : (t : Table) (n : ℕ) → n < 32768 → is_there bounded_table t (Small n) ≡ true
small_there t n l = grind (arith, nat_tests)

few_literals : (header : Value) → 2 * literal_count header + 3 < 32768
few_literals header = omega arith

words_by : (b : Bool) (n : ℕ) → n < 32 → (if b then 0 else n) < 32
words_by true n l = omega arith
words_by false n l = l

few_words : (header : Value) → first_words header < 32
few_words header = words_by (flag_of header == 6) (temporary_count header) (omega arith)

module _ (head : Head) (context method header receiver : Value) where
  fill_goes : (t : Table) (o : Object) → object_at t context ≡ Some o → is_pointers o.kind ≡ true → 6 ≤ length o.fields
      → is_there bounded_table t method ≡ true → is_there bounded_table t receiver ≡ true
      → Goes head (fill_first_context bounded_table context method header receiver) t (λ a u. Puts t u context (filled o method header receiver))
  unfolding fill_first_context
  fill_goes t o e p l m r =
      let x1 = Small (2 * literal_count header + 3) in
      let x2 = Small (first_words header) in
      let o1 = with_field o 1 x1 in
      let o2 = with_field o1 2 x2 in
      let o3 = with_field o2 3 method in
      let o4 = with_field o3 5 receiver in
      let l1 = length-set o.fields 1 x1 in
      let l2 = length-set o1.fields 2 x2 in
      let l3 = length-set o2.fields 3 method in
      let w1 = small_there t (2 * literal_count header + 3) (few_literals header) in
      let few = few_words header in
      let w2 : (u : Table) → is_there bounded_table u x2 ≡ true = λ u. small_there u (first_words header) (omega (arith, few)) in
      next_goes head t (λ a u. Puts t u context o1) (λ a u. Puts t u context o4) _ _ (put_goes head t context o 1 x1 e p (omega (arith, l)) w1)
      (λ a u h. next_goes head u (λ b v. Puts t v context o2) (λ b v. Puts t v context o4) _ _
      (goes_as head _ u _ (λ b v. Puts t v context o2) (put_goes head u context o1 2 x2 h.is p (omega (arith, l, l1)) (w2 u)) (λ b v k. puts_then t u v context o1 o2 h k))
      (λ b v k. next_goes head v (λ c w. Puts t w context o3) (λ c w. Puts t w context o4) _ _
      (goes_as head _ v _ (λ c w. Puts t w context o3) (put_goes head v context o2 3 method k.is p (omega (arith, l, l1, l2)) (there_put t v context o2 method k m))
      (λ c w q. puts_then t v w context o2 o3 k q))
      (λ c w q. goes_as head _ w _ (λ d y. Puts t y context o4) (put_goes head w context o3 5 receiver q.is p (omega (arith, l, l1, l2, l3)) (there_put t w context o3 receiver q r))
      (λ d y z. puts_then t w y context o3 o4 q z))))

-- THE PROCESS

abbrev scheduled : Object → (context : Value) → Object
scheduled o context = with_field (with_field o 1 context) 2 (Small 4)

-- the process has its context, and the scheduler the process
record Schedules (t u : Table) (process scheduler : Value) (p o : Object) (context : Value) : Type 0 where
  pub is_process : object_at u process ≡ Some (scheduled p context)
  pub is_scheduler : object_at u scheduler ≡ Some (with_field o 1 process)
  pub others : (w : Value) → w ≢ process → w ≢ scheduler → object_at u w ≡ object_at t w

module _ (head : Head) (process context scheduler : Value) (a o p : Object) where
  schedule_goes : (t : Table) → object_at t process ≡ Some p → is_pointers p.kind ≡ true → 3 ≤ length p.fields
      → object_at t scheduler_association ≡ Some a → is_pointers a.kind ≡ true → slice_get a.fields 1 ≡ Some scheduler
      → object_at t scheduler ≡ Some o → is_pointers o.kind ≡ true → 2 ≤ length o.fields
      → scheduler_association ≢ process → scheduler ≢ process → is_there bounded_table t context ≡ true → is_there bounded_table t process ≡ true
      → Goes head (schedule bounded_table process context) t (λ b u. Schedules t u process scheduler p o context)
  unfolding schedule
  schedule_goes t pe pp pl ae ap_ as_ oe op ol da do_ c pt =
      let p1 = with_field p 1 context in
      let p2 = with_field p1 2 (Small 4) in
      let l1 = length-set p.fields 1 context in
      next_goes head t (λ b u. Puts t u process p1) (λ b u. Schedules t u process scheduler p o context) _ _ (put_goes head t process p 1 context pe pp (omega (arith, pl)) c)
      (λ b u h. next_goes head u (λ b v. Puts t v process p2) (λ b u. Schedules t u process scheduler p o context) _ _
      (goes_as head _ u _ (λ b v. Puts t v process p2) (put_goes head u process p1 2 (Small 4) h.is pp (omega (arith, pl, l1)) refl) (λ b v k. puts_then t u v process p1 p2 h k))
      (λ b v k. read_goes head v (λ b u. Schedules t u process scheduler p o context) (of_page bounded_table SchedulerAssociation) _ scheduler_association (tells_page v SchedulerAssociation)
      (read_goes head v (λ b u. Schedules t u process scheduler p o context) (fetch_field bounded_table scheduler_association 1) _ scheduler
      (tells_field v scheduler_association a (k.others scheduler_association da ∙ ae) ap_ 1 scheduler as_)
      (goes_as head _ v _ (λ b w. Schedules t w process scheduler p o context)
      (put_goes head v scheduler o 1 process (k.others scheduler do_ ∙ oe) op (omega (arith, ol)) (there_put t v process p2 process k pt))
      (λ b w q. record {
        is_process = q.others process (λ e. do_ (sym e)) ∙ k.is;
        is_scheduler = q.is;
        others = λ x d f. q.others x f ∙ k.others x d;
      })))))

-- FETCHING

-- a table in which all that fetching the registers asks for is there
record IsScheduled (u : Table) : Type 0 where
  pub scheduler : Value
  pub process : Value
  pub context : Value
  pub method : ℕ
  pub receiver : Value
  pub ip : ℕ
  pub sp : ℕ
  pub count : ℕ
  pub has_scheduler : Tells (fetch_field bounded_table scheduler_association 1) u scheduler
  pub has_process : Tells (fetch_field bounded_table scheduler 1) u process
  pub has_context : Tells (fetch_field bounded_table process 1) u context
  pub has_ip : Tells (fetch_field bounded_table context 1) u (Small ip)
  pub has_sp : Tells (fetch_field bounded_table context 2) u (Small sp)
  pub has_method : Tells (fetch_field bounded_table context 3) u (Ref method)
  pub has_receiver : Tells (fetch_field bounded_table context 5) u receiver
  pub has_count : Tells (count_fields bounded_table context) u count
  pub few : sp < 32
  pub places : sp + 6 ≤ count
  pub there : (is_there table u context ≡ true) × (is_there table u (Ref method) ≡ true) × (is_there table u receiver ≡ true)

page_told : (u : Table) (q : PageObject) → Tells (of_page table q) u (Ref (place_of q))
unfolding of_page
page_told u q s = refl

field_told : (u : Table) (v : Value) (i : ℕ) (x : Value) → Tells (fetch_field bounded_table v i) u x → Tells (fetch_field table v i) u x
field_told u v i x h = subst (λ m. Tells m u x) (fetch_field-as bounded_reads.tabular v i) h

count_told : (u : Table) (v : Value) (n : ℕ) → Tells (count_fields bounded_table v) u n → Tells (count_fields table v) u n
count_told u v n h = subst (λ m. Tells m u n) (count_fields-as bounded_reads.tabular v) h

check_told : (u : Table) (k : Dead) (b : Bool) → b ≡ true → Tells (check k b) u tt
check_told u k b e s = run-passed k b (over s u) e

told_next : {A B : Type 0} (t : Table) (m : Step Table A) (n : Step Table B) (a : A) (b : B) → Tells m t a → Tells n t b → Tells (m >> n) t b
told_next t m n a b e h s = let p = e s in let q = h s in simp (run-next, p, after-went, q) refl

small_told : (u : Table) (n : ℕ) → Tells (integer_or_die (Small n)) u (integer n)
unfolding integer_or_die
small_told u n = tells_answer u (integer n)

integer_told : (u : Table) (v : Value) (i n : ℕ) → Tells (fetch_field table v i) u (Small n) → Tells (fetch_integer table v i) u (integer n)
unfolding fetch_integer
integer_told u v i n h = tells_then u (fetch_field table v i) _ (Small n) (integer n) h (small_told u n)

low_integer : (n : ℕ) → n < 32 → integer n ≡ pos n
low_integer n l = let e : nat_lt n 16384 ≡ true = grind (arith, nat_tests) in rw e refl

module _ (u : Table) (h : IsScheduled u) where
  method_told : Tells (fetch_field table h.context 3) u (Ref h.method)
  method_told = field_told u h.context 3 (Ref h.method) h.has_method

  home_told : Tells (home_of table h.context) u h.context
  unfolding home_of home_by
  home_told = tells_then u (fetch_field table h.context 3) _ (Ref h.method) h.context method_told (tells_answer u h.context)

  stack_told : Tells (stack_place table h.context (pos (h.sp + 5))) u (h.sp + 5)
  unfolding stack_place
  stack_told =
      let few = h.few in
      let places = h.places in
      tells_then u (count_fields table h.context) _ h.count (h.sp + 5) (count_told u h.context h.count h.has_count)
      (told_next u _ _ tt (h.sp + 5) (check_told u dead.Sp (nat_le 5 (h.sp + 5)) (grind (arith, nat_tests)))
      (told_next u _ _ tt (h.sp + 5) (check_told u dead.Sp (nat_le (h.sp + 5) 16388) (grind (arith, nat_tests)))
      (told_next u _ _ tt (h.sp + 5) (check_told u dead.Sp (nat_lt (h.sp + 5) h.count) (grind (arith, nat_tests))) (tells_answer u (h.sp + 5)))))

  pointer_told : Tells (fetch_stack_pointer table h.context) u (h.sp + 5)
  unfolding fetch_stack_pointer
  pointer_told =
      tells_then u (fetch_integer table h.context 2) _ (integer h.sp) (h.sp + 5) (integer_told u h.context 2 h.sp (field_told u h.context 2 (Small h.sp) h.has_sp))
      (subst (λ z. Tells (stack_place table h.context (z +ℤ pos 5)) u (h.sp + 5)) (sym (low_integer h.sp h.few)) stack_told)

  abbrev registers : Registers
  registers = record { active = h.context; home = h.context; method = Ref h.method; receiver = h.receiver; ip = integer h.ip -ℤ pos 1; sp = h.sp + 5 }

  registers_told : Tells (context_registers table h.context) u registers
  unfolding context_registers
  registers_told =
      tells_then u (home_of table h.context) _ h.context registers home_told
      (tells_then u (fetch_field table h.context 3) _ (Ref h.method) registers method_told
      (tells_then u (fetch_field table h.context 5) _ h.receiver registers (field_told u h.context 5 h.receiver h.has_receiver)
      (tells_then u (fetch_integer table h.context 1) _ (integer h.ip) registers (integer_told u h.context 1 h.ip (field_told u h.context 1 (Small h.ip) h.has_ip))
      (tells_then u (fetch_stack_pointer table h.context) _ (h.sp + 5) registers pointer_told (tells_answer u registers)))))

  context_told : Tells (scheduled_context table) u h.context
  unfolding scheduled_context
  context_told =
      tells_then u (of_page table SchedulerAssociation) _ scheduler_association h.context (page_told u SchedulerAssociation)
      (tells_then u (fetch_field table scheduler_association 1) _ h.scheduler h.context (field_told u scheduler_association 1 h.scheduler h.has_scheduler)
      (tells_then u (fetch_field table h.scheduler 1) _ h.process h.context (field_told u h.scheduler 1 h.process h.has_process)
      (field_told u h.process 1 h.context h.has_context)))

  all_there : are_there table u registers ≡ true
  all_there = and_from _ _ h.there.0 (and_from _ _ h.there.0 (and_from _ _ h.there.1 h.there.2))

  fetches : (s : State Table) → (fetch_scheduled_registers table).run (over s u) ≡ Went tt (record (over s u) { registers = registers })
  unfolding fetch_scheduled_registers fetch_context_registers
  fetches s =
      let c = context_told s in
      let r = registers_told s in
      simp (run-then, c, after-went, r, run-set_registers table registers (over s u) all_there) refl

-- NEW OBJECTS

abbrev blank : (class n : ℕ) → Object
blank class n = fresh_with nil class kind.Pointers n 0

-- nil where there was no room, or an object more
abbrev IsMade : Table → Object → Value → Table → Type 0
IsMade t o v u = ((v ≡ nil) × (u ≡ t)) ⊎ ((v ≡ Ref (first_free t)) × (u ≡ placed t o))

abbrev name_by : Bool → Table → Value
name_by b t = if b then Ref (first_free t) else nil

abbrev table_by : Bool → Table → Object → Table
table_by b t o = if b then placed t o else t

made_by : (b : Bool) (t : Table) (o : Object) → IsMade t o (name_by b t) (table_by b t o)
made_by true t o = inr (refl, refl)
made_by false t o = inl (refl, refl)

made_there : (o : Object) (s : State Table) (a b : Bool) → a ≡ true → made bounded_table o s a b ≡ Went (name_by b s.memory) (record s { memory = table_by b s.memory o })
unfolding made
made_there o s false b e = cc
made_there o s true true e = refl
made_there o s true false e = refl

new_runs : (class n : ℕ) (s : State Table) (t : Table) (b : Bool) → is_some (entry t class) ≡ true → has_room bounded_table s.head t (blank class n) ≡ b
    → (new_object bounded_table (Ref class) n).run (over s t) ≡ Went (name_by b t) (over s (table_by b t (blank class n)))
unfolding new_object make make_named
new_runs class n s t b e r = made_there (blank class n) (over s t) _ _ e ∙ ap (λ c. Went (name_by c t) (over s (table_by c t (blank class n)))) r

new_goes : (head : Head) (t : Table) (class n : ℕ) → is_some (entry t class) ≡ true → Goes head (new_object bounded_table (Ref class) n) t (IsMade t (blank class n))
new_goes head t class n e =
    let b = has_room bounded_table head t (blank class n) in
    record {
      value = name_by b t;
      next = table_by b t (blank class n);
      goes = λ s f. new_runs class n s t b e (ap (λ a. has_room bounded_table a t (blank class n)) f);
      leaves = made_by b t (blank class n);
    }

none_there : (t : Table) (v : Value) (a : Object) → object_at t v ≡ Some a → v ≢ Ref (first_free t)
none_there t v a e q = let f : object_at t v ≡ None = ap (object_at t) q ∙ first_free-none t in cc

there_stands : (t : Table) (o : Object) (x : Value) → is_there bounded_table t x ≡ true → is_there bounded_table (placed t o) x ≡ true
there_stands t o (Small n) e = e
there_stands t o (Ref n) e = by_entry (entry t n) refl e
  where
    by_entry : (x : Option Object) → entry t n ≡ x → is_some x ≡ true → is_there bounded_table (placed t o) (Ref n) ≡ true
    by_entry None f g = cc
    by_entry (Some a) f g = there_by (placed t o) n a (placed_stands t o (Ref n) a f)

live_stands : (t : Table) (o : Object) (n : ℕ) → is_some (entry t n) ≡ true → is_some (entry (placed t o) n) ≡ true
live_stands t o n e = there_stands t o (Ref n) e

-- the new object isn't nil
not_nil : (t : Table) → is_some (entry t 1) ≡ true → same_value (Ref (first_free t)) nil ≡ false
not_nil t e = ne_eqb (first_free t) 1 (λ q. let f : entry t 1 ≡ None = ap (entry t) (sym q) ∙ first_free-none t in let g : is_some (entry t 1) ≡ false = ap is_some f in cc)

-- THE FIELDS

second_set : (xs : List Value) (x : Value) → 2 ≤ length xs → slice_get (slice_set xs 1 x) 1 ≡ Some x
second_set [] x l = absurd (omega (arith, l))
second_set (a ∷ []) x l = absurd (omega (arith, l))
second_set (a ∷ b ∷ xs) x l = refl

-- a context of one size or the other
abbrev context_by : Bool → (class : ℕ) → (method header receiver : Value) → Object
context_by large class method header receiver = filled (blank class (if large then 38 else 18)) method header receiver

record HasContextFields (o : Object) (method header receiver : Value) (size : ℕ) : Type 0 where
  pub has_ip : slice_get o.fields 1 ≡ Some (Small (2 * literal_count header + 3))
  pub has_sp : slice_get o.fields 2 ≡ Some (Small (first_words header))
  pub has_method : slice_get o.fields 3 ≡ Some method
  pub has_receiver : slice_get o.fields 5 ≡ Some receiver
  pub count : length o.fields ≡ size

context_fields : (large : Bool) (class : ℕ) (method header receiver : Value) → HasContextFields (context_by large class method header receiver) method header receiver (if large then 38 else 18)
context_fields true class method header receiver = record { has_ip = refl; has_sp = refl; has_method = refl; has_receiver = refl; count = refl }
context_fields false class method header receiver = record { has_ip = refl; has_sp = refl; has_method = refl; has_receiver = refl; count = refl }

enough_fields : (large : Bool) → 6 ≤ length (replicate {A = Value} (if large then 38 else 18) nil)
enough_fields true = let e = length-replicate {A = Value} 38 nil in omega (arith, e)
enough_fields false = let e = length-replicate {A = Value} 18 nil in omega (arith, e)

-- A METHOD'S HEADER

or_die_went : (k : Dead) (y : Option Value) (h : Value) (s u : State Table) → (or_die k y).run s ≡ Went h u → y ≡ Some h
unfolding or_die answer die
or_die_went k None h s u e = cc
or_die_went k (Some a) h s u e = let q : a ≡ h = cc in ap (λ x. Some x) q

check_went : (k : Dead) (b : Bool) (n : Step Table Value) (h : Value) (s u : State Table) → (check k b >> n).run s ≡ Went h u → (b ≡ true) × (n.run s ≡ Went h u)
unfolding check ◌>>◌ ◌>>=◌ after answer die
check_went k true n h s u e = (refl, e)
check_went k false n h s u e = cc

record WentBy (t : Table) (v : Value) (f : Object → Step Table Value) (h : Value) (s u : State Table) : Type 0 where
  pub object : Object
  pub is : object_at t v ≡ Some object
  pub went : (f object).run s ≡ Went h u

object_went : (v : Value) (f : Object → Step Table Value) (h : Value) (s u : State Table) → (object table v >>= f).run s ≡ Went h u → WentBy s.memory v f h s u
unfolding object object_named found die answer ◌>>=◌ after
object_went (Small n) f h s u e = cc
object_went (Ref n) f h s u e = by_entry (entry s.memory n) refl e
  where
    by_entry : (x : Option Object) → entry s.memory n ≡ x → (found x >>= f).run s ≡ Went h u → WentBy s.memory (Ref n) f h s u
    by_entry None g e = cc
    by_entry (Some o) g e = record { object = o; is = g; went = e }

record IsMethodWith (t : Table) (v header : Value) : Type 0 where
  pub object : Object
  pub is : object_at t v ≡ Some object
  pub kind : is_method object.kind ≡ true
  pub has : slice_get object.fields 0 ≡ Some header

header_went : (v header : Value) (s u : State Table) → (method_header table v).run s ≡ Went header u → IsMethodWith s.memory v header
unfolding method_header
header_went v header s u e =
    let a = object_went v _ header s u e in
    let b = check_went dead.Kind (is_method a.object.kind) _ header s u a.went in
    record { object = a.object; is = a.is; kind = b.0; has = or_die_went dead.Field (slice_get a.object.fields 0) header s u b.1 }

header_told : (t : Table) (v header : Value) → IsMethodWith t v header → Tells (method_header bounded_table v) t header
unfolding method_header
header_told t v header h =
    tells_then t (object bounded_table v) _ h.object header (tells_object t v h.object h.is)
    (told_next t _ _ tt header (check_told t dead.Kind (is_method h.object.kind) h.kind) (λ s. run-some dead.Field (slice_get h.object.fields 0) header (over s t) h.has))

method_stands : (t : Table) (o : Object) (v header : Value) → IsMethodWith t v header → IsMethodWith (placed t o) v header
method_stands t o v header h = record { object = h.object; is = placed_stands t o v h.object h.is; kind = h.kind; has = h.has }

-- THE FIRST PROCESS

-- a table with a scheduler, a method with this header, a receiver, nil, and the class of contexts
record IsSet (t : Table) (method : ℕ) (header receiver scheduler : Value) : Type 0 where
  pub association : Object
  pub object : Object
  pub is_association : object_at t scheduler_association ≡ Some association
  pub association_pointers : is_pointers association.kind ≡ true
  pub has : slice_get association.fields 1 ≡ Some scheduler
  pub is_object : object_at t scheduler ≡ Some object
  pub object_pointers : is_pointers object.kind ≡ true
  pub object_fields : 2 ≤ length object.fields
  pub apart : scheduler ≢ scheduler_association
  pub has_method : IsMethodWith t (Ref method) header
  pub there : is_there bounded_table t receiver ≡ true
  pub has_class : is_some (entry t (place_of MethodContextClass)) ≡ true
  pub has_nil : is_some (entry t 1) ≡ true

set_stands : (t : Table) (o : Object) (method : ℕ) (header receiver scheduler : Value) → IsSet t method header receiver scheduler → IsSet (placed t o) method header receiver scheduler
set_stands t o method header receiver scheduler h = record {
  association = h.association;
  object = h.object;
  is_association = placed_stands t o scheduler_association h.association h.is_association;
  association_pointers = h.association_pointers;
  has = h.has;
  is_object = placed_stands t o scheduler h.object h.is_object;
  object_pointers = h.object_pointers;
  object_fields = h.object_fields;
  apart = h.apart;
  has_method = method_stands t o (Ref method) header h.has_method;
  there = there_stands t o receiver h.there;
  has_class = live_stands t o (place_of MethodContextClass) h.has_class;
  has_nil = live_stands t o 1 h.has_nil;
}

there_scheduled : (t u : Table) (process scheduler : Value) (p o : Object) (context : Value) (x : Value) → Schedules t u process scheduler p o context
    → is_there bounded_table t x ≡ true → is_there bounded_table u x ≡ true
there_scheduled t u process scheduler p o context (Small n) h e = e
there_scheduled t u process scheduler p o context (Ref n) h e = elim (same_or_other (Ref n) process) as (λ m. is_there bounded_table u (Ref n) ≡ true) [
  | inl s ↦ there_by u n _ (ap (object_at u) s ∙ h.is_process)
  | inr d ↦ elim (same_or_other (Ref n) scheduler) as (λ m. is_there bounded_table u (Ref n) ≡ true) [
    | inl s ↦ there_by u n _ (ap (object_at u) s ∙ h.is_scheduler)
    | inr f ↦ ap is_some (h.others (Ref n) d f) ∙ e
  ]
]

-- the two tables have the same objects
there_table : (t : Table) (x : Value) → is_there bounded_table t x ≡ true → is_there table t x ≡ true
there_table t (Small n) e = e
there_table t (Ref n) e = e

there_bounded : (t : Table) (x : Value) → is_there table t x ≡ true → is_there bounded_table t x ≡ true
there_bounded t (Small n) e = e
there_bounded t (Ref n) e = e

abbrev Scheduling : Bool → Table → Type 0
Scheduling made u = made ≡ true → IsScheduled u

module _ (head : Head) (class : ℕ) (method : ℕ) (header receiver scheduler process : Value) where
  abbrev context_object : Object
  context_object = blank (place_of MethodContextClass) (context_size header)

  abbrev process_object : Object
  process_object = blank class 4

  process_fields : 3 ≤ length process_object.fields
  process_fields = let e = length-replicate {A = Value} 4 nil in omega (arith, e)

  module _ (t : Table) (context : Value) (h : IsSet t method header receiver scheduler) (pe : object_at t process ≡ Some process_object) (ce : object_at t context ≡ Some context_object)
      (places : first_words header + 6 ≤ context_size header) (pc : process ≢ context) (ac : scheduler_association ≢ context) (sc : scheduler ≢ context)
      (ap_ : scheduler_association ≢ process) (sp_ : scheduler ≢ process) where
    abbrev with_fields : Object
    with_fields = filled context_object (Ref method) header receiver

    has_fields : HasContextFields with_fields (Ref method) header receiver (context_size header)
    has_fields = context_fields (is_large header) (place_of MethodContextClass) (Ref method) header receiver

    is_scheduled : (u w : Table) → Puts t u context with_fields → Schedules u w process scheduler process_object h.object context → IsScheduled w
    is_scheduled u w p k =
        let f = has_fields in
        let here : object_at w context ≡ Some with_fields = k.others context (λ e. pc (sym e)) (λ e. sc (sym e)) ∙ p.is in
        let aw : object_at w scheduler_association ≡ Some h.association = k.others scheduler_association ap_ (λ e. h.apart (sym e)) ∙ (p.others scheduler_association ac ∙ h.is_association) in
        let keeps : (x : Value) → is_there bounded_table t x ≡ true → is_there table w x ≡ true
        = λ x e. there_table w x (there_scheduled u w process scheduler process_object h.object context x k (there_put t u context with_fields x p e)) in
        record {
          scheduler = scheduler;
          process = process;
          context = context;
          method = method;
          receiver = receiver;
          ip = 2 * literal_count header + 3;
          sp = first_words header;
          count = length with_fields.fields;
          has_scheduler = tells_field w scheduler_association h.association aw h.association_pointers 1 scheduler h.has;
          has_process = tells_field w scheduler (with_field h.object 1 process) k.is_scheduler h.object_pointers 1 process (second_set h.object.fields process h.object_fields);
          has_context = tells_field w process (scheduled process_object context) k.is_process refl 1 context refl;
          has_ip = tells_field w context with_fields here refl 1 (Small (2 * literal_count header + 3)) f.has_ip;
          has_sp = tells_field w context with_fields here refl 2 (Small (first_words header)) f.has_sp;
          has_method = tells_field w context with_fields here refl 3 (Ref method) f.has_method;
          has_receiver = tells_field w context with_fields here refl 5 receiver f.has_receiver;
          has_count = tells_count w context with_fields here refl;
          few = few_words header;
          places = let c = f.count in omega (arith, c, places);
          there = (keeps context (there_at t context context_object ce), keeps (Ref method) (there_at t (Ref method) h.has_method.object h.has_method.is), keeps receiver h.there);
        }

    method_goes : Goes head (schedule_method bounded_table process context (Ref method) header receiver) t Scheduling
    unfolding schedule_method
    method_goes =
        let m = there_at t (Ref method) h.has_method.object h.has_method.is in
        next_goes head t (λ a u. Puts t u context with_fields) Scheduling _ _
        (fill_goes head context (Ref method) header receiver t context_object ce refl (enough_fields (is_large header)) m h.there)
        (λ a u p. next_goes head u (λ b w. Schedules u w process scheduler process_object h.object context) Scheduling _ _
        (schedule_goes head process context scheduler h.association h.object process_object u (p.others process pc ∙ pe) refl process_fields
        (p.others scheduler_association ac ∙ h.is_association) h.association_pointers h.has (p.others scheduler sc ∙ h.is_object) h.object_pointers h.object_fields
        ap_ sp_ (there_at u context with_fields p.is) (there_put t u context with_fields process p (there_at t process process_object pe)))
        (λ b w k. answer_goes head w Scheduling true (λ e. is_scheduled u w p k)))

  module _ (t : Table) (h : IsSet t method header receiver scheduler) (pe : object_at t process ≡ Some process_object)
      (places : first_words header + 6 ≤ context_size header) (ap_ : scheduler_association ≢ process) (sp_ : scheduler ≢ process) where
    abbrev goes_on : Value → Step Table Bool
    goes_on context = if same_value context nil then answer false else schedule_method bounded_table process context (Ref method) header receiver

    with_context : (context : Value) (u : Table) → IsMade t context_object context u → Goes head (goes_on context) u Scheduling
    with_context context u (inl e) = subst (λ v. Goes head (goes_on v) u Scheduling) (sym e.0) (answer_goes head u Scheduling false (λ f. absurd cc))
    with_context context u (inr e) =
        let new = Ref (first_free t) in
        let w = placed t context_object in
        let goes = method_goes w new (set_stands t context_object method header receiver scheduler h) (placed_stands t context_object process process_object pe) (placed-first t context_object) places
        (none_there t process process_object pe) (none_there t scheduler_association h.association h.is_association) (none_there t scheduler h.object h.is_object) ap_ sp_ in
        subst (λ v. Goes head (goes_on v) u Scheduling) (sym e.0) (subst (λ x. Goes head (goes_on new) x Scheduling) (sym e.1)
        (subst (λ b. Goes head (if b then answer false else schedule_method bounded_table process new (Ref method) header receiver) w Scheduling) (sym (not_nil t h.has_nil)) goes))

    context_goes : Goes head (in_new_context bounded_table process (Ref method) receiver) t Scheduling
    unfolding in_new_context
    context_goes =
        read_goes head t Scheduling (method_header bounded_table (Ref method)) _ header (header_told t (Ref method) header h.has_method)
        (read_goes head t Scheduling (of_page bounded_table MethodContextClass) _ (Ref (place_of MethodContextClass)) (tells_page t MethodContextClass)
        (then_goes head t (IsMade t context_object) Scheduling (new_object bounded_table (Ref (place_of MethodContextClass)) (context_size header)) _
        (new_goes head t (place_of MethodContextClass) (context_size header) h.has_class)
        (λ context u m. read_goes head u Scheduling (of_page bounded_table NilObject) _ nil (tells_page u NilObject) (with_context context u m))))

-- ANY CLASS BUT THAT OF METHODS

read_next : {A B : Type 0} (head : Head) (t : Table) (Q : B → Table → Type 0) (m : Step Table A) (n : Step Table B) (a : A) → Tells m t a → Goes head n t Q → Goes head (m >> n) t Q
read_next head t Q m n a e h =
    record { value = h.value; next = h.next; goes = λ s g. let p = e s in let q = h.goes s g in simp (run-next, p, after-went, q) refl; leaves = h.leaves }

class_told : (t : Table) (class : ℕ) → class ≢ place_of MethodClass → Tells (check_not_method_class bounded_table (Ref class)) t tt
unfolding check_not_method_class
class_told t class d =
    tells_then t (of_page bounded_table MethodClass) _ (Ref (place_of MethodClass)) tt (tells_page t MethodClass)
    (check_told t dead.Kind (not (same_value (Ref class) (Ref (place_of MethodClass)))) (ap not (ne_eqb class (place_of MethodClass) d)))

module _ (head : Head) (class method : ℕ) (header receiver scheduler : Value) (t : Table) (h : IsSet t method header receiver scheduler)
    (places : first_words header + 6 ≤ context_size header) (live : is_some (entry t class) ≡ true) (other : class ≢ place_of MethodClass) where
  abbrev goes_in : Value → Step Table Bool
  goes_in process = if same_value process nil then answer false else in_new_context bounded_table process (Ref method) receiver

  with_process : (process : Value) (u : Table) → IsMade t (blank class 4) process u → Goes head (goes_in process) u Scheduling
  with_process process u (inl e) = subst (λ v. Goes head (goes_in v) u Scheduling) (sym e.0) (answer_goes head u Scheduling false (λ f. absurd cc))
  with_process process u (inr e) =
      let new = Ref (first_free t) in
      let w = placed t (blank class 4) in
      let goes = context_goes head class method header receiver scheduler new w (set_stands t (blank class 4) method header receiver scheduler h) (placed-first t (blank class 4)) places
      (none_there t scheduler_association h.association h.is_association) (none_there t scheduler h.object h.is_object) in
      subst (λ v. Goes head (goes_in v) u Scheduling) (sym e.0) (subst (λ x. Goes head (goes_in new) x Scheduling) (sym e.1)
      (subst (λ b. Goes head (if b then answer false else in_new_context bounded_table new (Ref method) receiver) w Scheduling) (sym (not_nil t h.has_nil)) goes))

  process_goes : Goes head (in_new_process bounded_table (Ref class) (Ref method) receiver) t Scheduling
  unfolding in_new_process
  process_goes =
      read_next head t Scheduling (check_not_method_class bounded_table (Ref class)) _ tt (class_told t class other)
      (then_goes head t (IsMade t (blank class 4)) Scheduling (new_object bounded_table (Ref class) 4) _ (new_goes head t class 4 live)
      (λ process u m. read_goes head u Scheduling (of_page bounded_table NilObject) _ nil (tells_page u NilObject) (with_process process u m)))

-- THE START

last_goes : (made : Bool) (u : Table) (s : State Table) → Scheduling made u → (b : Bool) × (c : State Table) × ((fetch_if made).run (over s u) ≡ Went b c)
unfolding fetch_if
last_goes false u s h = (false, over s u, run-answer false (over s u))
last_goes true u s h = let e = fetches u (h refl) s in (true, record (over s u) { registers = registers u (h refl) }, simp (run-next, e, after-went, run-answer) refl)

live_object : (t : Table) (v : Value) → is_live t v ≡ true → object_at t v ≡ Some (object_of t v)
unfolding is_live object_of
live_object t (Small n) e = cc
live_object t (Ref n) e = by_entry (entry t n) e
  where
    by_entry : (x : Option Object) → is_some x ≡ true → x ≡ Some (unwrap_or x nothing)
    by_entry None e = cc
    by_entry (Some o) e = refl

live_entry : (t : Table) (n : ℕ) → is_live t (Ref n) ≡ true → is_some (entry t n) ≡ true
unfolding is_live
live_entry t n e = e

module _ (v : View) (s : Start) (page : (q : PageObject) → is_live v.objects (Ref (place_of q)) ≡ true) (has : HasScheduler v) (h : IsFound v s) where
  is_set : (method : ℕ) → IsMethodWith v.objects (Ref method) h.header → IsSet v.objects method h.header h.receiver has.scheduler
  is_set method m = record {
    association = object_of v.objects scheduler_association;
    object = object_of v.objects has.scheduler;
    is_association = live_object v.objects scheduler_association has.association.live;
    association_pointers = has.association.pointers;
    has = has.is;
    is_object = live_object v.objects has.scheduler has.object.live;
    object_pointers = has.object.pointers;
    object_fields = has.object.enough;
    apart = has.other;
    has_method = m;
    there = there_bounded v.objects h.receiver h.there;
    has_class = live_entry v.objects (place_of MethodContextClass) (page MethodContextClass);
    has_nil = live_entry v.objects 1 (page NilObject);
  }

  by_method : (method : Value) → h.method ≡ method → IsMethodWith v.objects method h.header → Begins v s
  unfolding begin_by
  by_method (Small n) e m = let i = m.is in cc
  by_method (Ref n) e m =
      let g = process_goes v.head h.class n h.header h.receiver has.scheduler v.objects (is_set n m) h.has_places (live_entry v.objects h.class h.live) h.other in
      let l = last_goes g.value g.next (idle_state v) g.leaves in
      let a = h.has_receiver in
      let b = subst (λ x. Finds v (method_of table v.head h.receiver s.selector) x) e h.has_method in
      let c = h.has_class in
      let d : (in_new_process bounded_table (Ref h.class) (Ref n) h.receiver).run (idle_state v) ≡ Went g.value (over (idle_state v) g.next) = g.goes (idle_state v) refl in
      let f = l.2 in
      (l.0, l.1, simp (run-then, a, b, c, d, f, after-went) refl)

  pub begins_over : Begins v s
  begins_over = by_method h.method refl (header_went h.method h.header (idle_state v) (idle_state v) h.has_header)

pub begins : (v : View) (s : Start) → IsWhole v → HasScheduler v → IsFound v s → Begins v s
begins v s whole has h = begins_over v s whole.complete.page has h

abbrev cause_in : Result Built Fault → ℕ
cause_in (Ok b) = 0
cause_in (Err f) = f.cause

went_as : (n : ℕ) (o : Transition (State Table) Bool) (answered : Bool) (c : State Table) → o ≡ Went answered c → begun_as n o ≢ fault_at n 6
went_as n (Died cause) answered c e f = cc
went_as n (Went true d) answered c e f = cc
went_as n (Went false d) answered c e f = let q : cause_in (fault_at n 7) ≡ cause_in (fault_at n 6) = ap cause_in f in omega (arith, q)

pub missing_over : (v : View) (s : Start) (n : ℕ) → ((q : PageObject) → is_live v.objects (Ref (place_of q)) ≡ true) → begun_in n s (idle_state v) ≡ fault_at n 6 → IsMissing v s
missing_over v s n page e has h = let b = begins_over v s page has h in went_as n _ b.0 b.1 b.2 e

pub missing : (v : View) (s : Start) (n : ℕ) → IsWhole v → begun_in n s (idle_state v) ≡ fault_at n 6 → IsMissing v s
missing v s n whole e = missing_over v s n whole.complete.page e

ended : (o : Transition (State Table) Bool) (r : Result Bool Dead) (k : Dead) (w : View) → Ends o r w → r ≡ Err k → (answered : Bool) (c : State Table) → o ≢ Went answered c
ended (Died cause) r k w e f answered c g = cc
ended (Went b d) r k w e f answered c g = absurd (subst (λ x. Ends (Went b d) x w) f e)

-- a step of the start died
pub died_missing : (v w : View) (s : Start) (r : Result Bool Dead) (k : Dead) → IsWhole v → Ends ((begin_by v.head s).run (idle_state v)) r w → r ≡ Err k → IfErr r (λ d. IsMissing v s)
died_missing v w s r k whole e f =
    subst (λ x. IfErr x (λ d. IsMissing v s)) (sym f) (λ has h. let b = begins v s whole has h in ended _ r k w e f b.0 b.1 b.2)
