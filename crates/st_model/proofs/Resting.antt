-- A primitive without arguments whose answer is its receiver pops and pushes one word at one place, which changes nothing. So 96
-- leaves objects and registers as they are, but for its deed.
use Rattle.std.proofs.Common.{◌≡◌, ℕ, zero, suc, List, [], ◌∷◌, length, Option, Some, None, Bool, true, false, refl, sym, ◌∙◌, ap, arith}
use Rattle.std.specs.Prelude.{◌+◌, ◌-◌, slice_get, slice_set, nat_lt, nat_le}
use Rattle.std.proofs.lemmas.Bool.Decides.{nat_tests}
use Rattle.st_model.specs.declared.dead.Dead.{Dead}
use Rattle.st_model.specs.declared.dead.Dead.TheVariants as dead
use Rattle.st_model.specs.Values.{Value, Ref}
use Rattle.st_model.specs.Objects.{Object, is_pointers, with_field}
use Rattle.st_model.specs.Machine.{ObjectMemory, State, Transition, Died, Went, Step, is_there, answer, die, after, ◌>>=◌, ◌>>◌}
use Rattle.st_model.specs.Table.{Table, table, entry, changed, IsTabular}
use Rattle.st_model.specs.Steps.{get_active, get_sp, set_sp, found, object_named, object, stored_at, store_at, set_field, check, or_die, fetch_field, store_field, count_fields, put, push, top, pop}
use Rattle.st_model.specs.Primitives.{pop_words, answer_with}
use Rattle.st_model.proofs.Tabular.{top-as, pop-as, push-as}
use Rattle.st_model.proofs.Looking.{object-looks, check-looks, then-went, next-went, passed, object-went}

pub changed-itself : (t : Table) (n : ℕ) (o : Object) → entry t n ≡ Some o → changed t n o ≡ t
changed-itself [] n o e = refl
changed-itself (None ∷ t) zero o e = refl
changed-itself (Some a ∷ t) zero o e = let q : a ≡ o = cc in ap (λ (b : Object). Some b ∷ t) (sym q)
changed-itself (None ∷ t) (suc n) o e = ap (λ u. None ∷ u) (changed-itself t n o e)
changed-itself (Some a ∷ t) (suc n) o e = ap (λ u. Some a ∷ u) (changed-itself t n o e)

set-itself : {A : Type 0} (xs : List A) (i : ℕ) (x : A) → slice_get xs i ≡ Some x → slice_set xs i x ≡ xs
set-itself [] i x e = refl
set-itself {A = A} (y ∷ xs) zero x e = let q : y ≡ x = cc in ap (λ (z : A). z ∷ xs) (sym q)
set-itself (y ∷ xs) (suc i) x e = ap (λ ys. y ∷ ys) (set-itself xs i x e)

get_below : {A : Type 0} (xs : List A) (i : ℕ) (x : A) → slice_get xs i ≡ Some x → nat_lt i (length xs) ≡ true
get_below [] i x e = cc
get_below (y ∷ xs) zero x e = grind (arith, nat_tests)
get_below (y ∷ xs) (suc i) x e = let h = get_below xs i x e in grind (arith, nat_tests)

-- what stands in a field of an object of kind Pointers
record Holds (t : Table) (v : Value) (i : ℕ) (x : Value) : Type 0 where
  place : ℕ
  object : Object
  is : v ≡ Ref place
  found : entry t place ≡ Some object
  kind : is_pointers object.kind ≡ true
  field : slice_get object.fields i ≡ Some x

or_die_went : {A : Type 0} (cause : Dead) (x : Option A) (s u : State Table) (a : A) → (or_die cause x).run s ≡ Went a u → x ≡ Some a
unfolding or_die die answer
or_die_went cause None s u a e = cc
or_die_went cause (Some b) s u a e = cc

holds : (v : Value) (i : ℕ) (s u : State Table) (x : Value) → (fetch_field table v i).run s ≡ Went x u → Holds s.memory v i x
unfolding fetch_field
holds v i s u x e =
    let a = then-went (object table v) _ (object-looks v) s u x e in
    let b = next-went (check dead.Kind (is_pointers a.0.kind)) _ (check-looks dead.Kind _) s u x a.2 in
    let c = object-went v s s a.0 a.1 in
    record { place = c.0; object = a.0; is = c.1; found = c.2; kind = passed _ _ s s b.1; field = or_die_went dead.Field _ s u x b.2 }

-- what has fields is there
pub field_there : (v : Value) (i : ℕ) (s u : State Table) (x : Value) → (fetch_field table v i).run s ≡ Went x u → is_there table s.memory v ≡ true
field_there v i s u x e = let h = holds v i s u x e in rw (h.is, h.found) refl

-- the word at the top stands in a field of what is active
record OnTop (s : State Table) (v : Value) : Type 0 where
  above : nat_lt 5 s.registers.sp ≡ true
  field : (fetch_field table s.registers.active s.registers.sp).run s ≡ Went v s

on_top : (s : State Table) (v : Value) → (top table).run s ≡ Went v s → OnTop s v
unfolding top get_sp get_active check answer die ◌>>=◌ ◌>>◌ after
on_top s v e = above_base (nat_lt 5 s.registers.sp) refl e
  where
    above_base : (b : Bool) → nat_lt 5 s.registers.sp ≡ b → (check dead.Sp b >> (get_active >>= (λ c. fetch_field table c s.registers.sp))).run s ≡ Went v s → OnTop s v
    above_base true q e = record { above = q; field = e }
    above_base false q e = cc

module _ (s : State Table) (n i : ℕ) (o : Object) (v : Value) (at : entry s.memory n ≡ Some o) (kind : is_pointers o.kind ≡ true) (got : slice_get o.fields i ≡ Some v) (there : is_there table s.memory v ≡ true) where
  same_object : with_field o i v ≡ o
  same_object = λ j. record { class = o.class; kind = o.kind; fields = set-itself o.fields i v got j; units = o.units }

  same_table : changed s.memory n (with_field o i v) ≡ s.memory
  same_table = ap (λ (p : Object). changed s.memory n p) same_object ∙ changed-itself s.memory n o at

  -- what stands in a field already is stored there
  store_again : (store_field table (Ref n) i v).run s ≡ Went tt s
  unfolding store_field set_field store_at stored_at object object_named found ◌>>=◌ ◌>>◌ after check answer
  store_again = rw (at, kind, get_below o.fields i v got, at, there) (ap (λ (t : Table). Went tt (record s { memory = t })) same_table)

  put_again : nat_le i 16388 ≡ true → (put table (Ref n) i v).run s ≡ Went tt s
  unfolding put count_fields object object_named found ◌>>=◌ ◌>>◌ after check answer
  put_again low = rw (at, kind, get_below o.fields i v got, low) store_again

  put_above : nat_le i 16388 ≡ false → (put table (Ref n) i v).run s ≡ Died dead.Sp
  unfolding put count_fields object object_named found ◌>>=◌ ◌>>◌ after check answer die
  put_above high = rw (at, kind, get_below o.fields i v got, high) refl

module _ (s : State Table) (c : Value) (i : ℕ) (v : Value) (h : Holds s.memory c i v) (there : is_there table s.memory v ≡ true) where
  puts : nat_le i 16388 ≡ true → (put table c i v).run s ≡ Went tt s
  puts low = rw h.is (put_again s h.place i h.object v h.found h.kind h.field there low)

  puts_none : nat_le i 16388 ≡ false → (put table c i v).run s ≡ Died dead.Sp
  puts_none high = rw h.is (put_above s h.place i h.object v h.found h.kind h.field there high)

-- popped, and pushed where it was
rests : (s : State Table) (v : Value) (h : Holds s.memory s.registers.active s.registers.sp v) → (top table).run s ≡ Went v s → nat_lt 5 s.registers.sp ≡ true → is_there table s.memory v ≡ true
    → nat_le s.registers.sp 16388 ≡ true → (answer_with table 0 v).run s ≡ Went tt s
unfolding answer_with pop_words pop push get_sp get_active set_sp answer ◌>>=◌ ◌>>◌ after
rests s v h e above there low =
    let back : s.registers.sp - 1 + 1 ≡ s.registers.sp = grind (arith, nat_tests) in
    rw (e, back, puts (record s { registers = record s.registers { sp = s.registers.sp - 1 } }) s.registers.active s.registers.sp v h there low) refl

passes : (s : State Table) (v : Value) (h : Holds s.memory s.registers.active s.registers.sp v) → (top table).run s ≡ Went v s → nat_lt 5 s.registers.sp ≡ true → is_there table s.memory v ≡ true
    → nat_le s.registers.sp 16388 ≡ false → (answer_with table 0 v).run s ≡ Died dead.Sp
unfolding answer_with pop_words pop push get_sp get_active set_sp answer ◌>>=◌ ◌>>◌ after
passes s v h e above there high =
    let back : s.registers.sp - 1 + 1 ≡ s.registers.sp = grind (arith, nat_tests) in
    rw (e, back, puts_none (record s { registers = record s.registers { sp = s.registers.sp - 1 } }) s.registers.active s.registers.sp v h there high) refl

module _ (m : ObjectMemory Table) (tabular : IsTabular m) where
  answer_with-as : (v : Value) → answer_with m 0 v ≡ answer_with table 0 v
  unfolding answer_with pop_words
  answer_with-as v = λ j. (pop-as tabular j >>= (λ x. answer tt)) >> push-as tabular v j

  as_run : {A : Type 0} {n k : Step Table A} → n ≡ k → (s : State Table) (x : Transition (State Table) A) → n.run s ≡ x → k.run s ≡ x
  as_run e s x h = ap (λ step. step.run s) (sym e) ∙ h

  module _ (s : State Table) (v : Value) (on : (top m).run s ≡ Went v s) (there : is_there table s.memory v ≡ true) where
    on_table : OnTop s v
    on_table = on_top s v (as_run (top-as tabular) s (Went v s) on)

    held : Holds s.memory s.registers.active s.registers.sp v
    held = holds s.registers.active s.registers.sp s s v on_table.field

    -- the word at the top is the answer of a primitive without arguments
    pub receiver-answered : nat_le s.registers.sp 16388 ≡ true → (answer_with m 0 v).run s ≡ Went tt s
    receiver-answered low = as_run (sym (answer_with-as v)) s (Went tt s) (rests s v held (as_run (top-as tabular) s (Went v s) on) on_table.above there low)

    pub receiver-not_answered : nat_le s.registers.sp 16388 ≡ false → (answer_with m 0 v).run s ≡ Died dead.Sp
    receiver-not_answered high = as_run (sym (answer_with-as v)) s (Died dead.Sp) (passes s v held (as_run (top-as tabular) s (Went v s) on) on_table.above there high)
