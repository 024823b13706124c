-- Steps that are sure to go: what that says of the objects that they read and change, and of the steps that follow.
use Rattle.std.proofs.Common.{◌≡◌, ℕ, suc, zero, ◌<◌, ◌≤◌, ◌-◌, List, [], ◌∷◌, length, Bool, true, false, Option, Some, None, Ok, refl, sym, ap, ◌∙◌, subst, arith, is_some, length-set}
use Rattle.std.specs.Prelude.{slice_get, unwrap_or, nat_lt, nat_le, pos}
use Rattle.std.proofs.lemmas.Bool.Decides.{nat_tests}
use Rattle.st_model.specs.declared.dead.Dead.TheVariants as dead
use Rattle.st_model.specs.declared.oop.Oop.{Oop}
use Rattle.st_model.specs.declared.kind.Kind.{Kind}
use Rattle.st_model.specs.declared.kind.Kind.TheVariants as kind
use Rattle.st_model.specs.Values.{Value, Small, Ref, value}
use Rattle.st_model.specs.Objects.{Object, nil, is_pointers, is_method, has_bytes, first_unit, size_of}
use Rattle.st_model.specs.Formed.{IsHeader}
use Rattle.st_model.specs.Machine.{State, Transition, Died, Went, Step, after, answer, die, ◌>>=◌, ◌>>◌, empty_world, is_there}
use Rattle.st_model.specs.Steps.{object, object_named, found, check, or_die, fetch_field, store_field, store_method_field, store_byte, set_field, store_at, stored_at}
use Rattle.st_model.specs.Table.{Table, table, entry, changed}
use Rattle.st_model.specs.inside.Calls.{Reads}
use Rattle.st_model.specs.View.{View, IsKnown, Has, is_live, object_of, nothing, with_stored, with_unit}
use Rattle.st_model.proofs.Runs.{run-then, run-next, after-went, run-live, run-passed, run-some, run-set_field, run-store_byte}
use Rattle.st_install.specs.inside.Carried.{HasGone, Goes, Becomes, KeepsFields}
use Rattle.st_model.proofs.KindTests.{bytes_pointers}

-- ONE STEP AND THE NEXT

pub gone_first : {S A B : Type 0} (x : Transition S A) (f : A → S → Transition S B) → HasGone (after x f) → HasGone x
unfolding after
gone_first (Died k) f h = h
gone_first (Went a s) f h = tt

-- a state whose memory is what it is
pub same_state : (s : State Table) (t : Table) → s.memory ≡ t → record s { memory = t } ≡ s
same_state s t e = ap (λ (u : Table). record s { memory = u }) (sym e)

module _ {A B : Type 0} (m : Step Table A) (f : A → Step Table B) (v : View) (h : Goes (m >>= f) v) where
  pub goes-first : Goes m v
  unfolding ◌>>=◌
  goes-first = record { gone = λ s e a. gone_first (m.run s) (λ x u. (f x).run u) (h.gone s e a) }

  gone_next : (s u : State Table) (a : A) → s.memory ≡ v.objects → s.head ≡ v.head → m.run s ≡ Went a u → HasGone ((f a).run u)
  unfolding ◌>>=◌ after
  gone_next s u a e b r = subst (λ (x : Transition (State Table) A). HasGone (after x (λ y z. (f y).run z))) r (h.gone s e b)

  pub goes-after : (a : A) (w : View) → Becomes m v a w → Goes (f a) w
  goes-after a w c = record {
    gone = λ s e b.
        let z = record s { memory = v.objects } in
        let q = b ∙ c.head in
        subst (λ (u : State Table). HasGone ((f a).run u)) (same_state s w.objects e) (gone_next z (record s { memory = w.objects }) a refl q (c.run z refl q));
  }

  pub goes-read : {R : Type 0} (g : R → A) (r : R) → Reads m g v.objects (Ok r) → Goes (f (g r)) v
  goes-read g r c = record { gone = λ s e b. gone_next s s (g r) e b (c s e) }

pub goes-then : {A B : Type 0} (m : Step Table A) (n : Step Table B) (v : View) → Goes (m >> n) v → Goes (m >>= (λ a. n)) v
unfolding ◌>>◌
goes-then m n v h = h

module _ {A B : Type 0} (m : Step Table A) (f : A → Step Table B) (v : View) (b : B) (w : View) where
  pub becomes-after : (a : A) (u : View) → Becomes m v a u → Becomes (f a) u b w → Becomes (m >>= f) v b w
  unfolding ◌>>=◌ after
  becomes-after a u c d = record {
    run = λ s e q.
        ap (λ (x : Transition (State Table) A). after x (λ y z. (f y).run z)) (c.run s e q)
        ∙ d.run (record s { memory = u.objects }) refl (q ∙ sym c.head);
    held = d.held ∙ c.held;
    head = d.head ∙ c.head;
  }

  pub becomes-read : {R : Type 0} (g : R → A) (r : R) → Reads m g v.objects (Ok r) → Becomes (f (g r)) v b w → Becomes (m >>= f) v b w
  unfolding ◌>>=◌ after
  becomes-read g r c d = record {
    run = λ s e q. ap (λ (x : Transition (State Table) A). after x (λ y z. (f y).run z)) (c s e) ∙ d.run s e q;
    held = d.held;
    head = d.head;
  }

pub becomes-then : {A B : Type 0} (m : Step Table A) (n : Step Table B) (v : View) (b : B) (w : View) → Becomes (m >>= (λ a. n)) v b w → Becomes (m >> n) v b w
unfolding ◌>>◌
becomes-then m n v b w h = h

pub becomes-answer : {A : Type 0} (a : A) (v : View) → Becomes (answer a) v a v
unfolding answer
becomes-answer a v = record { run = λ s e q. ap (Went a) (sym (same_state s v.objects e)); held = refl; head = refl }

-- LOOPS

-- from v the whole goes as the rest does from w
pub record Remains (whole rest : Step Table Unit) (v w : View) : Type 0 where
  pub run : (s : State Table) → s.memory ≡ v.objects → s.head ≡ v.head → whole.run s ≡ rest.run (record s { memory = w.objects })
  pub held : w.held ≡ v.held
  pub head : w.head ≡ v.head

pub all_remains : (m : Step Table Unit) (v : View) → Remains m m v v
all_remains m v = record { run = λ s e q. ap (λ (u : State Table). m.run u) (sym (same_state s v.objects e)); held = refl; head = refl }

module _ (whole rest : Step Table Unit) (v w : View) (h : Remains whole rest v w) where
  pub rest_goes : Goes whole v → Goes rest w
  rest_goes g = record {
    gone = λ s e b.
        let z = record s { memory = v.objects } in
        let q = b ∙ h.head in
        subst (λ (u : State Table). HasGone (rest.run u)) (same_state s w.objects e) (subst (λ (x : Transition (State Table) Unit). HasGone x) (h.run z refl q) (g.gone z refl q));
  }

  pub part_goes : (m n : Step Table Unit) → rest ≡ (m >> n) → Goes whole v → Goes m w
  part_goes m n e g = goes-first m (λ a. n) w (goes-then m n w (subst (λ (x : Step Table Unit). Goes x w) e (rest_goes g)))

  pub remains_same : (other : Step Table Unit) → rest ≡ other → Remains whole other v w
  remains_same other e = subst (λ (m : Step Table Unit). Remains whole m v w) e h

  pub all_done : rest ≡ answer tt → Becomes whole v tt w
  unfolding answer
  all_done e = record { run = λ s a q. h.run s a q ∙ ap (λ (m : Step Table Unit). m.run (record s { memory = w.objects })) e; held = h.held; head = h.head }

  pub remains_next : (m n : Step Table Unit) (u : View) → rest ≡ (m >> n) → Becomes m w tt u → Remains whole n v u
  unfolding ◌>>◌ ◌>>=◌ after
  remains_next m n u e c = record {
    run = λ s a q.
        let y = record s { memory = w.objects } in
        h.run s a q
        ∙ (ap (λ (x : Step Table Unit). x.run y) e
        ∙ ap (λ (x : Transition (State Table) Unit). after x (λ b z. n.run z)) (c.run y refl (q ∙ sym h.head)));
    held = c.held ∙ h.held;
    head = c.head ∙ h.head;
  }

-- the same in a loop that keeps how many fields each object has
pub record Left (whole rest : Step Table Unit) (v w : View) : Type 0 where
  pub go : Remains whole rest v w
  pub fields : KeepsFields v.objects w.objects

pub all_left : (m : Step Table Unit) (v : View) → Left m m v v
all_left m v = record { go = all_remains m v; fields = λ x. refl }

module _ (whole rest : Step Table Unit) (v w : View) (h : Left whole rest v w) where
  pub left_goes : (m n : Step Table Unit) → rest ≡ (m >> n) → Goes whole v → Goes m w
  left_goes m n e g = part_goes whole rest v w h.go m n e g

  pub left_next : (m n : Step Table Unit) (u : View) → rest ≡ (m >> n) → Becomes m w tt u → KeepsFields w.objects u.objects → Left whole n v u
  left_next m n u e c k = record { go = remains_next whole rest v w h.go m n u e c; fields = λ x. k x ∙ h.fields x }

  pub left_same : (other : Step Table Unit) → rest ≡ other → Left whole other v w
  left_same other e = record { go = remains_same whole rest v w h.go other e; fields = h.fields }

  pub left_done : rest ≡ answer tt → Becomes whole v tt w
  left_done e = all_done whole rest v w h.go e

-- OBJECTS

-- some state over what a memory contains
abbrev pub state_of : View → State Table
state_of v = record {
  memory = v.objects;
  registers = record { active = nil; home = nil; method = nil; receiver = nil; ip = pos 0; sp = 0 };
  world = empty_world nil;
  head = v.head;
}

get_below : {X : Type 0} (xs : List X) (i : ℕ) (x : X) → slice_get xs i ≡ Some x → i < length xs
get_below [] i x e = cc
get_below (y ∷ ys) zero x e = omega arith
get_below (y ∷ ys) (suc i) x e = let l = get_below ys i x e in omega (arith, l)

-- a field that is fetched

fetched_in : (o : Object) (i : ℕ) (b : Bool) (x : Option Value) (s : State Table) → is_pointers o.kind ≡ b → slice_get o.fields i ≡ x
    → HasGone ((check dead.Kind b >> or_die dead.Field x).run s) → (is_pointers o.kind ≡ true) × (i < length o.fields)
unfolding check or_die answer die after ◌>>=◌ ◌>>◌
fetched_in o i false x s e f h = absurd h
fetched_in o i true None s e f h = absurd h
fetched_in o i true (Some y) s e f h = (e, get_below o.fields i y f)

fetched_at : (a : Option Object) (i : ℕ) (s : State Table) → HasGone ((found a >>= (λ o. check dead.Kind (is_pointers o.kind) >> or_die dead.Field (slice_get o.fields i))).run s)
    → (is_some a ≡ true) × (is_pointers (unwrap_or a nothing).kind ≡ true) × (i < length (unwrap_or a nothing).fields)
unfolding found answer die after ◌>>=◌ ◌>>◌
fetched_at None i s h = absurd h
fetched_at (Some o) i s h = let e = fetched_in o i (is_pointers o.kind) (slice_get o.fields i) s refl refl h in (refl, e.0, e.1)

fetched : (x : Value) (i : ℕ) (s : State Table) → HasGone ((fetch_field table x i).run s) → Has s.memory x i 1
unfolding fetch_field object object_named is_live object_of found die after ◌>>=◌ ◌>>◌
fetched (Small n) i s h = absurd h
fetched (Ref n) i s h = let e = fetched_at (entry s.memory n) i s h in record { live = e.0; kind = e.1; fields = let l = e.2 in omega (arith, l) }

pub field_there : (v : View) (x : Value) (i : ℕ) → Goes (fetch_field table x i) v → Has v.objects x i 1
field_there v x i h = fetched x i (state_of v) (h.gone (state_of v) refl refl)

-- a value that is stored

there_known : (t : Table) (y : Value) → is_there table t y ≡ true → IsKnown t y
unfolding is_live
there_known t (Small n) e = λ f. cc
there_known t (Ref n) e = λ f. e

set_at : (n i : ℕ) (y : Value) (s : State Table) (a : Option Object) (b : Bool) → HasGone (stored_at table n i y s a b) → b ≡ true
unfolding stored_at
set_at n i y s None b h = absurd h
set_at n i y s (Some o) false h = absurd h
set_at n i y s (Some o) true h = refl

set_there : (x : Value) (i : ℕ) (y : Value) (s : State Table) → HasGone ((set_field table x i y).run s) → is_there table s.memory y ≡ true
unfolding set_field store_at die
set_there (Small n) i y s h = absurd h
set_there (Ref n) i y s h = set_at n i y s (entry s.memory n) (is_there table s.memory y) h

-- an object of a kind and with a field, into which a value is stored
pub record Takes (test : Object → Bool) (t : Table) (x : Value) (i : ℕ) (y : Value) : Type 0 where
  pub live : is_live t x ≡ true
  pub kind : test (object_of t x) ≡ true
  pub range : i < length (object_of t x).fields
  pub known : IsKnown t y
  pub there : is_there table t y ≡ true

stored_in : (a b : Bool) (x : Value) (i : ℕ) (y : Value) (s : State Table) → HasGone ((check dead.Kind a >> (check dead.Field b >> set_field table x i y)).run s)
    → (a ≡ true) × (b ≡ true) × (is_there table s.memory y ≡ true)
unfolding check answer die after ◌>>=◌ ◌>>◌
stored_in false b x i y s h = absurd h
stored_in true false x i y s h = absurd h
stored_in true true x i y s h = (refl, refl, set_there x i y s h)

below_is : (i n : ℕ) → nat_lt i n ≡ true → i < n
below_is i n e = grind (arith, nat_tests)

at_most_is : (i n : ℕ) → nat_le i n ≡ true → i ≤ n
at_most_is i n e = grind (arith, nat_tests)

stored_to : (kind : Object → Bool) (a : Option Object) (x : Value) (i : ℕ) (y : Value) (s : State Table)
    → HasGone ((found a >>= (λ o. check dead.Kind (kind o) >> (check dead.Field (nat_lt i (length o.fields)) >> set_field table x i y))).run s)
    → (is_some a ≡ true) × (kind (unwrap_or a nothing) ≡ true) × (i < length (unwrap_or a nothing).fields) × (is_there table s.memory y ≡ true)
unfolding found answer die after ◌>>=◌ ◌>>◌
stored_to kind None x i y s h = absurd h
stored_to kind (Some o) x i y s h =
    let e = stored_in (kind o) (nat_lt i (length o.fields)) x i y s h in
    (refl, e.0, below_is i (length o.fields) e.1, e.2)

stored : (kind : Object → Bool) (x : Value) (i : ℕ) (y : Value) (s : State Table)
    → HasGone ((object table x >>= (λ o. check dead.Kind (kind o) >> (check dead.Field (nat_lt i (length o.fields)) >> set_field table x i y))).run s) → Takes kind s.memory x i y
unfolding object object_named is_live object_of found die after ◌>>=◌ ◌>>◌
stored kind (Small n) i y s h = absurd h
stored kind (Ref n) i y s h = let e = stored_to kind (entry s.memory n) (Ref n) i y s h in record { live = e.0; kind = e.1; range = e.2; known = there_known s.memory y e.3; there = e.3 }

pub field_takes : (v : View) (x : Value) (i : ℕ) (y : Value) → Goes (store_field table x i y) v → Takes (λ o. is_pointers o.kind) v.objects x i y
unfolding store_field
field_takes v x i y h = stored (λ o. is_pointers o.kind) x i y (state_of v) (h.gone (state_of v) refl refl)

pub method_takes : (v : View) (x : Value) (i : ℕ) (y : Value) → Goes (store_method_field table x i y) v → Takes (λ o. is_method o.kind) v.objects x i y
unfolding store_method_field
method_takes v x i y h = stored (λ o. is_method o.kind) x i y (state_of v) (h.gone (state_of v) refl refl)

module _ (v : View) (x : Value) (i : ℕ) where
  pub field_read : (r : Oop) → Has v.objects x i 1 → slice_get (object_of v.objects x).fields i ≡ Some (value r) → Reads (fetch_field table x i) value v.objects (Ok r)
  unfolding fetch_field
  field_read r has e s f =
      let live = subst (λ (t : Table). is_live t x ≡ true) (sym f) has.live in
      let kind = subst (λ (t : Table). is_pointers (object_of t x).kind ≡ true) (sym f) has.kind in
      let got = subst (λ (t : Table). slice_get (object_of t x).fields i ≡ Some (value r)) (sym f) e in
      simp (run-then, run-next, after-went, run-live x s live, run-passed dead.Kind _ s kind, run-some dead.Field _ (value r) s got) refl

  module _ (y : Value) (w : View) (objects : w.objects ≡ with_stored v.objects x i y) (held : w.held ≡ v.held) (head : w.head ≡ v.head) where
    set_becomes : (s : State Table) (test : Object → Bool) → Takes test s.memory x i y → s.memory ≡ v.objects
        → (object table x >>= (λ o. check dead.Kind (test o) >> (check dead.Field (nat_lt i (length o.fields)) >> set_field table x i y))).run s ≡ Went tt (record s { memory = w.objects })
    set_becomes s test takes f =
        let l = takes.range in
        let r : nat_lt i (length (object_of s.memory x).fields) ≡ true = grind (arith, nat_tests) in
        simp (run-then, run-next, after-went, run-live x s takes.live, run-passed dead.Kind _ s takes.kind, run-passed dead.Field _ s r, run-set_field x i y s takes.live takes.there)
        (ap (λ (t : Table). Went tt (record s { memory = with_stored t x i y })) f ∙ ap (λ (t : Table). Went tt (record s { memory = t })) (sym objects))

    pub field_becomes : Takes (λ o. is_pointers o.kind) v.objects x i y → Becomes (store_field table x i y) v tt w
    unfolding store_field
    field_becomes takes = record { run = λ s f q. set_becomes s (λ o. is_pointers o.kind) (subst (λ (t : Table). Takes (λ o. is_pointers o.kind) t x i y) (sym f) takes) f; held = held; head = head }

    pub method_becomes : Takes (λ o. is_method o.kind) v.objects x i y → Becomes (store_method_field table x i y) v tt w
    unfolding store_method_field
    method_becomes takes = record { run = λ s f q. set_becomes s (λ o. is_method o.kind) (subst (λ (t : Table). Takes (λ o. is_method o.kind) t x i y) (sym f) takes) f; held = held; head = head }

pub pointers_method : (o : Object) → is_pointers o.kind ≡ true → (i : ℕ) (y : Value) → IsHeader o i y
pointers_method o e i y m = no_header o.kind e m
  where
    no_header : (k : Kind) → is_pointers k ≡ true → is_method k ≡ true → {B : Type 0} → B
    no_header kind.Pointers e m = cc
    no_header kind.Words e m = cc
    no_header kind.Bytes e m = cc
    no_header kind.Method e m = cc

-- a byte that is stored

-- an object of a kind that has bytes, with a byte at this place
pub record TakesByte (t : Table) (x : Value) (i : ℕ) : Type 0 where
  pub live : is_live t x ≡ true
  pub kind : has_bytes (object_of t x).kind ≡ true
  pub above : first_unit (object_of t x) ≤ i
  pub range : i - first_unit (object_of t x) < length (object_of t x).units

byte_in : (a b c : Bool) (m : Step Table Unit) (s : State Table) → HasGone ((check dead.Kind a >> (check dead.Field b >> (check dead.Field c >> m))).run s)
    → (a ≡ true) × (b ≡ true) × (c ≡ true)
unfolding check answer die after ◌>>=◌ ◌>>◌
byte_in false b c m s h = absurd h
byte_in true false c m s h = absurd h
byte_in true true false m s h = absurd h
byte_in true true true m s h = (refl, refl, refl)

byte_to : (a : Option Object) (i : ℕ) (m : Object → Step Table Unit) (s : State Table)
    → HasGone ((found a >>= (λ o. check dead.Kind (has_bytes o.kind) >> (check dead.Field (nat_le (first_unit o) i) >> (check dead.Field (nat_lt (i - first_unit o) (length o.units)) >> m o)))).run s)
    → (is_some a ≡ true) × (has_bytes (unwrap_or a nothing).kind ≡ true) × (first_unit (unwrap_or a nothing) ≤ i) × (i - first_unit (unwrap_or a nothing) < length (unwrap_or a nothing).units)
unfolding found answer die after ◌>>=◌ ◌>>◌
byte_to None i m s h = absurd h
byte_to (Some o) i m s h =
    let e = byte_in (has_bytes o.kind) (nat_le (first_unit o) i) (nat_lt (i - first_unit o) (length o.units)) (m o) s h in
    (refl, e.0, at_most_is (first_unit o) i e.1, below_is (i - first_unit o) (length o.units) e.2)

byte_stored : (x : Value) (i b : ℕ) (s : State Table) → HasGone ((store_byte table x i b).run s) → TakesByte s.memory x i
unfolding store_byte object object_named is_live object_of found die after ◌>>=◌ ◌>>◌
byte_stored (Small n) i b s h = absurd h
byte_stored (Ref n) i b s h = let e = byte_to (entry s.memory n) i _ s h in record { live = e.0; kind = e.1; above = e.2; range = e.3 }

pub byte_takes : (v : View) (x : Value) (i b : ℕ) → Goes (store_byte table x i b) v → TakesByte v.objects x i
byte_takes v x i b h = byte_stored x i b (state_of v) (h.gone (state_of v) refl refl)

pub byte_range : (t : Table) (x : Value) (i : ℕ) → TakesByte t x i → i < size_of (object_of t x)
byte_range t x i h = let r = h.range in let a = h.above in rw (bytes_pointers (object_of t x).kind h.kind) (omega (arith, r, a))

pub byte_becomes : (v : View) (x : Value) (i b : ℕ) (w : View) → TakesByte v.objects x i → w.objects ≡ with_unit v.objects x (i - first_unit (object_of v.objects x)) b → w.held ≡ v.held → w.head ≡ v.head
    → Becomes (store_byte table x i b) v tt w
byte_becomes v x i b w h objects held head = record {
  run = λ s f q.
      let live = subst (λ (t : Table). is_live t x ≡ true) (sym f) h.live in
      let kind = subst (λ (t : Table). has_bytes (object_of t x).kind ≡ true) (sym f) h.kind in
      let above = subst (λ (t : Table). first_unit (object_of t x) ≤ i) (sym f) h.above in
      let range = subst (λ (t : Table). i - first_unit (object_of t x) < length (object_of t x).units) (sym f) h.range in
      run-store_byte x i b s live kind above range
      ∙ (ap (λ (t : Table). Went tt (record s { memory = with_unit t x (i - first_unit (object_of t x)) b })) f ∙ ap (λ (t : Table). Went tt (record s { memory = t })) (sym objects));
  held = held;
  head = head;
}

-- FIELDS STAY AS MANY

pub changed_fields : (t : Table) (n : ℕ) (o : Object) (k : ℕ) → length o.fields ≡ length (unwrap_or (entry t n) nothing).fields → length (unwrap_or (entry (changed t n o) k) nothing).fields ≡ length (unwrap_or (entry t k) nothing).fields
changed_fields [] n o k e = refl
changed_fields (None ∷ t) zero o k e = refl
changed_fields (Some a ∷ t) zero o zero e = e
changed_fields (Some a ∷ t) zero o (suc k) e = refl
changed_fields (a ∷ t) (suc n) o zero e = refl
changed_fields (a ∷ t) (suc n) o (suc k) e = changed_fields t n o k e

pub stored_fields : (t : Table) (x : Value) (i : ℕ) (y : Value) → KeepsFields t (with_stored t x i y)
unfolding object_of with_stored
stored_fields t (Small n) i y v = refl
stored_fields t (Ref n) i y (Small k) = refl
stored_fields t (Ref n) i y (Ref k) = changed_fields t n _ k (length-set _ i y)

pub unit_fields : (t : Table) (x : Value) (i b : ℕ) → KeepsFields t (with_unit t x i b)
unfolding object_of with_unit
unit_fields t (Small n) i b v = refl
unit_fields t (Ref n) i b (Small k) = refl
unit_fields t (Ref n) i b (Ref k) = changed_fields t n _ k refl
