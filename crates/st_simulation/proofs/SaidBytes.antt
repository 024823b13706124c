-- What primitive 128 is done with over births is an object of kind Bytes. It looks at the kind before it changes anything, and then stores
-- into fields alone, which keeps the kind of each object.
use Rattle.std.proofs.Common.{◌≡◌, ℕ, Option, Some, None, Bool, true, false, refl, sym, ◌∙◌, ap, subst, inl, inr}
use Rattle.st_model.specs.declared.dead.Dead.{Dead}
use Rattle.st_model.specs.declared.dead.Dead.TheVariants as dead
use Rattle.st_model.specs.Values.{Value, Small, Ref}
use Rattle.st_model.specs.Objects.{Object, is_bytes, with_field}
use Rattle.st_model.specs.Machine.{State, Transition, Died, Went, Step, is_there, answer, die, after, or_left, tried, ◌>>=◌, ◌>>◌}
use Rattle.st_model.specs.Steps.{found, object, object_named, check, or_die, stored_at, store_at, set_field, fetch_field, fetch_kind, store_field, count_fields, get_sp, get_active, set_sp, put, push, top, pop}
use Rattle.st_model.specs.Primitives.{pop_words, answer_with, succeed, primitive, check_bytes}
use Rattle.st_model.specs.Storage.{primitive_say}
use Rattle.st_model.specs.Births.{Births, births, object_born, replaced}
use Rattle.st_model.proofs.BirthLemmas.{replaced-born, replaced-other, object_within}
use Rattle.st_simulation.specs.inside.Laws.{IsOfBytes}
use Rattle.st_simulation.proofs.HeapsSame.{number_cases}

abbrev IsBytes : Births → ℕ → Type 0
IsBytes h n = (o : Object) × (object_born h n ≡ Some o) × (is_bytes o.kind ≡ true)

-- a step that keeps each object of kind Bytes one
record KeepsBytes {A : Type 0} (m : Step Births A) : Type 0 where
  keeps : (s t : State Births) (a : A) (n : ℕ) → m.run s ≡ Went a t → IsBytes s.memory n → IsBytes t.memory n

same_bytes : {A : Type 0} (s t : State Births) (a b : A) (n : ℕ) → ◌≡◌ {A = Transition (State Births) A} (Went a s) (Went b t) → IsBytes s.memory n → IsBytes t.memory n
same_bytes s t a b n e is =
    let q : s ≡ t = cc in
    subst (λ (y : State Births). IsBytes y.memory n) q is

answer_keeps : {A : Type 0} (a : A) → KeepsBytes (answer a)
unfolding answer
answer_keeps a = record { keeps = λ s t b n e is. same_bytes s t a b n e is }

die_keeps : {A : Type 0} (cause : Dead) → KeepsBytes (die {A = A} cause)
unfolding die
die_keeps cause = record { keeps = λ s t b n e is. cc }

module _ {A B : Type 0} (f : A → Step Births B) (k : (a : A) → KeepsBytes (f a)) where
  after_keeps : (x : Transition (State Births) A) (t : State Births) (b : B) (n : ℕ) → after x (λ a u. (f a).run u) ≡ Went b t
      → ((u : State Births) (a : A) → x ≡ Went a u → IsBytes u.memory n) → IsBytes t.memory n
  unfolding after
  after_keeps (Died cause) t b n e h = cc
  after_keeps (Went a u) t b n e h = (k a).keeps u t b n e (h u a refl)

  then_keeps : (m : Step Births A) → KeepsBytes m → KeepsBytes (m >>= f)
  unfolding ◌>>=◌
  then_keeps m h = record { keeps = λ s t b n e is. after_keeps (m.run s) t b n e (λ u a x. h.keeps s u a n x is) }

next_keeps : {A B : Type 0} (m : Step Births A) (n : Step Births B) → KeepsBytes m → KeepsBytes n → KeepsBytes (m >> n)
unfolding ◌>>◌
next_keeps m n h k = then_keeps (λ a. n) (λ a. k) m h

check_keeps : (cause : Dead) (b : Bool) → KeepsBytes (check cause b)
unfolding check
check_keeps cause true = answer_keeps tt
check_keeps cause false = die_keeps cause

or_die_keeps : {A : Type 0} (cause : Dead) (x : Option A) → KeepsBytes (or_die cause x)
unfolding or_die
or_die_keeps cause None = die_keeps cause
or_die_keeps cause (Some a) = answer_keeps a

found_keeps : (x : Option Object) → KeepsBytes (found x)
unfolding found
found_keeps None = die_keeps dead.Kind
found_keeps (Some o) = answer_keeps o

object_keeps : (v : Value) → KeepsBytes (object births v)
unfolding object object_named
object_keeps (Small n) = die_keeps dead.Small
object_keeps (Ref n) = record { keeps = λ s t o k e is. (found_keeps (object_born s.memory n)).keeps s t o k e is }

sp_keeps : KeepsBytes get_sp
unfolding get_sp
sp_keeps = record { keeps = λ s t b n e is. same_bytes s t s.registers.sp b n e is }

active_keeps : KeepsBytes get_active
unfolding get_active
active_keeps = record { keeps = λ s t b n e is. same_bytes s t s.registers.active b n e is }

set_sp_keeps : (k : ℕ) → KeepsBytes (set_sp k)
unfolding set_sp
set_sp_keeps k = record { keeps = λ s t b n e is. same_bytes (record s { registers = record s.registers { sp = k } }) t tt b n e is }

-- another object of the same kind in the place of one
replaced_bytes : (h : Births) (n k : ℕ) (o p : Object) → object_born h n ≡ Some o → p.kind ≡ o.kind → IsBytes h k → IsBytes (replaced h n p) k
replaced_bytes h n k o p there kind is = elim (number_cases k n) [
  | inl e ↦
      let at : object_born h n ≡ Some is.0 = subst (λ j. object_born h j ≡ Some is.0) e is.1 in
      let q : is.0 ≡ o = cc in
      let b : is_bytes p.kind ≡ true = ap is_bytes kind ∙ sym (ap (λ (x : Object). is_bytes x.kind) q) ∙ is.2 in
      (p, subst (λ j. object_born (replaced h n p) j ≡ Some p) (sym e) (replaced-born h n p (object_within h n o there)), b)
  | inr d ↦ (is.0, replaced-other h n k p d ∙ is.1, is.2)
]

stored_keeps : (n i : ℕ) (x : Value) (s t : State Births) (z : Unit {0}) (a : Option Object) (known : Bool) (k : ℕ) → object_born s.memory n ≡ a
    → stored_at births n i x s a known ≡ Went z t → IsBytes s.memory k → IsBytes t.memory k
unfolding stored_at
stored_keeps n i x s t z None known k q e is = cc
stored_keeps n i x s t z (Some o) false k q e is = cc
stored_keeps n i x s t z (Some o) true k q e is =
    same_bytes (record s { memory = replaced s.memory n (with_field o i x) }) t tt z k e (replaced_bytes s.memory n k o (with_field o i x) q refl is)

set_field_keeps : (v : Value) (i : ℕ) (x : Value) → KeepsBytes (set_field births v i x)
unfolding set_field store_at
set_field_keeps (Small n) i x = die_keeps dead.Small
set_field_keeps (Ref n) i x = record { keeps = λ s t z k e is. stored_keeps n i x s t z (object_born s.memory n) (is_there births s.memory x) k refl e is }

ruleset keeping = (answer_keeps, die_keeps, then_keeps, next_keeps, check_keeps, or_die_keeps, object_keeps, sp_keeps, active_keeps, set_sp_keeps, set_field_keeps)

push_keeps : (x : Value) → KeepsBytes (push births x)
unfolding push put store_field count_fields
push_keeps x = search keeping depth 24 fits 4000

pop_keeps : KeepsBytes (pop births)
unfolding pop top fetch_field
pop_keeps = search keeping depth 24 fits 4000

succeed_keeps : (r : Value) (z : Unit {0}) → KeepsBytes (succeed births 0 (λ y. answer r) (Some z))
unfolding succeed answer_with pop_words
succeed_keeps r z = search (keeping, push_keeps, pop_keeps) depth 24 fits 4000

checked_bytes : (n : ℕ) (o : Object) (b : Bool) (z : Unit {0}) (s t : State Births) → object_born s.memory n ≡ Some o → is_bytes o.kind ≡ b
    → (check dead.Kind b).run s ≡ Went z t → IsBytes t.memory n
unfolding check answer die
checked_bytes n o false z s t q k e = cc
checked_bytes n o true z s t q k e = same_bytes s t tt z n e (o, q, k)

read_bytes : (n : ℕ) (z : Unit {0}) (s t : State Births) (x : Option Object) → object_born s.memory n ≡ x
    → after (after ((found x).run s) (λ o u. Went o.kind u)) (λ k u. (check dead.Kind (is_bytes k)).run u) ≡ Went z t → IsBytes t.memory n
unfolding found answer die after
read_bytes n z s t None q e = cc
read_bytes n z s t (Some o) q e = checked_bytes n o (is_bytes o.kind) z s t q refl e

check_is : (v : Value) (z : Unit {0}) (s t : State Births) → (check_bytes births v).run s ≡ Went z t → IsOfBytes t.memory v
unfolding check_bytes fetch_kind object object_named ◌>>=◌ answer die after
check_is (Small n) z s t e = cc
check_is (Ref n) z s t e = let b = read_bytes n z s t (object_born s.memory n) refl e in (n, b.0, refl, b.1, b.2)

kept_value : {A : Type 0} (m : Step Births A) → KeepsBytes m → (v : Value) (s t : State Births) (a : A) → m.run s ≡ Went a t → IsOfBytes s.memory v → IsOfBytes t.memory v
kept_value m h v s t a e is = let b = h.keeps s t a is.0 e (is.1, is.3, is.4) in (is.0, b.0, is.2, b.1, b.2)

say_bytes : (r : Value) (x : Transition (State Births) (Unit {0})) (b : Bool) (s u : State Births)
    → after (or_left s x) (λ a t. (succeed births 0 (λ y. answer r) a).run t) ≡ Went b u → b ≡ true → ((t : State Births) (z : Unit {0}) → x ≡ Went z t → IsOfBytes t.memory r) → IsOfBytes u.memory r
unfolding succeed answer after
say_bytes r (Died k) b s u e f h = cc
say_bytes r (Went y t) b s u e f h = kept_value (succeed births 0 (λ z. answer r) (Some y)) (succeed_keeps r y) r t u b e (h t y refl)

-- what is said over births is of kind Bytes
pub said_bytes : (r : Value) (b : Bool) (s u : State Births) → (primitive_say births r).run s ≡ Went b u → b ≡ true → IsOfBytes u.memory r
unfolding primitive_say primitive ◌>>=◌ tried
said_bytes r b s u e f = say_bytes r ((check_bytes births r).run s) b s u e f (λ t z q. check_is r z s t q)
