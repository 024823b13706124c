-- Steps that only look at a table: over one table they answer or die always the same, whatever the state is besides, and they
-- leave it as it is.
use Rattle.std.proofs.Common.{◌≡◌, ℕ, Option, Some, None, Bool, true, false, refl, sym, ◌∙◌, ap, subst}
use Rattle.std.specs.Prelude.{Result, Ok, Err}
use Rattle.st_model.specs.declared.dead.Dead.{Dead}
use Rattle.st_model.specs.declared.dead.Dead.TheVariants as dead
use Rattle.st_model.specs.Values.{Value, Small, Ref, integer}
use Rattle.st_model.specs.Objects.{Object, PageObject}
use Rattle.st_model.specs.Machine.{State, Transition, Died, Went, Step, answer, die, after, ◌>>=◌, ◌>>◌}
use Rattle.st_model.specs.Table.{Table, table, entry}
use Rattle.st_model.specs.inside.Calls.{Reads, transition_of, itself}
use Rattle.st_model.specs.Steps.{found, object_named, object, of_page, check, or_die, fetch_field, integer_or_die, fetch_integer}
use Rattle.st_model.specs.Primitives.{bits_or_die, positive_small}

pub record Looks {A : Type 0} (m : Step Table A) : Type 0 where
  pub comes : Table → Result A Dead
  pub does : (s : State Table) → m.run s ≡ transition_of itself (comes s.memory) s

abbrev bound : {A B : Type 0} → Result A Dead → (A → Result B Dead) → Result B Dead
bound (Ok a) f = f a
bound (Err cause) f = Err cause

after-looks : {A B : Type 0} (r : Result A Dead) (f : A → Step Table B) (h : (a : A) → Looks (f a)) (s : State Table)
    → after (transition_of itself r s) (λ a t. (f a).run t) ≡ transition_of itself (bound r (λ a. (h a).comes s.memory)) s
unfolding after
after-looks (Ok a) f h s = (h a).does s
after-looks (Err cause) f h s = refl

pub then-looks : {A B : Type 0} (m : Step Table A) (f : A → Step Table B) → Looks m → ((a : A) → Looks (f a)) → Looks (m >>= f)
unfolding ◌>>=◌
then-looks m f h k = record {
  comes = λ t. bound (h.comes t) (λ a. (k a).comes t);
  does = λ s. ap (λ o. after o (λ a t. (f a).run t)) (h.does s) ∙ after-looks (h.comes s.memory) f k s;
}

pub next-looks : {A B : Type 0} (m : Step Table A) (n : Step Table B) → Looks m → Looks n → Looks (m >> n)
unfolding ◌>>◌
next-looks m n h k = then-looks m (λ a. n) h (λ a. k)

pub answer-looks : {A : Type 0} (a : A) → Looks (answer a)
unfolding answer
answer-looks a = record { comes = λ t. Ok a; does = λ s. refl }

pub die-looks : {A : Type 0} (cause : Dead) → Looks {A = A} (die cause)
unfolding die
die-looks cause = record { comes = λ t. Err cause; does = λ s. refl }

pub check-looks : (cause : Dead) (b : Bool) → Looks (check cause b)
unfolding check
check-looks cause true = answer-looks tt
check-looks cause false = die-looks cause

pub or_die-looks : {A : Type 0} (cause : Dead) (x : Option A) → Looks (or_die cause x)
unfolding or_die
or_die-looks cause None = die-looks cause
or_die-looks cause (Some a) = answer-looks a

abbrev come_found : Option Object → Result Object Dead
come_found None = Err dead.Kind
come_found (Some o) = Ok o

found_does : (x : Option Object) (s : State Table) → (found x).run s ≡ transition_of itself (come_found x) s
unfolding found die answer
found_does None s = refl
found_does (Some o) s = refl

pub object-looks : (v : Value) → Looks (object table v)
unfolding object object_named
object-looks (Small n) = die-looks dead.Small
object-looks (Ref n) = record { comes = λ t. come_found (entry t n); does = λ s. found_does (entry s.memory n) s }

pub of_page-looks : (q : PageObject) → Looks (of_page table q)
unfolding of_page
of_page-looks q = record { comes = λ t. Ok (Ref (table.named t q)); does = λ s. refl }

pub integer_or_die-looks : (v : Value) → Looks (integer_or_die v)
unfolding integer_or_die
integer_or_die-looks (Small n) = answer-looks (integer n)
integer_or_die-looks (Ref n) = die-looks dead.NotSmall

pub bits_or_die-looks : (v : Value) → Looks (bits_or_die v)
unfolding bits_or_die
bits_or_die-looks (Small n) = answer-looks n
bits_or_die-looks (Ref n) = die-looks dead.NotSmall

pub ruleset looking = (then-looks, next-looks, answer-looks, die-looks, check-looks, or_die-looks, object-looks, of_page-looks, integer_or_die-looks, bits_or_die-looks)

pub fetch_field-looks : (v : Value) (i : ℕ) → Looks (fetch_field table v i)
unfolding fetch_field
fetch_field-looks v i = search looking depth 16 fits 4000

pub fetch_integer-looks : (v : Value) (i : ℕ) → Looks (fetch_integer table v i)
unfolding fetch_integer
fetch_integer-looks v i = search (looking, fetch_field-looks) depth 16 fits 4000

pub positive_small-looks : (v : Value) → Looks (positive_small v)
unfolding positive_small
positive_small-looks v = search looking depth 16 fits 4000

-- what such a step comes to over a table
pub comes_to : {A : Type 0} {m : Step Table A} → Looks m → (t : Table) → (r : Result A Dead) × Reads m itself t r
comes_to {m = m} h t = (h.comes t, λ s e. subst (λ u. m.run s ≡ transition_of itself (h.comes u) s) e (h.does s))

-- where a step goes on, so do those that it is made of

went_as : {A : Type 0} (r : Result A Dead) (s u : State Table) (a : A) → transition_of itself r s ≡ Went a u → u ≡ s
went_as (Ok b) s u a e = cc
went_as (Err cause) s u a e = cc

pub stays : {A : Type 0} {m : Step Table A} → Looks m → (s u : State Table) (a : A) → m.run s ≡ Went a u → u ≡ s
stays h s u a e = went_as (h.comes s.memory) s u a (sym (h.does s) ∙ e)

module _ {A B : Type 0} (m : Step Table A) (f : A → Step Table B) (h : Looks m) (s u : State Table) (b : B) where
  first_went : (x : Transition (State Table) A) → m.run s ≡ x → after x (λ a t. (f a).run t) ≡ Went b u → (a : A) × (m.run s ≡ Went a s) × ((f a).run s ≡ Went b u)
  unfolding after
  first_went (Died cause) e g = cc
  first_went (Went a t) e g =
      let q : t ≡ s = stays h s t a e in
      (a, subst (λ v. m.run s ≡ Went a v) q e, subst (λ v. (f a).run v ≡ Went b u) q g)

  pub then-went : (m >>= f).run s ≡ Went b u → (a : A) × (m.run s ≡ Went a s) × ((f a).run s ≡ Went b u)
  unfolding ◌>>=◌
  then-went e = first_went (m.run s) refl e

pub next-went : {A B : Type 0} (m : Step Table A) (n : Step Table B) → Looks m → (s u : State Table) (b : B) → (m >> n).run s ≡ Went b u → (a : A) × (m.run s ≡ Went a s) × (n.run s ≡ Went b u)
unfolding ◌>>◌
next-went m n h s u b e = then-went m (λ a. n) h s u b e

pub passed : (cause : Dead) (b : Bool) (s u : State Table) → (check cause b).run s ≡ Went tt u → b ≡ true
unfolding check die
passed cause true s u e = refl
passed cause false s u e = cc

pub answered : {A : Type 0} (a b : A) (s u : State Table) → (answer a).run s ≡ Went b u → b ≡ a
unfolding answer
answered a b s u e = cc

pub found_went : (x : Option Object) (s u : State Table) (o : Object) → (found x).run s ≡ Went o u → x ≡ Some o
unfolding found die answer
found_went None s u o e = cc
found_went (Some p) s u o e = cc

-- an object is found at its place
pub object-went : (v : Value) (s u : State Table) (o : Object) → (object table v).run s ≡ Went o u → (n : ℕ) × (v ≡ Ref n) × (entry s.memory n ≡ Some o)
unfolding object object_named die
object-went (Small n) s u o e = cc
object-went (Ref n) s u o e = (n, refl, found_went (entry s.memory n) s u o e)
