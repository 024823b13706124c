-- Steps that only read: over births and over the table that shows them they answer the same, and change nothing.
use Rattle.std.proofs.Common.{◌≡◌, ℕ, List, Option, Some, None, refl, sym, ap, subst, ◌∙◌, arith}
use Rattle.std.specs.Prelude.{◌==◌}
use Rattle.std.proofs.lemmas.Bool.Decides.{nat_tests}
use Rattle.st_model.specs.declared.dead.Dead.{Dead}
use Rattle.st_model.specs.Values.{Value, Small, Ref, renamed, renamed_all, IsLive, AllLive}
use Rattle.st_model.specs.Objects.{Object, renamed_object, IsLiveObject}
use Rattle.st_model.specs.Machine.{State, Transition, Died, Went, Step, answer, die, after, ◌>>=◌, ◌>>◌, or_left, tried}
use Rattle.st_model.specs.Births.{Births, borne}
use Rattle.st_model.specs.Table.{Table}
use Rattle.st_model.specs.inside.Calls.{itself}
use Rattle.st_model.specs.Steps.{same_value}
use Rattle.st_model.specs.Show.{pointer_of, IsKept, Shows, renamed_option}
use Rattle.st_model.proofs.BirthLemmas.{pointer_of-borne}
use Rattle.st_simulation.proofs.Same.{Anything, IsLiveOption, ValueNamed, ValuesNamed, OptionNamed, length-renamed, small-named, no_values-named, values-named, none-named, some-named, field-named}

-- births, and a table that shows them
pub record Shown : Type 0 where
  pub table : State Table
  pub births : State Births
  pub shows : Shows table births

-- the birth is kept, and the table has it under the pointer
abbrev pub lives : Shown → ℕ → Type 0
lives z n = IsKept z.births.memory n

abbrev pub name : Shown → ℕ → ℕ
name z n = pointer_of z.births.memory n

abbrev pub TransitionAlike : {A B : Type 0} → Shown → (A → Type 0) → (A → B) → Transition (State Births) A → Transition (State Table) B → Type 0
TransitionAlike z P r (Died a) (Died b) = b ≡ a
TransitionAlike z P r (Died a) (Went b d) = ⊥
TransitionAlike z P r (Went a u) (Died b) = ⊥
TransitionAlike z P r (Went a u) (Went b d) = P a × (b ≡ r a) × (u ≡ z.births) × (d ≡ z.table)

-- both die of one cause, or answer the same
pub record Alike {A B : Type 0} (z : Shown) (P : A → Type 0) (r : A → B) (m : Step Births A) (n : Step Table B) : Type 0 where
  pub go : TransitionAlike z P r (m.run z.births) (n.run z.table)

after-alike : {A B A' B' : Type 0} (z : Shown) (P : A → Type 0) (r : A → B) (Q : A' → Type 0) (q : A' → B')
    (o : Transition (State Births) A) (p : Transition (State Table) B) (f : A → Step Births A') (g : B → Step Table B')
    → TransitionAlike z P r o p → ((a : A) → P a → Alike z Q q (f a) (g (r a)))
    → TransitionAlike z Q q (after o (λ a s. (f a).run s)) (after p (λ b t. (g b).run t))
unfolding after
after-alike z P r Q q (Died a) (Died b) f g h k = h
after-alike z P r Q q (Died a) (Went b d) f g h k = absurd h
after-alike z P r Q q (Went a u) (Died b) f g h k = absurd h
after-alike z P r Q q (Went a u) (Went b d) f g h k = rw (h.1, h.2, h.3) (k a h.0).go

pub then-alike : {A B A' B' : Type 0} (z : Shown) (P : A → Type 0) (r : A → B) (Q : A' → Type 0) (q : A' → B')
    (m : Step Births A) (n : Step Table B) (f : A → Step Births A') (g : B → Step Table B')
    → Alike z P r m n → ((a : A) → P a → Alike z Q q (f a) (g (r a))) → Alike z Q q (m >>= f) (n >>= g)
unfolding ◌>>=◌
then-alike z P r Q q m n f g h k = record { go = after-alike z P r Q q (m.run z.births) (n.run z.table) f g h.go k }

pub next-alike : {A B A' B' : Type 0} (z : Shown) (P : A → Type 0) (r : A → B) (Q : A' → Type 0) (q : A' → B')
    (m : Step Births A) (n : Step Table B) (f : Step Births A') (g : Step Table B')
    → Alike z P r m n → Alike z Q q f g → Alike z Q q (m >> f) (n >> g)
unfolding ◌>>◌
next-alike z P r Q q m n f g h k = then-alike z P r Q q m n (λ a. f) (λ a. g) h (λ a p. k)

pub answer-alike : {A B : Type 0} (z : Shown) (P : A → Type 0) (r : A → B) (a : A) (b : B) → P a → b ≡ r a → Alike z P r (answer a) (answer b)
unfolding answer
answer-alike z P r a b h e = record { go = (h, e, refl, refl) }

pub die-alike : {A B : Type 0} (z : Shown) (P : A → Type 0) (r : A → B) (cause : Dead) → Alike z P r (die cause) (die cause)
unfolding die
die-alike z P r cause = record { go = refl }

-- a step that is only tried

abbrev pub IsLiveAny : {A : Type 0} → (A → Type 0) → Option A → Type 0
IsLiveAny P None = Unit {0}
IsLiveAny P (Some a) = P a

abbrev pub any_renamed : {A B : Type 0} → (A → B) → Option A → Option B
any_renamed r None = None
any_renamed r (Some a) = Some (r a)

left-alike : {A B : Type 0} (z : Shown) (P : A → Type 0) (r : A → B) (o : Transition (State Births) A) (p : Transition (State Table) B) → TransitionAlike z P r o p
    → TransitionAlike z (IsLiveAny P) (any_renamed r) (or_left z.births o) (or_left z.table p)
left-alike z P r (Died a) (Died b) h = (tt, refl, refl, refl)
left-alike z P r (Died a) (Went b d) h = absurd h
left-alike z P r (Went a u) (Died b) h = absurd h
left-alike z P r (Went a u) (Went b d) h = (h.0, ap (λ x. Some x) h.1, h.2, h.3)

pub tried-alike : {A B : Type 0} (z : Shown) (P : A → Type 0) (r : A → B) (m : Step Births A) (n : Step Table B) → Alike z P r m n
    → Alike z (IsLiveAny P) (any_renamed r) (tried m) (tried n)
unfolding tried
tried-alike z P r m n h = record { go = left-alike z P r (m.run z.births) (n.run z.table) h.go }

-- values, lists of them, and a value or none: of the births what is kept, and of the table the same with their names changed

abbrev pub ValueAlike : Shown → Value → Value → Type 0
ValueAlike z v w = ValueNamed (lives z) (name z) v w

abbrev pub ValuesAlike : Shown → List Value → List Value → Type 0
ValuesAlike z vs ws = ValuesNamed (lives z) (name z) vs ws

abbrev pub OptionalAlike : Shown → Option Value → Option Value → Type 0
OptionalAlike z v w = OptionNamed (lives z) (name z) v w

-- steps that answer the same, by what they answer: a value, values, a value or none, an object, or something that names nothing

abbrev pub AlikeValue : Shown → Step Births Value → Step Table Value → Type 0
AlikeValue z m n = Alike z (IsLive (lives z)) (renamed (name z)) m n

abbrev pub AlikeValues : Shown → Step Births (List Value) → Step Table (List Value) → Type 0
AlikeValues z m n = Alike z (AllLive (lives z)) (renamed_all (name z)) m n

abbrev pub AlikeOption : Shown → Step Births (Option Value) → Step Table (Option Value) → Type 0
AlikeOption z m n = Alike z (IsLiveOption (lives z)) (renamed_option (name z)) m n

abbrev pub AlikeObject : Shown → Step Births Object → Step Table Object → Type 0
AlikeObject z m n = Alike z (IsLiveObject (lives z)) (renamed_object (name z)) m n

abbrev pub AlikeAnswer : {A : Type 0} → Shown → Step Births A → Step Table A → Type 0
AlikeAnswer z m n = Alike z Anything itself m n

-- one rule for each sort of answer, so that a search need not guess it
module _ {A B : Type 0} (z : Shown) (Q : A → Type 0) (q : A → B) where
  pub then_value-alike : (m : Step Births Value) (n : Step Table Value) (f : Value → Step Births A) (g : Value → Step Table B)
      → AlikeValue z m n → ((a b : Value) → ValueAlike z a b → Alike z Q q (f a) (g b)) → Alike z Q q (m >>= f) (n >>= g)
  then_value-alike m n f g h k = then-alike z _ _ Q q m n f g h (λ a l. k a (renamed (name z) a) (record { live = l; is = refl }))

  pub then_values-alike : (m : Step Births (List Value)) (n : Step Table (List Value)) (f : List Value → Step Births A) (g : List Value → Step Table B)
      → AlikeValues z m n → ((a b : List Value) → ValuesAlike z a b → Alike z Q q (f a) (g b)) → Alike z Q q (m >>= f) (n >>= g)
  then_values-alike m n f g h k = then-alike z _ _ Q q m n f g h (λ a l. k a (renamed_all (name z) a) (record { live = l; is = refl }))

  pub then_option-alike : (m : Step Births (Option Value)) (n : Step Table (Option Value)) (f : Option Value → Step Births A) (g : Option Value → Step Table B)
      → AlikeOption z m n → ((a b : Option Value) → OptionalAlike z a b → Alike z Q q (f a) (g b)) → Alike z Q q (m >>= f) (n >>= g)
  then_option-alike m n f g h k = then-alike z _ _ Q q m n f g h (λ a l. k a (renamed_option (name z) a) (record { live = l; is = refl }))

  pub then_object-alike : (m : Step Births Object) (n : Step Table Object) (f : Object → Step Births A) (g : Object → Step Table B)
      → AlikeObject z m n → ((a : Object) → IsLiveObject (lives z) a → Alike z Q q (f a) (g (renamed_object (name z) a))) → Alike z Q q (m >>= f) (n >>= g)
  then_object-alike m n f g h k = then-alike z _ _ Q q m n f g h k

  pub then_answer-alike : {X : Type 0} (m : Step Births X) (n : Step Table X) (f : X → Step Births A) (g : X → Step Table B)
      → AlikeAnswer z m n → ((a : X) → Alike z Q q (f a) (g a)) → Alike z Q q (m >>= f) (n >>= g)
  then_answer-alike m n f g h k = then-alike z _ _ Q q m n f g h (λ a l. k a)

  pub then_unit-alike : (m : Step Births Unit) (n : Step Table Unit) (f : Step Births A) (g : Step Table B) → AlikeAnswer z m n → Alike z Q q f g → Alike z Q q (m >> f) (n >> g)
  then_unit-alike m n f g h k = next-alike z _ _ Q q m n f g h k

module _ (z : Shown) where
  -- what stands for one another

  pub class-alike : (o : Object) → IsLiveObject (lives z) o → ValueAlike z (Ref o.class) (Ref (name z o.class))
  class-alike o h = record { live = h.class; is = refl }

  -- answers

  pub answer_value-alike : (v w : Value) → ValueAlike z v w → AlikeValue z (answer v) (answer w)
  answer_value-alike v w h = answer-alike z _ _ v w h.live h.is

  pub answer_values-alike : (v w : List Value) → ValuesAlike z v w → AlikeValues z (answer v) (answer w)
  answer_values-alike v w h = answer-alike z _ _ v w h.live h.is

  pub answer_option-alike : (v w : Option Value) → OptionalAlike z v w → AlikeOption z (answer v) (answer w)
  answer_option-alike v w h = answer-alike z _ _ v w h.live h.is

  pub answer_object-alike : (o : Object) → IsLiveObject (lives z) o → AlikeObject z (answer o) (answer (renamed_object (name z) o))
  answer_object-alike o h = answer-alike z _ _ o (renamed_object (name z) o) h refl

  pub answer_itself-alike : {A : Type 0} (a : A) → AlikeAnswer z (answer a) (answer a)
  answer_itself-alike a = answer-alike z _ _ a a tt refl

  -- tried

  module _ {A B : Type 0} (P : A → Type 0) (r : A → B) (Q : Option A → Type 0) (q : Option A → Option B)
      (none : Q None × (None ≡ q None)) (some : (a : A) → P a → Q (Some a) × (Some (r a) ≡ q (Some a))) where
    tried_so : (a : Option A) → IsLiveAny P a → Q a × (any_renamed r a ≡ q a)
    tried_so None h = none
    tried_so (Some a) h = some a h

    so-alike : (o : Transition (State Births) (Option A)) (p : Transition (State Table) (Option B)) → TransitionAlike z (IsLiveAny P) (any_renamed r) o p → TransitionAlike z Q q o p
    so-alike (Died a) (Died b) h = h
    so-alike (Died a) (Went b d) h = h
    so-alike (Went a u) (Died b) h = h
    so-alike (Went a u) (Went b d) h = let k = tried_so a h.0 in (k.0, h.1 ∙ k.1, h.2, h.3)

    tried_as : (m : Step Births A) (n : Step Table B) → Alike z P r m n → Alike z Q q (tried m) (tried n)
    tried_as m n h = record { go = so-alike ((tried m).run z.births) ((tried n).run z.table) (tried-alike z P r m n h).go }

  pub tried_value-alike : (m : Step Births Value) (n : Step Table Value) → AlikeValue z m n → AlikeOption z (tried m) (tried n)
  tried_value-alike m n h = tried_as _ _ _ _ (tt, refl) (λ a l. (l, refl)) m n h

  pub tried_itself-alike : {A : Type 0} (m : Step Births A) (n : Step Table A) → AlikeAnswer z m n → AlikeAnswer z (tried m) (tried n)
  tried_itself-alike m n h = tried_as _ _ _ _ (tt, refl) (λ a l. (tt, refl)) m n h

  -- the same value

  kept_once : (m n : ℕ) → lives z m → lives z n → name z m ≡ name z n → m ≡ n
  kept_once m n h k e =
      let a = pointer_of-borne z.births.memory m h.0 h.1 in
      let b = pointer_of-borne z.births.memory n k.0 k.1 in
      let q : k.0 ≡ h.0 = sym b ∙ (sym e ∙ a) in
      z.shows.distinct m n h.0 h.1 (subst (λ p. borne z.births.memory n ≡ Some p) q k.1)

  same_test : (m n a b : ℕ) → (a ≡ b → m ≡ n) → (m ≡ n → a ≡ b) → (a == b) ≡ (m == n)
  same_test m n a b f g = grind (arith, nat_tests)

  values_alike : (v w : Value) → IsLive (lives z) v → IsLive (lives z) w → same_value (renamed (name z) v) (renamed (name z) w) ≡ same_value v w
  values_alike (Small m) (Small n) h k = refl
  values_alike (Small m) (Ref n) h k = refl
  values_alike (Ref m) (Small n) h k = refl
  values_alike (Ref m) (Ref n) h k = same_test m n (name z m) (name z n) (kept_once m n h k) (ap (name z))

  pub same_value-alike : (v v' w w' : Value) → ValueAlike z v v' → ValueAlike z w w' → same_value v' w' ≡ same_value v w
  same_value-alike v v' w w' h k = rw (h.is, k.is) (values_alike v w h.live k.live)

-- what a search of steps that do the same goes by
pub ruleset joins_alike = (then_value-alike, then_values-alike, then_object-alike, then_answer-alike, then_option-alike, then_unit-alike, tried_value-alike, tried_itself-alike, die-alike, answer_value-alike, answer_values-alike, answer_option-alike, answer_object-alike, answer_itself-alike, same_value-alike, small-named, class-alike, no_values-named, values-named, none-named, some-named, field-named, length-renamed)
