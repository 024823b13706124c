-- The number of an input word is made the same whether the word still waits or was taken away, so that it may be taken last.
use Rattle.std.proofs.Common.{◌≡◌, ℕ, suc, List, [], ◌∷◌, Option, Some, None, Bool, true, false, refl, ap, sym, subst, ◌∙◌}
use Rattle.std.specs.Prelude.{nat_lt, if◌then◌else◌}
use Rattle.st_model.specs.declared.dead.Dead.{Dead}
use Rattle.st_model.specs.declared.kind.Kind.{Kind}
use Rattle.st_model.specs.declared.deed.Deed.{Deed}
use Rattle.st_model.specs.declared.deed.Deed.TheVariants as deed
use Rattle.st_model.specs.declared.word.Word.{Word}
use Rattle.st_model.specs.declared.page.PageObject.{PageObject}
use Rattle.st_model.specs.Values.{Value, Small, Ref, word}
use Rattle.st_model.specs.Objects.{Object}
use Rattle.st_model.specs.Surroundings.{TakeWord, changed_world}
use Rattle.st_model.specs.Machine.{ObjectMemory, World, State, Transition, Died, Went, Step, answer, die, after, is_there, has_room, ◌>>=◌, ◌>>◌}
use Rattle.st_model.specs.Table.{Table}
use Rattle.st_model.specs.Steps.{found, object_named, object, of_page, made, make_named, make, new_of, fit_units, units_set, set_units_at, set_units, check, store_byte, store_bytes}
use Rattle.st_model.specs.Primitives.{number, new_large, bytes_of_number}
use Rattle.st_model.specs.Deeds.{with_deed}
use Rattle.st_model.specs.Input.{take_word}
use Rattle.st_model.proofs.Runs.{run-change_world}

abbrev beside : {A : Type 0} → World → Transition (State Table) A → Transition (State Table) A
beside w (Died k) = Died k
beside w (Went a s) = Went a (record s { world = w })

-- the step does the same in whatever world
record IsApart {A : Type 0} (m : Step Table A) : Type 0 where
  pub go : (w : World) (s : State Table) → m.run (record s { world = w }) ≡ beside w (m.run s)

after_apart : {A B : Type 0} (f : A → Step Table B) → ((a : A) → IsApart (f a)) → (w : World) (x : Transition (State Table) A)
    → after (beside w x) (λ a t. (f a).run t) ≡ beside w (after x (λ a t. (f a).run t))
unfolding after
after_apart f h w (Died k) = refl
after_apart f h w (Went a s) = (h a).go w s

then-apart : {A B : Type 0} (m : Step Table A) (f : A → Step Table B) → IsApart m → ((a : A) → IsApart (f a)) → IsApart (m >>= f)
unfolding ◌>>=◌
then-apart m f h k = record { go = λ w s. ap (λ x. after x (λ a t. (f a).run t)) (h.go w s) ∙ after_apart f k w (m.run s) }

next-apart : {A B : Type 0} (m : Step Table A) (n : Step Table B) → IsApart m → IsApart n → IsApart (m >> n)
unfolding ◌>>◌
next-apart m n h k = then-apart m (λ a. n) h (λ a. k)

answer-apart : {A : Type 0} (a : A) → IsApart (answer a)
unfolding answer
answer-apart a = record { go = λ w s. refl }

die-apart : {A : Type 0} (k : Dead) → IsApart {A = A} (die k)
unfolding die
die-apart k = record { go = λ w s. refl }

check-apart : (k : Dead) (b : Bool) → IsApart (check k b)
unfolding check
check-apart k true = answer-apart tt
check-apart k false = die-apart k

found-apart : (x : Option Object) → IsApart (found x)
unfolding found
found-apart None = die-apart _
found-apart (Some o) = answer-apart o

module _ (m : ObjectMemory Table) where
  page-apart : (q : PageObject) → IsApart (of_page m q)
  unfolding of_page
  page-apart q = record { go = λ w s. refl }

  made_apart : (o : Object) (s : State Table) (w : World) (b c : Bool) → made m o (record s { world = w }) b c ≡ beside w (made m o s b c)
  unfolding made
  made_apart o s w false c = refl
  made_apart o s w true true = refl
  made_apart o s w true false = refl

  make-apart : (v : Value) (k : Kind) (size literals : ℕ) → IsApart (make m v k size literals)
  unfolding make make_named
  make-apart (Small n) k size literals = die-apart _
  make-apart (Ref n) k size literals = record { go = λ w s. made_apart (new_of m s.memory n k size literals) s w (is_there m s.memory (Ref n)) (has_room m s.head s.memory (new_of m s.memory n k size literals)) }

  object-apart : (v : Value) → IsApart (object m v)
  unfolding object object_named
  object-apart (Small n) = die-apart _
  object-apart (Ref n) = record { go = λ w s. (found-apart (m.read s.memory n)).go w s }

  units_apart : (n : ℕ) (us : List ℕ) (s : State Table) (w : World) (x : Option Object) (b : Bool) → units_set m n us (record s { world = w }) x b ≡ beside w (units_set m n us s x b)
  unfolding units_set
  units_apart n us s w None b = refl
  units_apart n us s w (Some o) true = refl
  units_apart n us s w (Some o) false = refl

  set_units-apart : (v : Value) (us : List ℕ) → IsApart (set_units m v us)
  unfolding set_units set_units_at
  set_units-apart (Small n) us = die-apart _
  set_units-apart (Ref n) us = record { go = λ w s. units_apart n us s w (m.read s.memory n) (fit_units us (m.read s.memory n)) }

  ruleset apart = (then-apart, next-apart, answer-apart, die-apart, check-apart, page-apart, make-apart, object-apart, set_units-apart)

  store_byte-apart : (v : Value) (i b : ℕ) → IsApart (store_byte m v i b)
  unfolding store_byte
  store_byte-apart v i b = search apart depth 16 fits 4000

  store_bytes-apart : (v : Value) (i : ℕ) (bs : List ℕ) → IsApart (store_bytes m v i bs)
  unfolding store_bytes
  store_bytes-apart v i [] = answer-apart tt
  store_bytes-apart v i (b ∷ bs) = next-apart _ _ (store_byte-apart v i b) (store_bytes-apart v (suc i) bs)

  new_large-apart : (bs : List ℕ) → IsApart (new_large m bs)
  unfolding new_large
  new_large-apart bs = search (apart, store_bytes-apart) depth 16 fits 4000

  number-apart : (k : ℕ) → IsApart (number m k)
  unfolding number
  number-apart k = by (nat_lt k 16384)
    where
      by : (b : Bool) → IsApart (if b then answer (Small k) else new_large m (bytes_of_number k))
      by true = answer-apart (Small k)
      by false = new_large-apart (bytes_of_number k)

  word_left : (k : ℕ) (o : Word) (d : Deed) (s t : State Table) → t.world ≡ s.world → d ≡ deed.StoreNumber o k → (number m k).run s ≡ Went (word o) (with_deed d t)
      → (take_word m k).run s ≡ Went (word o) (with_deed (deed.TakeWord o k) t)
  unfolding take_word ◌>>◌ ◌>>=◌ after
  word_left k o d s t e f h =
      let taken = changed_world TakeWord s.world in
      let g : (number m k).run s ≡ Went (word o) (with_deed (deed.StoreNumber o k) t) = h ∙ ap (λ x. Went (word o) (with_deed x t)) f in
      rw (run-change_world m TakeWord s refl) ((number-apart k).go taken s ∙ (rw g (ap (λ w. Went (word o) (record (with_deed (deed.TakeWord o k) t) { world = changed_world TakeWord w })) (sym e))))

  word_died : (k : ℕ) (c : Dead) (s : State Table) → (number m k).run s ≡ Died c → (take_word m k).run s ≡ Died c
  unfolding take_word ◌>>◌ ◌>>=◌ after
  word_died k c s h = rw (run-change_world m TakeWord s refl) ((number-apart k).go (changed_world TakeWord s.world) s ∙ rw h refl)

  module _ (k j : ℕ) (same : j ≡ k) where
    pub word-left : (o : Word) (d : Deed) (s t : State Table) → t.world ≡ s.world → d ≡ deed.StoreNumber o j → (number m j).run s ≡ Went (word o) (with_deed d t)
        → (take_word m k).run s ≡ Went (word o) (with_deed (deed.TakeWord o j) t)
    word-left o d s t e f h = subst (λ (x : ℕ). (take_word m x).run s ≡ Went (word o) (with_deed (deed.TakeWord o j) t)) same (word_left j o d s t e f h)

    pub word-died : (c : Dead) (s : State Table) → (number m j).run s ≡ Died c → (take_word m k).run s ≡ Died c
    word-died c s h = subst (λ (x : ℕ). (take_word m x).run s ≡ Died c) same (word_died j c s h)

-- the same where the number is widened
module _ (m : ObjectMemory Table) (k i j : ℕ) (wide : j ≡ i) (same : i ≡ k) where
  pub wide-left : (o : Word) (d : Deed) (s t : State Table) → t.world ≡ s.world → d ≡ deed.StoreNumber o j → (number m j).run s ≡ Went (word o) (with_deed d t)
      → (take_word m k).run s ≡ Went (word o) (with_deed (deed.TakeWord o i) t)
  wide-left o d s t e f h = word-left m k i same o d s t e (f ∙ ap (deed.StoreNumber o) wide) (subst (λ (x : ℕ). (number m x).run s ≡ Went (word o) (with_deed d t)) wide h)

  pub wide-died : (c : Dead) (s : State Table) → (number m j).run s ≡ Died c → (take_word m k).run s ≡ Died c
  wide-died c s h = word-died m k i same c s (subst (λ (x : ℕ). (number m x).run s ≡ Died c) wide h)

pub ruleset words = (word-left, word-died)
