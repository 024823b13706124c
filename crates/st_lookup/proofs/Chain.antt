-- The search through classes, one after the other.
use Rattle.std.proofs.Common.{◌≡◌, ℕ, ◌-◌, zero, suc, ◌<◌, Bool, true, false, Option, Some, None, Ok, Err, refl, ◌∙◌, arith}
use Rattle.st_model.specs.declared.dead.Dead.{Dead}
use Rattle.st_model.specs.declared.dead.Dead.TheVariants as dead
use Rattle.st_model.specs.declared.word.Word.{Word}
use Rattle.st_model.specs.declared.page.PageObject.TheVariants.{NilObject}
use Rattle.st_model.specs.Values.{Value, Ref, word}
use Rattle.st_model.specs.Objects.{place_of}
use Rattle.st_model.specs.Machine.{ObjectMemory, State, Went, Step, answer, die, ◌>>=◌}
use Rattle.st_model.specs.Steps.{fetch_field, of_page, same_value}
use Rattle.st_model.specs.Lookup.{method_in_class, or_above, look_in_class, unless_nil, end_at_nil, find_within, find}
use Rattle.st_model.specs.Table.{Table, IsTabular}
use Rattle.st_model.specs.inside.Calls.{Reads}
use Rattle.st_model.proofs.Runs.{run-then, after-went, after-died}
use Rattle.st_lookup.specs.inside.Places.{found_word}

-- what the classes from one on give is what the first gives, with so many that may still come
pub record LeftClasses (m : ObjectMemory Table) (x first : Value) (left : ℕ) (class : Value) (t : Table) : Type 0 where
  pub same : (s : State Table) → s.memory ≡ t → (find m first x).run s ≡ (find_within m x left class).run s

pub some_left : (m : ObjectMemory Table) (x first : Value) (n : ℕ) (class : Value) (t : Table) → 0 < n → LeftClasses m x first n class t → LeftClasses m x first (suc (n - 1)) class t
some_left m x first n class t p l = let e : suc (n - 1) ≡ n = omega arith in rw e l

module _ {m : ObjectMemory Table} (h : IsTabular m) (x : Value) (t : Table) where
  nil_run : (s : State Table) → (of_page m NilObject).run s ≡ Went (Ref (place_of NilObject)) s
  unfolding of_page
  nil_run s = rw h.named refl

  pub all_classes : (first : Value) → LeftClasses m x first 32767 first t
  unfolding find
  all_classes first = record { same = λ s e. refl }

  ends : (class : Value) (rest : Step Table (Option Value)) (s : State Table)
      → (end_at_nil m class rest).run s ≡ (unless_nil (same_value class (Ref (place_of NilObject))) rest).run s
  unfolding end_at_nil
  ends class rest s = simp (run-then, nil_run s, after-went) refl

  at_nil : (b : Bool) (rest : Step Table (Option Value)) (s : State Table) → b ≡ true → (unless_nil b rest).run s ≡ Went None s
  unfolding unless_nil answer
  at_nil true rest s e = refl
  at_nil false rest s e = cc

  at_class : (b : Bool) (rest : Step Table (Option Value)) (s : State Table) → b ≡ false → (unless_nil b rest).run s ≡ rest.run s
  unfolding unless_nil
  at_class true rest s e = cc
  at_class false rest s e = refl

  pub chain_ends : (first class : Value) (left : ℕ) → LeftClasses m x first left class t → same_value class (Ref (place_of NilObject)) ≡ true → Reads (find m first x) found_word t (Ok None)
  unfolding find_within
  chain_ends first class zero l e s f = l.same s f ∙ (ends class _ s ∙ at_nil _ _ s e)
  chain_ends first class (suc left) l e s f = l.same s f ∙ (ends class _ s ∙ at_nil _ _ s e)

  pub chain_dies : (first class : Value) → LeftClasses m x first 0 class t → same_value class (Ref (place_of NilObject)) ≡ false → Reads (find m first x) found_word t (Err dead.Chain)
  unfolding find_within die
  chain_dies first class l e s f = l.same s f ∙ (ends class _ s ∙ at_class _ _ s e)

  looks : (first class : Value) (left : ℕ) → LeftClasses m x first (suc left) class t → same_value class (Ref (place_of NilObject)) ≡ false → (s : State Table) → s.memory ≡ t
      → (find m first x).run s ≡ (look_in_class m class x (find_within m x left)).run s
  unfolding find_within
  looks first class left l e s f = l.same s f ∙ (ends class _ s ∙ at_class _ _ s e)

  module _ (first class : Value) (left : ℕ) (l : LeftClasses m x first (suc left) class t) (e : same_value class (Ref (place_of NilObject)) ≡ false) where
    pub class_dies : (cause : Dead) → Reads (method_in_class m class x) found_word t (Err cause) → Reads (find m first x) found_word t (Err cause)
    unfolding look_in_class
    class_dies cause g s f = looks first class left l e s f ∙ simp (run-then, g s f, after-died) refl

    pub class_has : (method : Word) → Reads (method_in_class m class x) found_word t (Ok (Some method)) → Reads (find m first x) found_word t (Ok (Some method))
    unfolding look_in_class or_above answer
    class_has method g s f = looks first class left l e s f ∙ simp (run-then, g s f, after-went) refl

    above : Reads (method_in_class m class x) found_word t (Ok None) → (s : State Table) → s.memory ≡ t
        → (find m first x).run s ≡ (fetch_field m class 0 >>= (λ a. find_within m x left a)).run s
    unfolding look_in_class or_above
    above g s f = looks first class left l e s f ∙ simp (run-then, g s f, after-went) refl

    pub above_dies : (cause : Dead) → Reads (method_in_class m class x) found_word t (Ok None) → Reads (fetch_field m class 0) word t (Err cause) → Reads (find m first x) found_word t (Err cause)
    above_dies cause g k s f = above g s f ∙ simp (run-then, k s f, after-died) refl

    pub above_left : (next : Word) → Reads (method_in_class m class x) found_word t (Ok None) → Reads (fetch_field m class 0) word t (Ok next) → LeftClasses m x first left (word next) t
    above_left next g k = record { same = λ s f. above g s f ∙ simp (run-then, k s f, after-went) refl }
