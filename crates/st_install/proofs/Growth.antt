-- Places of nil in a dictionary, and a dictionary that grows.
use Rattle.std.proofs.Common.{◌≡◌, ℕ, ◌+◌, ◌-◌, ◌<◌, ◌≤◌, zero, suc, Bool, true, false, List, [], ◌∷◌, ◌++◌, length, Result, Ok, Err, refl, sym, ap, ◌∙◌, arith}
use Rattle.std.specs.Prelude.{◌*◌, replicate, IfOk}
use Rattle.std.specs.Global.{Vec}
use Rattle.st_model.specs.declared.dead.Dead.{Dead}
use Rattle.st_model.specs.declared.oop.Oop.{Oop}
use Rattle.st_model.specs.Values.{Ref, value, value_of}
use Rattle.st_model.specs.Objects.{place_of}
use Rattle.st_model.specs.Machine.{State, Transition, Died, Went, after, answer, ◌>>=◌}
use Rattle.st_model.specs.Steps.{fetch_field, same_value, of_page, class_of}
use Rattle.st_model.specs.declared.page.PageObject.TheVariants.{NilObject, ArrayClass}
use Rattle.st_model.specs.Table.{Table, table}
use Rattle.st_model.specs.inside.Calls.{Reads, itself}
use Rattle.st_model.proofs.Runs.{run-then, after-went, after-died, run-of_page}
use Rattle.st_install.specs.declared.plan.PlannedValue.{PlannedValue as CodePart}
use Rattle.st_install.specs.declared.plan.NewObject.{NewObject as CodeObject}
use Rattle.st_install.specs.declared.plan.PlannedValue.TheVariants as part
use Rattle.st_install.specs.Plans.{There, Made, pointers_object}
use Rattle.st_install.specs.Dictionaries.{one_more_if, count_places, count_vacant, grows_for, grown_objects}
use Rattle.st_install.specs.Planning.{grown_if}
use Rattle.st_install.specs.inside.Readies.{part_of, parts_of, object_of, objects_of}
use Rattle.st_scope.specs.declared.unread.Unread.{Unread}
use Rattle.st_scope.specs.declared.unread.Unread.TheVariants.{Dies, OutOfMemory}
use Rattle.st_scope.specs.inside.Findings.{Finds}
use Rattle.st_install.specs.inside.Naming.{nil}
use Rattle.st_install.specs.inside.Growing.{objects_in, IsGrown, Grows}

-- what follows so many places of nil
abbrev pub counted : ℕ → Transition (State Table) ℕ → Transition (State Table) ℕ
counted n x = after x (λ k s. Went (n + k) s)

counted_none : (x : Transition (State Table) ℕ) → x ≡ counted 0 x
unfolding after
counted_none (Died k) = refl
counted_none (Went k s) = let z : k ≡ 0 + k = omega arith in ap (λ n. Went n s) z

one_and : (b : Bool) (n : ℕ) → one_more_if b n ≡ one_more_if b 0 + n
one_and true n = omega arith
one_and false n = omega arith

counted_more : (n : ℕ) (b : Bool) (x : Transition (State Table) ℕ) → counted n (after x (λ k s. (answer (one_more_if b k)).run s)) ≡ counted (n + one_more_if b 0) x
unfolding after answer
counted_more n b (Died k) = refl
counted_more n b (Went k s) = let e : n + one_more_if b k ≡ n + one_more_if b 0 + k = omega (arith, one_and b k) in ap (λ m. Went m s) e

module _ (d : Oop) (places : ℕ) (t : Table) where
  -- the places of nil are those so far, and those from place k on
  pub record LeftPlaces (k vacant : ℕ) : Type 0 where
    pub few : vacant ≤ k
    pub same : (s : State Table) → s.memory ≡ t → (count_vacant table (value d) 0 places).run s ≡ counted vacant ((count_vacant table (value d) k (places - k)).run s)

  pub places_begin : LeftPlaces 0 0
  places_begin =
      let z : places ≡ places - 0 = omega arith in
      record { few = omega arith; same = λ s f. counted_none ((count_vacant table (value d) 0 places).run s) ∙ ap (λ n. counted 0 ((count_vacant table (value d) 0 n).run s)) z }

  none_from : (left k : ℕ) (s : State Table) → left ≡ 0 → (count_vacant table (value d) k left).run s ≡ Went 0 s
  unfolding count_vacant answer
  none_from zero k s e = refl
  none_from (suc left) k s e = cc

  module _ (k vacant : ℕ) (h : LeftPlaces k vacant) where
    pub places_end : places ≤ k → Reads (count_vacant table (value d) 0 places) itself t (Ok vacant)
    unfolding after
    places_end l s f =
        let z : vacant + 0 ≡ vacant = omega arith in
        h.same s f ∙ (ap (counted vacant) (none_from (places - k) k s (omega (arith, l))) ∙ ap (λ n. Went n s) z)

    turn_from : (left n : ℕ) (s : State Table) → left ≡ suc n
        → (count_vacant table (value d) k left).run s ≡ (fetch_field table (value d) (2 + k) >>= (λ v. of_page table NilObject >>= (λ z. count_vacant table (value d) (suc k) n >>= (λ m. answer (one_more_if (same_value v z) m))))).run s
    unfolding count_vacant
    turn_from zero n s e = cc
    turn_from (suc left) n s e = let q : left ≡ n = omega (arith, e) in rw q refl

    module _ (l : k < places) where
      turn : (s : State Table) → s.memory ≡ t → (count_vacant table (value d) 0 places).run s
          ≡ counted vacant ((fetch_field table (value d) (2 + k) >>= (λ v. of_page table NilObject >>= (λ z. count_vacant table (value d) (suc k) (places - (k + 1)) >>= (λ m. answer (one_more_if (same_value v z) m))))).run s)
      turn s f = h.same s f ∙ ap (counted vacant) (turn_from (places - k) (places - (k + 1)) s (omega (arith, l)))

      pub place_dies : (c : Dead) → Reads (fetch_field table (value d) (2 + k)) value t (Err c) → Reads (count_vacant table (value d) 0 places) itself t (Err c)
      unfolding after
      place_dies c e s f = turn s f ∙ simp (run-then, e s f, after-died) refl

      pub place_counted : (o : Oop) (one : ℕ) → Reads (fetch_field table (value d) (2 + k)) value t (Ok o) → one ≡ one_more_if (same_value (value o) nil) 0 → one ≤ 1 → LeftPlaces (k + 1) (vacant + one)
      place_counted o one e q small = record {
        few = omega (arith, h.few);
        same = λ s f.
            let next : suc k ≡ k + 1 = omega arith in
            turn s f ∙ (ap (counted vacant) (simp (run-then, e s f, after-went, run-of_page) refl)
            ∙ (counted_more vacant (same_value (value o) nil) ((count_vacant table (value d) (suc k) (places - (k + 1))).run s)
            ∙ (ap (λ n. counted (vacant + n) ((count_vacant table (value d) (suc k) (places - (k + 1))).run s)) (sym q)
            ∙ ap (λ j. counted (vacant + one) ((count_vacant table (value d) j (places - (k + 1))).run s)) next)));
      }

-- PARTS OF NIL

pub parts_of_nil : (n : ℕ) → parts_of (replicate n (part.There (record { 0 = 2 }))) ≡ replicate n (There nil)
unfolding value_of
parts_of_nil zero = refl
parts_of_nil (suc n) = ap (λ ps. There nil ∷ ps) (parts_of_nil n)

pub ruleset parts = (parts_of_nil)

pub dictionary_parts : (tally : Oop) (methods : CodePart) (n : ℕ) (vacant : List CodePart) → parts_of vacant ≡ replicate n (There nil)
    → parts_of ((part.There tally ∷ methods ∷ []) ++ vacant) ≡ There (value tally) ∷ part_of methods ∷ replicate n (There nil)
dictionary_parts tally methods n vacant e = ap (λ ps. There (value tally) ∷ part_of methods ∷ ps) e

-- GROWTH

pub array_class : value (record { 0 = 16 }) ≡ Ref (place_of ArrayClass)
unfolding value_of
array_class = refl

module _ (d : Oop) (next : ℕ) (t : Table) where
  pub grown_tells : (class tally : Oop) (places : ℕ) (fs ms : List CodePart) → Reads (class_of table (value d)) value t (Ok class) → Reads (fetch_field table (value d) 0) value t (Ok tally)
      → Reads (count_places table (value d)) itself t (Ok places) → parts_of fs ≡ There (value tally) ∷ Made (next + 1) ∷ replicate (2 * places) (There nil) → parts_of ms ≡ replicate (2 * places) (There nil)
      → (s : State Table) → s.memory ≡ t → (grown_objects table (value d) next).run s ≡ Went (pointers_object (value class) (parts_of fs) ∷ pointers_object (Ref (place_of ArrayClass)) (parts_of ms) ∷ []) s
  unfolding grown_objects answer
  grown_tells class tally places fs ms a b c p q s f = rw (p, q) (simp (run-then, a s f, b s f, c s f, after-went, run-of_page) refl)

  pub grown_listed : (class : Oop) (os : List CodeObject) (x y : CodeObject) (fs ms : List CodePart) → os ≡ x ∷ y ∷ [] → object_of x ≡ pointers_object (value class) (parts_of fs) → object_of y ≡ pointers_object (value (record { 0 = 16 })) (parts_of ms)
      → pointers_object (value class) (parts_of fs) ∷ pointers_object (Ref (place_of ArrayClass)) (parts_of ms) ∷ [] ≡ objects_of os
  grown_listed class os x y fs ms e a b =
      sym (ap objects_of e ∙ ap (λ z. z ∷ object_of y ∷ []) a ∙ ap (λ z. pointers_object (value class) (parts_of fs) ∷ z ∷ []) b ∙ ap (λ v. pointers_object (value class) (parts_of fs) ∷ pointers_object v (parts_of ms) ∷ []) array_class)

  module _ (selector : CodePart) where
    pub grow_dies : (k : Dead) → Reads (grows_for table (value d) (part_of selector)) itself t (Err k) → Grows (value d) (part_of selector) next t (Err (Dies k))
    grow_dies k e rest s f = simp (run-then, e s f, after-died) refl

    module _ (b : Bool) (e : Reads (grows_for table (value d) (part_of selector)) itself t (Ok b)) where
      pub grow_not : (os : List CodeObject) → b ≡ false → os ≡ [] → IsGrown (value d) (part_of selector) next t os
      unfolding grown_if answer
      grow_not os n q = record {
        grows = false;
        count = ap length q;
        test = λ s f. e s f ∙ ap (λ x. Went x s) n;
        tells = λ s f. ap (λ xs. Went (objects_of xs) s) (sym q);
      }

      grown_as : (c : Bool) (s : State Table) → c ≡ true → (grown_if table (value d) next c).run s ≡ (grown_objects table (value d) next).run s
      unfolding grown_if
      grown_as true s q = refl
      grown_as false s q = cc

      pub grow_then : (r : Result (Vec CodeObject) Unread) → b ≡ true → Finds (grown_objects table (value d) next) objects_in t r → IfOk r (λ os. length os.items ≡ 2) → Grows (value d) (part_of selector) next t r
      unfolding grown_if
      grow_then (Ok os) y h n = record {
        grows = true;
        count = n;
        test = λ s f. e s f ∙ ap (λ x. Went x s) y;
        tells = h;
      }
      grow_then (Err (Dies k)) y h n = λ rest s f. simp (run-then, e s f, after-went, grown_as b s y ∙ h s f, after-died) refl
      grow_then (Err OutOfMemory) y h n = tt
