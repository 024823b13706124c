-- What is read of a Form, step by step.
use Rattle.std.proofs.Common.{◌≡◌, ◌≢◌, ℕ, ◌+◌, ◌*◌, ◌/◌, ◌<◌, ◌≤◌, List, take, length, Option, Some, None, Bool, true, false, refl, sym, ap, ◌∙◌, arith}
use Rattle.std.specs.Prelude.{slice_get, is_some, unwrap_or, nat_lt, nat_le, ◌&&◌, ◌%◌, ◌==◌, option_map, option_and_then, if◌then◌else◌}
use Rattle.std.specs.List.{range_with_len}
use Rattle.std.proofs.lemmas.Bool.Decides.{nat_tests}
use Rattle.st_model.specs.declared.dead.Dead.{Dead}
use Rattle.st_model.specs.declared.dead.Dead.TheVariants as dead
use Rattle.std.proofs.lemmas.List.{take_all}
use Rattle.std.proofs.lemmas.Option.{slice_get-get_or}
use Rattle.std.proofs.lemmas.List.FromFn.{get_or-range_with_len, length-range_with_len}
use Rattle.st_model.specs.Values.{Value, Small, Ref, is_small, value_of}
use Rattle.st_model.specs.Objects.{Object, is_pointers, is_words, nil}
use Rattle.st_model.specs.Machine.{State, Transition, Died, Went, Step, answer, die, after, ◌>>=◌, ◌>>◌}
use Rattle.st_model.specs.Table.{Table, table, entry}
use Rattle.st_model.specs.Events.{is_held}
use Rattle.st_model.specs.Steps.{found, object_named, object, check, or_die, fetch_field}
use Rattle.st_model.specs.Primitives.{bits_or_die, positive_small}
use Rattle.st_model.specs.Deeds.{over_table}
use Rattle.st_model.specs.Pixels.{row_words}
use Rattle.st_model.specs.BitBlt.{Form, fetch_words, fetch_positive, read_form}
use Rattle.st_model.specs.View.{is_live, object_of, nothing}
use Rattle.st_browse.specs.Fields.{field_at}
use Rattle.st_browse.specs.Display.{answer_of, answer_in, form_at, if_held}
use Rattle.st_browse.specs.inside.Shown.{HasWords, words_in}

-- a step answers this and changes nothing, or dies where it is nothing
abbrev IsRun : {S A : Type 0} → Transition S A → Option A → S → Type 0
IsRun r None s = (c : Dead) × (r ≡ Died c)
IsRun r (Some a) s = r ≡ Went a s

answered : {A : Type 0} (r : Transition (State Table) A) (x : Option A) (s : State Table) → IsRun r x s → answer_of r ≡ x
answered r None s e = ap answer_of e.1
answered r (Some a) s e = ap answer_of e

run_then : {A B : Type 0} (m : Step Table A) (f : A → Step Table B) (x : Option A) (g : A → Option B) (s : State Table)
    → IsRun (m.run s) x s → ((a : A) → IsRun ((f a).run s) (g a) s) → IsRun ((m >>= f).run s) (option_and_then g x) s
unfolding ◌>>=◌ after
run_then m f None g s e h = (e.0, rw e.1 refl)
run_then m f (Some a) g s e h = rw e (h a)

run_checked : {A : Type 0} (k : Dead) (b : Bool) (m : Step Table A) (x : Option A) (s : State Table) → IsRun (m.run s) x s → IsRun ((check k b >> m).run s) (if b then x else None) s
unfolding ◌>>◌ ◌>>=◌ after check die answer
run_checked k true m x s e = e
run_checked k false m x s e = (k, refl)

run_or_die : {A : Type 0} (k : Dead) (x : Option A) (s : State Table) → IsRun ((or_die k x).run s) x s
unfolding or_die die answer
run_or_die k None s = (k, refl)
run_or_die k (Some a) s = refl

run_answer : {A : Type 0} (a : A) (s : State Table) → IsRun ((answer a).run s) (Some a) s
unfolding answer
run_answer a s = refl

run_found : (e : Option Object) (s : State Table) → IsRun ((found e).run s) (if is_some e then Some (unwrap_or e nothing) else None) s
unfolding found die answer
run_found None s = (dead.Kind, refl)
run_found (Some o) s = refl

abbrev there : Table → Value → Option Object
there t v = if is_live t v then Some (object_of t v) else None

run_object : (t : Table) (v : Value) → IsRun ((object table v).run (over_table t)) (there t v) (over_table t)
unfolding object object_named die is_live object_of
run_object t (Small n) = (dead.Small, refl)
run_object t (Ref n) = run_found (entry t n) (over_table t)

both : {A : Type 0} (a b : Bool) (o : Object) (x : Option A) → (k : Object → Bool) → (g : Object → Option A) → k o ≡ b → g o ≡ x
    → option_and_then (λ p. if k p then g p else None) (if a then Some o else None) ≡ (if a && b then x else None)
both false b o x k g e f = refl
both true b o x k g e f = rw (e, f) refl

run_field : (t : Table) (v : Value) (i : ℕ) → IsRun ((fetch_field table v i).run (over_table t)) (field_at t v i) (over_table t)
unfolding fetch_field field_at
run_field t v i =
    let o = object_of t v in
    rw (sym (both (is_live t v) (is_pointers o.kind) o (slice_get o.fields i) (λ p. is_pointers p.kind) (λ p. slice_get p.fields i) refl refl)) (
    run_then (object table v) (λ p. check dead.Kind (is_pointers p.kind) >> or_die dead.Field (slice_get p.fields i)) (there t v) (λ p. if is_pointers p.kind then slice_get p.fields i else None) (over_table t)
    (run_object t v) (λ p. run_checked dead.Kind (is_pointers p.kind) (or_die dead.Field (slice_get p.fields i)) (slice_get p.fields i) (over_table t) (run_or_die dead.Field (slice_get p.fields i) (over_table t)))
    )

-- the words of an object of kind Words
abbrev words_at : Table → Value → Option (List ℕ)
words_at t v = if is_live t v && is_words (object_of t v).kind then Some (object_of t v).units else None

run_words : (t : Table) (v : Value) → IsRun ((fetch_words table v).run (over_table t)) (words_at t v) (over_table t)
unfolding fetch_words
run_words t v =
    let o = object_of t v in
    rw (sym (both (is_live t v) (is_words o.kind) o (Some o.units) (λ p. is_words p.kind) (λ p. Some p.units) refl refl)) (
    run_then (object table v) (λ p. check dead.Kind (is_words p.kind) >> answer p.units) (there t v) (λ p. if is_words p.kind then Some p.units else None) (over_table t)
    (run_object t v) (λ p. run_checked dead.Kind (is_words p.kind) (answer p.units) (Some p.units) (over_table t) (run_answer p.units (over_table t)))
    )

abbrev positive : Value → Option ℕ
positive (Small n) = if nat_lt n 16384 then Some n else None
positive (Ref n) = None

run_positive : (v : Value) (s : State Table) → IsRun ((positive_small v).run s) (positive v) s
unfolding positive_small bits_or_die ◌>>=◌ after answer die
run_positive (Small n) s = run_checked dead.Field (nat_lt n 16384) (answer n) (Some n) s (run_answer n s)
run_positive (Ref n) s = (dead.NotSmall, refl)

abbrev positive_at : Table → Value → ℕ → Option ℕ
positive_at t v i = option_and_then positive (field_at t v i)

run_number : (t : Table) (v : Value) (i : ℕ) → IsRun ((fetch_positive table v i).run (over_table t)) (positive_at t v i) (over_table t)
unfolding fetch_positive
run_number t v i = run_then (fetch_field table v i) positive_small (field_at t v i) positive (over_table t) (run_field t v i) (λ x. run_positive x (over_table t))

-- a Form of these parts
abbrev of_words : ℕ → ℕ → List ℕ → Option Form
of_words w h us = if nat_le (h * row_words w) (length us) then Some (record { words = us; width = w; height = h }) else None

run_form : (t : Table) (v : Value)
    → IsRun ((read_form table v).run (over_table t)) (option_and_then (λ b. option_and_then (λ w. option_and_then (λ h. option_and_then (of_words w h) (words_at t b)) (positive_at t v 2)) (positive_at t v 1)) (field_at t v 0)) (over_table t)
unfolding read_form
run_form t v =
    run_then _ _ _ _ _ (run_field t v 0) (λ b. run_then _ _ _ _ _ (run_number t v 1) (λ w. run_then _ _ _ _ _ (run_number t v 2) (λ h. run_then _ _ _ _ _ (run_words t b)
    (λ us. run_checked dead.Field (nat_le (h * row_words w) (length us)) (answer (record { words = us; width = w; height = h })) (Some (record { words = us; width = w; height = h })) (over_table t) (run_answer (record { words = us; width = w; height = h }) (over_table t))))))

-- NUMBERS

module _ (t : Table) (v : Value) (i : ℕ) where
  number_is : answer_in (fetch_positive table v i) t ≡ positive_at t v i
  number_is = answered _ _ _ (run_number t v i)

  pub number_none : None ≡ field_at t v i → None ≡ answer_in (fetch_positive table v i) t
  number_none e = ap (option_and_then positive) e ∙ sym number_is

  pub number_other : (x : Value) → Some x ≡ field_at t v i → is_small x ≡ false → None ≡ answer_in (fetch_positive table v i) t
  number_other (Small n) e s = cc
  number_other (Ref n) e s = ap (option_and_then positive) e ∙ sym number_is

  small_read : (w n : ℕ) → is_small (value_of w) ≡ true → n ≡ w / 2 → positive (value_of w) ≡ (if nat_lt n 16384 then Some n else None)
  unfolding value_of
  small_read w n s e = by (w % 2 == 1) refl s
    where
      by : (b : Bool) → (w % 2 == 1) ≡ b → is_small (if w % 2 == 1 then Small (w / 2) else Ref (w / 2)) ≡ true → positive (if w % 2 == 1 then Small (w / 2) else Ref (w / 2)) ≡ (if nat_lt n 16384 then Some n else None)
      by true k l = rw (k, e) refl
      by false k l = let z : false ≡ true = rw k at l in cc

  pub number_read : (w n : ℕ) → Some (value_of w) ≡ field_at t v i → is_small (value_of w) ≡ true → n ≡ w / 2 → n < 16384 → Some n ≡ answer_in (fetch_positive table v i) t
  number_read w n e s q l =
      let z : nat_lt n 16384 ≡ true = grind (arith, nat_tests) in
      sym (number_is ∙ ap (option_and_then positive) (sym e) ∙ small_read w n s q ∙ ap (λ b. if b then Some n else None) z)

  pub number_large : (w n : ℕ) → Some (value_of w) ≡ field_at t v i → is_small (value_of w) ≡ true → n ≡ w / 2 → 16384 ≤ n → None ≡ answer_in (fetch_positive table v i) t
  number_large w n e s q l =
      let z : nat_lt n 16384 ≡ false = grind (arith, nat_tests) in
      sym (number_is ∙ ap (option_and_then positive) (sym e) ∙ small_read w n s q ∙ ap (λ b. if b then Some n else None) z)

-- WORDS

module _ (t : Table) (v : Value) where
  words_are : answer_in (fetch_words table v) t ≡ words_at t v
  words_are = answered _ _ _ (run_words t v)

  pub words_gone : is_live t v ≡ false → None ≡ option_map (length {A = ℕ}) (answer_in (fetch_words table v) t)
  words_gone e = let z : words_at t v ≡ None = rw e refl in sym (ap (option_map length) (words_are ∙ z))

  pub words_other : is_live t v ≡ true → is_words (object_of t v).kind ≡ false → None ≡ option_map (length {A = ℕ}) (answer_in (fetch_words table v) t)
  words_other e k = let z : words_at t v ≡ None = rw (e, k) refl in sym (ap (option_map length) (words_are ∙ z))

  pub words_there : HasWords t v → answer_in (fetch_words table v) t ≡ Some (words_in t v)
  words_there h = words_are ∙ rw (h.live, h.kind) refl

  pub words_counted : (n : ℕ) → HasWords t v → n ≡ length (words_in t v) → Some n ≡ option_map (length {A = ℕ}) (answer_in (fetch_words table v) t)
  words_counted n h e = ap Some e ∙ sym (ap (option_map length) (words_there h))

-- FORMS

module _ (t : Table) (v : Value) where
  form_is : (b : Option Value) (w h : Option ℕ) → b ≡ field_at t v 0 → w ≡ answer_in (fetch_positive table v 1) t → h ≡ answer_in (fetch_positive table v 2) t
      → form_at t v ≡ option_and_then (λ b. option_and_then (λ w. option_and_then (λ h. option_and_then (of_words w h) (words_at t b)) h) w) b
  form_is b w h e f g = rw (e, f ∙ number_is t v 1, g ∙ number_is t v 2) (answered _ _ _ (run_form t v))

  pub form_bitless : None ≡ field_at t v 0 → None ≡ form_at t v
  form_bitless e = sym (form_is None _ _ e refl refl)

  pub form_endless : (b : Value) → Some b ≡ field_at t v 0 → None ≡ answer_in (fetch_positive table v 1) t → None ≡ form_at t v
  form_endless b e f = sym (form_is (Some b) None _ e f refl)

  module _ (b : Value) (w : ℕ) (e : Some b ≡ field_at t v 0) (f : Some w ≡ answer_in (fetch_positive table v 1) t) where
    pub form_bottomless : None ≡ answer_in (fetch_positive table v 2) t → None ≡ form_at t v
    form_bottomless g = sym (form_is (Some b) (Some w) None e f g)

    module _ (h : ℕ) (g : Some h ≡ answer_in (fetch_positive table v 2) t) where
      wordless : (x : Option (List ℕ)) → None ≡ option_map (length {A = ℕ}) x → x ≡ None
      wordless None k = refl
      wordless (Some us) k = cc

      pub form_wordless : None ≡ option_map (length {A = ℕ}) (answer_in (fetch_words table b) t) → None ≡ form_at t v
      form_wordless k = sym (form_is (Some b) (Some w) (Some h) e f g ∙ ap (option_and_then (of_words w h)) (sym (words_are t b) ∙ wordless _ k))

      with_words : HasWords t b → form_at t v ≡ of_words w h (words_in t b)
      with_words k = form_is (Some b) (Some w) (Some h) e f g ∙ ap (option_and_then (of_words w h)) (sym (words_are t b) ∙ words_there t b k)

      pub form_short : HasWords t b → (n r : ℕ) → n ≡ length (words_in t b) → r ≡ row_words w → n < h * r → None ≡ form_at t v
      form_short k n r p q l =
          let z : nat_le (h * row_words w) (length (words_in t b)) ≡ false = rw (sym p, sym q) (grind (arith, nat_tests)) in
          sym (with_words k ∙ rw z refl)

      pub form_there : HasWords t b → (n r : ℕ) → n ≡ length (words_in t b) → r ≡ row_words w → h * r ≤ n → Some (record { words = words_in t b; width = w; height = h }) ≡ form_at t v
      form_there k n r p q l =
          let z : nat_le (h * row_words w) (length (words_in t b)) ≡ true = rw (sym p, sym q) (grind (arith, nat_tests)) in
          sym (with_words k ∙ rw z refl)

-- WHAT IS HELD

pub none_held : (t : Table) (v : Value) (w : ℕ) → value_of w ≡ v → w ≡ 2 → None ≡ option_and_then (form_at t) (if_held v)
unfolding value_of
none_held t v w e q = rw (sym e, q) refl

one_held : (t : Table) (w : ℕ) → w ≢ 2 → is_held nil (value_of w) ≡ true
unfolding value_of
one_held t w n = by (w % 2 == 1) refl
  where
    by : (b : Bool) → (w % 2 == 1) ≡ b → is_held nil (if w % 2 == 1 then Small (w / 2) else Ref (w / 2)) ≡ true
    by true k = rw k refl
    by false k = let z : (w / 2 == 1) ≡ false = grind (arith, nat_tests, k, n) in rw (k, z) refl

pub some_held : (t : Table) (v : Value) (w : ℕ) → value_of w ≡ v → w ≢ 2 → form_at t (value_of w) ≡ option_and_then (form_at t) (if_held v)
some_held t v w e n = rw (sym e, one_held t w n) refl

-- ROWS

pub row_number : (n i : ℕ) → i < n → slice_get (range_with_len 0 n) i ≡ Some i
row_number n i l =
    let a = length-range_with_len 0 n in
    let z : 0 + i ≡ i = omega arith in
    slice_get-get_or (range_with_len 0 n) i 0 (omega (arith, a, l)) ∙ ap Some (get_or-range_with_len 0 n i 0 l ∙ z)

pub all_rows : (n i : ℕ) → n ≤ i → take i (range_with_len 0 n) ≡ range_with_len 0 n
all_rows n i l = let a = length-range_with_len 0 n in take_all i (range_with_len 0 n) (omega (arith, a, l))

pub ruleset numbers = (number_none, number_other, number_read, number_large)

pub ruleset words = (words_gone, words_other, words_counted)

pub ruleset forms = (form_bitless, form_endless, form_bottomless, form_wordless, form_short, form_there)

pub ruleset held = (none_held, some_held)
