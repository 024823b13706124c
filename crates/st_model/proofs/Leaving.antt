-- What a deed does where it is left is what the step does that stores at once: where a word, a byte or a field of a Method is
-- found, it can be stored.
use Rattle.std.proofs.Common.{◌≡◌, ℕ, zero, suc, ◌+◌, List, [], ◌∷◌, length, Option, Some, None, Bool, true, false, refl, sym, ◌∙◌, ap, arith, is_some, length-set}
use Rattle.std.specs.Prelude.{◌-◌, ◌==◌, ◌&&◌, slice_get, slice_set, nat_lt, nat_le, if◌then◌else◌}
use Rattle.std.proofs.lemmas.Bool.Decides.{nat_tests}
use Rattle.st_model.specs.declared.dead.Dead.{Dead}
use Rattle.st_model.specs.declared.dead.Dead.TheVariants as dead
use Rattle.st_model.specs.Values.{Value, Small, Ref}
use Rattle.st_model.specs.Objects.{Object, is_words, is_method, has_bytes, first_unit, with_field, with_units, object_with_unit}
use Rattle.st_model.specs.Machine.{ObjectMemory, State, Transition, Died, Went, Step, is_there, answer, die, after, ◌>>=◌, ◌>>◌}
use Rattle.st_model.specs.Table.{Table, table, entry, changed, IsTabular}
use Rattle.st_model.specs.Steps.{found, object_named, object, stored_at, store_at, set_field, units_set, set_units_at, set_units, check, or_die, fetch_word, store_word, fetch_byte, store_byte, fetch_method_field, store_method_field}
use Rattle.st_model.specs.Deeds.{changed_object, changed_by, word_stored, byte_stored, literal_stored, over}

got_below : {A : Type 0} (xs : List A) (i : ℕ) (x : A) → slice_get xs i ≡ Some x → nat_lt i (length xs) ≡ true
got_below [] i x e = cc
got_below (y ∷ xs) zero x e = grind (arith, nat_tests)
got_below (y ∷ xs) (suc i) x e = let h = got_below xs i x e in grind (arith, nat_tests)

got_past : {A : Type 0} (xs : List A) (i : ℕ) → slice_get xs i ≡ None → nat_lt i (length xs) ≡ false
got_past [] i e = grind (arith, nat_tests)
got_past (y ∷ xs) zero e = cc
got_past (y ∷ xs) (suc i) e = let h = got_past xs i e in grind (arith, nat_tests)

fits : (xs : List ℕ) (i x : ℕ) → (length (slice_set xs i x) == length xs) ≡ true
fits xs i x = let e = length-set xs i x in grind (arith, nat_tests)

-- one cause, whatever would have been answered
pub died : {A B : Type 0} (a k : Dead) → (let x : Transition (State Table) A = Died a in x ≡ Died k) → (let x : Transition (State Table) B = Died a in x ≡ Died k)
died a k e = let q : a ≡ k = cc in ap (λ c. Died c) q

module _ (m : ObjectMemory Table) (tabular : IsTabular m) where
  -- two steps that look at one object: where the first goes on, the second makes of the state what is said; where the first
  -- dies, so does the second
  looks : {A : Type 0} → (Object → Step Table A) → Option Object → Step Table A
  looks f x = found x >>= f

  read_is : (t : Table) (n : ℕ) → m.read t n ≡ entry t n
  read_is t n = λ j. tabular.read j t n

  units_stored : (n : ℕ) (us : List ℕ) (s : State Table) (o : Object) → entry s.memory n ≡ Some o → (length us == length o.units) ≡ true
      → (set_units m (Ref n) us).run s ≡ Went tt (record s { memory = changed s.memory n (with_units o us) })
  unfolding set_units set_units_at units_set
  units_stored n us s o e f =
      let r : m.read s.memory n ≡ Some o = read_is s.memory n ∙ e in
      rw (r, f) (λ j. Went tt (record s { memory = tabular.replace j s.memory n (with_units o us) }))

  word_of_object : (n i x : ℕ) (s : State Table) (y : Option Object) (w : ℕ) → entry s.memory n ≡ y → (looks (λ o. check dead.Kind (is_words o.kind) >> or_die dead.Field (slice_get o.units i)) y).run s ≡ Went w s
      → (looks (λ o. check dead.Kind (is_words o.kind) >> (check dead.Field (nat_lt i (length o.units)) >> set_units m (Ref n) (slice_set o.units i x))) y).run s
      ≡ Went tt (over (λ t. changed_object (word_stored i x) t n y) s)
  unfolding looks ◌>>=◌ ◌>>◌ after found answer die check or_die
  word_of_object n i x s None w e f = cc
  word_of_object n i x s (Some o) w e f = of_kind (is_words o.kind) (slice_get o.units i) refl refl f
    where
      of_kind : (b : Bool) (u : Option ℕ) → is_words o.kind ≡ b → slice_get o.units i ≡ u
          → (check dead.Kind b >> or_die dead.Field u).run s ≡ Went w s
          → (check dead.Kind b >> (check dead.Field (nat_lt i (length o.units)) >> set_units m (Ref n) (slice_set o.units i x))).run s ≡ Went tt (over (λ t. changed t n (if b then object_with_unit o i x else o)) s)
      of_kind false u k g f = cc
      of_kind true None k g f = cc
      of_kind true (Some v) k g f = rw (got_below o.units i v g) (units_stored n (slice_set o.units i x) s o e (fits o.units i x))

  word_of_none : (n i x : ℕ) (s : State Table) (y : Option Object) (k : Dead) → (looks (λ o. check dead.Kind (is_words o.kind) >> or_die dead.Field (slice_get o.units i)) y).run s ≡ Died k
      → (looks (λ o. check dead.Kind (is_words o.kind) >> (check dead.Field (nat_lt i (length o.units)) >> set_units m (Ref n) (slice_set o.units i x))) y).run s ≡ Died k
  unfolding looks ◌>>=◌ ◌>>◌ after found answer die check or_die
  word_of_none n i x s None k f = died dead.Kind k f
  word_of_none n i x s (Some o) k f = of_kind (is_words o.kind) (slice_get o.units i) refl f
    where
      of_kind : (b : Bool) (u : Option ℕ) → slice_get o.units i ≡ u → (check dead.Kind b >> or_die dead.Field u).run s ≡ Died k
          → (check dead.Kind b >> (check dead.Field (nat_lt i (length o.units)) >> set_units m (Ref n) (slice_set o.units i x))).run s ≡ Died k
      of_kind false u g f = died dead.Kind k f
      of_kind true None g f = rw (got_past o.units i g) (died dead.Field k f)
      of_kind true (Some v) g f = cc

  pub word-left : (v : Value) (i x w : ℕ) (s : State Table) → (fetch_word m v i).run s ≡ Went w s → (store_word m v i x).run s ≡ Went tt (over (λ t. changed_by (word_stored i x) t v) s)
  unfolding fetch_word store_word object object_named looks ◌>>=◌ die after
  word-left (Small n) i x w s e = cc
  word-left (Ref n) i x w s e =
      word_of_object n i x s (m.read s.memory n) w (sym (read_is s.memory n)) e
      ∙ ap (λ y. Went tt (over (λ t. changed_object (word_stored i x) s.memory n y) s)) (read_is s.memory n)

  pub word-unleft : (v : Value) (i x : ℕ) (k : Dead) (s : State Table) → (fetch_word m v i).run s ≡ Died k → (store_word m v i x).run s ≡ Died k
  unfolding fetch_word store_word object object_named looks ◌>>=◌ die after
  word-unleft (Small n) i x k s e = died dead.Small k e
  word-unleft (Ref n) i x k s e = word_of_none n i x s (m.read s.memory n) k e

  byte_of_object : (n i x : ℕ) (s : State Table) (y : Option Object) (w : ℕ) → entry s.memory n ≡ y
      → (looks (λ o. check dead.Kind (has_bytes o.kind) >> (check dead.Field (nat_le (first_unit o) i) >> or_die dead.Field (slice_get o.units (i - first_unit o)))) y).run s ≡ Went w s
      → (looks (λ o. check dead.Kind (has_bytes o.kind) >> (check dead.Field (nat_le (first_unit o) i) >> (check dead.Field (nat_lt (i - first_unit o) (length o.units)) >> set_units m (Ref n) (slice_set o.units (i - first_unit o) x)))) y).run s
      ≡ Went tt (over (λ t. changed_object (byte_stored i x) t n y) s)
  unfolding looks ◌>>=◌ ◌>>◌ after found answer die check or_die
  byte_of_object n i x s None w e f = cc
  byte_of_object n i x s (Some o) w e f = of_kind (has_bytes o.kind) (nat_le (first_unit o) i) (slice_get o.units (i - first_unit o)) refl refl refl f
    where
      of_kind : (b c : Bool) (u : Option ℕ) → has_bytes o.kind ≡ b → nat_le (first_unit o) i ≡ c → slice_get o.units (i - first_unit o) ≡ u
          → (check dead.Kind b >> (check dead.Field c >> or_die dead.Field u)).run s ≡ Went w s
          → (check dead.Kind b >> (check dead.Field c >> (check dead.Field (nat_lt (i - first_unit o) (length o.units)) >> set_units m (Ref n) (slice_set o.units (i - first_unit o) x)))).run s
          ≡ Went tt (over (λ t. changed t n (if b && c then object_with_unit o (i - first_unit o) x else o)) s)
      of_kind false c u k l g f = cc
      of_kind true false u k l g f = cc
      of_kind true true None k l g f = cc
      of_kind true true (Some v) k l g f =
          rw (got_below o.units (i - first_unit o) v g) (units_stored n (slice_set o.units (i - first_unit o) x) s o e (fits o.units (i - first_unit o) x))

  byte_of_none : (n i x : ℕ) (s : State Table) (y : Option Object) (k : Dead)
      → (looks (λ o. check dead.Kind (has_bytes o.kind) >> (check dead.Field (nat_le (first_unit o) i) >> or_die dead.Field (slice_get o.units (i - first_unit o)))) y).run s ≡ Died k
      → (looks (λ o. check dead.Kind (has_bytes o.kind) >> (check dead.Field (nat_le (first_unit o) i) >> (check dead.Field (nat_lt (i - first_unit o) (length o.units)) >> set_units m (Ref n) (slice_set o.units (i - first_unit o) x)))) y).run s ≡ Died k
  unfolding looks ◌>>=◌ ◌>>◌ after found answer die check or_die
  byte_of_none n i x s None k f = died dead.Kind k f
  byte_of_none n i x s (Some o) k f = of_kind (has_bytes o.kind) (nat_le (first_unit o) i) (slice_get o.units (i - first_unit o)) refl f
    where
      of_kind : (b c : Bool) (u : Option ℕ) → slice_get o.units (i - first_unit o) ≡ u → (check dead.Kind b >> (check dead.Field c >> or_die dead.Field u)).run s ≡ Died k
          → (check dead.Kind b >> (check dead.Field c >> (check dead.Field (nat_lt (i - first_unit o) (length o.units)) >> set_units m (Ref n) (slice_set o.units (i - first_unit o) x)))).run s ≡ Died k
      of_kind false c u g f = died dead.Kind k f
      of_kind true false u g f = died dead.Field k f
      of_kind true true None g f = rw (got_past o.units (i - first_unit o) g) (died dead.Field k f)
      of_kind true true (Some v) g f = cc

  pub byte-left : (v : Value) (i x w : ℕ) (s : State Table) → (fetch_byte m v i).run s ≡ Went w s → (store_byte m v i x).run s ≡ Went tt (over (λ t. changed_by (byte_stored i x) t v) s)
  unfolding fetch_byte store_byte object object_named looks ◌>>=◌ die after
  byte-left (Small n) i x w s e = cc
  byte-left (Ref n) i x w s e =
      byte_of_object n i x s (m.read s.memory n) w (sym (read_is s.memory n)) e
      ∙ ap (λ y. Went tt (over (λ t. changed_object (byte_stored i x) s.memory n y) s)) (read_is s.memory n)

  pub byte-unleft : (v : Value) (i x : ℕ) (k : Dead) (s : State Table) → (fetch_byte m v i).run s ≡ Died k → (store_byte m v i x).run s ≡ Died k
  unfolding fetch_byte store_byte object object_named looks ◌>>=◌ die after
  byte-unleft (Small n) i x k s e = died dead.Small k e
  byte-unleft (Ref n) i x k s e = byte_of_none n i x s (m.read s.memory n) k e

  -- fields of a Method

  field_stored : (n i : ℕ) (x : Value) (s : State Table) (o : Object) → entry s.memory n ≡ Some o → is_there m s.memory x ≡ true
      → (set_field m (Ref n) i x).run s ≡ Went tt (record s { memory = changed s.memory n (with_field o i x) })
  unfolding set_field store_at stored_at
  field_stored n i x s o e f =
      let r : m.read s.memory n ≡ Some o = read_is s.memory n ∙ e in
      rw (r, f) (λ j. Went tt (record s { memory = tabular.replace j s.memory n (with_field o i x) }))

  method_of_object : (n i : ℕ) (x : Value) (s : State Table) (y : Option Object) (w : Value) → entry s.memory n ≡ y → is_there m s.memory x ≡ true
      → (looks (λ o. check dead.Kind (is_method o.kind) >> or_die dead.Field (slice_get o.fields i)) y).run s ≡ Went w s
      → (looks (λ o. check dead.Kind (is_method o.kind) >> (check dead.Field (nat_lt i (length o.fields)) >> set_field m (Ref n) i x)) y).run s
      ≡ Went tt (over (λ t. changed_object (λ o. if is_method o.kind then with_field o i x else o) t n y) s)
  unfolding looks ◌>>=◌ ◌>>◌ after found answer die check or_die
  method_of_object n i x s None w e h f = cc
  method_of_object n i x s (Some o) w e h f = of_kind (is_method o.kind) (slice_get o.fields i) refl f
    where
      of_kind : (b : Bool) (u : Option Value) → slice_get o.fields i ≡ u → (check dead.Kind b >> or_die dead.Field u).run s ≡ Went w s
          → (check dead.Kind b >> (check dead.Field (nat_lt i (length o.fields)) >> set_field m (Ref n) i x)).run s ≡ Went tt (over (λ t. changed t n (if b then with_field o i x else o)) s)
      of_kind false u g f = cc
      of_kind true None g f = cc
      of_kind true (Some v) g f = rw (got_below o.fields i v g) (field_stored n i x s o e h)

  method_of_none : (n i : ℕ) (x : Value) (s : State Table) (y : Option Object) (k : Dead) → (looks (λ o. check dead.Kind (is_method o.kind) >> or_die dead.Field (slice_get o.fields i)) y).run s ≡ Died k
      → (looks (λ o. check dead.Kind (is_method o.kind) >> (check dead.Field (nat_lt i (length o.fields)) >> set_field m (Ref n) i x)) y).run s ≡ Died k
  unfolding looks ◌>>=◌ ◌>>◌ after found answer die check or_die
  method_of_none n i x s None k f = died dead.Kind k f
  method_of_none n i x s (Some o) k f = of_kind (is_method o.kind) (slice_get o.fields i) refl f
    where
      of_kind : (b : Bool) (u : Option Value) → slice_get o.fields i ≡ u → (check dead.Kind b >> or_die dead.Field u).run s ≡ Died k
          → (check dead.Kind b >> (check dead.Field (nat_lt i (length o.fields)) >> set_field m (Ref n) i x)).run s ≡ Died k
      of_kind false u g f = died dead.Kind k f
      of_kind true None g f = rw (got_past o.fields i g) (died dead.Field k f)
      of_kind true (Some v) g f = cc

  there_is : (t : Table) (x : Value) → is_there m t x ≡ is_there table t x
  there_is t (Small n) = refl
  there_is t (Ref n) = ap is_some (read_is t n)

  literal_object : (i : ℕ) (x : Value) (b : Bool) → b ≡ true → (o : Object) → literal_stored i x b o ≡ (if is_method o.kind then with_field o (i + 1) x else o)
  literal_object i x b e o = rw e (both (is_method o.kind))
    where
      both : (c : Bool) → (if c && true then with_field o (i + 1) x else o) ≡ (if c then with_field o (i + 1) x else o)
      both true = refl
      both false = refl

  object_changed : (f g : Object → Object) → ((o : Object) → f o ≡ g o) → (t : Table) (n : ℕ) (y : Option Object) → changed_object f t n y ≡ changed_object g t n y
  object_changed f g h t n None = refl
  object_changed f g h t n (Some o) = ap (changed t n) (h o)

  pub literal-left : (v : Value) (i : ℕ) (x w : Value) (s : State Table) → is_there m s.memory x ≡ true → (fetch_method_field m v (i + 1)).run s ≡ Went w s
      → (store_method_field m v (i + 1) x).run s ≡ Went tt (over (λ t. changed_by (literal_stored i x (is_there table t x)) t v) s)
  unfolding fetch_method_field store_method_field object object_named looks ◌>>=◌ die after
  literal-left (Small n) i x w s h e = cc
  literal-left (Ref n) i x w s h e =
      method_of_object n (i + 1) x s (m.read s.memory n) w (sym (read_is s.memory n)) h e
      ∙ (ap (λ y. Went tt (record s { memory = changed_object (λ o. if is_method o.kind then with_field o (i + 1) x else o) s.memory n y })) (read_is s.memory n)
      ∙ ap (λ (t : Table). Went tt (record s { memory = t })) (object_changed _ _ (λ o. sym (literal_object i x (is_there table s.memory x) (sym (there_is s.memory x) ∙ h) o)) s.memory n (entry s.memory n)))

  pub literal-unleft : (v : Value) (i : ℕ) (x : Value) (k : Dead) (s : State Table) → (fetch_method_field m v (i + 1)).run s ≡ Died k → (store_method_field m v (i + 1) x).run s ≡ Died k
  unfolding fetch_method_field store_method_field object object_named looks ◌>>=◌ die after
  literal-unleft (Small n) i x k s e = died dead.Small k e
  literal-unleft (Ref n) i x k s e = method_of_none n (i + 1) x s (m.read s.memory n) k e
