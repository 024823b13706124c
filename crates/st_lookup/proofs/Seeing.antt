-- What is read of an object is the same in two tables that have the same object there.
use Rattle.std.proofs.Common.{◌≡◌, ℕ, ◌<◌, ◌≤◌, Option, Some, None, Bool, true, false, Result, Ok, Err, refl, sym, ap, ◌∙◌, subst, length, List, arith}
use Rattle.std.proofs.lemmas.Grind.{common_steps}
use Rattle.std.specs.Prelude.{slice_get, ◌/◌, ◌%◌, ◌==◌, if◌then◌else◌}
use Rattle.st_model.specs.declared.dead.Dead.{Dead}
use Rattle.st_model.specs.declared.dead.Dead.TheVariants as dead
use Rattle.st_model.specs.declared.word.Word.{Word}
use Rattle.st_model.specs.Values.{Value, Small, Ref, value_of, word, is_small}
use Rattle.st_model.specs.Objects.{Object, is_pointers, is_method}
use Rattle.st_model.specs.Machine.{State, Transition, Died, Went, Step, after, answer, die, ◌>>=◌, ◌>>◌}
use Rattle.st_model.specs.Steps.{found, object_named, object, check, or_die, fetch_field, count_fields}
use Rattle.st_model.specs.Methods.{method_header}
use Rattle.st_model.specs.Lookup.{pointer_if, half_word}
use Rattle.st_model.specs.Table.{Table, entry, table, bounded_table}
use Rattle.st_model.specs.inside.Calls.{Reads, itself, transition_of}
use Rattle.st_model.proofs.Tabular.{fetch_field-as, count_fields-as, method_header-as}
use Rattle.st_model.proofs.Runs.{run-then, after-died}
use Rattle.st_model.proofs.TableLemmas.{entry_past}
use Rattle.st_memory.specs.inside.Tabular.{bounded_tabular}
use Rattle.st_lookup.specs.inside.Remembered.{on, IsOn, IsOff, watched, object_at}
use Rattle.st_lookup.proofs.Carried.{over}
use Rattle.st_lookup.proofs.Staying.{watched-entry, entry-watched}

abbrev AreAlike : {A : Type 0} → State Table → Table → Table → Transition (State Table) A → Transition (State Table) A → Type 0
AreAlike s t u (Died a) (Died b) = a ≡ b
AreAlike s t u (Died a) (Went b y) = ⊥
AreAlike s t u (Went a x) (Died b) = ⊥
AreAlike s t u (Went a x) (Went b y) = (a ≡ b) × (x ≡ over s t) × (y ≡ over s u)

record Alike {A : Type 0} (t u : Table) (m : Step Table A) : Type 0 where
  alike : (s : State Table) → AreAlike s t u (m.run (over s t)) (m.run (over s u))

module _ {A B : Type 0} (t u : Table) where
  after_alike : (f : A → Step Table B) (s : State Table) (x y : Transition (State Table) A) → AreAlike s t u x y → ((a : A) → Alike t u (f a))
      → AreAlike s t u (after x (λ a z. (f a).run z)) (after y (λ a z. (f a).run z))
  unfolding after
  after_alike f s (Died a) (Died b) h k = h
  after_alike f s (Died a) (Went b y) h k = absurd h
  after_alike f s (Went a x) (Died b) h k = absurd h
  after_alike f s (Went a x) (Went b y) h k = rw (sym h.0, h.1, h.2) ((k a).alike s)

  then_alike : (m : Step Table A) (f : A → Step Table B) → Alike t u m → ((a : A) → Alike t u (f a)) → Alike t u (m >>= f)
  unfolding ◌>>=◌
  then_alike m f g h = record { alike = λ s. after_alike f s (m.run (over s t)) (m.run (over s u)) (g.alike s) h }

  next_alike : (m : Step Table A) (n : Step Table B) → Alike t u m → Alike t u n → Alike t u (m >> n)
  unfolding ◌>>◌
  next_alike m n g h = then_alike m (λ a. n) g (λ a. h)

module _ (t u : Table) where
  answer_alike : {A : Type 0} (a : A) → Alike t u (answer a)
  unfolding answer
  answer_alike a = record { alike = λ s. (refl, refl, refl) }

  die_alike : {A : Type 0} (c : Dead) → Alike t u (die {A = A} c)
  unfolding die
  die_alike c = record { alike = λ s. refl }

  check_alike : (c : Dead) (b : Bool) → Alike t u (check c b)
  unfolding check
  check_alike c true = answer_alike tt
  check_alike c false = die_alike c

  or_die_alike : {A : Type 0} (c : Dead) (x : Option A) → Alike t u (or_die c x)
  unfolding or_die
  or_die_alike c None = die_alike c
  or_die_alike c (Some a) = answer_alike a

  found_alike : (x y : Option Object) (s : State Table) → y ≡ x → AreAlike s t u ((found x).run (over s t)) ((found y).run (over s u))
  unfolding found die answer
  found_alike None None s e = refl
  found_alike None (Some p) s e = cc
  found_alike (Some o) None s e = cc
  found_alike (Some o) (Some p) s e = let q : o ≡ p = cc in (q, refl, refl)

  object_alike : (v : Value) → object_at u v ≡ object_at t v → Alike t u (object table v)
  unfolding object object_named
  object_alike (Small n) e = die_alike dead.Small
  object_alike (Ref n) e = record { alike = λ s. found_alike (entry t n) (entry u n) s e }

  module _ (v : Value) (e : object_at u v ≡ object_at t v) where
    field_alike : (i : ℕ) → Alike t u (fetch_field table v i)
    unfolding fetch_field
    field_alike i = then_alike t u (object table v) _ (object_alike v e) (λ o. next_alike t u (check dead.Kind (is_pointers o.kind)) _ (check_alike dead.Kind (is_pointers o.kind)) (or_die_alike dead.Field (slice_get o.fields i)))

    count_alike : Alike t u (count_fields table v)
    unfolding count_fields
    count_alike = then_alike t u (object table v) _ (object_alike v e) (λ o. next_alike t u (check dead.Kind (is_pointers o.kind)) _ (check_alike dead.Kind (is_pointers o.kind)) (answer_alike (length o.fields)))

    header_alike : Alike t u (method_header table v)
    unfolding method_header
    header_alike = then_alike t u (object table v) _ (object_alike v e) (λ o. next_alike t u (check dead.Kind (is_method o.kind)) _ (check_alike dead.Kind (is_method o.kind)) (or_die_alike dead.Field (slice_get o.fields 0)))

  read_same : {A B : Type 0} (m : Step Table A) (f : B → A) (r : Result B Dead) → Alike t u m → Reads m f t r → Reads m f u r
  read_same {A = A} {B = B} m f r l h s e = subst (λ (y : Table). m.run (over s y) ≡ transition_of f r (over s y)) (sym e) (by_runs s r (m.run (over s t)) (m.run (over s u)) (l.alike s) (h (over s t) refl))
    where
      by_runs : (s : State Table) (r : Result B Dead) (x y : Transition (State Table) A) → AreAlike s t u x y → x ≡ transition_of f r (over s t) → y ≡ transition_of f r (over s u)
      by_runs s (Err c) (Died a) (Died b) g q = let p : a ≡ c = cc in ap (λ d. Died d) (sym g ∙ p)
      by_runs s (Err c) (Died a) (Went b y) g q = absurd g
      by_runs s (Err c) (Went a x) y g q = cc
      by_runs s (Ok b) (Died a) y g q = cc
      by_runs s (Ok b) (Went a x) (Died c) g q = absurd g
      by_runs s (Ok b) (Went a x) (Went c y) g q = let p : a ≡ f b = cc in rw (sym g.0, g.2, p) refl

-- WATCHED OBJECTS

module _ (bits : List ℕ) (t : Table) where
  same_entry : (n : ℕ) (x y : Option Object) → on bits n ≡ true → entry t n ≡ x → entry (watched bits t) n ≡ y → y ≡ x
  same_entry n None None h e f = refl
  same_entry n None (Some o) h e f = let g = (watched-entry bits t n o f).0 in cc
  same_entry n (Some o) None h e f = let g = entry-watched bits t n o e h in cc
  same_entry n (Some o) (Some p) h e f = let g = entry-watched bits t n o e h in cc

  none_entry : (n : ℕ) (y : Option Object) → entry t n ≡ None → entry (watched bits t) n ≡ y → y ≡ None
  none_entry n None e f = refl
  none_entry n (Some o) e f = let g = (watched-entry bits t n o f).0 in cc

  off_entry : (n : ℕ) (y : Option Object) → on bits n ≡ false → entry (watched bits t) n ≡ y → y ≡ None
  off_entry n None h f = refl
  off_entry n (Some o) h f = let g = (watched-entry bits t n o f).1 in cc

  pub on_same : (v : Value) → IsOn bits v → object_at (watched bits t) v ≡ object_at t v
  on_same (Small n) h = refl
  on_same (Ref n) h = same_entry n (entry t n) (entry (watched bits t) n) h refl refl

  pub far_same : (w : ℕ) → length t ≡ 32768 → 65535 < w → object_at (watched bits t) (value_of w) ≡ object_at t (value_of w)
  unfolding value_of
  far_same w e l = by_case (w % 2 == 1) (w / 2) (rw e (grind (arith, common_steps)))
    where
      by_case : (b : Bool) (n : ℕ) → length t ≤ n → object_at (watched bits t) (if b then Small n else Ref n) ≡ object_at t (if b then Small n else Ref n)
      by_case true n l = refl
      by_case false n l = let f = entry_past t n l in none_entry n (entry (watched bits t) n) f refl ∙ sym f

  pub small_same : (v : Value) → is_small v ≡ true → object_at (watched bits t) v ≡ object_at t v
  small_same (Small n) e = refl
  small_same (Ref n) e = cc

-- WHAT A SEARCH READS OF WATCHED OBJECTS

module _ (bits : List ℕ) (t : Table) (v : Value) where
  module _ (e : object_at (watched bits t) v ≡ object_at t v) where
    pub field_seen : (i : ℕ) (r : Result Word Dead) → Reads (fetch_field bounded_table v i) word t r → Reads (fetch_field bounded_table v i) word (watched bits t) r
    field_seen i r h = rw (fetch_field-as bounded_tabular v i) (read_same t (watched bits t) (fetch_field table v i) word r (field_alike t (watched bits t) v e i) (rw (fetch_field-as bounded_tabular v i) at h))

    pub count_seen : (r : Result ℕ Dead) → Reads (count_fields bounded_table v) itself t r → Reads (count_fields bounded_table v) itself (watched bits t) r
    count_seen r h = rw (count_fields-as bounded_tabular v) (read_same t (watched bits t) (count_fields table v) itself r (count_alike t (watched bits t) v e) (rw (count_fields-as bounded_tabular v) at h))

    pub header_seen : (r : Result Word Dead) → Reads (method_header bounded_table v) word t r → Reads (method_header bounded_table v) word (watched bits t) r
    header_seen r h = rw (method_header-as bounded_tabular v) (read_same t (watched bits t) (method_header table v) word r (header_alike t (watched bits t) v e) (rw (method_header-as bounded_tabular v) at h))

    pub half_seen : (n : ℕ) → Reads (half_word bounded_table v) itself t (Ok n) → Reads (half_word bounded_table v) itself (watched bits t) (Ok n)
    unfolding half_word answer
    half_seen n h s f = half_alike v e n (h (over s t) refl) s f
      where
        half_if : (h k : Table) (m : ℕ) (x y : Option Object) → y ≡ x → pointer_if bounded_table k m y ≡ pointer_if bounded_table h m x
        half_if h k m None None q = refl
        half_if h k m None (Some o) q = cc
        half_if h k m (Some o) None q = cc
        half_if h k m (Some o) (Some p) q = refl

        half_alike : (v : Value) → object_at (watched bits t) v ≡ object_at t v → (n : ℕ) → (half_word bounded_table v).run (over s t) ≡ Went n (over s t) → (s : State Table) → s.memory ≡ watched bits t → (half_word bounded_table v).run s ≡ Went n s
        half_alike (Small m) e n h s f = let q : m ≡ n = cc in ap (λ (x : ℕ). Went x s) q
        half_alike (Ref m) e n h s f =
            let q : pointer_if bounded_table t m (entry t m) ≡ n = cc in
            ap (λ (x : ℕ). Went x s) (half_if t s.memory m (entry t m) (entry s.memory m) (ap (λ (y : Table). entry y m) f ∙ e) ∙ q)

  -- A name that isn't watched.
  module _ (small : is_small v ≡ false) (off : IsOff bits v) where
    gone : (v : Value) → is_small v ≡ false → IsOff bits v → (s : State Table) → s.memory ≡ watched bits t → (object table v).run s ≡ Died dead.Kind
    unfolding object object_named die
    gone (Small n) e h s f = cc
    gone (Ref n) e h s f = no_object (entry s.memory n) (ap (λ (y : Table). entry y n) f ∙ off_entry bits t n (entry (watched bits t) n) h refl)
      where
        no_object : (x : Option Object) → x ≡ None → (found x).run s ≡ Died dead.Kind
        no_object None q = refl
        no_object (Some o) q = cc

    pub field_unseen : (i : ℕ) → Reads (fetch_field bounded_table v i) word (watched bits t) (Err dead.Kind)
    unfolding fetch_field
    field_unseen i s f = rw (fetch_field-as bounded_tabular v i) (simp (run-then, gone v small off s f, after-died) refl)

    pub count_unseen : Reads (count_fields bounded_table v) itself (watched bits t) (Err dead.Kind)
    unfolding count_fields
    count_unseen s f = rw (count_fields-as bounded_tabular v) (simp (run-then, gone v small off s f, after-died) refl)

    pub header_unseen : Reads (method_header bounded_table v) word (watched bits t) (Err dead.Kind)
    unfolding method_header
    header_unseen s f = rw (method_header-as bounded_tabular v) (simp (run-then, gone v small off s f, after-died) refl)

    pub half_unseen : Reads (half_word bounded_table v) itself (watched bits t) (Ok 0)
    unfolding half_word
    half_unseen s f = no_half v small off s f
      where
        no_pointer : (s : State Table) (n : ℕ) (x : Option Object) → x ≡ None → pointer_if bounded_table s.memory n x ≡ 0
        no_pointer s n None q = refl
        no_pointer s n (Some o) q = cc

        no_half : (v : Value) → is_small v ≡ false → IsOff bits v → (s : State Table) → s.memory ≡ watched bits t → (half_word bounded_table v).run s ≡ Went 0 s
        no_half (Small n) e h s f = cc
        no_half (Ref n) e h s f = ap (λ (x : ℕ). Went x s) (no_pointer s n (entry s.memory n) (ap (λ (y : Table). entry y n) f ∙ off_entry bits t n (entry (watched bits t) n) h refl))

pub ruleset seen = (field_seen, count_seen, header_seen, half_seen)

pub ruleset not_seen = (field_unseen, count_unseen, header_unseen, half_unseen)

pub ruleset sights = (on_same, small_same, far_same)
