-- A change of words or bytes, of a Method's header or literals, or of what lies round the machine commutes with what reads and stores fields of objects of kind
-- Pointers: with popping, pushing and storing fields. So a deed that copies no pixels may be left until after these; one that does leaves these objects too.
use Rattle.std.proofs.Common.{◌≡◌, ◌≢◌, ℕ, zero, suc, ◌+◌, List, [], ◌∷◌, length, Option, Some, None, Bool, true, false, refl, sym, ◌∙◌, ap, subst, arith, inl, inr, ◌⊎◌, is_some, length-set}
use Rattle.std.specs.Prelude.{◌-◌, ◌==◌, ◌&&◌, slice_get, nat_lt, nat_le, if◌then◌else◌, Result, Ok, Err}
use Rattle.std.proofs.lemmas.Bool.Decides.{nat_tests}
use Rattle.st_model.specs.declared.dead.Dead.{Dead}
use Rattle.st_model.specs.declared.dead.Dead.TheVariants as dead
use Rattle.st_model.specs.declared.kind.Kind.{Kind}
use Rattle.st_model.specs.declared.kind.Kind.TheVariants as kind
use Rattle.st_model.specs.declared.word.Word.{Word}
use Rattle.st_model.specs.declared.deed.Deed.{Deed}
use Rattle.st_model.specs.declared.deed.Deed.TheVariants.{Nothing, StoreWord, StoreByte, StoreNumber, ReplaceBytes, StoreHeader, StoreLiteral, StoreTime, Hold, SetTimer, RingTimer, SetLowSpace, MoveMouse, CopyBits, TakeWord}
use Rattle.st_model.specs.Values.{Value, Small, Ref, word}
use Rattle.st_model.specs.Objects.{Object, nil, is_pointers, is_words, is_bytes, is_method, has_bytes, first_unit, with_field, with_units, object_with_unit, words_of, one}
use Rattle.st_model.specs.Machine.{ObjectMemory, World, State, Transition, Died, Went, Step, is_there, used, answer, die, after, ◌>>=◌, ◌>>◌}
use Rattle.st_model.specs.Table.{Table, table, entry, changed, total_used, IsTabular}
use Rattle.st_model.specs.Steps.{get_active, get_sp, set_sp, found, object_named, object, stored_at, store_at, set_field, check, or_die, fetch_field, store_field, count_fields, put, push, top, pop}
use Rattle.st_model.specs.Primitives.{bytes_of_number, pop_words, answer_with}
use Rattle.st_model.specs.Deeds.{changed_object, changed_by, word_stored, byte_stored, bytes_stored, bytes_replaced, bytes_from, counts_literals, header_stored, literal_stored, deed_done, world_done, changed_twice, over_both, copies_pixels, table_after}
use Rattle.st_model.specs.BitBlt.{Copy, painted, read_copy, copy_bits}
use Rattle.st_model.specs.inside.Calls.{Reads, itself}
use Rattle.st_model.specs.declared.device.Device.TheVariants as device
use Rattle.st_model.specs.Surroundings.{changed_world}
use Rattle.st_model.specs.Surroundings as surroundings
use Rattle.st_model.specs.Input.{four_bytes}
use Rattle.st_model.proofs.TableLemmas.{changed-some, changed-other}
use Rattle.st_simulation.proofs.Bounded.{total-changed}
use Rattle.st_model.proofs.CopyingBits.{Target, target, copy_read, table-painted, table-refused}
use Rattle.st_model.proofs.KindTests.{no_method}
use Rattle.st_model.proofs.Entries.{changed-again}
use Rattle.st_model.proofs.FormedLemmas.{words_of-with_field}

-- none for none, and for an object one of the same kind; of kind Pointers the same
abbrev pub Alike : Option Object → Option Object → Type 0
Alike None b = b ≡ None
Alike (Some o) b = (p : Object) × (b ≡ Some p) × (p.kind ≡ o.kind) × (is_pointers o.kind ≡ true → p ≡ o)

there_alike : (a b : Option Object) → Alike a b → is_some b ≡ is_some a
there_alike None b h = rw h refl
there_alike (Some o) b h = rw h.1 refl

-- a change of a table that leaves objects of kind Pointers, and what is stored in their fields; and one of a world that is the
-- same before a field is stored and after it
pub record LeavesPointers (g : Table → Table) (u : Table → World → World) : Type 0 where
  pub world : (t : Table) (n : ℕ) (o : Object) (i : ℕ) (x : Value) (w : World) → entry t n ≡ Some o → u (changed t n (with_field o i x)) w ≡ u t w
  pub alike : (t : Table) (n : ℕ) → Alike (entry t n) (entry (g t) n)
  pub stores : (t : Table) (n : ℕ) (o : Object) (i : ℕ) (x : Value) → entry t n ≡ Some o → is_pointers o.kind ≡ true → g (changed t n (with_field o i x)) ≡ changed (g t) n (with_field o i x)

abbrev pub moved : {A : Type 0} → (Table → Table) → (Table → World → World) → Transition (State Table) A → Transition (State Table) A
moved g u (Died cause) = Died cause
moved g u (Went a s) = Went a (over_both g u s)

-- the step does the same before the change and after it
pub record Commutes {A : Type 0} (g : Table → Table) (u : Table → World → World) (m : Step Table A) : Type 0 where
  pub go : (s : State Table) → m.run (over_both g u s) ≡ moved g u (m.run s)

module _ (g : Table → Table) (u : Table → World → World) where
  after-commutes : {A B : Type 0} (f : A → Step Table B) → ((a : A) → Commutes g u (f a)) → (o : Transition (State Table) A)
      → after (moved g u o) (λ a t. (f a).run t) ≡ moved g u (after o (λ a t. (f a).run t))
  unfolding after
  after-commutes f h (Died cause) = refl
  after-commutes f h (Went a s) = (h a).go s

  then-commutes : {A B : Type 0} (m : Step Table A) (f : A → Step Table B) → Commutes g u m → ((a : A) → Commutes g u (f a)) → Commutes g u (m >>= f)
  unfolding ◌>>=◌
  then-commutes m f h k = record { go = λ s. ap (λ o. after o (λ a t. (f a).run t)) (h.go s) ∙ after-commutes f k (m.run s) }

  next-commutes : {A B : Type 0} (m : Step Table A) (n : Step Table B) → Commutes g u m → Commutes g u n → Commutes g u (m >> n)
  unfolding ◌>>◌
  next-commutes m n h k = then-commutes m (λ a. n) h (λ a. k)

  answer-commutes : {A : Type 0} (a : A) → Commutes g u (answer a)
  unfolding answer
  answer-commutes a = record { go = λ s. refl }

  die-commutes : {A : Type 0} (cause : Dead) → Commutes {A = A} g u (die cause)
  unfolding die
  die-commutes cause = record { go = λ s. refl }

  check-commutes : (cause : Dead) (b : Bool) → Commutes g u (check cause b)
  unfolding check
  check-commutes cause true = answer-commutes tt
  check-commutes cause false = die-commutes cause

  or_die-commutes : {A : Type 0} (cause : Dead) (x : Option A) → Commutes g u (or_die cause x)
  unfolding or_die
  or_die-commutes cause None = die-commutes cause
  or_die-commutes cause (Some a) = answer-commutes a

  get_active-commutes : Commutes g u get_active
  unfolding get_active
  get_active-commutes = record { go = λ s. refl }

  get_sp-commutes : Commutes g u get_sp
  unfolding get_sp
  get_sp-commutes = record { go = λ s. refl }

  set_sp-commutes : (n : ℕ) → Commutes g u (set_sp n)
  unfolding set_sp
  set_sp-commutes n = record { go = λ s. refl }

  module _ (m : ObjectMemory Table) (tabular : IsTabular m) (leaves : LeavesPointers g u) where
    -- a look at an object that asks for kind Pointers first
    looking : {A : Type 0} → (Object → Step Table A) → Option Object → Step Table A
    looking f x = found x >>= (λ o. check dead.Kind (is_pointers o.kind) >> f o)

    looked : {A : Type 0} (f : Object → Step Table A) (o p : Object) (b : Bool) (s : State Table) → is_pointers o.kind ≡ b → p.kind ≡ o.kind → (is_pointers o.kind ≡ true → p ≡ o)
        → (b ≡ true → (f o).run (over_both g u s) ≡ moved g u ((f o).run s)) → (looking f (Some p)).run (over_both g u s) ≡ moved g u ((looking f (Some o)).run s)
    unfolding looking ◌>>=◌ ◌>>◌ after found answer check die
    looked f o p true s e k q h = rw (q e, e) (h refl)
    looked f o p false s e k q h = rw (k, e) refl

    looking-none : {A : Type 0} (f : Object → Step Table A) (s : State Table) → (looking f None).run (over_both g u s) ≡ moved g u ((looking f None).run s)
    unfolding looking ◌>>=◌ after found die
    looking-none f s = refl

    looking-commutes : {A : Type 0} (f : Object → Step Table A) (a b : Option Object) (s : State Table) → Alike a b
        → ((o : Object) → a ≡ Some o → is_pointers o.kind ≡ true → (f o).run (over_both g u s) ≡ moved g u ((f o).run s)) → (looking f b).run (over_both g u s) ≡ moved g u ((looking f a).run s)
    looking-commutes f None b s k h = rw k (looking-none f s)
    looking-commutes f (Some o) b s k h = rw k.1 (looked f o k.0 (is_pointers o.kind) s refl k.2 k.3 (h o refl))

    pub fetch_field-commutes : (v : Value) (i : ℕ) → Commutes g u (fetch_field m v i)
    unfolding fetch_field object looking object_named ◌>>=◌
    fetch_field-commutes (Small n) i = then-commutes (die dead.Small) _ (die-commutes _) (λ o. next-commutes _ _ (check-commutes _ _) (or_die-commutes _ _))
    fetch_field-commutes (Ref n) i = record {
      go = λ s. rw tabular.read (looking-commutes (λ o. or_die dead.Field (slice_get o.fields i)) (entry s.memory n) (entry (g s.memory) n) s (leaves.alike s.memory n) (λ o e k. (or_die-commutes _ _).go s));
    }

    pub count_fields-commutes : (v : Value) → Commutes g u (count_fields m v)
    unfolding count_fields object looking object_named ◌>>=◌
    count_fields-commutes (Small n) = then-commutes (die dead.Small) _ (die-commutes _) (λ o. next-commutes _ _ (check-commutes _ _) (answer-commutes _))
    count_fields-commutes (Ref n) = record {
      go = λ s. rw tabular.read (looking-commutes (λ o. answer (length o.fields)) (entry s.memory n) (entry (g s.memory) n) s (leaves.alike s.memory n) (λ o e k. (answer-commutes _).go s));
    }

    there-moved : (t : Table) (x : Value) → is_there m (g t) x ≡ is_there m t x
    there-moved t (Small n) = refl
    there-moved t (Ref n) = rw tabular.read (there_alike (entry t n) (entry (g t) n) (leaves.alike t n))

    both_stored : (s : State Table) (t v : Table) (w x : World) → t ≡ v → w ≡ x → record s { memory = t; world = w } ≡ record s { memory = v; world = x }
    both_stored s t v w x e f = λ j. record s { memory = e j; world = f j }

    stored-commutes : (n i : ℕ) (x : Value) (s : State Table) (o : Object) (c : Bool) → entry s.memory n ≡ Some o → is_pointers o.kind ≡ true
        → stored_at m n i x (over_both g u s) (Some o) c ≡ moved g u (stored_at m n i x s (Some o) c)
    unfolding stored_at
    stored-commutes n i x s o false e k = refl
    stored-commutes n i x s o true e k = rw tabular.replace
        (ap (λ (y : State Table). Went tt y) (both_stored s _ _ _ _ (sym (leaves.stores s.memory n o i x e k)) (sym (leaves.world s.memory n o i x s.world e))))

    one_object : (x : Option Object) (o p : Object) → x ≡ Some o → (r : Object) × (x ≡ Some r) × (r ≡ p) → x ≡ Some p
    one_object x o p e r = r.1 ∙ ap (λ y. Some y) r.2

    same_there : (a b : Option Object) (o : Object) → a ≡ Some o → is_pointers o.kind ≡ true → Alike a b → b ≡ Some o
    same_there None b o e k h = cc
    same_there (Some a) b o e k h = let q : a ≡ o = cc in h.1 ∙ ap (λ y. Some y) (h.3 (rw q k) ∙ q)

    set_field-commutes : (n i : ℕ) (x : Value) (s : State Table) (o : Object) → entry s.memory n ≡ Some o → is_pointers o.kind ≡ true
        → (set_field m (Ref n) i x).run (over_both g u s) ≡ moved g u ((set_field m (Ref n) i x).run s)
    unfolding set_field store_at
    set_field-commutes n i x s o e k =
        let f = same_there (entry s.memory n) (entry (g s.memory) n) o e k (leaves.alike s.memory n) in
        let q : m.read (g s.memory) n ≡ Some o = (λ j. tabular.read j (g s.memory) n) ∙ f in
        let r : m.read s.memory n ≡ Some o = (λ j. tabular.read j s.memory n) ∙ e in
        rw (there-moved s.memory x, q, r) (stored-commutes n i x s o (is_there m s.memory x) e k)

    small_field-commutes : (n i : ℕ) (x : Value) → Commutes g u (set_field m (Small n) i x)
    unfolding set_field
    small_field-commutes n i x = die-commutes _

    read_looks : {A : Type 0} (n : ℕ) (s : State Table) (f : Object → Step Table A) → ((o : Object) → entry s.memory n ≡ Some o → is_pointers o.kind ≡ true → (f o).run (over_both g u s) ≡ moved g u ((f o).run s))
        → (looking f (m.read (g s.memory) n)).run (over_both g u s) ≡ moved g u ((looking f (m.read s.memory n)).run s)
    read_looks n s f h =
        let q : m.read (g s.memory) n ≡ entry (g s.memory) n = λ j. tabular.read j (g s.memory) n in
        let r : m.read s.memory n ≡ entry s.memory n = λ j. tabular.read j s.memory n in
        rw (q, r) (looking-commutes f (entry s.memory n) (entry (g s.memory) n) s (leaves.alike s.memory n) h)

    checked_store : ℕ → ℕ → Value → Object → Step Table (Unit {0})
    checked_store n i x o = check dead.Field (nat_lt i (length o.fields)) >> set_field m (Ref n) i x

    passed : (b : Bool) (s : State Table) (f : Step Table (Unit {0})) → f.run (over_both g u s) ≡ moved g u (f.run s) → (check dead.Field b >> f).run (over_both g u s) ≡ moved g u ((check dead.Field b >> f).run s)
    unfolding ◌>>◌ ◌>>=◌ after check answer die
    passed true s f h = h
    passed false s f h = refl

    checked_store-commutes : (n i : ℕ) (x : Value) (s : State Table) (o : Object) → entry s.memory n ≡ Some o → is_pointers o.kind ≡ true
        → (checked_store n i x o).run (over_both g u s) ≡ moved g u ((checked_store n i x o).run s)
    unfolding checked_store
    checked_store-commutes n i x s o e k = passed (nat_lt i (length o.fields)) s _ (set_field-commutes n i x s o e k)

    pub store_field-commutes : (v : Value) (i : ℕ) (x : Value) → Commutes g u (store_field m v i x)
    unfolding store_field object looking object_named checked_store ◌>>=◌
    store_field-commutes (Small n) i x = then-commutes (die dead.Small) _ (die-commutes _) (λ o. next-commutes _ _ (check-commutes _ _) (next-commutes _ _ (check-commutes _ _) set_small))
      where
        set_small : Commutes g u (set_field m (Small n) i x)
        set_small = small_field-commutes n i x
    store_field-commutes (Ref n) i x = record {
      go = λ s. read_looks n s (checked_store n i x) (λ o e k. checked_store-commutes n i x s o e k);
    }

    ruleset commuting = (then-commutes, next-commutes, answer-commutes, die-commutes, check-commutes, or_die-commutes, get_active-commutes, get_sp-commutes, set_sp-commutes, fetch_field-commutes, count_fields-commutes, store_field-commutes)

    put-commutes : (c : Value) (at : ℕ) (x : Value) → Commutes g u (put m c at x)
    unfolding put
    put-commutes c at x = search commuting depth 16 fits 4000

    pub push-commutes : (x : Value) → Commutes g u (push m x)
    unfolding push
    push-commutes x = search (commuting, put-commutes) depth 16 fits 4000

    pub pop-commutes : Commutes g u (pop m)
    unfolding pop top
    pop-commutes = search commuting depth 16 fits 4000

    pop_words-commutes : (n : ℕ) → Commutes g u (pop_words m n)
    unfolding pop_words
    pop_words-commutes zero = search commuting
    pop_words-commutes (suc n) = then-commutes (pop m) (λ x. pop_words m n) pop-commutes (λ x. pop_words-commutes n)

    -- the answer takes the place of receiver and arguments
    pub answer_with-commutes : (n : ℕ) (v : Value) → Commutes g u (answer_with m n v)
    unfolding answer_with
    answer_with-commutes n v = search (commuting, pop_words-commutes, push-commutes) depth 16 fits 4000

-- the changes that deeds make

changed-swap : (t : Table) (n k : ℕ) (a b : Object) → n ≢ k → changed (changed t n a) k b ≡ changed (changed t k b) n a
changed-swap [] n k a b d = refl
changed-swap (e ∷ t) zero zero a b d = absurd (d refl)
changed-swap (None ∷ t) zero (suc k) a b d = refl
changed-swap (Some o ∷ t) zero (suc k) a b d = refl
changed-swap (None ∷ t) (suc n) zero a b d = refl
changed-swap (Some o ∷ t) (suc n) zero a b d = refl
changed-swap (None ∷ t) (suc n) (suc k) a b d = ap (λ u. None ∷ u) (changed-swap t n k a b (λ e. d (ap (λ x. suc x) e)))
changed-swap (Some o ∷ t) (suc n) (suc k) a b d = ap (λ u. Some o ∷ u) (changed-swap t n k a b (λ e. d (ap (λ x. suc x) e)))

number_cases : (m n : ℕ) → (m ≡ n) ⊎ (m ≢ n)
number_cases m n = grind arith

-- a change of an object that leaves its kind and how many words it has, and those of kind Pointers as they are
pub record Keeps (f : Object → Object) : Type 0 where
  pub kind : (o : Object) → (f o).kind ≡ o.kind
  pub words : (o : Object) → words_of (f o) ≡ words_of o
  pub pointers : (o : Object) → is_pointers o.kind ≡ true → f o ≡ o

module _ (f : Object → Object) (k : Keeps f) where
  alike_itself : (x : Option Object) → Alike x x
  alike_itself None = refl
  alike_itself (Some o) = (o, refl, refl, λ e. refl)

  alike_changed : (t : Table) (n : ℕ) (x : Option Object) → entry t n ≡ x → Alike (entry t n) (entry (changed_object f t n x) n)
  alike_changed t n None e = alike_itself (entry t n)
  alike_changed t n (Some o) e = rw (e, changed-some t n (f o) o e) (f o, refl, k.kind o, k.pointers o)

  alike_other : (t : Table) (n j : ℕ) (x : Option Object) → j ≢ n → Alike (entry t j) (entry (changed_object f t n x) j)
  alike_other t n j None d = alike_itself (entry t j)
  alike_other t n j (Some o) d = rw (changed-other t n j (f o) d) (alike_itself (entry t j))

  alike_by : (v : Value) (t : Table) (n : ℕ) → Alike (entry t n) (entry (changed_by f t v) n)
  alike_by (Small i) t n = alike_itself (entry t n)
  alike_by (Ref i) t n = elim (number_cases n i) [ inl e ↦ rw e (alike_changed t i (entry t i) refl) | inr d ↦ alike_other t i n (entry t i) d ]

  stores_here : (t : Table) (n : ℕ) (o p : Object) → entry t n ≡ Some o → p.kind ≡ o.kind → is_pointers o.kind ≡ true → changed_by f (changed t n p) (Ref n) ≡ changed (changed_by f t (Ref n)) n p
  stores_here t n o p e q h =
      let a : f p ≡ p = k.pointers p (rw q h) in
      rw (changed-some t n p o e, e, a) (changed-again t n p p ∙ sym (changed-again t n (f o) p))

  stores_other : (t : Table) (n i : ℕ) (p : Object) (x : Option Object) → n ≢ i → changed_object f (changed t n p) i x ≡ changed (changed_object f t i x) n p
  stores_other t n i p None d = refl
  stores_other t n i p (Some a) d = changed-swap t n i p (f a) d

  stores_by : (v : Value) (t : Table) (n : ℕ) (o p : Object) → entry t n ≡ Some o → p.kind ≡ o.kind → is_pointers o.kind ≡ true → changed_by f (changed t n p) v ≡ changed (changed_by f t v) n p
  stores_by (Small i) t n o p e q h = refl
  stores_by (Ref i) t n o p e q h = elim (number_cases n i) [
    | inl j ↦ rw (← j) (stores_here t n o p e q h)
    | inr d ↦ rw (changed-other t n i p (λ j. d (sym j))) (stores_other t n i p (entry t i) d)
  ]

  total_changed : (weight : Object → ℕ) → ((o : Object) → weight (f o) ≡ weight o) → (t : Table) (n : ℕ) (x : Option Object) → entry t n ≡ x → total_used weight (changed_object f t n x) ≡ total_used weight t
  total_changed weight w t n None e = refl
  total_changed weight w t n (Some o) e = total-changed weight t n o (f o) e (w o)

  total_by : (weight : Object → ℕ) → ((o : Object) → weight (f o) ≡ weight o) → (v : Value) (t : Table) → total_used weight (changed_by f t v) ≡ total_used weight t
  total_by weight w (Small i) t = refl
  total_by weight w (Ref i) t = total_changed weight w t i (entry t i) refl

keeps_if : (c : Object → Bool) (f : Object → Object) → ((o : Object) → c o ≡ true → ((f o).kind ≡ o.kind) × (words_of (f o) ≡ words_of o)) → ((o : Object) → is_pointers o.kind ≡ true → c o ≡ false) → Keeps (λ o. if c o then f o else o)
keeps_if c f h p = record {
  kind = λ o. kind_of o (c o) refl;
  words = λ o. words o (c o) refl;
  pointers = λ o e. rw (p o e) refl;
}
  where
    kind_of : (o : Object) (b : Bool) → c o ≡ b → (if b then f o else o).kind ≡ o.kind
    kind_of o true e = (h o e).0
    kind_of o false e = refl

    words : (o : Object) (b : Bool) → c o ≡ b → words_of (if b then f o else o) ≡ words_of o
    words o true e = (h o e).1
    words o false e = refl

no_words : (k : Kind) → is_pointers k ≡ true → is_words k ≡ false
no_words kind.Pointers e = refl
no_words kind.Words e = cc
no_words kind.Bytes e = cc
no_words kind.Method e = cc

bytes_or_method : (k : Kind) → is_pointers k ≡ true → has_bytes k ≡ false
bytes_or_method kind.Pointers e = refl
bytes_or_method kind.Words e = cc
bytes_or_method kind.Bytes e = cc
bytes_or_method kind.Method e = cc

not_both : (a b : Bool) → a ≡ false → (a && b) ≡ false
not_both a b e = rw e refl

words-with_unit : (o : Object) (i x : ℕ) → words_of (object_with_unit o i x) ≡ words_of o
words-with_unit o i x = rw (length-set o.units i x) refl

word_keeps : (i x : ℕ) → Keeps (word_stored i x)
word_keeps i x = keeps_if (λ o. is_words o.kind) (λ o. object_with_unit o i x) (λ o e. (refl, words-with_unit o i x)) (λ o e. no_words o.kind e)

byte_keeps : (i x : ℕ) → Keeps (byte_stored i x)
byte_keeps i x = keeps_if (λ o. has_bytes o.kind && nat_le (first_unit o) i) (λ o. object_with_unit o (i - first_unit o) x) (λ o e. (refl, words-with_unit o _ x)) (λ o e. not_both _ _ (bytes_or_method o.kind e))

then_keeps : (f g : Object → Object) → Keeps f → Keeps g → Keeps (λ o. g (f o))
then_keeps f g h k = record {
  kind = λ o. k.kind (f o) ∙ h.kind o;
  words = λ o. k.words (f o) ∙ h.words o;
  pointers = λ o e. ap g (h.pointers o e) ∙ k.pointers o e;
}

bytes_keeps : (i : ℕ) (bs : List ℕ) → Keeps (bytes_stored i bs)
bytes_keeps i [] = record { kind = λ o. refl; words = λ o. refl; pointers = λ o e. refl }
bytes_keeps i (b ∷ bs) = then_keeps (byte_stored i b) (bytes_stored (suc i) bs) (byte_keeps i b) (bytes_keeps (suc i) bs)

bytes_alone : (k : Kind) → is_pointers k ≡ true → is_bytes k ≡ false
bytes_alone kind.Pointers e = refl
bytes_alone kind.Words e = cc
bytes_alone kind.Bytes e = cc
bytes_alone kind.Method e = cc

replaced_keeps : (i : ℕ) (bs : List ℕ) → Keeps (bytes_replaced i bs)
replaced_keeps i bs = keeps_if (λ o. is_bytes o.kind) (bytes_stored i bs) (λ o e. ((bytes_keeps i bs).kind o, (bytes_keeps i bs).words o)) (λ o e. bytes_alone o.kind e)

header_keeps : (x : Value) → Keeps (header_stored x)
header_keeps x = keeps_if (λ o. is_method o.kind && counts_literals x (slice_get o.fields 0)) (λ o. with_field o 0 x) (λ o e. (refl, words_of-with_field o 0 x)) (λ o e. not_both _ _ (no_method o.kind e))

literal_keeps : (i : ℕ) (x : Value) (known : Bool) → Keeps (literal_stored i x known)
literal_keeps i x known = keeps_if (λ o. is_method o.kind && known) (λ o. with_field o (i + 1) x) (λ o e. (refl, words_of-with_field o (i + 1) x)) (λ o e. not_both _ _ (no_method o.kind e))

-- what a deed reads besides of a table stays where a field is stored
bytes_stay : (t : Table) (n : ℕ) (o : Object) (i : ℕ) (x : Value) (v : Value) (from k : ℕ) → entry t n ≡ Some o → is_pointers o.kind ≡ true
    → bytes_from (changed t n (with_field o i x)) v from k ≡ bytes_from t v from k
bytes_stay t n o i x (Small j) from k e h = refl
bytes_stay t n o i x (Ref j) from k e h = elim (number_cases j n) [
  | inl q ↦ rw (q, changed-some t n (with_field o i x) o e, e, length-set o.fields i x) refl
  | inr d ↦ rw (changed-other t n j (with_field o i x) d) refl
]

there_stays : (t : Table) (n : ℕ) (o : Object) (i : ℕ) (x v : Value) → entry t n ≡ Some o → is_there table (changed t n (with_field o i x)) v ≡ is_there table t v
there_stays t n o i x (Small k) e = refl
there_stays t n o i x (Ref k) e = elim (number_cases k n) [
  | inl j ↦ rw (j, changed-some t n (with_field o i x) o e, e) refl
  | inr d ↦ rw (changed-other t n k (with_field o i x) d) refl
]

-- a world that stays as it is, or is changed where what is named is there

by_there : (v : Value) (f : World → World) (test : World → Bool) (t : Table) (n : ℕ) (o : Object) (i : ℕ) (x : Value) (w : World) → entry t n ≡ Some o
    → (if is_there table (changed t n (with_field o i x)) v && test w then f w else w) ≡ (if is_there table t v && test w then f w else w)
by_there v f test t n o i x w e = ap (λ b. if b && test w then f w else w) (there_stays t n o i x v e)

if_there : (v : Value) (f : World → World) (t : Table) (n : ℕ) (o : Object) (i : ℕ) (x : Value) (w : World) → entry t n ≡ Some o
    → (if is_there table (changed t n (with_field o i x)) v then f w else w) ≡ (if is_there table t v then f w else w)
if_there v f t n o i x w e = ap (λ b. if b then f w else w) (there_stays t n o i x v e)

-- a change of the world stays the same where a field is stored
world_stays : (d : Deed) (t : Table) (n : ℕ) (o : Object) (i : ℕ) (x : Value) (w : World) → entry t n ≡ Some o
    → world_done d (changed t n (with_field o i x)) w ≡ world_done d t w
world_stays (Hold d v) t n o i x w e = if_there (word v) (changed_world (surroundings.Hold d (word v))) t n o i x w e
world_stays (SetTimer v due) t n o i x w e = if_there (word v) (changed_twice (surroundings.Hold device.Timer (word v)) (surroundings.SetDue due)) t n o i x w e
world_stays (RingTimer v) t n o i x w e =
    by_there (word v) (changed_twice (surroundings.AddSignal (word v)) (surroundings.Hold device.Timer nil)) (λ w. nat_lt (length w.devices.pending) 4096) t n o i x w e
world_stays (SetLowSpace v entries words) t n o i x w e =
    if_there (word v) (changed_twice (surroundings.Hold device.LowSpace (word v)) (surroundings.SetLow entries words)) t n o i x w e
world_stays Nothing t n o i x w e = refl
world_stays (StoreWord v j y) t n o i x w e = refl
world_stays (StoreByte v j y) t n o i x w e = refl
world_stays (StoreNumber v k) t n o i x w e = refl
world_stays (ReplaceBytes v c to from k) t n o i x w e = refl
world_stays (StoreHeader v y) t n o i x w e = refl
world_stays (StoreLiteral v j y) t n o i x w e = refl
world_stays (StoreTime v time) t n o i x w e = refl
world_stays (MoveMouse a b) t n o i x w e = refl
world_stays (CopyBits v) t n o i x w e = refl
world_stays (TakeWord v k) t n o i x w e = refl

-- a change of one object that is kept, and no change of the world
pub kept_leaves : (f : Object → Object) → Keeps f → (v : Value) → LeavesPointers (λ t. changed_by f t v) (λ t w. w)
kept_leaves f k v = record {
  world = λ t n o i x w e. refl;
  alike = λ t n. alike_by f k v t n;
  stores = λ t n o i x e h. stores_by f k v t n o (with_field o i x) e refl h;
}

table_stays : (t : Table) (n : ℕ) → Alike (entry t n) (entry t n)
table_stays t n = alike_itself (λ o. o) (record { kind = λ o. refl; words = λ o. refl; pointers = λ o e. refl }) (entry t n)

by_leaves : (d : Deed) (f : Object → Object) (v : Value) → Keeps f → deed_done d ≡ (λ t. changed_by f t v) → LeavesPointers (deed_done d) (world_done d)
by_leaves d f v k q = record {
  world = world_stays d;
  alike = λ t n. subst (λ (g : Table → Table). Alike (entry t n) (entry (g t) n)) (sym q) (alike_by f k v t n);
  stores = λ t n o i x e h. subst (λ (g : Table → Table). g (changed t n (with_field o i x)) ≡ changed (g t) n (with_field o i x)) (sym q) (stores_by f k v t n o (with_field o i x) e refl h);
}

table_leaves : (d : Deed) → deed_done d ≡ (λ t. t) → LeavesPointers (deed_done d) (world_done d)
table_leaves d q = record {
  world = world_stays d;
  alike = λ t n. subst (λ (g : Table → Table). Alike (entry t n) (entry (g t) n)) (sym q) (table_stays t n);
  stores = λ t n o i x e h. subst (λ (g : Table → Table). g (changed t n (with_field o i x)) ≡ changed (g t) n (with_field o i x)) (sym q) refl;
}

-- the words of an object of kind Words become these, where they are as many
pub words_replaced : List ℕ → Object → Object
words_replaced us o = if is_words o.kind && (length us == length o.units) then with_units o us else o

second : (a b : Bool) → (a && b) ≡ true → b ≡ true
second true b e = e
second false b e = cc

words-with_units : (us : List ℕ) (o : Object) → (length us == length o.units) ≡ true → words_of (with_units o us) ≡ words_of o
words-with_units us o e = let l : length us ≡ length o.units = grind (arith, nat_tests) in rw l refl

pub words_keep : (us : List ℕ) → Keeps (words_replaced us)
unfolding words_replaced
words_keep us = keeps_if (λ o. is_words o.kind && (length us == length o.units)) (λ o. with_units o us) (λ o e. (refl, words-with_units us o (second _ _ e))) (λ o e. not_both _ _ (no_words o.kind e))

-- where pixels are copied, the words of one object become others; where the copy can't be read, the table stays
module _ (t : Table) (v : Value) (c : Copy) (reads : Reads (read_copy table v) itself t (Ok c)) where
  pub painting : Target t v c
  painting = target t v c reads

  pub painted-by : table_after (copy_bits table v) t ≡ changed_by (words_replaced (painted c)) t (Ref painting.place)
  unfolding words_replaced
  painted-by =
      let l : (length (painted c) == length painting.object.units) ≡ true = let e = painting.size in grind (arith, nat_tests) in
      rw (painting.found, painting.kind, l) (table-painted t v c painting reads)

copies_alike : (t : Table) (v : Value) (n : ℕ) (r : Result Copy Dead) → Reads (read_copy table v) itself t r → Alike (entry t n) (entry (table_after (copy_bits table v) t) n)
copies_alike t v n (Ok c) h = rw (painted-by t v c h) (alike_by (words_replaced (painted c)) (words_keep (painted c)) (Ref (painting t v c h).place) t n)
copies_alike t v n (Err cause) h = rw (table-refused t v cause h) (table_stays t n)

-- each deed leaves objects of kind Pointers, and one that copies no pixels looks at none
pub deed_leaves : (d : Deed) → copies_pixels d ≡ false → LeavesPointers (deed_done d) (world_done d)
deed_leaves Nothing plain = table_leaves Nothing refl
deed_leaves (StoreWord o i x) plain = by_leaves (StoreWord o i x) (word_stored i x) (word o) (word_keeps i x) refl
deed_leaves (StoreByte o i x) plain = by_leaves (StoreByte o i x) (byte_stored i x) (word o) (byte_keeps i x) refl
deed_leaves (StoreNumber o k) plain = by_leaves (StoreNumber o k) (bytes_stored 0 (bytes_of_number k)) (word o) (bytes_keeps 0 (bytes_of_number k)) refl
deed_leaves (StoreTime o time) plain = by_leaves (StoreTime o time) (bytes_stored 0 (four_bytes time)) (word o) (bytes_keeps 0 (four_bytes time)) refl
deed_leaves (TakeWord o k) plain = by_leaves (TakeWord o k) (bytes_stored 0 (bytes_of_number k)) (word o) (bytes_keeps 0 (bytes_of_number k)) refl
deed_leaves (Hold d o) plain = table_leaves (Hold d o) refl
deed_leaves (SetTimer o due) plain = table_leaves (SetTimer o due) refl
deed_leaves (RingTimer o) plain = table_leaves (RingTimer o) refl
deed_leaves (SetLowSpace o entries words) plain = table_leaves (SetLowSpace o entries words) refl
deed_leaves (MoveMouse x y) plain = table_leaves (MoveMouse x y) refl
deed_leaves (CopyBits o) plain = cc
deed_leaves (ReplaceBytes o c to from count) plain =
    let f : List ℕ → Object → Object = λ vs. bytes_replaced to vs in
    record {
      world = world_stays (ReplaceBytes o c to from count);
      alike = λ t n. alike_by (f (bytes_from t (word c) from count)) (replaced_keeps to (bytes_from t (word c) from count)) (word o) t n;
      stores = λ t n q i x e h.
          ap (λ vs. changed_by (f vs) (changed t n (with_field q i x)) (word o)) (bytes_stay t n q i x (word c) from count e h)
          ∙ stores_by (f (bytes_from t (word c) from count)) (replaced_keeps to (bytes_from t (word c) from count)) (word o) t n q (with_field q i x) e refl h;
    }
deed_leaves (StoreHeader o x) plain = by_leaves (StoreHeader o x) (header_stored (word x)) (word o) (header_keeps (word x)) refl
deed_leaves (StoreLiteral o j y) plain =
    let f : Bool → Object → Object = λ b. literal_stored j (word y) b in
    record {
      world = world_stays (StoreLiteral o j y);
      alike = λ t n. alike_by (f (is_there table t (word y))) (literal_keeps j (word y) _) (word o) t n;
      stores = λ t n q i x e h.
          ap (λ b. changed_by (f b) (changed t n (with_field q i x)) (word o)) (there_stays t n q i x (word y) e)
          ∙ stores_by (f (is_there table t (word y))) (literal_keeps j (word y) _) (word o) t n q (with_field q i x) e refl h;
    }

the_copy : (d : Deed) → copies_pixels d ≡ true → (r : Word) × (d ≡ CopyBits r)
the_copy (CopyBits r) e = (r, refl)
the_copy d e = cc

-- of each object its kind stays, and all of one of kind Pointers
pub deed_alike : (d : Deed) (t : Table) (n : ℕ) → Alike (entry t n) (entry (deed_done d t) n)
deed_alike d t n = by_copy (copies_pixels d) refl
  where
    by_copy : (b : Bool) → copies_pixels d ≡ b → Alike (entry t n) (entry (deed_done d t) n)
    by_copy false e = (deed_leaves d e).alike t n
    by_copy true e =
        let r = the_copy d e in
        let x = copy_read (word r.0) t in
        subst (λ (f : Deed). Alike (entry t n) (entry (deed_done f t) n)) (sym r.1) (copies_alike t (word r.0) n x.0 x.1)

module _ (weight : Object → ℕ) (w : (f : Object → Object) → Keeps f → (o : Object) → weight (f o) ≡ weight o) where
  by_keeps : (f : Object → Object) (v : Value) (t : Table) → Keeps f → total_used weight (changed_by f t v) ≡ total_used weight t
  by_keeps f v t k = total_by f k weight (w f k) v t

  copies_total : (t : Table) (v : Value) (r : Result Copy Dead) → Reads (read_copy table v) itself t r → total_used weight (table_after (copy_bits table v) t) ≡ total_used weight t
  copies_total t v (Ok c) h = ap (λ u. total_used weight u) (painted-by t v c h) ∙ by_keeps (words_replaced (painted c)) (Ref (painting t v c h).place) t (words_keep (painted c))
  copies_total t v (Err cause) h = ap (λ u. total_used weight u) (table-refused t v cause h)

  deed_total : (d : Deed) (t : Table) → total_used weight (deed_done d t) ≡ total_used weight t
  deed_total Nothing t = refl
  deed_total (StoreWord o i x) t = by_keeps _ _ t (word_keeps i x)
  deed_total (StoreByte o i x) t = by_keeps _ _ t (byte_keeps i x)
  deed_total (StoreNumber o k) t = by_keeps _ _ t (bytes_keeps 0 (bytes_of_number k))
  deed_total (ReplaceBytes o c to from count) t = by_keeps _ _ t (replaced_keeps to (bytes_from t (word c) from count))
  deed_total (StoreTime o time) t = by_keeps _ _ t (bytes_keeps 0 (four_bytes time))
  deed_total (TakeWord o k) t = by_keeps _ _ t (bytes_keeps 0 (bytes_of_number k))
  deed_total (Hold d o) t = refl
  deed_total (SetTimer o due) t = refl
  deed_total (RingTimer o) t = refl
  deed_total (SetLowSpace o entries words) t = refl
  deed_total (MoveMouse x y) t = refl
  deed_total (CopyBits r) t = let x = copy_read (word r) t in copies_total t (word r) x.0 x.1
  deed_total (StoreHeader o x) t = by_keeps _ _ t (header_keeps (word x))
  deed_total (StoreLiteral o i x) t = by_keeps _ _ t (literal_keeps i (word x) _)

-- a deed makes nothing: entries and words are as before
pub deed_uses : (d : Deed) (t : Table) → used table (deed_done d t) ≡ used table t
deed_uses d t =
    let e = deed_total one (λ f k o. refl) d t in
    let n = deed_total words_of (λ f k o. k.words o) d t in
    λ i. record { entries = e i; words = n i }

-- and leaves there what is there
pub deed_leaves_there : (d : Deed) (t : Table) (x : Value) → is_there table (deed_done d t) x ≡ is_there table t x
deed_leaves_there d t (Small n) = refl
deed_leaves_there d t (Ref n) = there_alike (entry t n) (entry (deed_done d t) n) (deed_alike d t n)
