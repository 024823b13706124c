-- The objects of an image refer to nothing but what is there.
use Rattle.std.proofs.Common.{◌≡◌, ◌≢◌, ℕ, zero, suc, ◌+◌, ◌-◌, ◌*◌, ◌/◌, ◌%◌, ◌<◌, ◌≤◌, ◌⊎◌, Bool, true, false, cond, ◌&&◌, ◌||◌, ◌==◌, nat_lt, List, get_or, arith, refl, sym, subst, ap, ◌∙◌, inl, inr, Option, Some, None, is_some}
use Rattle.std.specs.Prelude.{nat_le}
use Rattle.std.proofs.lemmas.Bool.{cases_lt, cases_eq, both_ways, cases_Bool, and_from, or_left, or_right, lt-ltb, le-leb, eq-eqb, ne_eqb, eqb-false, not-false}
use Rattle.std.proofs.lemmas.List.{length-replicate}
use Rattle.st_model.proofs.Made.{length-made, get_or-made}
use Rattle.st_model.specs.Lists.{made}
use Rattle.std.proofs.lemmas.List.{get_or_past}
use Rattle.st_model.specs.declared.kind.Kind.{Kind}
use Rattle.st_model.specs.declared.kind.Kind.TheVariants as kind
use Rattle.st_model.specs.declared.head.ImageHead.{ImageHead}
use Rattle.st_model.specs.Values.{Value, Small, Ref, value_of, IsLive, AllLive}
use Rattle.st_model.specs.Objects.{Object, place_of, is_pointers, is_method, IsLiveObject}
use Rattle.st_model.specs.Machine.{Head}
use Rattle.st_model.specs.Table.{Table, entry}
use Rattle.st_model.specs.Show.{IsUsed}
use Rattle.st_model.specs.View.{View, Held, IsComplete, is_live, empty_view, table_of}
use Rattle.st_model.specs.Image.{entries_of, has_pointers, is_used, size, class, body, names, literal_count}
use Rattle.st_model.specs.Start.{kind_in, has_words, fields_in, field_in, field_count, object_in, entry_in, machine_head, start_view}
use Rattle.st_model.specs.Faults.{field_fails, is_field}
use Rattle.st_image.specs.inside.Rows.{IsCleanBelow}
use Rattle.st_image.specs.inside.Loads.{IsSound, IsEmpty}
use Rattle.st_image.proofs.FaultRows.{beyond, named, named_even, named_used, used_below_end}
use Rattle.st_image.proofs.Shapes.{kind_method}
use Rattle.st_image.proofs.Clean.{clean_sound, clean_field, clean_page, clean_globals, clean_symbols}
use Rattle.st_image.proofs.Entries.{entry_used, entry_free}
use Rattle.st_model.proofs.Entries.{entry-get}
use Rattle.st_model.proofs.LoadingLemmas.{entry-none}

-- TABLES

pub empty_is_empty : (head : Head) → IsEmpty (empty_view head).objects
unfolding empty_view
empty_is_empty head = let nothing : Option Object = None in record { places = length-replicate 32768 nothing; free = entry-none 32768 }

pub empty-head : (head : Head) → (empty_view head).head ≡ head
unfolding empty_view
empty-head head = refl

made_at : (f : ℕ → Option Object) (n k : ℕ) → ((n ≤ k) → f k ≡ None) → entry (made f n) k ≡ f k
made_at f n k past = entry-get (made f n) k ∙ last (cases_lt k n)
  where
    last : ((k < n) ⊎ (n ≤ k)) → get_or (made f n) k None ≡ f k
    last (inl e) = get_or-made f n k None e
    last (inr e) = get_or_past (made f n) k None (let a = length-made f n in omega arith) ∙ sym (past e)

-- each place of the table has what the image's entry gives
pub entries_at : (h : ImageHead) (bytes : List ℕ) (t : Table) → entries_of h ≤ 32768 → t ≡ made (entry_in h bytes) 32768 → (k : ℕ) → entry t k ≡ entry_in h bytes k
entries_at h bytes t few e k =
    ap (λ (x : Table). entry x k) e ∙ made_at (entry_in h bytes) 32768 k (λ past. entry_free h bytes k (beyond h bytes k (omega arith)))

-- OBJECTS

abbrev pub AreEntries : ImageHead → List ℕ → Table → Type 0
AreEntries h bytes t = (k : ℕ) → entry t k ≡ entry_in h bytes k

used_is : (h : ImageHead) (bytes : List ℕ) (t : Table) → AreEntries h bytes t → (k : ℕ) → is_used h bytes k ≡ true → IsUsed t k
used_is h bytes t are k used = (object_in h bytes k, are k ∙ entry_used h bytes k used)

live_is : (h : ImageHead) (bytes : List ℕ) (t : Table) → AreEntries h bytes t → (k : ℕ) → is_used h bytes k ≡ true → is_live t (Ref k) ≡ true
unfolding is_live
live_is h bytes t are k used = ap is_some (are k ∙ entry_used h bytes k used)

all_made : (live : ℕ → Type 0) (f : ℕ → Value) (n : ℕ) → ((i : ℕ) → i < n → IsLive live (f i)) → AllLive live (made f n)
all_made live f zero each = tt
all_made live f (suc n) each = (each 0 (omega arith), all_made live (λ k. f (suc k)) n (λ i below. each (suc i) (omega arith)))

even_from : (n : ℕ) → (n % 2 == 1) ≡ false → n % 2 ≡ 0
even_from n e = last (cases_eq (n % 2) 1) (eqb-false _ _ e)
  where
    last : ((n % 2 ≡ 1) ⊎ (n % 2 ≡ 1 → ⊥)) → (n % 2 ≡ 1 → ⊥) → n % 2 ≡ 0
    last (inl z) a = absurd (a z)
    last (inr z) a = omega arith

-- the value of a word that is odd or names what lives
value_live : (live : ℕ → Type 0) (w : ℕ) → (w % 2 ≡ 0 → live (w / 2)) → IsLive live (value_of w)
unfolding value_of
value_live live w names = last (cases_Bool (w % 2 == 1))
  where
    last : (((w % 2 == 1) ≡ true) ⊎ ((w % 2 == 1) ≡ false)) → IsLive live (cond (w % 2 == 1) (Small (w / 2)) (Ref (w / 2)))
    last (inl e) = rw e tt
    last (inr e) = rw e (names (even_from w e))

kind_pointers : (h : ImageHead) (bytes : List ℕ) (k : ℕ) → is_pointers (kind_in h bytes k) ≡ true → has_pointers h bytes k ≡ true
unfolding kind_in
kind_pointers h bytes k e = last (has_pointers h bytes k) (class h bytes k == 34) (has_words h bytes k) e
  where
    last : (p c w : Bool) → is_pointers (cond p kind.Pointers (cond c kind.Method (cond w kind.Words kind.Bytes))) ≡ true → p ≡ true
    last true c w e = refl
    last false true w e = absurd (both_ways false refl e)
    last false false true e = absurd (both_ways false refl e)
    last false false false e = absurd (both_ways false refl e)

-- a field of the object is a header, or a field of which the row speaks
field_or_header : (h : ImageHead) (bytes : List ℕ) (k i : ℕ) → IsSound h bytes k → i < fields_in h bytes k
    → (body h bytes k i % 2 ≡ 1) ⊎ (is_field h bytes k i ≡ true)
unfolding fields_in is_field
field_or_header h bytes k i sound i_in = last (kind_in h bytes k) (kind_pointers h bytes k) (kind_method h bytes k) sound.header sound.literals i_in (cases_eq i 0)
  where
    last : (K : Kind) → (is_pointers K ≡ true → has_pointers h bytes k ≡ true) → (is_method K ≡ true → (class h bytes k == 34) ≡ true)
        → (is_method K ≡ true → body h bytes k 0 % 2 ≡ 1) → (is_method K ≡ true → literal_count (body h bytes k 0) + 3 ≤ size h bytes k)
        → i < field_count K (size h bytes k - 2) (literal_count (body h bytes k 0)) → ((i ≡ 0) ⊎ (i ≡ 0 → ⊥))
        → (body h bytes k i % 2 ≡ 1) ⊎ ((nat_lt i (size h bytes k - 2) && (has_pointers h bytes k || ((class h bytes k == 34) && (nat_lt 0 i && nat_le i (literal_count (body h bytes k 0)))))) ≡ true)
    last kind.Pointers pointers method header literals i_in z = inr (and_from _ _ (lt-ltb _ _ i_in) (or_left _ _ (pointers refl)))
    last kind.Words pointers method header literals i_in z = absurd (omega arith)
    last kind.Bytes pointers method header literals i_in z = absurd (omega arith)
    last kind.Method pointers method header literals i_in (inl z) = inl (rw z (header refl))
    last kind.Method pointers method header literals i_in (inr z) =
        let l = literals refl in
        inr (and_from _ _ (lt-ltb i (size h bytes k - 2) (omega arith)) (or_right _ _ (and_from _ _ (method refl)
        (and_from _ _ (lt-ltb 0 i (omega arith)) (le-leb i (literal_count (body h bytes k 0)) (omega arith))))))

field_names : (h : ImageHead) (bytes : List ℕ) (k i : ℕ) → IsCleanBelow h bytes 10 → is_used h bytes k ≡ true → is_field h bytes k i ≡ true → body h bytes k i % 2 ≡ 0
    → names h bytes (body h bytes k i) ≡ true
unfolding field_fails
field_names h bytes k i clean used field even =
    let a : field_fails h bytes k i ≡ false = clean_field h bytes clean k i in
    let b : (body h bytes k i % 2 == 0) ≡ true = eq-eqb _ _ even in
    not-false _ (rw (used, field, b) at a)

-- what an entry's object refers to is there
object_live : (h : ImageHead) (bytes : List ℕ) (t : Table) → IsCleanBelow h bytes 10 → AreEntries h bytes t → (k : ℕ) → is_used h bytes k ≡ true
    → IsLiveObject (IsUsed t) (object_in h bytes k)
unfolding object_in field_in
object_live h bytes t clean are k used =
    let sound = clean_sound h bytes clean k (used_below_end h bytes k used) used in
    record {
      class = used_is h bytes t are (class h bytes k / 2) (named_used h bytes _ sound.class_used);
      fields = all_made (IsUsed t) (λ i. value_of (body h bytes k i)) (fields_in h bytes k) (λ i below.
          value_live (IsUsed t) (body h bytes k i) (λ even. field_live i (field_or_header h bytes k i sound (omega arith)) even));
    }
  where
    field_live : (i : ℕ) → ((body h bytes k i % 2 ≡ 1) ⊎ (is_field h bytes k i ≡ true)) → body h bytes k i % 2 ≡ 0 → IsUsed t (body h bytes k i / 2)
    field_live i (inl odd) even = absurd (omega arith)
    field_live i (inr field) even = used_is h bytes t are (body h bytes k i / 2) (named_used h bytes _ (field_names h bytes k i clean used field even))

entry_is : (h : ImageHead) (bytes : List ℕ) (k : ℕ) (o : Object) → entry_in h bytes k ≡ Some o → (is_used h bytes k ≡ true) × (object_in h bytes k ≡ o)
unfolding entry_in
entry_is h bytes k o e = last (is_used h bytes k) refl e
  where
    last : (b : Bool) → is_used h bytes k ≡ b → cond b (Some (object_in h bytes k)) None ≡ Some o → (is_used h bytes k ≡ true) × (object_in h bytes k ≡ o)
    last true u e = (u, cc)
    last false u e = cc

-- a table of names, where there is one, is there
table_live : (h : ImageHead) (bytes : List ℕ) (t : Table) → AreEntries h bytes t → (p : ℕ) → (p ≢ 0 → names h bytes p ≡ true)
    → (x : Value) → table_of p ≡ Some x → is_live t x ≡ true
unfolding value_of
table_live h bytes t are p there x e = last (cases_eq p 0)
  where
    last : ((p ≡ 0) ⊎ (p ≡ 0 → ⊥)) → is_live t x ≡ true
    last (inl z) = let a : None ≡ Some x = rw (eq-eqb p 0 z) at e in cc
    last (inr z) =
        let n = there z in
        let even : (p % 2 == 1) ≡ false = ne_eqb _ _ (λ odd. let b = named_even h bytes p n in omega arith) in
        let a : Some (Ref (p / 2)) ≡ Some x = rw (ne_eqb p 0 z, even) at e in
        let b : Ref (p / 2) ≡ x = cc in
        subst (λ (y : Value). is_live t y ≡ true) b (live_is h bytes t are (p / 2) (named_used h bytes p n))

pub complete : (h : ImageHead) (bytes : List ℕ) (v : View) → IsCleanBelow h bytes 10 → AreEntries h bytes v.objects → v.head ≡ machine_head h → IsComplete v
complete h bytes v clean are head = record {
  objects = λ k o e.
      let a = entry_is h bytes k o (sym (are k) ∙ e) in
      subst (λ (x : Object). IsLiveObject (IsUsed v.objects) x) a.1 (object_live h bytes v.objects clean are k a.0);
  page = λ q.
      let e : 2 * place_of q / 2 ≡ place_of q = omega arith in
      subst (λ (x : ℕ). is_live v.objects (Ref x) ≡ true) e (live_is h bytes v.objects are (2 * place_of q / 2) (named_used h bytes _ (clean_page h bytes clean q)));
  globals = λ x e. table_live h bytes v.objects are h.globals (clean_globals h bytes clean) x (sym (ap (λ (a : Head). a.globals) head) ∙ e);
  symbols = λ x e. table_live h bytes v.objects are h.symbols (clean_symbols h bytes clean) x (sym (ap (λ (a : Head). a.symbols) head) ∙ e);
}

-- the view at the end
pub is_start : (h : ImageHead) (bytes : List ℕ) (v w : View) → w ≡ empty_view (machine_head h) → v.objects ≡ made (entry_in h bytes) 32768 → v.held ≡ w.held → v.head ≡ w.head → v ≡ start_view h bytes
unfolding start_view
is_start h bytes v w empty objects held head =
    ap (λ (x : Table). let u : View = record { objects = x; held = v.held; head = v.head } in u) objects
    ∙ (ap (λ (x : Held). let u : View = record { objects = made (entry_in h bytes) 32768; held = x; head = v.head } in u) (held ∙ ap (λ (u : View). u.held) empty)
    ∙ ap (λ (x : Head). let u : View = record { objects = made (entry_in h bytes) 32768; held = (empty_view (machine_head h)).held; head = x } in u) (head ∙ ap (λ (u : View). u.head) empty))

-- a pointer that the head gives has 16 bits
pub pointer_small : (h : ImageHead) (bytes : List ℕ) (p : ℕ) → entries_of h ≤ 32768 → (p ≢ 0 → names h bytes p ≡ true) → p < 65536
pointer_small h bytes p table there = last (cases_eq p 0)
  where
    last : ((p ≡ 0) ⊎ (p ≡ 0 → ⊥)) → p < 65536
    last (inl z) = omega arith
    last (inr z) = let a = named h bytes p (there z) in omega arith
