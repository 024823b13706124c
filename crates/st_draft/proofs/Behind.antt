-- Objects that are made behind a table.
use Rattle.std.proofs.Common.{◌≡◌, ℕ, ◌+◌, ◌-◌, ◌*◌, ◌/◌, ◌<◌, ◌≤◌, zero, suc, true, false, Bool, List, [], ◌∷◌, ◌++◌, length, take, drop, set, refl, sym, ap, ◌∙◌, subst, arith, append_assoc}
use Rattle.std.specs.Prelude.{slice_index_or, unwrap_or, Option, Some, None, if◌then◌else◌}
use Rattle.std.proofs.lemmas.List.{length-take, length-map, length-append}
use Rattle.st_model.specs.Values.{Value, Small, Ref, word, value_of, is_small}
use Rattle.st_model.specs.Objects.{Object, is_pointers, with_field, one, words_of}
use Rattle.st_model.specs.Table.{Table, entry, changed, joined, total_used}
use Rattle.st_model.specs.View.{nothing, object_of, with_stored}
use Rattle.st_model.proofs.Pointers.{value_of-even, value_of-pointer}
use Rattle.st_model.proofs.WholeLemmas.{total_used-changed}
use Rattle.st_model.proofs.FormedLemmas.{words_of-with_field}
use Rattle.st_memory.specs.declared.made.Made.{Made}
use Rattle.st_draft.specs.declared.change.Change.{Change}
use Rattle.st_draft.specs.declared.notes.Notes.{Notes}
use Rattle.st_draft.specs.declared.change.Change.TheVariants.{Field, Fields}
use Rattle.st_draft.specs.inside.Drafts.{made_table, with_made, draft_table, written, all_written, pointer_fields, after_change, no_change, replayed, named_object, highest}
use Rattle.st_memory.specs.inside.Making.{made_object}
use Rattle.st_model.proofs.TableLemmas.{entry_past, length-changed}

-- tables end to end

pub entry_left : (t u : Table) (k : ℕ) → k < length t → entry (t ++ u) k ≡ entry t k
entry_left [] u k l = absurd (omega (arith, l))
entry_left (e ∷ t) u zero l = refl
entry_left (e ∷ t) u (suc k) l = entry_left t u k (omega (arith, l))

entry_right : (t u : Table) (k : ℕ) → entry (t ++ u) (length t + k) ≡ entry u k
entry_right [] u k = let e : 0 + k ≡ k = omega arith in ap (entry u) e
entry_right (e ∷ t) u k = let q : suc (length t) + k ≡ suc (length t + k) = omega arith in ap (entry (e ∷ (t ++ u))) q ∙ entry_right t u k

entry_made : (ms : List Made) (n k : ℕ) (d : Made) → k < n → k < length ms → entry (made_table (take n ms)) k ≡ Some (made_object (slice_index_or ms k d))
entry_made [] n k d l m = absurd (omega (arith, m))
entry_made (m ∷ ms) zero k d l h = absurd (omega (arith, l))
entry_made (m ∷ ms) (suc n) zero d l h = refl
entry_made (m ∷ ms) (suc n) (suc k) d l h = entry_made ms n k d (omega (arith, l)) (omega (arith, h))

length-made : (ms : List Made) (n : ℕ) → n ≤ length ms → length (made_table (take n ms)) ≡ n
length-made ms n l = length-map (take n ms) (λ m. Some (made_object m)) ∙ length-take n ms ∙ omega (arith, l)

module _ (t : Table) (ms : List Made) (n : ℕ) (few : n ≤ length ms) where
  pub length-with_made : length (with_made t ms n) ≡ length t + n
  length-with_made = length-append t (made_table (take n ms)) ∙ ap (λ k. length t + k) (length-made ms n few)

  -- before the made objects the table is as it was
  pub base_entry : (k : ℕ) → k < length t → entry (with_made t ms n) k ≡ entry t k
  base_entry k l = entry_left t (made_table (take n ms)) k l

  pub made_entry : (k : ℕ) (d : Made) → k < n → entry (with_made t ms n) (length t + k) ≡ Some (made_object (slice_index_or ms k d))
  made_entry k d l = entry_right t (made_table (take n ms)) k ∙ entry_made ms n k d l (omega (arith, l, few))

  -- and behind them there is none
  pub no_entry : (k : ℕ) → length t + n ≤ k → entry (with_made t ms n) k ≡ None
  no_entry k l = let e = length-with_made in entry_past (with_made t ms n) k (omega (arith, l, e))

-- one object more

joined_append : (t : Table) (o : Object) → joined t o ≡ t ++ (Some o ∷ [])
joined_append [] o = refl
joined_append (e ∷ t) o = ap (λ u. e ∷ u) (joined_append t o)

take_more : (ms : List Made) (n : ℕ) (m : Made) → n < length ms → take (suc n) (set ms n m) ≡ take n ms ++ (m ∷ [])
take_more [] n m l = absurd (omega (arith, l))
take_more (a ∷ ms) zero m l = refl
take_more (a ∷ ms) (suc n) m l = ap (λ xs. a ∷ xs) (take_more ms n m (omega (arith, l)))

map_more : (xs : List Made) (m : Made) → made_table (xs ++ (m ∷ [])) ≡ made_table xs ++ (Some (made_object m) ∷ [])
map_more [] m = refl
map_more (x ∷ xs) m = ap (λ u. Some (made_object x) ∷ u) (map_more xs m)

pub with_made_more : (t : Table) (ms : List Made) (n : ℕ) (m : Made) → n < length ms → with_made t (set ms n m) (n + 1) ≡ joined (with_made t ms n) (made_object m)
with_made_more t ms n m l =
    let e : n + 1 ≡ suc n = omega arith in
    ap (λ k. t ++ made_table (take k (set ms n m))) e
    ∙ ap (λ xs. t ++ made_table xs) (take_more ms n m l)
    ∙ ap (λ u. t ++ u) (map_more (take n ms) m)
    ∙ sym (append_assoc t (made_table (take n ms)) (Some (made_object m) ∷ []))
    ∙ sym (joined_append (with_made t ms n) (made_object m))

-- changes of objects that are there, before and after one more is made

pub entry_joined : (t : Table) (o : Object) (k : ℕ) → k < length t → entry (joined t o) k ≡ entry t k
entry_joined [] o k l = absurd (omega (arith, l))
entry_joined (e ∷ t) o zero l = refl
entry_joined (e ∷ t) o (suc k) l = entry_joined t o k (omega (arith, l))

pub changed_joined : (t : Table) (o a : Object) (k : ℕ) → k < length t → changed (joined t o) k a ≡ joined (changed t k a) o
changed_joined [] o a k l = absurd (omega (arith, l))
changed_joined (None ∷ t) o a zero l = refl
changed_joined (Some b ∷ t) o a zero l = refl
changed_joined (None ∷ t) o a (suc k) l = ap (λ u. None ∷ u) (changed_joined t o a k (omega (arith, l)))
changed_joined (Some b ∷ t) o a (suc k) l = ap (λ u. Some b ∷ u) (changed_joined t o a k (omega (arith, l)))

-- the value names nothing from n on
abbrev IsBelow : ℕ → Value → Type 0
IsBelow n (Small k) = Unit {0}
IsBelow n (Ref k) = k < n

object_joined : (t : Table) (o : Object) (v : Value) → IsBelow (length t) v → object_of (joined t o) v ≡ object_of t v
unfolding object_of
object_joined t o (Small k) below = refl
object_joined t o (Ref k) below = ap (λ e. unwrap_or e nothing) (entry_joined t o k below)

stored_joined : (t : Table) (o : Object) (v : Value) (i : ℕ) (x : Value) → IsBelow (length t) v → with_stored (joined t o) v i x ≡ joined (with_stored t v i x) o
unfolding with_stored
stored_joined t o (Small k) i x below = refl
stored_joined t o (Ref k) i x below = ap (λ a. changed (joined t o) k (with_field a i x)) (object_joined t o (Ref k) below) ∙ changed_joined t o (with_field (object_of t (Ref k)) i x) k below

choose_joined : (b : Bool) (u t : Table) (o : Object) → (if b then joined u o else joined t o) ≡ joined (if b then u else t) o
choose_joined true u t o = refl
choose_joined false u t o = refl

written_joined : (t : Table) (o : Object) (v : Value) (i : ℕ) (x : Value) → IsBelow (length t) v → written (joined t o) v i x ≡ joined (written t v i x) o
unfolding written
written_joined t o v i x below =
    ap (λ (a : Object). if is_pointers a.kind then with_stored (joined t o) v i x else joined t o) (object_joined t o v below)
    ∙ ap (λ u. if is_pointers (object_of t v).kind then u else joined t o) (stored_joined t o v i x below)
    ∙ choose_joined (is_pointers (object_of t v).kind) (with_stored t v i x) t o

length_stored : (t : Table) (v : Value) (i : ℕ) (x : Value) → length (with_stored t v i x) ≡ length t
unfolding with_stored
length_stored t (Small k) i x = refl
length_stored t (Ref k) i x = length-changed t k (with_field (object_of t (Ref k)) i x)

length_written : (t : Table) (v : Value) (i : ℕ) (x : Value) → length (written t v i x) ≡ length t
unfolding written
length_written t v i x = by_kind (is_pointers (object_of t v).kind)
  where
    by_kind : (b : Bool) → length (if b then with_stored t v i x else t) ≡ length t
    by_kind true = length_stored t v i x
    by_kind false = refl

below_same : (m n : ℕ) (v : Value) → m ≡ n → IsBelow m v → IsBelow n v
below_same m n v e below = subst (λ k. IsBelow k v) e below

all_written_joined : (xs : List Value) (t : Table) (o : Object) (v : Value) (i : ℕ) → IsBelow (length t) v → all_written (joined t o) v i xs ≡ joined (all_written t v i xs) o
unfolding all_written
all_written_joined [] t o v i below = refl
all_written_joined (x ∷ xs) t o v i below =
    ap (λ u. all_written u v (suc i) xs) (written_joined t o v i x below)
    ∙ all_written_joined xs (written t v i x) o v (suc i) (below_same (length t) (length (written t v i x)) v (sym (length_written t v i x)) below)

length_all_written : (xs : List Value) (t : Table) (v : Value) (i : ℕ) → length (all_written t v i xs) ≡ length t
unfolding all_written
length_all_written [] t v i = refl
length_all_written (x ∷ xs) t v i = length_all_written xs (written t v i x) v (suc i) ∙ length_written t v i x

word_if : (w n : ℕ) (b : Bool) → w < 2 * n → IsBelow n (if b then Small (w / 2) else Ref (w / 2))
word_if w n true l = tt
word_if w n false l = omega (arith, l)

word_below : (w n : ℕ) → w < 2 * n → IsBelow n (value_of w)
unfolding value_of
word_below w n l = word_if w n _ l

pub length_after : (t : Table) (c : Change) → length (after_change t c) ≡ length t
unfolding after_change
length_after t (Field object at value) = length_written t (word object) at (word value)
length_after t (Fields n source from target to) = length_all_written (take n (drop from (pointer_fields t (word source)))) t (word target) to

after_joined : (t : Table) (o : Object) (c : Change) → highest c < 2 * length t → after_change (joined t o) c ≡ joined (after_change t c) o
unfolding after_change
after_joined t o (Field object at value) l = written_joined t o (word object) at (word value) (word_below object.0 (length t) l)
after_joined t o (Fields n source from target to) l =
    let s : source.0 < 2 * length t = omega (arith, l) in
    let d : target.0 < 2 * length t = omega (arith, l) in
    ap (λ (a : Object). all_written (joined t o) (word target) to (take n (drop from (if is_pointers a.kind then a.fields else [])))) (object_joined t o (word source) (word_below source.0 (length t) s))
    ∙ all_written_joined (take n (drop from (pointer_fields t (word source)))) t o (word target) to (word_below target.0 (length t) d)

pub length_replayed : (t : Table) (cs : List Change) (k : ℕ) → length (replayed t cs k) ≡ length t
unfolding replayed
length_replayed t cs zero = refl
length_replayed t cs (suc k) = length_after (replayed t cs k) (slice_index_or cs k no_change) ∙ length_replayed t cs k

-- the changes are the same where one more object was made before them
pub replayed_joined : (t : Table) (o : Object) (cs : List Change) (k : ℕ) → ((j : ℕ) → j < k → highest (slice_index_or cs j no_change) < 2 * length t) → replayed (joined t o) cs k ≡ joined (replayed t cs k) o
unfolding replayed
replayed_joined t o cs zero below = refl
replayed_joined t o cs (suc k) below =
    let long = length_replayed t cs k in
    let low = below k (omega arith) in
    ap (λ u. after_change u (slice_index_or cs k no_change)) (replayed_joined t o cs k (λ j l. below j (omega (arith, l))))
    ∙ after_joined (replayed t cs k) o (slice_index_or cs k no_change) (omega (arith, low, long))

-- the sums

module _ (weight : Object → ℕ) (same : (o : Object) (i : ℕ) (x : Value) → weight (with_field o i x) ≡ weight o) where
  total_absent : (t : Table) (k : ℕ) (o : Object) → entry t k ≡ None → changed t k o ≡ t
  total_absent [] k o e = refl
  total_absent (None ∷ t) zero o e = refl
  total_absent (Some a ∷ t) zero o e = cc
  total_absent (None ∷ t) (suc k) o e = ap (λ u. None ∷ u) (total_absent t k o e)
  total_absent (Some a ∷ t) (suc k) o e = ap (λ u. Some a ∷ u) (total_absent t k o e)

  total_at : (t : Table) (k i : ℕ) (x : Value) (e : Option Object) → entry t k ≡ e → total_used weight (changed t k (with_field (unwrap_or e nothing) i x)) ≡ total_used weight t
  total_at t k i x None e = ap (total_used weight) (total_absent t k (with_field nothing i x) e)
  total_at t k i x (Some a) e = total_used-changed weight t k a (with_field a i x) e (same a i x)

  total_stored : (t : Table) (v : Value) (i : ℕ) (x : Value) → total_used weight (with_stored t v i x) ≡ total_used weight t
  unfolding with_stored object_of
  total_stored t (Small k) i x = refl
  total_stored t (Ref k) i x = total_at t k i x (entry t k) refl

  total_written : (t : Table) (v : Value) (i : ℕ) (x : Value) → total_used weight (written t v i x) ≡ total_used weight t
  unfolding written
  total_written t v i x = by_kind (is_pointers (object_of t v).kind)
    where
      by_kind : (b : Bool) → total_used weight (if b then with_stored t v i x else t) ≡ total_used weight t
      by_kind true = total_stored t v i x
      by_kind false = refl

  total_all_written : (xs : List Value) (t : Table) (v : Value) (i : ℕ) → total_used weight (all_written t v i xs) ≡ total_used weight t
  unfolding all_written
  total_all_written [] t v i = refl
  total_all_written (x ∷ xs) t v i = total_all_written xs (written t v i x) v (suc i) ∙ total_written t v i x

  total_after : (t : Table) (c : Change) → total_used weight (after_change t c) ≡ total_used weight t
  unfolding after_change
  total_after t (Field object at value) = total_written t (word object) at (word value)
  total_after t (Fields n source from target to) = total_all_written (take n (drop from (pointer_fields t (word source)))) t (word target) to

  total_replayed : (t : Table) (cs : List Change) (k : ℕ) → total_used weight (replayed t cs k) ≡ total_used weight t
  unfolding replayed
  total_replayed t cs zero = refl
  total_replayed t cs (suc k) = total_after (replayed t cs k) (slice_index_or cs k no_change) ∙ total_replayed t cs k

total-append : (weight : Object → ℕ) (t u : Table) → total_used weight (t ++ u) ≡ total_used weight t + total_used weight u
total-append weight [] u = omega arith
total-append weight (None ∷ t) u = total-append weight t u
total-append weight (Some o ∷ t) u = let r = total-append weight t u in omega (arith, r)

-- what is used is what was used, and what the made objects take
pub used_entries : (t : Table) (ms : List Made) (n : ℕ) (cs : List Change) (k : ℕ) → total_used one (replayed (with_made t ms n) cs k) ≡ total_used one t + total_used one (made_table (take n ms))
used_entries t ms n cs k = total_replayed one (λ o i x. refl) (with_made t ms n) cs k ∙ total-append one t (made_table (take n ms))

pub used_words : (t : Table) (ms : List Made) (n : ℕ) (cs : List Change) (k : ℕ) → total_used words_of (replayed (with_made t ms n) cs k) ≡ total_used words_of t + total_used words_of (made_table (take n ms))
used_words t ms n cs k = total_replayed words_of words_of-with_field (with_made t ms n) cs k ∙ total-append words_of t (made_table (take n ms))

-- where a word's object is: among those of the table, or among the made ones

none_small : (t : Table) (v : Value) → is_small v ≡ true → named_object t v ≡ None
none_small t (Small k) h = refl
none_small t (Ref k) h = cc

pub same_small : (t u : Table) (v : Value) → is_small v ≡ true → named_object t v ≡ named_object u v
same_small t u v h = none_small t v h ∙ sym (none_small u v h)

-- the list of what is made has a place for each
pub made_fit : (notes : Notes) → notes.made_count ≤ length notes.made
made_fit notes = let few = notes.few in let long = notes.sizes.0 in omega (arith, few, long)

module _ (t : Table) (ms : List Made) (n w : ℕ) (few : n ≤ length ms) (places : length t ≡ 32768) (even : is_small (value_of w) ≡ false) where
  pub same_low : w < 65536 → named_object (with_made t ms n) (value_of w) ≡ named_object t (value_of w)
  same_low l = subst (λ v. named_object (with_made t ms n) v ≡ named_object t v) (sym (value_of-even w even)) (base_entry t ms n few (w / 2) (omega (arith, l, places)))

  pub same_high : 65536 ≤ w → n ≤ (w - 65536) / 2 → named_object (with_made t ms n) (value_of w) ≡ named_object t (value_of w)
  same_high l m =
      subst (λ v. named_object (with_made t ms n) v ≡ named_object t v) (sym (value_of-even w even))
      (no_entry t ms n few (w / 2) (omega (arith, l, m, places)) ∙ sym (entry_past t (w / 2) (omega (arith, l, places))))

  pub named_is : 65536 ≤ w → value_of w ≡ Ref (32768 + (w - 65536) / 2)
  named_is l = value_of-even w even ∙ ap (λ k. Ref k) (omega (arith, l))

pub found_made : (t : Table) (ms : List Made) (n : ℕ) (v : Value) (k : ℕ) (d : Made) → n ≤ length ms → length t ≡ 32768 → v ≡ Ref (32768 + k) → k < n → named_object (with_made t ms n) v ≡ Some (made_object (slice_index_or ms k d))
found_made t ms n v k d few places e l =
    let q : 32768 + k ≡ length t + k = omega (arith, places) in
    ap (named_object (with_made t ms n)) e ∙ ap (entry (with_made t ms n)) q ∙ made_entry t ms n few k d l

-- what one more object takes
pub total_more : (ms : List Made) (n : ℕ) (m : Made) → n < length ms → total_used words_of (made_table (take (n + 1) (set ms n m))) ≡ total_used words_of (made_table (take n ms)) + words_of (made_object m)
total_more ms n m l =
    let e : n + 1 ≡ suc n = omega arith in
    let joins = total-append words_of (made_table (take n ms)) (Some (made_object m) ∷ []) in
    let one : total_used words_of (Some (made_object m) ∷ []) ≡ words_of (made_object m) = omega arith in
    ap (λ k. total_used words_of (made_table (take k (set ms n m)))) e
    ∙ ap (λ xs. total_used words_of (made_table xs)) (take_more ms n m l)
    ∙ ap (total_used words_of) (map_more (take n ms) m)
    ∙ joins ∙ ap (λ w. total_used words_of (made_table (take n ms)) + w) one

-- how many were made
pub total_made : (ms : List Made) (n : ℕ) → n ≤ length ms → total_used one (made_table (take n ms)) ≡ n
total_made ms n l = counted (take n ms) ∙ length-take n ms ∙ omega (arith, l)
  where
    counted : (xs : List Made) → total_used one (made_table xs) ≡ length xs
    counted [] = refl
    counted (x ∷ xs) = let q = counted xs in omega (arith, q)

-- the table of a draft with one object more
pub draft_more : (t : Table) (ms : List Made) (n : ℕ) (m : Made) (cs : List Change) (k : ℕ) → length t ≡ 32768 → n < length ms → ((j : ℕ) → j < k → highest (slice_index_or cs j no_change) < 65536 + 2 * n)
    → draft_table t (set ms n m) (n + 1) cs k ≡ joined (draft_table t ms n cs k) (made_object m)
draft_more t ms n m cs k places l below =
    let long = length-with_made t ms n (omega (arith, l)) in
    ap (λ u. replayed u cs k) (with_made_more t ms n m l)
    ∙ replayed_joined (with_made t ms n) (made_object m) cs k (λ j h. let b = below j h in omega (arith, b, long, places))

pub draft_length : (t : Table) (ms : List Made) (n : ℕ) (cs : List Change) (k : ℕ) → length t ≡ 32768 → n ≤ length ms → length (draft_table t ms n cs k) ≡ 32768 + n
draft_length t ms n cs k places few = length_replayed (with_made t ms n) cs k ∙ length-with_made t ms n few ∙ ap (λ p. p + n) places

pub next_name : (n : ℕ) → value_of (65536 + 2 * n) ≡ Ref (32768 + n)
next_name n = let e : 65536 + 2 * n ≡ 2 * (32768 + n) = omega arith in ap value_of e ∙ value_of-pointer (32768 + n)
