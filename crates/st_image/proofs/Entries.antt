-- The table once the first entries are loaded, and once all are.
use Rattle.std.proofs.Common.{◌≡◌, ℕ, zero, suc, ◌+◌, ◌-◌, ◌<◌, ◌≤◌, ◌⊎◌, true, false, List, length, arith, refl, sym, subst, ap, ◌∙◌, inl, inr, Option, Some, None}
use Rattle.st_model.proofs.Made.{made_from, length-made, get_or-made}
use Rattle.st_model.specs.Lists.{made}
use Rattle.std.proofs.lemmas.Bool.{cases_lt, cases_Bool}
use Rattle.std.proofs.Math.ListN.{length-set}
use Rattle.st_image.specs.declared.spans.Span.{Span}
use Rattle.st_image.specs.inside.Spans.{IsFirstShared, sum_below, width}
use Rattle.st_image.proofs.Sums.{widths_fit}
use Rattle.st_model.specs.declared.head.ImageHead.{ImageHead}
use Rattle.st_model.specs.Values.{Ref}
use Rattle.st_model.specs.Objects.{Object, one, words_of}
use Rattle.st_model.specs.Table.{Table, entry, total_used}
use Rattle.st_model.specs.View.{View, with_object}
use Rattle.st_model.specs.Image.{entries_of, is_used, size}
use Rattle.st_model.specs.Start.{object_in, entry_in, kind_in, fields_in, units_in, field_in, unit_in}
use Rattle.st_model.specs.Faults.{used_below}
use Rattle.st_image.specs.inside.Sizes.{span_of}
use Rattle.st_image.specs.inside.Rows.{IsCleanBelow}
use Rattle.st_image.specs.inside.Loads.{IsSound, IsEmpty, HasRoom, with_entry, loaded_below}
use Rattle.st_image.proofs.FaultRows.{beyond}
use Rattle.st_image.proofs.Overlaps.{AreSpans, span_used, spans_within, share_from}
use Rattle.st_image.proofs.Shapes.{words_of_parts, words_fit_size}
use Rattle.st_image.proofs.Clean.{clean_inside, clean_apart, clean_sound, clean_capacity}
use Rattle.st_image.proofs.Tables.{total_used-none}
use Rattle.st_model.proofs.Entries.{entry-get, entry-set_same, entry-set_other, total_used-set}

-- the spans of the entries, as a list
abbrev pub all_spans : ImageHead → List ℕ → List Span
all_spans h bytes = made (span_of h bytes) (entries_of h)

are_spans : (h : ImageHead) (bytes : List ℕ) → AreSpans h bytes (all_spans h bytes)
are_spans h bytes = record {
  length = length-made (span_of h bytes) (entries_of h);
  each = λ k k_in. get_or-made (span_of h bytes) (entries_of h) k _ k_in;
}

spans_apart : (h : ImageHead) (bytes : List ℕ) → IsCleanBelow h bytes 10 → IsFirstShared (all_spans h bytes) None
spans_apart h bytes clean i j above j_in both =
    let n = (are_spans h bytes).length in
    clean_apart h bytes clean i j above (share_from h bytes (all_spans h bytes) i j (are_spans h bytes) (omega arith) (omega arith) both)

-- the words of all objects have room in the object space
widths_fit_space : (h : ImageHead) (bytes : List ℕ) → IsCleanBelow h bytes 10 → sum_below (width (all_spans h bytes)) (entries_of h) ≤ h.space
widths_fit_space h bytes clean =
    let e = (are_spans h bytes).length in
    let a = widths_fit (all_spans h bytes) h.space (spans_within h bytes (all_spans h bytes) (are_spans h bytes) (clean_inside h bytes clean)) (spans_apart h bytes clean) in
    subst (λ (n : ℕ). sum_below (width (all_spans h bytes)) n ≤ h.space) e a

width_used : (h : ImageHead) (bytes : List ℕ) (k : ℕ) → k < entries_of h → is_used h bytes k ≡ true → width (all_spans h bytes) k ≡ size h bytes k
width_used h bytes k k_in used =
    let e = (are_spans h bytes).each k k_in ∙ span_used h bytes k used in
    ap (λ (s : Span). s.to - s.from) e ∙ omega arith

sum_one_more : (f : ℕ → ℕ) (k n : ℕ) → k < n → sum_below f k + f k ≤ sum_below f n
sum_one_more f k zero k_in = absurd (omega arith)
sum_one_more f k (suc n) k_in = last (cases_lt k n) (sum_one_more f k n)
  where
    last : ((k < n) ⊎ (n ≤ k)) → (k < n → sum_below f k + f k ≤ sum_below f n) → sum_below f k + f k ≤ sum_below f (suc n)
    last (inl e) more = let a = more e in omega arith
    last (inr e) more = let a : k ≡ n = omega arith in rw a (omega arith)

used_one_more : (h : ImageHead) (bytes : List ℕ) (k n : ℕ) → k < n → is_used h bytes k ≡ true → used_below h bytes k + 1 ≤ used_below h bytes n
used_one_more h bytes k zero k_in used = absurd (omega arith)
used_one_more h bytes k (suc n) k_in used = last (cases_lt k n) (λ e. used_one_more h bytes k n e used)
  where
    last : ((k < n) ⊎ (n ≤ k)) → (k < n → used_below h bytes k + 1 ≤ used_below h bytes n) → used_below h bytes k + 1 ≤ used_below h bytes (suc n)
    last (inl e) more = let a = more e in omega arith
    last (inr e) more =
        let a : k ≡ n = omega arith in
        let b : is_used h bytes n ≡ true = subst (λ (x : ℕ). is_used h bytes x ≡ true) a used in
        rw (a, b) (omega arith)

object_words : (h : ImageHead) (bytes : List ℕ) (k : ℕ) → IsSound h bytes k → words_of (object_in h bytes k) ≤ size h bytes k
unfolding object_in
object_words h bytes k sound =
    let f = length-made (field_in h bytes k) (fields_in h bytes k) in
    let u = length-made (unit_in h bytes k) (units_in h bytes k) in
    let a = words_of_parts (object_in h bytes k) (kind_in h bytes k) (fields_in h bytes k) (units_in h bytes k) refl f u in
    let b = words_fit_size h bytes k sound in
    omega arith

pub entry_used : (h : ImageHead) (bytes : List ℕ) (k : ℕ) → is_used h bytes k ≡ true → entry_in h bytes k ≡ Some (object_in h bytes k)
unfolding entry_in
entry_used h bytes k used = rw used refl

pub entry_free : (h : ImageHead) (bytes : List ℕ) (k : ℕ) → is_used h bytes k ≡ false → entry_in h bytes k ≡ None
unfolding entry_in
entry_free h bytes k free = rw free refl

-- what the table has once the first k entries are loaded
pub record IsLoaded (h : ImageHead) (bytes : List ℕ) (t : Table) (k : ℕ) : Type 0 where
  pub places : length (loaded_below h bytes t k) ≡ 32768
  pub done : (j : ℕ) → j < k → entry (loaded_below h bytes t k) j ≡ entry_in h bytes j
  pub left : (j : ℕ) → k ≤ j → entry (loaded_below h bytes t k) j ≡ None
  pub entries : total_used one (loaded_below h bytes t k) ≡ used_below h bytes k
  pub words : total_used words_of (loaded_below h bytes t k) ≤ sum_below (width (all_spans h bytes)) k

-- one entry more that is in use
next_used : (h : ImageHead) (bytes : List ℕ) (t : Table) (k : ℕ) → k < entries_of h → entries_of h ≤ 32768 → is_used h bytes k ≡ true → IsSound h bytes k
    → IsLoaded h bytes t k → IsLoaded h bytes t (suc k)
unfolding with_object
next_used h bytes t k k_in few used sound u =
    let s = entry_used h bytes k used in
    let e : loaded_below h bytes t (suc k) ≡ with_object (loaded_below h bytes t k) (Ref k) (object_in h bytes k) =
    ap (λ (x : Option Object). with_entry (loaded_below h bytes t k) k x) s in
    let l = u.places in
    let inside : k < length (loaded_below h bytes t k) = omega arith in
    record {
      places = rw e (length-set (loaded_below h bytes t k) k (Some (object_in h bytes k)) ∙ u.places);
      done = λ j j_in. rw e (done_at j (cases_lt j k) j_in s inside);
      left = λ j above. rw e (entry-set_other (loaded_below h bytes t k) k j (Some (object_in h bytes k)) (λ (x : j ≡ k). absurd (omega arith)) ∙ u.left j (omega arith));
      entries = rw (e, used) (
          let a = total_used-set one (loaded_below h bytes t k) k (object_in h bytes k) inside (u.left k (omega arith)) in
          let b = u.entries in
          omega arith);
      words = rw e (
          let a = total_used-set words_of (loaded_below h bytes t k) k (object_in h bytes k) inside (u.left k (omega arith)) in
          let d = object_words h bytes k sound in
          let f = width_used h bytes k k_in used in
          let g = u.words in
          omega arith);
    }
  where
    done_at : (j : ℕ) → ((j < k) ⊎ (k ≤ j)) → j < suc k → entry_in h bytes k ≡ Some (object_in h bytes k) → k < length (loaded_below h bytes t k)
        → entry (with_object (loaded_below h bytes t k) (Ref k) (object_in h bytes k)) j ≡ entry_in h bytes j
    done_at j (inl below) j_in s inside = entry-set_other (loaded_below h bytes t k) k j (Some (object_in h bytes k)) (λ (x : j ≡ k). absurd (omega arith)) ∙ u.done j below
    done_at j (inr above) j_in s inside =
        let a : j ≡ k = omega arith in
        rw a (entry-set_same (loaded_below h bytes t k) k (Some (object_in h bytes k)) inside ∙ sym s)

-- one entry more that is free
next_free : (h : ImageHead) (bytes : List ℕ) (t : Table) (k : ℕ) → is_used h bytes k ≡ false → IsLoaded h bytes t k → IsLoaded h bytes t (suc k)
next_free h bytes t k free u =
    let s = entry_free h bytes k free in
    let e : loaded_below h bytes t (suc k) ≡ loaded_below h bytes t k = ap (λ (x : Option Object). with_entry (loaded_below h bytes t k) k x) s in
    record {
      places = rw e u.places;
      done = λ j j_in. rw e (done_at j (cases_lt j k) j_in s);
      left = λ j above. rw e (u.left j (omega arith));
      entries = rw (e, free) (let b = u.entries in omega arith);
      words = rw e (let g = u.words in omega arith);
    }
  where
    done_at : (j : ℕ) → ((j < k) ⊎ (k ≤ j)) → j < suc k → entry_in h bytes k ≡ None → entry (loaded_below h bytes t k) j ≡ entry_in h bytes j
    done_at j (inl below) j_in s = u.done j below
    done_at j (inr above) j_in s = let a : j ≡ k = omega arith in rw a (u.left k (omega arith) ∙ sym s)

pub loaded : (h : ImageHead) (bytes : List ℕ) (t : Table) (k : ℕ) → k ≤ entries_of h → entries_of h ≤ 32768 → IsCleanBelow h bytes 10 → IsEmpty t → IsLoaded h bytes t k
loaded h bytes t zero k_in few clean empty = record {
  places = empty.places;
  done = λ j j_in. absurd (omega arith);
  left = λ j above. empty.free j;
  entries = total_used-none one t empty.free;
  words = let a = total_used-none words_of t empty.free in omega arith;
}
loaded h bytes t (suc k) k_in few clean empty = last (cases_Bool (is_used h bytes k)) (loaded h bytes t k (omega arith) few clean empty)
  where
    last : ((is_used h bytes k ≡ true) ⊎ (is_used h bytes k ≡ false)) → IsLoaded h bytes t k → IsLoaded h bytes t (suc k)
    last (inl used) u = next_used h bytes t k (omega arith) few used (clean_sound h bytes clean k (omega arith) used) u
    last (inr free) u = next_free h bytes t k free u

-- there is room for the next object
pub room : (h : ImageHead) (bytes : List ℕ) (v : View) (t : Table) (k : ℕ) → k < entries_of h → entries_of h ≤ 32768 → IsCleanBelow h bytes 10 → IsEmpty t
    → v.objects ≡ loaded_below h bytes t k → v.head.entries ≡ h.entries → v.head.words ≡ h.words → is_used h bytes k ≡ true → HasRoom h bytes v k
room h bytes v t k k_in few clean empty e a b used =
    let u = loaded h bytes t k (omega arith) few clean empty in
    let c = clean_capacity h bytes clean in
    record {
      places = ap length e ∙ u.places;
      free = ap (λ (x : Table). entry x k) e ∙ u.left k (omega arith);
      entries =
          let p = ap (λ (x : Table). total_used one x) e ∙ u.entries in
          let q = used_one_more h bytes k (entries_of h) k_in used in
          let r = c.entries in
          omega arith;
      words =
          let p = ap (λ (x : Table). total_used words_of x) e in
          let q = u.words in
          let w = width_used h bytes k k_in used in
          let s = sum_one_more (width (all_spans h bytes)) k (entries_of h) k_in in
          let f = widths_fit_space h bytes clean in
          let r = c.words in
          omega arith;
    }

-- all objects of the image, once all entries are loaded
pub all_loaded : (h : ImageHead) (bytes : List ℕ) (t : Table) → entries_of h ≤ 32768 → IsCleanBelow h bytes 10 → IsEmpty t
    → loaded_below h bytes t (entries_of h) ≡ made (entry_in h bytes) 32768
all_loaded h bytes t few clean empty =
    let u = loaded h bytes t (entries_of h) (omega arith) few clean empty in
    made_from (entry_in h bytes) (loaded_below h bytes t (entries_of h)) 32768 None u.places
    (λ k k_in. sym (entry-get (loaded_below h bytes t (entries_of h)) k) ∙ each u k (cases_lt k (entries_of h)))
  where
    each : IsLoaded h bytes t (entries_of h) → (k : ℕ) → ((k < entries_of h) ⊎ (entries_of h ≤ k)) → entry (loaded_below h bytes t (entries_of h)) k ≡ entry_in h bytes k
    each u k (inl e) = u.done k e
    each u k (inr e) = u.left k e ∙ sym (entry_free h bytes k (beyond h bytes k e))
