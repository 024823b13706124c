-- What a written image says of each place of its table.
use Rattle.std.proofs.Common.{◌≡◌, ℕ, zero, suc, ◌+◌, ◌*◌, ◌/◌, ◌%◌, ◌<◌, ◌≤◌, ◌⊎◌, inl, inr, Bool, true, false, not, ◌==◌, List, [], length, get_or, refl, sym, ap, ◌∙◌, subst, arith}
use Rattle.std.specs.Prelude.{Option, Some, None}
use Rattle.std.proofs.lemmas.Bool.{cases_lt, lt-ltb, ne_eqb, and_parts, and_from, not-true, both_ways, ltb-true}
use Rattle.st_model.specs.Limits.{most_words}
use Rattle.st_model.specs.declared.kind.Kind.{Kind}
use Rattle.st_model.specs.declared.kind.Kind.TheVariants as kind
use Rattle.st_model.specs.declared.head.ImageHead.{ImageHead}
use Rattle.st_model.specs.Objects.{Object, is_pointers, is_words, words_of}
use Rattle.st_model.specs.Formed.{IsFormed}
use Rattle.st_model.specs.Machine.{Head}
use Rattle.st_model.specs.Table.{Table, entry}
use Rattle.st_model.specs.Show.{IsUsed}
use Rattle.st_model.specs.Image.{number16, number32, table_start, form_of, entries_of, entry_start, bit, flags, is_free, is_used, place, word, size, class, body}
use Rattle.st_writer.specs.Written.{bytes_at, words_at, words_below, space_below, entry_bytes, word_bytes, long_bytes, marks, object_bytes, text_of}
use Rattle.st_writer.proofs.Bytes.{number16-word, number16-after, joined_word, joined_at}
use Rattle.st_writer.proofs.Bodies.{words_in_parts, length-object, size_word, class_word}
use Rattle.st_writer.proofs.Placing.{written_head, length-space, length-entry, length-entries, at_entries, at_space, byte_at_space}

-- an odd number of bytes
abbrev pub is_odd : Kind → ℕ → Bool
is_odd kind.Pointers units = false
is_odd kind.Words units = false
is_odd kind.Bytes units = units % 2 == 1
is_odd kind.Method units = units % 2 == 1

-- what the marks of an entry in use say
pub record IsMarked (k : Kind) (units w : ℕ) : Type 0 where
  pub odd : bit 8 w ≡ is_odd k units
  pub pointers : bit 9 w ≡ is_pointers k
  pub free : bit 10 w ≡ false
  pub words : bit 11 w ≡ is_words k

by_bytes : (units : ℕ) → IsMarked kind.Bytes units (128 * (units % 2))
by_bytes units =
    let top : 128 * (units % 2) / 128 % 2 ≡ units % 2 = omega arith in
    record {
      odd = ap (λ (x : ℕ). x == 1) top;
      pointers = ne_eqb _ _ (λ e. omega arith);
      free = ne_eqb _ _ (λ e. omega arith);
      words = ne_eqb _ _ (λ e. omega arith);
    }

marked : (k : Kind) (units : ℕ) → IsMarked k units (marks k units)
marked kind.Pointers units = record { odd = refl; pointers = refl; free = refl; words = refl }
marked kind.Words units = record { odd = refl; pointers = refl; free = refl; words = refl }
marked kind.Bytes units = by_bytes units
marked kind.Method units = let m = by_bytes units in record { odd = m.odd; pointers = m.pointers; free = m.free; words = m.words }

-- the words before a place, and those of its object, are among all
pub words_among : (t : Table) (k n : ℕ) (o : Object) → k < n → entry t k ≡ Some o → words_below t k + words_of o ≤ words_below t n
words_among t k zero o k_in e = absurd (omega arith)
words_among t k (suc n) o k_in e = last (cases_lt k n) (λ below. words_among t k n o below e)
  where
    last : ((k < n) ⊎ (n ≤ k)) → (k < n → words_below t k + words_of o ≤ words_below t n) → words_below t k + words_of o ≤ words_below t n + words_at (entry t n)
    last (inl below) more = let a = more below in omega arith
    last (inr le) more =
        let same : k ≡ n = omega arith in
        let here : words_at (entry t n) ≡ words_of o = ap words_at (ap (entry t) (sym same) ∙ e) in
        rw (← same) (let a : words_at (entry t k) ≡ words_of o = ap words_at e in omega arith)

-- a table's head and text

abbrev pub head_of : Table → ℕ → Head → ImageHead
head_of t n h = written_head (words_below t n) n h

-- what the first places of a table have, so that they can be written
pub record IsWritable (t : Table) (n : ℕ) : Type 0 where
  pub formed : (k : ℕ) (o : Object) → entry t k ≡ Some o → IsFormed o
  pub most : words_below t n ≤ most_words

module _ (t : Table) (n : ℕ) (h : Head) (can : IsWritable t n) where
  abbrev head : ImageHead
  head = head_of t n h

  abbrev bytes : List ℕ
  bytes = text_of t n h

  pub entries_are : entries_of head ≡ n
  unfolding entries_of form_of
  entries_are = omega arith

  -- the words of an entry

  start_at : (k : ℕ) → entry_start head k ≡ table_start head + 6 * k
  unfolding entry_start form_of
  start_at k = refl

  word_of_entry : (k i : ℕ) (e : Option Object) → i ≤ 4 → k < n → entry t k ≡ e → number16 bytes (entry_start head k + i) ≡ number16 (entry_bytes e (words_below t k)) i
  word_of_entry k i e small k_in is =
      let s = start_at k in
      let there : entry_start head k + i ≡ table_start head + (6 * k + i) = omega (arith, s) in
      let l = length-entry (entry t k) (words_below t k) in
      ap (number16 bytes) there
      ∙ at_entries t can.formed n h (6 * k + i)
      ∙ joined_word (λ j. entry_bytes (entry t j) (words_below t j)) n k i (6 * k) k_in (omega (arith, l, small)) (length-entries t can.formed k)
      ∙ ap (λ (x : Option Object). number16 (entry_bytes x (words_below t k)) i) is

  flags_at : (k : ℕ) (e : Option Object) → k < n → entry t k ≡ e → flags head bytes k ≡ number16 (entry_bytes e (words_below t k)) 0
  unfolding flags
  flags_at k e k_in is = let z : entry_start head k ≡ entry_start head k + 0 = omega arith in ap (number16 bytes) z ∙ word_of_entry k 0 e (omega arith) k_in is

  -- a free place
  pub free_at : (k : ℕ) → k < n → entry t k ≡ None → is_free head bytes k ≡ true
  free_at k k_in e = ap (bit 10) (flags_at k None k_in e ∙ number16-word 32 (long_bytes 0))

  -- a place with an object

  module _ (k : ℕ) (o : Object) (k_in : k < n) (e : entry t k ≡ Some o) where
    pub marks_at : IsMarked o.kind (length o.units) (flags head bytes k)
    marks_at =
        let w = marks o.kind (length o.units) in
        let is : flags head bytes k ≡ w = flags_at k (Some o) k_in e ∙ number16-word w (long_bytes (words_below t k)) in
        subst (IsMarked o.kind (length o.units)) (sym is) (marked o.kind (length o.units))

    pub place_at : place head bytes k ≡ words_below t k
    unfolding place form_of number32
    place_at =
        let w = marks o.kind (length o.units) in
        let at = words_below t k in
        let high = word_of_entry k 2 (Some o) (omega arith) k_in e ∙ number16-after (word_bytes w) (long_bytes at) 2 0 refl ∙ number16-word (at / 65536) (word_bytes (at % 65536)) in
        let z : entry_start head k + 2 + 2 ≡ entry_start head k + 4 = omega arith in
        let low = ap (number16 bytes) z ∙ word_of_entry k 4 (Some o) (omega arith) k_in e ∙ number16-after (word_bytes w) (long_bytes at) 2 2 refl
        ∙ number16-after (word_bytes (at / 65536)) (word_bytes (at % 65536)) 2 0 refl ∙ number16-word (at % 65536) [] in
        omega (arith, high, low)

    -- a number of the object
    pub object_at : (i : ℕ) → i + 2 ≤ length (object_bytes o) → number16 bytes (512 + (2 * words_below t k + i)) ≡ number16 (object_bytes o) i
    object_at i inside =
        let a = words_among t k n o k_in e in
        let l = length-object o (can.formed k o e) in
        let same : length (bytes_at (entry t k)) ≡ length (object_bytes o) = ap (λ (x : Option Object). length (bytes_at x)) e in
        at_space t can.formed n h (2 * words_below t k + i) (omega arith)
        ∙ joined_word (λ j. bytes_at (entry t j)) n k i (2 * words_below t k) k_in (omega arith) (length-space t can.formed k)
        ∙ ap (λ (x : Option Object). number16 (bytes_at x) i) e

    pub byte_at : (i : ℕ) → i < length (object_bytes o) → get_or bytes (512 + (2 * words_below t k + i)) 0 ≡ get_or (object_bytes o) i 0
    byte_at i inside =
        let a = words_among t k n o k_in e in
        let l = length-object o (can.formed k o e) in
        let s = length-space t can.formed k in
        let same : length (bytes_at (entry t k)) ≡ length (object_bytes o) = ap (λ (x : Option Object). length (bytes_at x)) e in
        let at : 2 * words_below t k + i ≡ length (space_below t k) + i = omega arith in
        byte_at_space t can.formed n h (2 * words_below t k + i) (omega arith)
        ∙ ap (λ (j : ℕ). get_or (space_below t n) j 0) at
        ∙ joined_at (λ j. bytes_at (entry t j)) n k i k_in (omega arith)
        ∙ ap (λ (x : Option Object). get_or (bytes_at x) i 0) e

    -- a word of the object
    word_at : (i : ℕ) → 2 * i + 2 ≤ length (object_bytes o) → word bytes (place head bytes k + i) ≡ number16 (object_bytes o) (2 * i)
    word_at i inside =
        let p = place_at in
        let at : 512 + 2 * (place head bytes k + i) ≡ 512 + (2 * words_below t k + 2 * i) = omega arith in
        ap (number16 bytes) at ∙ object_at (2 * i) inside

    pub size_at : size head bytes k ≡ words_of o
    unfolding size
    size_at =
        let l = length-object o (can.formed k o e) in
        let b = words_in_parts o (can.formed k o e) in
        let z : place head bytes k ≡ place head bytes k + 0 = omega arith in
        ap (word bytes) z ∙ word_at 0 (omega arith) ∙ size_word o (can.formed k o e)

    pub class_at : class head bytes k ≡ 2 * o.class
    unfolding class
    class_at =
        let l = length-object o (can.formed k o e) in
        let b = words_in_parts o (can.formed k o e) in
        word_at 1 (omega arith) ∙ class_word o (can.formed k o e)

    pub body_at : (i : ℕ) → i + 2 < words_of o → body head bytes k i ≡ number16 (object_bytes o) (4 + 2 * i)
    unfolding body
    body_at i inside =
        let l = length-object o (can.formed k o e) in
        let z : place head bytes k + 2 + i ≡ place head bytes k + (2 + i) = omega arith in
        let y : 2 * (2 + i) ≡ 4 + 2 * i = omega arith in
        ap (word bytes) z ∙ word_at (2 + i) (omega arith) ∙ ap (number16 (object_bytes o)) y

    -- it is in use, but for place 0
    pub used_at : 0 < k → is_used head bytes k ≡ true
    unfolding is_used
    used_at above =
        let f = marks_at.free in
        let m = entries_are in
        and_from _ _ (lt-ltb 0 k above) (and_from _ _ (lt-ltb k (entries_of head) (omega (arith, m))) (ap not f))

  -- a place in use has an object
  pub object_used : (k : ℕ) → is_used head bytes k ≡ true → (k < n) × (0 < k) × IsUsed t k
  unfolding is_used
  object_used k used =
      let a = and_parts _ _ used in
      let b = and_parts _ _ a.1 in
      let m = entries_are in
      let k_in : k < n = let c = ltb-true k (entries_of head) b.0 in omega (arith, c, m) in
      (k_in, ltb-true 0 k a.0, some_at (entry t k) refl k_in (not-true _ b.1))
    where
      some_at : (e : Option Object) → entry t k ≡ e → k < n → is_free head bytes k ≡ false → IsUsed t k
      some_at None is k_in other = absurd (both_ways _ other (free_at k k_in is))
      some_at (Some o) is k_in other = (o, is)
