-- Where the parts of a written image stand.
use Rattle.std.proofs.Common.{◌≡◌, true, ℕ, zero, suc, ◌+◌, ◌*◌, ◌/◌, ◌%◌, ◌<◌, ◌≤◌, List, ◌++◌, length, get_or, refl, ap, ◌∙◌, arith, length-append}
use Rattle.std.specs.Prelude.{Option, Some, None}
use Rattle.std.proofs.lemmas.List.{get_or_append_left, get_or-append-add, length-replicate}
use Rattle.st_model.specs.declared.head.ImageHead.{ImageHead}
use Rattle.st_model.specs.Objects.{Object}
use Rattle.st_model.specs.Formed.{IsFormed}
use Rattle.st_model.specs.Machine.{Head}
use Rattle.st_model.specs.Table.{Table, entry}
use Rattle.st_model.specs.Image.{number16, number32, has_letters, image_head, table_start, table_end}
use Rattle.st_writer.specs.Written.{bytes_at, words_at, words_below, space_below, entries_below, entry_bytes, root_word, head_bytes, zeros, padding, text_of}
use Rattle.st_writer.proofs.Bytes.{halves, number16-after, number16-within}
use Rattle.st_writer.proofs.Bodies.{length-object}

-- the head of the text
abbrev pub written_head : ℕ → ℕ → Head → ImageHead
written_head words n h = record {
  space = words;
  table = 3 * n;
  version = 2;
  entries = h.entries;
  words = h.words;
  globals = root_word h.globals;
  symbols = root_word h.symbols;
}

pub long_back : (x : ℕ) → 65536 * (256 * (x / 65536 / 256) + x / 65536 % 256) + (256 * (x % 65536 / 256) + x % 65536 % 256) ≡ x
long_back x = (λ k. 65536 * halves (x / 65536) k + halves (x % 65536) k) ∙ omega arith

pub length-zeros : (n : ℕ) → length (zeros n) ≡ n
unfolding zeros
length-zeros n = length-replicate {A = ℕ} n 0

module _ (t : Table) (n : ℕ) (h : Head) where
  pub letters_back : has_letters (text_of t n h) ≡ true
  unfolding has_letters
  letters_back = refl

  pub head_back : image_head (text_of t n h) ≡ written_head (words_below t n) n h
  unfolding image_head has_letters number16 number32
  head_back = λ k. record {
    space = long_back (words_below t n) k;
    table = long_back (3 * n) k;
    version = long_back 2 k;
    entries = long_back h.entries k;
    words = long_back h.words k;
    globals = long_back (root_word h.globals) k;
    symbols = long_back (root_word h.symbols) k;
  }

pub length-entry : (e : Option Object) (at : ℕ) → length (entry_bytes e at) ≡ 6
length-entry None at = refl
length-entry (Some o) at = refl

module _ (t : Table) (formed : (k : ℕ) (o : Object) → entry t k ≡ Some o → IsFormed o) where
  length-place : (e : Option Object) → ((o : Object) → e ≡ Some o → IsFormed o) → length (bytes_at e) ≡ 2 * words_at e
  length-place None all = refl
  length-place (Some o) all = length-object o (all o refl)

  pub length-space : (k : ℕ) → length (space_below t k) ≡ 2 * words_below t k
  length-space zero = refl
  length-space (suc k) =
      let a = length-space k in
      let b = length-place (entry t k) (formed k) in
      let c = length-append (space_below t k) (bytes_at (entry t k)) in
      omega arith

  pub length-entries : (k : ℕ) → length (entries_below t k) ≡ 6 * k
  length-entries zero = refl
  length-entries (suc k) =
      let a = length-entries k in
      let b = length-entry (entry t k) (words_below t k) in
      let c = length-append (entries_below t k) (entry_bytes (entry t k) (words_below t k)) in
      omega arith

  module _ (n : ℕ) (h : Head) where
    -- the parts after the head
    abbrev behind : List ℕ
    behind = space_below t n ++ (zeros (padding (words_below t n)) ++ entries_below t n)

    -- a number of the table
    pub at_entries : (j : ℕ) → number16 (text_of t n h) (table_start (written_head (words_below t n) n h) + j) ≡ number16 (entries_below t n) j
    at_entries j =
        let w = words_below t n in
        let e : table_start (written_head w n h) + j ≡ 32 + (480 + (2 * w + (padding w + j))) = omega arith in
        ap (number16 (text_of t n h)) e
        ∙ number16-after (head_bytes w n h) (zeros 480 ++ behind) 32 (480 + (2 * w + (padding w + j))) refl
        ∙ number16-after (zeros 480) behind 480 (2 * w + (padding w + j)) (length-zeros 480)
        ∙ number16-after (space_below t n) (zeros (padding w) ++ entries_below t n) (2 * w) (padding w + j) (length-space n)
        ∙ number16-after (zeros (padding w)) (entries_below t n) (padding w) j (length-zeros (padding w))

    -- a number of the object space
    pub at_space : (i : ℕ) → i + 2 ≤ 2 * words_below t n → number16 (text_of t n h) (512 + i) ≡ number16 (space_below t n) i
    at_space i inside =
        let w = words_below t n in
        let l = length-space n in
        let e : 512 + i ≡ 32 + (480 + i) = omega arith in
        ap (number16 (text_of t n h)) e
        ∙ number16-after (head_bytes w n h) (zeros 480 ++ behind) 32 (480 + i) refl
        ∙ number16-after (zeros 480) behind 480 i (length-zeros 480)
        ∙ number16-within (space_below t n) (zeros (padding w) ++ entries_below t n) i (omega arith)

    -- a byte of it
    pub byte_at_space : (i : ℕ) → i < 2 * words_below t n → get_or (text_of t n h) (512 + i) 0 ≡ get_or (space_below t n) i 0
    byte_at_space i inside =
        let w = words_below t n in
        let l = length-space n in
        let z = length-zeros 480 in
        let e : 512 + i ≡ 32 + (length (zeros 480) + i) = omega arith in
        ap (λ (j : ℕ). get_or (text_of t n h) j 0) e
        ∙ get_or-append-add (head_bytes w n h) (zeros 480 ++ behind) (length (zeros 480) + i) 0
        ∙ get_or-append-add (zeros 480) behind i 0
        ∙ get_or_append_left (space_below t n) (zeros (padding w) ++ entries_below t n) 0 i (omega arith)

    pub length-text : length (text_of t n h) ≡ table_end (written_head (words_below t n) n h)
    length-text =
        let w = words_below t n in
        let a = length-space n in
        let b = length-entries n in
        let c = length-append (zeros (padding w)) (entries_below t n) in
        let d = length-append (space_below t n) (zeros (padding w) ++ entries_below t n) in
        let f = length-append (zeros 480) behind in
        let g = length-zeros 480 in
        let i = length-zeros (padding w) in
        omega arith
