-- The roots file byte by byte.
use Rattle.std.proofs.Common.{◌≡◌, ℕ, zero, suc, ◌+◌, ◌<◌, ◌≤◌, List, [], ◌++◌, drop, slice_index, Option, refl, sym, ◌∙◌, ap, arith}
use Rattle.std.proofs.lemmas.List.{get_or-drop}
use Rattle.byteorder.specs.Endian.{big_from, big_bytes, big_number}
use Rattle.byteorder.specs.Numbers.{big_number-reads_back}
use Rattle.st_host.specs.Files.{bytes_of, IsWritten}
use Rattle.st_store.specs.Roots.{root_at, root_bytes, Fits}
use Rattle.st_store.specs.declared.root.Root.{Root}

from_same : (i n : ℕ) (xs ys : List ℕ) → ((j : ℕ) → i ≤ j → j < i + n → slice_index xs j ≡ slice_index ys j) → big_from i n xs ≡ big_from i n ys
from_same i zero xs ys each = refl
from_same i (suc n) xs ys each =
    let first = each i (omega arith) (omega arith) in
    let rest = from_same (suc i) n xs ys (λ j low high. each j (omega arith) (omega arith)) in
    rw (first, rest) refl

-- a number is that of its eight bytes
number_moved : (a b : ℕ) (xs ys : List ℕ) → ((j : ℕ) → j < 8 → slice_index xs (a + j) ≡ slice_index ys (b + j)) → big_number 8 (drop a xs) ≡ big_number 8 (drop b ys)
number_moved a b xs ys each =
    from_same 0 8 (drop a xs) (drop b ys) (λ j low high. get_or-drop a xs j 0 ∙ each j (omega arith) ∙ sym (get_or-drop b ys j 0))

number_same : (at : ℕ) (xs ys : List ℕ) → ((i : ℕ) → at ≤ i → i < at + 8 → slice_index xs i ≡ slice_index ys i) → big_number 8 (drop at xs) ≡ big_number 8 (drop at ys)
number_same at xs ys each = number_moved at at xs ys (λ j low. each (at + j) (omega arith) (omega arith))

-- a root is that of its 32 bytes
pub root_same : (at : ℕ) (xs ys : List ℕ) → ((i : ℕ) → at ≤ i → i < at + 32 → slice_index xs i ≡ slice_index ys i) → root_at at xs ≡ root_at at ys
root_same at xs ys each =
    let a = number_same at xs ys (λ i l u. each i (omega arith) (omega arith)) in
    let b = number_same (at + 8) xs ys (λ i l u. each i (omega arith) (omega arith)) in
    let c = number_same (at + 16) xs ys (λ i l u. each i (omega arith) (omega arith)) in
    let d = number_same (at + 24) xs ys (λ i l u. each i (omega arith) (omega arith)) in
    λ i. record { slot = a i; image_length = b i; base = c i; length = d i }

-- a root whose 32 bytes stand there is read
pub root_inside : (at : ℕ) (root : Root) (file : List ℕ) → Fits root → ((i : ℕ) → i < 32 → slice_index file (at + i) ≡ slice_index (root_bytes root) i) → root_at at file ≡ root
root_inside at root file fits each =
    let bytes = root_bytes root in
    let number : (n : ℕ) → n + 8 ≤ 32 → big_number 8 (drop (at + n) file) ≡ big_number 8 (drop n bytes) = λ n le.
    number_moved (at + n) n file bytes (λ j low.
    let same : at + n + j ≡ at + (n + j) = omega arith in
    ap (λ (k : ℕ). slice_index file k) same ∙ each (n + j) (omega arith)) in
    let a : big_number 8 (drop at file) ≡ root.slot =
    number_moved at 0 file bytes (λ j low. each j (omega arith) ∙ ap (λ (k : ℕ). slice_index bytes k) (let e : j ≡ 0 + j = omega arith in e))
    ∙ big_number-reads_back 8 root.slot (big_bytes 8 root.image_length ++ (big_bytes 8 root.base ++ big_bytes 8 root.length)) fits.slot in
    let b : big_number 8 (drop (at + 8) file) ≡ root.image_length =
    number 8 (omega arith) ∙ big_number-reads_back 8 root.image_length (big_bytes 8 root.base ++ big_bytes 8 root.length) fits.image_length in
    let c : big_number 8 (drop (at + 16) file) ≡ root.base =
    number 16 (omega arith) ∙ big_number-reads_back 8 root.base (big_bytes 8 root.length) fits.base in
    let d : big_number 8 (drop (at + 24) file) ≡ root.length =
    number 24 (omega arith) ∙ big_number-reads_back 8 root.length [] fits.length in
    λ i. record { slot = a i; image_length = b i; base = c i; length = d i }

-- a root that was written is read
pub root_written : (at : ℕ) (root : Root) (old new : Option (List ℕ)) → Fits root → IsWritten at (root_bytes root) old new → root_at at (bytes_of new) ≡ root
root_written at root old new fits written = root_inside at root (bytes_of new) fits (λ i low. written.inside i low)
