-- What the bytes of an image file say. A head of 512 bytes comes first, then the object space, and from the next multiple
-- of 512 on the object table. Numbers are big-endian, and a byte past the file's end reads as 0.
use Rattle.std.specs.Prelude.{ℕ, ◌+◌, ◌-◌, ◌*◌, ◌/◌, ◌%◌, ◌^◌, ◌==◌, List, drop, slice_index, Bool, not, ◌&&◌, nat_lt, nat_eq, codes, if◌then◌else◌}
use Rattle.std.specs.List.{starts_with}
use Rattle.st_model.specs.declared.head.ImageHead.{ImageHead}
use Rattle.st_model.specs.Limits.{most_words}

-- the number in two bytes, the higher byte first
unfoldable pub number16 : List ℕ → ℕ → ℕ
number16 bytes at = 256 * slice_index bytes at + slice_index bytes (at + 1)

-- the number in four bytes, the highest byte first
unfoldable pub number32 : List ℕ → ℕ → ℕ
number32 bytes at = 65536 * number16 bytes at + number16 bytes (at + 2)

-- bit i of a word of 16 bits; bit 0 is the highest
abbrev pub bit : ℕ → ℕ → Bool
bit i w = w / 2 ^ (15 - i) % 2 == 1

-- the letters ST80 stand at byte 8
unfoldable pub has_letters : List ℕ → Bool
has_letters bytes = starts_with nat_eq (drop 8 bytes) (codes "ST80")

-- The head gives the lengths of the object space and of the table at bytes 0 and 4, the version at 12, the capacities at
-- 16 and 20, and the pointers of the two tables of names at 24 and 28. Without the letters only the lengths are read.
unfoldable pub image_head : List ℕ → ImageHead
image_head bytes = if has_letters bytes
    then record {
      space = number32 bytes 0;
      table = number32 bytes 4;
      version = number32 bytes 12;
      entries = number32 bytes 16;
      words = number32 bytes 20;
      globals = number32 bytes 24;
      symbols = number32 bytes 28;
    }
    else record { space = number32 bytes 0; table = number32 bytes 4; version = 1; entries = 32767; words = 1048576; globals = 0; symbols = 0 }

-- the byte at which the table begins, after the 512 of the head and those of the object space, two a word
abbrev pub table_start : ImageHead → ℕ
table_start h = 512 + (2 * h.space + 511) / 512 * 512

-- the byte at which it ends
abbrev pub table_end : ImageHead → ℕ
table_end h = table_start h + 2 * h.table

-- What a version settles: how many words an entry of the table has, how many an object space may have, and at which word of
-- it the object begins whose entry begins at a byte of the file.
pub record EntryForm : Type 0 where
  pub width : ℕ
  pub most : ℕ
  pub place : List ℕ → ℕ → ℕ

-- version 1: the marks with the segment, and the location in it; a segment has 65536 words
abbrev pub first_form : EntryForm
first_form = record { width = 2; most = 1048576; place = λ bytes at. number16 bytes at % 16 * 65536 + number16 bytes (at + 2) }

-- version 2: the marks, and the location in two words
abbrev pub second_form : EntryForm
second_form = record { width = 3; most = most_words; place = λ bytes at. number32 bytes (at + 2) }

unfoldable pub form_of : ImageHead → EntryForm
form_of h = if h.version == 2 then second_form else first_form

-- how many entries the table has; entry k is that of pointer 2k
unfoldable pub entries_of : ImageHead → ℕ
entries_of h = h.table / (form_of h).width

-- the byte at which entry k begins
unfoldable pub entry_start : ImageHead → ℕ → ℕ
entry_start h k = table_start h + 2 * (form_of h).width * k

-- The first word of entry k: odd length in bit 8, pointers in bit 9, free in bit 10, the words mark in bit 11. The higher
-- bits, which counted references in the book, are not looked at, and the lower ones in version 1 alone.
unfoldable pub flags : ImageHead → List ℕ → ℕ → ℕ
flags h bytes k = number16 bytes (entry_start h k)

-- the last byte of the body is no part of the object
abbrev pub has_odd_length : ImageHead → List ℕ → ℕ → Bool
has_odd_length h bytes k = bit 8 (flags h bytes k)

-- the body consists of fields
abbrev pub has_pointers : ImageHead → List ℕ → ℕ → Bool
has_pointers h bytes k = bit 9 (flags h bytes k)

-- entry k has no object
abbrev pub is_free : ImageHead → List ℕ → ℕ → Bool
is_free h bytes k = bit 10 (flags h bytes k)

-- entry k is in use; entry 0 is never looked at
unfoldable pub is_used : ImageHead → List ℕ → ℕ → Bool
is_used h bytes k = nat_lt 0 k && (nat_lt k (entries_of h) && not (is_free h bytes k))

-- the word of the object space at which the object of entry k begins
unfoldable pub place : ImageHead → List ℕ → ℕ → ℕ
place h bytes k = (form_of h).place bytes (entry_start h k)

-- the word at a place of the object space
abbrev pub word : List ℕ → ℕ → ℕ
word bytes at = number16 bytes (512 + 2 * at)

-- the size word of the object of entry k, which counts all words of the object: itself, the class word and the body
unfoldable pub size : ImageHead → List ℕ → ℕ → ℕ
size h bytes k = word bytes (place h bytes k)

-- the class word of the object of entry k
unfoldable pub class : ImageHead → List ℕ → ℕ → ℕ
class h bytes k = word bytes (place h bytes k + 1)

-- word i of the body of the object of entry k
unfoldable pub body : ImageHead → List ℕ → ℕ → ℕ → ℕ
body h bytes k i = word bytes (place h bytes k + 2 + i)

-- the number of literals that the header of a method gives, in its bits 9 to 14
abbrev pub literal_count : ℕ → ℕ
literal_count header = header / 2 % 64

-- the pointer p is even and that of an entry in use
unfoldable pub names : ImageHead → List ℕ → ℕ → Bool
names h bytes p = (p % 2 == 0) && is_used h bytes (p / 2)
