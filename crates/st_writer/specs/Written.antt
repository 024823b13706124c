-- The one text of a memory's image: the head of 512 bytes; the objects end to end, in rising order of pointers, up to a
-- multiple of 512 bytes; and the table up to its last object. What isn't named here is 0.
use Rattle.std.specs.Prelude.{ℕ, zero, suc, ◌+◌, ◌-◌, ◌*◌, ◌/◌, ◌%◌, ◌==◌, List, [], ◌∷◌, ◌++◌, length, map, replicate, codes, Option, Some, None, if◌then◌else◌, is_some}
use Rattle.std.specs.List.{flat_map}
use Rattle.st_model.specs.declared.kind.Kind.{Kind}
use Rattle.st_model.specs.declared.kind.Kind.TheVariants as kind
use Rattle.st_model.specs.Values.{Value, Small, Ref}
use Rattle.st_model.specs.Objects.{Object, words_of}
use Rattle.st_model.specs.Machine.{Head}
use Rattle.st_model.specs.Table.{Table, entry}
use Rattle.st_model.specs.View.{View}

-- a word as two bytes, the higher first
abbrev pub word_bytes : ℕ → List ℕ
word_bytes w = w / 256 ∷ w % 256 ∷ []

-- a number of 32 bits as four bytes, the highest first
abbrev pub long_bytes : ℕ → List ℕ
long_bytes n = word_bytes (n / 65536) ++ word_bytes (n % 65536)

-- the word of a value: that of a SmallInteger is odd, and a name is half of a pointer
abbrev pub word_of : Value → ℕ
word_of (Small n) = 2 * n + 1
word_of (Ref k) = 2 * k

-- a byte of 0 after an odd number of bytes
abbrev pub filler : ℕ → List ℕ
filler n = if n % 2 == 1 then 0 ∷ [] else []

-- an object's words, or its bytes
abbrev pub unit_bytes : Kind → List ℕ → List ℕ
unit_bytes kind.Pointers units = []
unit_bytes kind.Words units = flat_map word_bytes units
unit_bytes kind.Bytes units = units ++ filler (length units)
unit_bytes kind.Method units = units ++ filler (length units)

-- how many words they take
abbrev pub unit_words : Kind → ℕ → ℕ
unit_words kind.Pointers n = 0
unit_words kind.Words n = n
unit_words kind.Bytes n = (n + 1) / 2
unit_words kind.Method n = (n + 1) / 2

-- an object: the size word, which counts all words, the class word, the fields, and then its words or bytes
abbrev pub object_bytes : Object → List ℕ
object_bytes o = word_bytes (words_of o) ++ (word_bytes (2 * o.class) ++ (flat_map word_bytes (map word_of o.fields) ++ unit_bytes o.kind o.units))

-- the marks of an object's entry: odd length in bit 8, pointers in bit 9, words in bit 11
abbrev pub marks : Kind → ℕ → ℕ
marks kind.Pointers units = 64
marks kind.Words units = 16
marks kind.Bytes units = 128 * (units % 2)
marks kind.Method units = 128 * (units % 2)

-- the entry of an object at this word of the object space: its marks, and the location in two words. A free entry has bit 10.
abbrev pub entry_bytes : Option Object → ℕ → List ℕ
entry_bytes None at = word_bytes 32 ++ long_bytes 0
entry_bytes (Some o) at = word_bytes (marks o.kind (length o.units)) ++ long_bytes at

-- of what stands at a place of a table: the bytes of an object, and how many words it has
abbrev pub bytes_at : Option Object → List ℕ
bytes_at None = []
bytes_at (Some o) = object_bytes o

abbrev pub words_at : Option Object → ℕ
words_at None = 0
words_at (Some o) = words_of o

-- the pieces of 0, 1 and so on below n, end to end
abbrev pub joined : (ℕ → List ℕ) → ℕ → List ℕ
joined piece zero = []
joined piece (suc n) = joined piece n ++ piece n

-- of the first k places: the number of words of their objects, these objects end to end, and the entries
abbrev pub words_below : Table → ℕ → ℕ
words_below t zero = 0
words_below t (suc k) = words_below t k + words_at (entry t k)

abbrev pub space_below : Table → ℕ → List ℕ
space_below t k = joined (λ j. bytes_at (entry t j)) k

abbrev pub entries_below : Table → ℕ → List ℕ
entries_below t k = joined (λ j. entry_bytes (entry t j) (words_below t j)) k

-- of the first k places those up to the last one with an object
unfoldable pub used_below : Table → ℕ → ℕ
used_below t zero = 0
used_below t (suc k) = if is_some (entry t k) then suc k else used_below t k

-- the pointer of a table of names, 0 for none
abbrev pub root_word : Option Value → ℕ
root_word None = 0
root_word (Some x) = word_of x

-- so many bytes of 0
unfoldable pub zeros : ℕ → List ℕ
zeros n = replicate n 0

-- the named part of the head: the lengths of the object space and of the table in words, the letters, the version, the
-- capacities, and the pointers of the global name table and of the symbol table
abbrev pub head_bytes : ℕ → ℕ → Head → List ℕ
head_bytes words entries h = long_bytes words ++ (long_bytes (3 * entries) ++ (codes "ST80" ++ (long_bytes 2
    ++ (long_bytes h.entries ++ (long_bytes h.words ++ (long_bytes (root_word h.globals) ++ long_bytes (root_word h.symbols)))))))

-- how many bytes are missing from so many words to a multiple of 512 bytes
abbrev pub padding : ℕ → ℕ
padding words = (2 * words + 511) / 512 * 512 - 2 * words

-- the text of a table's first n places
abbrev pub text_of : Table → ℕ → Head → List ℕ
text_of t n h = let words = words_below t n in
    head_bytes words n h ++ (zeros 480 ++ (space_below t n ++ (zeros (padding words) ++ entries_below t n)))

unfoldable pub image_of : View → List ℕ
image_of v = text_of v.objects (used_below v.objects (length v.objects)) v.head
