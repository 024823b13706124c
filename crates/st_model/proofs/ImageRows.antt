-- Worked rows of image files, computed from the definitions: an image of 24 objects, and the same with one word changed.
use Rattle.std.proofs.Common.{◌≡◌, ℕ, ◌+◌, ◌/◌, ◌%◌, zero, suc, List, [], ◌∷◌, ◌++◌, Bool, true, false, not, ◌&&◌, ◌||◌, slice_set, replicate, refl, lit<, lit≤, Some}
use Rattle.std.specs.Prelude.{pos, nat_le, is_some, take, length}
use Rattle.std.specs.List.{list_any}
use Rattle.st_model.specs.declared.kind.Kind.TheVariants as kind
use Rattle.st_model.specs.declared.dead.Dead.TheVariants as dead
use Rattle.st_model.specs.declared.fault.ImageFault.TheVariants.{Short, Capacity, Size, Overlap, Class, Field, Method, Root}
use Rattle.st_model.specs.declared.head.ImageHead.{ImageHead}
use Rattle.st_model.specs.Image.{number16, number32, has_letters, image_head, flags, form_of, entries_of, entry_start, place, is_used, size, class, body, names}
use Rattle.st_model.specs.Faults.{Fails, short_fails, lengths_fail, capacity_fails, size_fails, class_fails, is_field, field_fails, method_fails, root_fails, roots}
use Rattle.st_model.specs.Values.{Value, Small, Ref, value_of}
use Rattle.st_model.specs.Objects.{Object, nil}
use Rattle.st_model.specs.Machine.{State, Died, Went, answer, die, after, ◌>>=◌, ◌>>◌}
use Rattle.st_model.specs.Steps.{registers_set, set_registers, found, object_named, object, of_page, or_die, check, fetch_field, count_fields, integer_or_die, fetch_integer}
use Rattle.st_model.specs.Contexts.{home_by, home_of, stack_place, fetch_stack_pointer, context_registers, fetch_context_registers, scheduled_context, fetch_scheduled_registers}
use Rattle.st_model.specs.Table.{Table, table, entry}
use Rattle.st_model.specs.View.{empty_view, nothing_held}
use Rattle.st_model.specs.Start.{is_word_class, has_words, kind_in, fields_in, units_in, field_in, unit_in, object_in, entry_in, start_view, start}

-- opens the reading of images, and the rows of faults
opened : Unit {0}
unfolding number16 number32 has_letters image_head form_of entries_of entry_start flags place is_used size class body names short_fails lengths_fail capacity_fails size_fails class_fails is_field field_fails method_fails root_fails
opened = tt

bytes_of : List ℕ → List ℕ
bytes_of [] = []
bytes_of (w ∷ ws) = w / 256 ∷ w % 256 ∷ bytes_of ws

head_words : List ℕ
head_words = 0 ∷ 78 ∷ 0 ∷ 66 ∷ 21332 ∷ 14384 ∷ 0 ∷ 1 ∷ 0 ∷ 32767 ∷ 16 ∷ 0 ∷ []

-- an object of size 2 and class 12, so many times
bare : ℕ → List ℕ
bare zero = []
bare (suc n) = 2 ∷ 12 ∷ bare n

-- the objects
space : List ℕ
space = bare 3 ++ 4 ∷ 12 ∷ 2 ∷ 58 ∷ bare 16 ++ 4 ∷ 12 ∷ 2 ∷ 60 ∷ 6 ∷ 12 ∷ 2 ∷ 62 ∷ 9 ∷ 2
    ∷ 20 ∷ 22 ∷ 2 ∷ 7 ∷ 3 ∷ 64 ∷ replicate 14 2 ++ 6 ∷ 34 ∷ 257 ∷ 30327 ∷ 26787 ∷ 64256 ∷ []

entries : List ℕ
entries = 32 ∷ 0 ∷ 64 ∷ 0 ∷ 64 ∷ 2 ∷ 64 ∷ 4 ∷ 64 ∷ 6 ∷ 32 ∷ 0 ∷ 64 ∷ 10 ∷ 64 ∷ 12 ∷ 64 ∷ 14 ∷ 32 ∷ 0 ∷ 32 ∷ 0 ∷ 64 ∷ 16 ∷ 64 ∷ 18 ∷ 64 ∷ 20 ∷ 64 ∷ 22 ∷ 32 ∷ 0 ∷ 64 ∷ 24
    ∷ 64 ∷ 26 ∷ 32 ∷ 0 ∷ 32 ∷ 0 ∷ 64 ∷ 28 ∷ 64 ∷ 30 ∷ 64 ∷ 32 ∷ 32 ∷ 0 ∷ 64 ∷ 34 ∷ 64 ∷ 36 ∷ 64 ∷ 38 ∷ 32 ∷ 0 ∷ 64 ∷ 40 ∷ 64 ∷ 42 ∷ 64 ∷ 46 ∷ 64 ∷ 52 ∷ 128 ∷ 72 ∷ []

image : List ℕ
unfolding bytes_of head_words bare space entries
image = bytes_of head_words ++ replicate 488 0 ++ bytes_of space ++ replicate 356 0 ++ bytes_of entries

head : ImageHead
head = record { space = 78; table = 66; version = 1; entries = 32767; words = 1048576; globals = 0; symbols = 0 }

-- the same image in version 2: the location has two words
wide : List ℕ → List ℕ
wide [] = []
wide (marks ∷ []) = marks ∷ []
wide (marks ∷ at ∷ rest) = marks ∷ 0 ∷ at ∷ wide rest

second_words : List ℕ
second_words = 0 ∷ 78 ∷ 0 ∷ 99 ∷ 21332 ∷ 14384 ∷ 0 ∷ 2 ∷ 0 ∷ 32767 ∷ 256 ∷ 0 ∷ []

second_image : List ℕ
unfolding bytes_of second_words bare space entries wide
second_image = bytes_of second_words ++ replicate 488 0 ++ bytes_of space ++ replicate 356 0 ++ bytes_of (wide entries)

second_head : ImageHead
second_head = record { space = 78; table = 99; version = 2; entries = 32767; words = 16777216; globals = 0; symbols = 0 }

-- the file with a word put at a byte
put_word : ℕ → ℕ → List ℕ → List ℕ
put_word at w bytes = slice_set (slice_set bytes at (w / 256)) (at + 1) (w % 256)

-- no number below n passes the test
none : (ℕ → Bool) → ℕ → Bool
none test zero = true
none test (suc n) = not (test n) && none test n

-- what a test says of each number
each : (ℕ → Bool) → List ℕ → List Bool
each test [] = []
each test (n ∷ ns) = test n ∷ each test ns

-- WELL-FORMED IN ITS PARTS

head_read : image_head image ≡ head
unfolding opened image head
head_read = refl

not_short : short_fails head image ≡ false
unfolding opened image head
not_short = refl

lengths_right : lengths_fail head ≡ false
unfolding opened head
lengths_right = refl

capacity_right : capacity_fails head image ≡ false
unfolding opened image head
capacity_right = refl

sizes_right : none (size_fails head image) 33 ≡ true
unfolding opened image head none
sizes_right = refl

-- the object of entry k ends where that of entry j begins, or before it, or one of them is free
lies_before : ℕ → ℕ → Bool
lies_before k j = not (is_used head image k) || not (is_used head image j) || nat_le (place head image k + size head image k) (place head image j)

objects_apart : none (λ j. not (none (λ k. not (lies_before k j)) j)) 33 ≡ true
unfolding opened image head none lies_before
objects_apart = refl

classes_right : none (class_fails head image) 33 ≡ true
unfolding opened image head none
classes_right = refl

fields_right : none (λ k. not (none (field_fails head image k) 20)) 33 ≡ true
unfolding opened image head none
fields_right = refl

methods_right : none (method_fails head image) 33 ≡ true
unfolding opened image head none
methods_right = refl

roots_right : list_any (root_fails head image) (roots head) ≡ false
unfolding opened image head
roots_right = refl

-- THE VERSIONS

second_read : image_head second_image ≡ second_head
unfolding opened second_image second_head
second_read = refl

second_right : short_fails second_head second_image || lengths_fail second_head || capacity_fails second_head second_image ≡ false
unfolding opened second_image second_head
second_right = refl

-- the same marks and places in both, and so the same objects
second_entry : flags second_head second_image 32 ∷ place second_head second_image 32 ∷ [] ≡ flags head image 32 ∷ place head image 32 ∷ []
unfolding opened image head second_image second_head
second_entry = refl

second_sizes : none (λ k. size_fails second_head second_image k || class_fails second_head second_image k || method_fails second_head second_image k) 33 ≡ true
unfolding opened second_image second_head none
second_sizes = refl

-- place 65608 is in segment 1 of version 1, and in version 2 the upper word of its location is 1
further_places : place head (put_word 1152 129 image) 32 ∷ place second_head (put_word 1218 1 second_image) 32 ∷ [] ≡ 65608 ∷ 65608 ∷ []
unfolding opened image head second_image second_head put_word
further_places = refl

-- the marks of version 2 have no segment: what stands in bits 12 to 15 is not looked at
no_segment : place second_head (put_word 1216 143 second_image) 32 ∷ flags second_head (put_word 1216 143 second_image) 32 ∷ [] ≡ 72 ∷ 143 ∷ []
unfolding opened second_image second_head put_word
no_segment = refl

versions : each (λ n. lengths_fail (record head { version = n })) (0 ∷ 1 ∷ 3 ∷ 4294967295 ∷ []) ≡ true ∷ false ∷ true ∷ true ∷ []
unfolding opened head each
versions = refl

tables : each (λ n. lengths_fail (record head { table = n })) (65 ∷ 66 ∷ 65536 ∷ 65538 ∷ []) ≡ true ∷ false ∷ false ∷ true ∷ []
unfolding opened head each
tables = refl

second_tables : each (λ n. lengths_fail (record second_head { table = n })) (96 ∷ 98 ∷ 99 ∷ 98304 ∷ 98307 ∷ []) ≡ false ∷ true ∷ false ∷ false ∷ true ∷ []
unfolding opened second_head each
second_tables = refl

spaces : each (λ n. lengths_fail (record head { space = n })) (1048576 ∷ 1048577 ∷ []) ≡ false ∷ true ∷ []
unfolding opened head each
spaces = refl

second_spaces : each (λ n. lengths_fail (record second_head { space = n })) (16777216 ∷ 16777217 ∷ []) ≡ false ∷ true ∷ []
unfolding opened second_head each
second_spaces = refl

capacities : each (λ n. capacity_fails (record head { words = n }) image) (77 ∷ 78 ∷ 1048576 ∷ 1048577 ∷ []) ≡ true ∷ false ∷ false ∷ true ∷ []
unfolding opened image head each
capacities = refl

second_capacities : each (λ n. capacity_fails (record second_head { words = n }) second_image) (77 ∷ 78 ∷ 16777216 ∷ 16777217 ∷ []) ≡ true ∷ false ∷ false ∷ true ∷ []
unfolding opened second_image second_head each
second_capacities = refl

-- FAULTS

-- the size word of @64 reaches past the object space
wrong_size : Fails head (put_word 656 7 image) (Size 64)
unfolding opened image head put_word Fails
wrong_size = (refl, refl)

-- @44, @52 and @56 on one place
wrong_places : Fails head (put_word 1138 32 (put_word 1130 32 image)) (Overlap 44 52)
unfolding opened image head put_word Fails
wrong_places = (refl, refl, lit< tt, (32, ((refl, lit≤ tt, lit< tt), (refl, lit≤ tt, lit< tt))))

-- the class of @2 is odd
wrong_class : Fails head (put_word 514 13 image) (Class 2)
unfolding opened image head put_word Fails
wrong_class = (refl, refl)

-- 9998 in field 6 of @62, and no wrong field before it
wrong_field : Fails head (put_word 632 9998 image) (Field 62 6)
unfolding opened image head put_word Fails
wrong_field = (refl, refl)

no_field_before : none (λ k. not (none (field_fails head (put_word 632 9998 image) k) 20)) 31 && none (field_fails head (put_word 632 9998 image) 31) 6 ≡ true
unfolding opened image head put_word none
no_field_before = refl

-- an even header whose bits give one literal, which names no entry in use
wrong_literal : Fails head (put_word 662 30328 (put_word 660 2 image)) (Field 64 1)
unfolding opened image head put_word Fails
wrong_literal = (refl, refl)

-- an even header without literals
wrong_header : Fails head (put_word 660 0 image) (Method 64)
unfolding opened image head put_word Fails
wrong_header = (refl, refl)

-- the entry of @44 is free
wrong_root : Fails head (put_word 1112 32 image) (Root 44)
unfolding opened image head put_word Fails
wrong_root = ((15, lit< tt, refl), refl)

-- HOSTILE FILES: cut, a capacity below the entries in use, two objects in one place. No row before the one that fails does so.

-- a byte is cut off its 1156
whole : length image ≡ 1156
unfolding image
whole = refl

cut : Fails head (take 1155 image) Short
unfolding opened image head Fails
cut = refl

-- a capacity of 23 entries, where 24 are in use
small_read : image_head (put_word 18 23 image) ≡ record head { entries = 23 }
unfolding opened image head put_word
small_read = refl

small : Fails (record head { entries = 23 }) (put_word 18 23 image) Capacity
unfolding opened image head put_word Fails
small = refl

small_first : short_fails (record head { entries = 23 }) (put_word 18 23 image) || lengths_fail (record head { entries = 23 }) ≡ false
unfolding opened image head put_word
small_first = refl

not_small : capacity_fails (record head { entries = 24 }) (put_word 18 24 image) ≡ false
unfolding opened image head put_word
not_small = refl

-- the entry of @2 has the location of @4, and no pointers are before these
shared : Fails head (put_word 1030 2 image) (Overlap 2 4)
unfolding opened image head put_word Fails
shared = (refl, refl, lit< tt, (2, ((refl, lit≤ tt, lit< tt), (refl, lit≤ tt, lit< tt))))

shared_first : short_fails head (put_word 1030 2 image) || lengths_fail head || capacity_fails head (put_word 1030 2 image) ≡ false
unfolding opened image head put_word
shared_first = refl

shared_sizes : none (size_fails head (put_word 1030 2 image)) 33 ≡ true
unfolding opened image head put_word none
shared_sizes = refl

-- THE START

opened_start : Unit {0}
unfolding opened is_word_class has_words kind_in fields_in units_in field_in unit_in object_in entry_in start_view start empty_view nothing_held value_of answer die after ◌>>=◌ ◌>>◌ registers_set set_registers found object_named object of_page or_die check fetch_field integer_or_die fetch_integer home_by home_of stack_place fetch_stack_pointer count_fields context_registers fetch_context_registers scheduled_context fetch_scheduled_registers
opened_start = tt

context_read : object_in head image 31 ≡ record { class = 11; kind = kind.Pointers; fields = nil ∷ Small 3 ∷ Small 1 ∷ Ref 32 ∷ replicate 14 nil; units = [] }
unfolding opened_start image head
context_read = refl

method_read : object_in head image 32 ≡ record { class = 17; kind = kind.Method; fields = Small 128 ∷ []; units = 118 ∷ 119 ∷ 104 ∷ 163 ∷ 251 ∷ [] }
unfolding opened_start image head
method_read = refl

-- an object of class 12 with these fields
plain : List Value → Object
plain fields = record { class = 6; kind = kind.Pointers; fields = fields; units = [] }

-- the machine dies where a SmallInteger stands for the active process
died : (s : State Table) → entry s.memory 4 ≡ Some (plain (nil ∷ Ref 29 ∷ [])) → entry s.memory 29 ≡ Some (plain (nil ∷ Small 1 ∷ []))
    → (fetch_scheduled_registers table).run s ≡ Died dead.Small
unfolding opened_start plain
died s a b = simp (a, b)

-- the registers that the context of the scheduler's active process gives
fetched : (s : State Table) → entry s.memory 4 ≡ Some (plain (nil ∷ Ref 29 ∷ [])) → entry s.memory 29 ≡ Some (plain (nil ∷ Ref 30 ∷ []))
    → entry s.memory 30 ≡ Some (plain (nil ∷ Ref 31 ∷ Small 4 ∷ nil ∷ []))
    → entry s.memory 31 ≡ Some (record { class = 11; kind = kind.Pointers; fields = nil ∷ Small 3 ∷ Small 1 ∷ Ref 32 ∷ replicate 14 nil; units = [] })
    → is_some (entry s.memory 32) ≡ true → is_some (entry s.memory 1) ≡ true
    → (fetch_scheduled_registers table).run s ≡ Went tt (record s { registers = record { active = Ref 31; home = Ref 31; method = Ref 32; receiver = nil; ip = pos 2; sp = 6 } })
unfolding opened_start plain
fetched s a b c d e f = simp (a, b, c, d, e, f)
