-- Worked rows of exchanges, words and bytes, and pointers, over births and over tables. An object of class 1 and one of class
-- 2 bear the pointers 2 and 6; a third, which bore 4, isn't kept.
use Rattle.std.proofs.Common.{◌≡◌, ℕ, List, [], ◌∷◌, Some, None, refl}
use Rattle.std.specs.Prelude.{true, false, pos}
use Rattle.st_model.specs.declared.kind.Kind.TheVariants as kind
use Rattle.st_model.specs.declared.dead.Dead.TheVariants as dead
use Rattle.st_model.specs.Values.{Value, Small, Ref}
use Rattle.st_model.specs.Objects.{Object, nil}
use Rattle.st_model.specs.Machine.{State, World, Died, Went, ◌>>◌, empty_world, next_of, tried}
use Rattle.st_model.specs.Births.{Births, births}
use Rattle.st_model.specs.Table.{Table, table, apart}
use Rattle.st_model.specs.declared.device.Device.TheVariants.{Display}
use Rattle.st_model.specs.Surroundings.{Hold}
use Rattle.st_model.specs.Steps.{exchange, set_units, fetch_word, store_word, fetch_byte, store_byte, fetch_field, fetch_method_field, store_method_field, object_at, next_instance, get_device, change_world}
use Rattle.st_model.proofs.Opened.{opened}

plain : Object
plain = record { class = 1; kind = kind.Pointers; fields = Small 5 ∷ []; units = [] }

bytes : List ℕ → Object
bytes us = record { class = 2; kind = kind.Bytes; fields = []; units = us }

births_of : Object → Object → Births
births_of a b =
    record { object = a; pointer = 1; kept = true } ∷ record { object = plain; pointer = 2; kept = false } ∷ record { object = b; pointer = 3; kept = true } ∷ []

table_of : Object → Object → Table
table_of a b = None ∷ Some a ∷ None ∷ Some b ∷ []

state : {H : Type 0} → H → State H
state h = record {
  memory = h;
  registers = record { active = nil; home = nil; method = nil; receiver = nil; ip = pos 0; sp = 5 };
  world = empty_world nil;
  head = record { entries = 32767; words = 1048576; globals = None; symbols = None };
}

-- class and body are exchanged, by birth number and by pointer, and the pointers stay
exchanged_births : (exchange births (Ref 0) (Ref 2)).run (state (births_of plain (bytes (7 ∷ [])))) ≡ Went tt (state (births_of (bytes (7 ∷ [])) plain))
unfolding opened state births_of plain bytes
exchanged_births = refl

exchanged_table : (exchange table (Ref 1) (Ref 3)).run (state (table_of plain (bytes (7 ∷ [])))) ≡ Went tt (state (table_of (bytes (7 ∷ [])) plain))
unfolding opened state table_of plain bytes
exchanged_table = refl

no_exchange : (exchange births (Ref 0) (Ref 3)).run (state (births_of plain (bytes []))) ≡ Died dead.Kind
unfolding opened state births_of plain bytes
no_exchange = refl

-- who bears a pointer: what isn't kept bears none
bearers : (births.borne_by (births_of plain (bytes [])) 1 ≡ Some 0) × (births.borne_by (births_of plain (bytes [])) 2 ≡ None) × (births.borne_by (births_of plain (bytes [])) 3 ≡ Some 2)
unfolding births_of plain bytes
bearers = (refl, refl, refl)

-- the next instance of a class
nexts : (next_of births (births_of plain plain) 1 0 ≡ Some 0) × (next_of births (births_of plain plain) 1 1 ≡ Some 2) × (next_of table (table_of plain plain) 1 1 ≡ Some 3)
unfolding opened births_of table_of plain
nexts = (refl, refl, refl)

-- byte 1 of two, and none after it
stored_byte : (store_byte table (Ref 3) 1 9).run (state (table_of plain (bytes (7 ∷ 8 ∷ [])))) ≡ Went tt (state (table_of plain (bytes (7 ∷ 9 ∷ []))))
unfolding opened state table_of plain bytes
stored_byte = refl

no_byte : (store_byte table (Ref 3) 2 9).run (state (table_of plain (bytes (7 ∷ 8 ∷ [])))) ≡ Died dead.Field
unfolding opened state table_of plain bytes
no_byte = refl

-- what would die answers none where it is tried
tried_field : (tried (fetch_field table (Ref 3) 0)).run (state (table_of plain (bytes []))) ≡ Went None (state (table_of plain (bytes [])))
unfolding opened state table_of plain bytes
tried_field = refl

tried_there : (tried (fetch_field table (Ref 1) 0)).run (state (table_of plain (bytes []))) ≡ Went (Some (Small 5)) (state (table_of plain (bytes [])))
unfolding opened state table_of plain bytes
tried_there = refl

-- words, and bytes of methods: a header and one literal are bytes 0 to 3, which aren't fetched or stored as bytes

words : List ℕ → Object
words us = record { class = 2; kind = kind.Words; fields = []; units = us }

method : Value → List ℕ → Object
method literal us = record { class = 17; kind = kind.Method; fields = Small 1 ∷ literal ∷ []; units = us }

stored_word : (store_word table (Ref 3) 1 9).run (state (table_of plain (words (7 ∷ 8 ∷ [])))) ≡ Went tt (state (table_of plain (words (7 ∷ 9 ∷ []))))
unfolding opened state table_of plain words
stored_word = refl

no_words : (store_word table (Ref 3) 0 9).run (state (table_of plain (bytes (7 ∷ [])))) ≡ Died dead.Kind
unfolding opened state table_of plain bytes
no_words = refl

fetched_word : (fetch_word table (Ref 3) 1).run (state (table_of plain (words (7 ∷ 8 ∷ [])))) ≡ Went 8 (state (table_of plain (words (7 ∷ 8 ∷ []))))
unfolding opened state table_of plain words
fetched_word = refl

all_words : (set_units table (Ref 3) (1 ∷ 2 ∷ [])).run (state (table_of plain (words (7 ∷ 8 ∷ [])))) ≡ Went tt (state (table_of plain (words (1 ∷ 2 ∷ []))))
unfolding opened state table_of plain words
all_words = refl

too_many_words : (set_units table (Ref 3) (1 ∷ 2 ∷ 3 ∷ [])).run (state (table_of plain (words (7 ∷ 8 ∷ [])))) ≡ Died dead.Field
unfolding opened state table_of plain words
too_many_words = refl

bytecode_stored : (store_byte table (Ref 3) 5 9).run (state (table_of plain (method (Small 6) (7 ∷ 8 ∷ [])))) ≡ Went tt (state (table_of plain (method (Small 6) (7 ∷ 9 ∷ []))))
unfolding opened state table_of plain method
bytecode_stored = refl

bytecode_fetched : (fetch_byte table (Ref 3) 4).run (state (table_of plain (method (Small 6) (7 ∷ 8 ∷ [])))) ≡ Went 7 (state (table_of plain (method (Small 6) (7 ∷ 8 ∷ []))))
unfolding opened state table_of plain method
bytecode_fetched = refl

no_byte_of_a_literal : (store_byte table (Ref 3) 3 9).run (state (table_of plain (method (Small 6) (7 ∷ [])))) ≡ Died dead.Field
unfolding opened state table_of plain method
no_byte_of_a_literal = refl

-- field 1 of a method is literal 0
literal_fetched : (fetch_method_field table (Ref 3) 1).run (state (table_of plain (method (Small 6) []))) ≡ Went (Small 6) (state (table_of plain (method (Small 6) [])))
unfolding opened state table_of plain method
literal_fetched = refl

literal_stored : (store_method_field table (Ref 3) 1 (Ref 1)).run (state (table_of plain (method (Small 6) []))) ≡ Went tt (state (table_of plain (method (Ref 1) [])))
unfolding opened state table_of plain method
literal_stored = refl

-- the object of a pointer, and the next instance of a class, as steps

found_at : (object_at table 3).run (state (table_of plain plain)) ≡ Went (Some (Ref 3)) (state (table_of plain plain))
unfolding opened state table_of plain
found_at = refl

none_at : (object_at births 2).run (state (births_of plain plain)) ≡ Went None (state (births_of plain plain))
unfolding opened state births_of plain
none_at = refl

next_one : (next_instance births (Ref 1) 1).run (state (births_of plain plain)) ≡ Went (Some (Ref 2)) (state (births_of plain plain))
unfolding opened state births_of plain
next_one = refl

-- where new objects stand apart, exchanges and pointers of those that were there are the table's
exchanged_apart : (exchange apart (Ref 1) (Ref 3)).run (state (table_of plain (bytes (7 ∷ [])))) ≡ Went tt (state (table_of (bytes (7 ∷ [])) plain))
unfolding opened state table_of plain bytes
exchanged_apart = refl

-- a device holds what is there

displayed : Value → World
displayed v = record (empty_world (Ref 1)) { devices = record (empty_world (Ref 1)).devices { display = v } }

held : (change_world table (Hold Display (Ref 3)) >> get_device Display).run (state (table_of plain plain))
    ≡ Went (Ref 3) (record (state (table_of plain plain)) { world = displayed (Ref 3) })
unfolding opened state table_of plain displayed
held = refl

missing : (change_world table (Hold Display (Ref 2))).run (state (table_of plain plain)) ≡ Died dead.Kind
unfolding opened state table_of plain displayed
missing = refl
