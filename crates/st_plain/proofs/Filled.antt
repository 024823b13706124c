-- What a memory and a loader say at all times, where a part of an object changes.
use Rattle.std.proofs.Common.{◌≡◌, ℕ, ◌<◌, true, List, length, take, refl, ap, ◌∙◌}
use Rattle.st_model.specs.declared.oop.Oop.{Oop}
use Rattle.st_model.specs.Values.{Value, value}
use Rattle.st_model.specs.Objects.{words_of, is_words, size_of}
use Rattle.st_model.specs.Formed.{IsHeader, unit_limit}
use Rattle.st_model.specs.inside.Loading.{IsLoading}
use Rattle.st_model.specs.Table.{total_used}
use Rattle.st_model.specs.View.{View, IsWhole, is_live, object_of, with_unit, with_stored}
use Rattle.st_model.proofs.FormedLemmas.{words_range}
use Rattle.st_model.proofs.LoadingLemmas.{loading_unit, loading_stored, total_used-with_unit, total_used-with_stored}
use Rattle.st_model.proofs.Pointers.{IsWord-value_of}
use Rattle.st_model.proofs.WholeLemmas.{formed_live, whole_unit}
use Rattle.st_plain.specs.declared.objects.Objects.{Objects}
use Rattle.st_plain.specs.declared.contents.Contents.{Contents}
use Rattle.st_plain.specs.declared.memory.PlainMemory.{PlainMemory}
use Rattle.st_plain.specs.declared.loader.PlainLoader.{PlainLoader}
use Rattle.st_plain.specs.inside.ListsPlain.{objects_of, extent_of, IsLong}
use Rattle.st_plain.specs.inside.Plain.{plain_view, HasRoom, AreLong}
use Rattle.st_plain.specs.inside.Lists.{listed_table}
use Rattle.st_plain.proofs.Placing.{same_table}
use Rattle.st_plain.proofs.Room.{long_same, room_same}

-- all that a memory of these parts says
abbrev pub Kept : Contents → Type 0
Kept m = record { whole : IsWhole (plain_view m); long : AreLong m }

-- all that a loader of these parts says
abbrev pub Filled : Contents → Type 0
Filled l = record { loading : IsLoading (plain_view l); room : HasRoom l; spare : IsLong (extent_of l.spare) l.head.capacity.words }

-- the objects change, and their lists are as long as before
pub kept : (m : PlainMemory) (now : Objects) → IsWhole (plain_view (record m.contents { objects = now })) → extent_of now ≡ extent_of m.contents.objects → Kept (record m.contents { objects = now })
kept m now whole extent = record {
  whole = whole;
  long = record { objects = long_same (extent_of m.contents.objects) (extent_of now) m.contents.head.capacity.words m.long.objects extent; spare = m.long.spare };
}

-- a word or a byte is stored
pub kept_unit : (m : PlainMemory) (now : Objects) (x : Value) (i u : ℕ) → is_live (objects_of m.contents.objects) x ≡ true → u < unit_limit (object_of (objects_of m.contents.objects) x).kind
    → objects_of now ≡ with_unit (objects_of m.contents.objects) x i u → extent_of now ≡ extent_of m.contents.objects → Kept (record m.contents { objects = now })
kept_unit m now x i u live small objects = kept m now (whole_unit (plain_view m.contents) (plain_view (record m.contents { objects = now })) x i u m.whole live small objects refl refl)

-- a loader's objects change, and take as many words as before
pub filled : (l : PlainLoader) (now : Objects) → IsLoading (plain_view (record l.contents { objects = now })) → extent_of now ≡ extent_of l.contents.objects → total_used words_of (objects_of now) ≡ total_used words_of (objects_of l.contents.objects)
    → Filled (record l.contents { objects = now })
filled l now loading extent same = record {
  loading = loading;
  room = room_same (extent_of l.contents.objects) (extent_of now) (total_used words_of (objects_of l.contents.objects)) (total_used words_of (objects_of now)) l.contents.head.capacity.words l.room extent same;
  spare = l.spare;
}

pub filled_unit : (l : PlainLoader) (now : Objects) (x : Value) (i u : ℕ) → is_live (objects_of l.contents.objects) x ≡ true → u < unit_limit (object_of (objects_of l.contents.objects) x).kind
    → objects_of now ≡ with_unit (objects_of l.contents.objects) x i u → extent_of now ≡ extent_of l.contents.objects → Filled (record l.contents { objects = now })
filled_unit l now x i u live small objects extent =
    let v = plain_view l.contents in
    filled l now (loading_unit v (plain_view (record l.contents { objects = now })) x i l.loading live refl refl u small objects) extent (ap (total_used words_of) objects ∙ total_used-with_unit v.objects x i u live)

pub filled_field : (l : PlainLoader) (now : Objects) (x : Value) (i : ℕ) (y : Oop) → is_live (objects_of l.contents.objects) x ≡ true → IsHeader (object_of (objects_of l.contents.objects) x) i (value y) → y.0 < 65536
    → objects_of now ≡ with_stored (objects_of l.contents.objects) x i (value y) → extent_of now ≡ extent_of l.contents.objects → Filled (record l.contents { objects = now })
filled_field l now x i y live header word objects extent =
    let v = plain_view l.contents in
    filled l now (loading_stored v (plain_view (record l.contents { objects = now })) x i l.loading live refl refl (value y) header (IsWord-value_of y.0 word) objects) extent
    (ap (total_used words_of) objects ∙ total_used-with_stored v.objects x i (value y) live)

-- what is not in use can change
pub in_use_stays : (o : Objects) (p : List Oop) (u : List ℕ) → take o.next_field p ≡ take o.next_field o.pointers.items → take o.next_unit u ≡ take o.next_unit o.units.items → listed_table p u o.entries.items ≡ objects_of o
in_use_stays o p u fields units = same_table p o.pointers.items u o.units.items o.next_field o.next_unit fields units o.entries.items o.laid_out.placed

-- a word within the size is among the units
pub word_within : (v : View) (x : Value) (i : ℕ) → IsWhole v → is_live v.objects x ≡ true → is_words (object_of v.objects x).kind ≡ true → i < size_of (object_of v.objects x) → i < length (object_of v.objects x).units
word_within v x i whole live words range = words_range (object_of v.objects x) i (formed_live v whole x live) words range
