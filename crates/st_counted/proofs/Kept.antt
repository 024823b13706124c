-- What a memory and a loader say at all times, where a part of them changes.
use Rattle.std.proofs.Common.{◌≡◌, ℕ, ◌/◌, ◌<◌, true, List, [], get_or, refl, sym, ap, ◌∙◌, subst}
use Rattle.std.specs.Prelude.{None}
use Rattle.st_model.specs.declared.oop.Oop.{Oop}
use Rattle.st_model.specs.Values.{Value, value}
use Rattle.st_model.specs.Formed.{IsHeader, unit_limit}
use Rattle.st_model.specs.inside.Loading.{IsLoading}
use Rattle.st_model.specs.Objects.{with_units}
use Rattle.st_model.specs.Table.{Table, changed}
use Rattle.st_model.specs.View.{IsWhole, IsKnown, is_live, object_of, with_unit, with_stored, head_of}
use Rattle.st_model.proofs.LoadingLemmas.{loading_unit, loading_stored}
use Rattle.st_model.proofs.Pointers.{IsWord-value_of}
use Rattle.st_model.proofs.WholeLemmas.{whole_unit, whole_stored}
use Rattle.st_memory.specs.inside.Copied.{with_units_in}
use Rattle.st_cells.specs.inside.Words.{with_run}
use Rattle.st_heap.specs.declared.objects.HeapObjects.{HeapObjects}
use Rattle.st_heap.specs.inside.Links.{SameLinks}
use Rattle.st_heap.specs.inside.Tables.{objects_of, room_of}
use Rattle.st_counted.specs.declared.contents.Contents.{Contents}
use Rattle.st_counted.specs.declared.contents.Head.{Head}
use Rattle.st_counted.specs.declared.memory.CountedMemory.{CountedMemory}
use Rattle.st_counted.specs.declared.loader.CountedLoader.{CountedLoader}
use Rattle.st_counted.specs.inside.Counts.{count_at}
use Rattle.st_counted.specs.inside.Links.{IsListed}
use Rattle.st_counted.specs.inside.References.{all_roots, references, IsCounted}
use Rattle.st_counted.specs.inside.Counted.{counted_view, numbers_of, HasRoom, AllCounted}
use Rattle.st_counted.proofs.Listing.{relinked, tally_stored}
use Rattle.st_counted.proofs.Referring.{counted_unit}
use Rattle.st_counted.proofs.Stretches.{changed_is, whole_run, counted_run}

-- all that a memory of these parts says
abbrev pub Kept : Contents → Type 0
Kept m = record { whole : IsWhole (counted_view m); room : HasRoom m; counted : AllCounted m; listed : IsListed m.objects m.counts }

-- all that a loader of these parts says
abbrev pub Filled : Contents → Type 0
Filled l = record { loading : IsLoading (counted_view l); room : HasRoom l; uncounted : (k : ℕ) → count_at (numbers_of l) k ≡ None }

-- the objects change, and no reference does
pub kept_beside : (m : CountedMemory) (now : HeapObjects) (t : Table) → objects_of now ≡ t → IsWhole (counted_view (record m.contents { objects = now })) → IsCounted t (all_roots (counted_view m.contents)) [] (numbers_of m.contents)
    → room_of now ≡ room_of m.contents.objects → SameLinks m.contents.objects.store now.store → Kept (record m.contents { objects = now })
kept_beside m now t is whole counted room links =
    let v = counted_view m.contents in
    let numbers = numbers_of m.contents in
    let still : IsCounted (objects_of now) (all_roots v) [] numbers = subst (λ (u : Table). IsCounted u (all_roots v) [] numbers) (sym is) counted in
    record {
      whole = whole;
      room = room ∙ m.room;
      counted = still;
      listed = relinked m.contents.objects now m.contents.counts m.listed links (tally_stored now (references (objects_of now) (all_roots v) []) numbers still.tallied);
    }

-- a word or a byte is stored
pub kept_unit : (m : CountedMemory) (now : HeapObjects) (x : Value) (i u : ℕ) → is_live (objects_of m.contents.objects) x ≡ true → u < unit_limit (object_of (objects_of m.contents.objects) x).kind
    → objects_of now ≡ with_unit (objects_of m.contents.objects) x i u → room_of now ≡ room_of m.contents.objects → SameLinks m.contents.objects.store now.store → Kept (record m.contents { objects = now })
kept_unit m now x i u live small is =
    let v = counted_view m.contents in
    kept_beside m now (with_unit v.objects x i u) is (whole_unit v (counted_view (record m.contents { objects = now })) x i u m.whole live small is refl refl) (counted_unit v.objects (all_roots v) [] (numbers_of m.contents) x i u m.counted live)

-- a stretch of words or bytes is written
pub kept_run : (m : CountedMemory) (now : HeapObjects) (o : Oop) (at : ℕ) (us : List ℕ) → is_live (objects_of m.contents.objects) (value o) ≡ true → ((j : ℕ) → get_or us j 0 < unit_limit (object_of (objects_of m.contents.objects) (value o)).kind)
    → objects_of now ≡ changed (objects_of m.contents.objects) (o.0 / 2) (with_units (object_of (objects_of m.contents.objects) (value o)) (with_run (object_of (objects_of m.contents.objects) (value o)).units at us)) → room_of now ≡ room_of m.contents.objects
    → SameLinks m.contents.objects.store now.store → Kept (record m.contents { objects = now })
kept_run m now o at us live small written =
    let v = counted_view m.contents in
    let run = with_run (object_of v.objects (value o)).units at us in
    let is = written ∙ changed_is v.objects o run live in
    kept_beside m now (with_units_in v.objects (value o) run) is (whole_run v (counted_view (record m.contents { objects = now })) (value o) at us m.whole live small is refl refl) (counted_run v.objects (all_roots v) [] (numbers_of m.contents) (value o) run m.counted live)

-- a field is stored, and counted
pub kept_field : (m : CountedMemory) (l : Contents) (x : Value) (i : ℕ) (y : Oop) → is_live (objects_of m.contents.objects) x ≡ true → IsKnown (objects_of m.contents.objects) (value y) → IsHeader (object_of (objects_of m.contents.objects) x) i (value y) → y.0 < 65536
    → objects_of l.objects ≡ with_stored (objects_of m.contents.objects) x i (value y) → (counted_view l).held ≡ (counted_view m.contents).held → l.head ≡ m.contents.head → (HasRoom m.contents → HasRoom l) → AllCounted l → IsListed l.objects l.counts → Kept l
kept_field m l x i y live known header word objects held head room counted listed = record {
  whole = whole_stored (counted_view m.contents) (counted_view l) x i (value y) m.whole live known header (IsWord-value_of y.0 word) objects held (ap (λ (h : Head). head_of h.capacity h.globals h.symbols) head);
  room = room m.room;
  counted = counted;
  listed = listed;
}

-- a loader's objects change
pub filled : (l : CountedLoader) (now : HeapObjects) → IsLoading (counted_view (record l.contents { objects = now })) → room_of now ≡ room_of l.contents.objects → Filled (record l.contents { objects = now })
filled l now loading room = record { loading = loading; room = room ∙ l.room; uncounted = l.uncounted }

pub filled_unit : (l : CountedLoader) (now : HeapObjects) (x : Value) (i u : ℕ) → is_live (objects_of l.contents.objects) x ≡ true → u < unit_limit (object_of (objects_of l.contents.objects) x).kind
    → objects_of now ≡ with_unit (objects_of l.contents.objects) x i u → room_of now ≡ room_of l.contents.objects → Filled (record l.contents { objects = now })
filled_unit l now x i u live small objects = filled l now (loading_unit (counted_view l.contents) (counted_view (record l.contents { objects = now })) x i l.loading live refl refl u small objects)

pub filled_field : (l : CountedLoader) (now : HeapObjects) (x : Value) (i : ℕ) (y : Oop) → is_live (objects_of l.contents.objects) x ≡ true → IsHeader (object_of (objects_of l.contents.objects) x) i (value y) → y.0 < 65536
    → objects_of now ≡ with_stored (objects_of l.contents.objects) x i (value y) → room_of now ≡ room_of l.contents.objects → Filled (record l.contents { objects = now })
filled_field l now x i y live header word objects =
    filled l now (loading_stored (counted_view l.contents) (counted_view (record l.contents { objects = now })) x i l.loading live refl refl (value y) header (IsWord-value_of y.0 word) objects)
