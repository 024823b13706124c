-- Objects copied place by place, with their fields and units closed up.
use Rattle.std.proofs.Common.{◌≡◌, ◌≢◌, ℕ, ◌+◌, ◌*◌, ◌/◌, ◌<◌, ◌≤◌, zero, suc, List, [], ◌∷◌, length, take, drop, map, set, refl, sym, ap, ◌∙◌, inl, inr, arith}
use Rattle.std.specs.Prelude.{Option, Some, None}
use Rattle.std.specs.Option.{option_map}
use Rattle.std.proofs.lemmas.Bool.{cases_lt}
use Rattle.std.proofs.lemmas.List.{length-map}
use Rattle.st_model.specs.declared.demand.Demand.{Demand}
use Rattle.st_model.specs.declared.oop.Oop.{Oop}
use Rattle.st_model.specs.Values.{value}
use Rattle.st_model.specs.Objects.{Object, words_of}
use Rattle.st_model.specs.Table.{entry, total_used}
use Rattle.st_plain.specs.declared.entry.Entry.{Entry}
use Rattle.st_plain.specs.declared.objects.Objects.{Objects}
use Rattle.st_plain.specs.inside.Lists.{slot, new_entry, entry_object, entry_total, slot_number, entry_words, entry_fields, entry_units, IsPlaced, AllPlaced}
use Rattle.st_plain.specs.inside.ListsPlain.{Extent, objects_of, with_taken}
use Rattle.st_plain.proofs.Slots.{entry-listed, entry-slot, slice_get-slot}
use Rattle.st_plain.proofs.Looking.{total_more}
use Rattle.st_plain.proofs.Counting.{used_is}
use Rattle.st_memory.proofs.Bodies.{same_table}
use Rattle.st_counted.proofs.Referring.{entry-set_same, entry-set_other}

pub total_part : (w : Entry → ℕ) (es : List (Option Entry)) (k : ℕ) → entry_total w (take k es) ≤ entry_total w es
total_part w es zero = omega arith
total_part w [] (suc k) = omega arith
total_part w (None ∷ es) (suc k) = total_part w es k
total_part w (Some e ∷ es) (suc k) = let a = total_part w es k in omega (arith, a)

slot_parts : (x : Option Entry) (nf nu : ℕ) → ((e : Entry) → x ≡ Some e → IsPlaced nf nu e) → 2 * slot_number entry_fields x + slot_number entry_units x ≤ 2 * slot_number entry_words x
slot_parts None nf nu f = omega arith
slot_parts (Some e) nf nu f = (f e refl).parts

-- what the objects up to a place take, and the one there
pub taken_more : (es : List (Option Entry)) (k nf nu end_field end_unit : ℕ) → AllPlaced end_field end_unit es → k < length es → 2 * nf + nu ≤ 2 * entry_total entry_words (take k es)
    → 2 * (nf + slot_number entry_fields (slot es k)) + (nu + slot_number entry_units (slot es k)) ≤ 2 * entry_total entry_words (take (k + 1) es)
taken_more es k nf nu end_field end_unit placed within taken =
    let a = slot_parts (slot es k) end_field end_unit (λ e h. placed k e (slice_get-slot es k e h)) in
    let b = total_more entry_words es k within in
    omega (arith, a, b, taken)

none_of : (x : Option Entry) (f : Entry → Object) → option_map f x ≡ None → x ≡ None
none_of None f h = refl
none_of (Some e) f h = cc

-- a place without an object has no entry
pub slot_none : (o : Objects) (k : ℕ) → entry (objects_of o) k ≡ None → slot o.entries.items k ≡ None
slot_none o k h =
    let p = o.pointers.items in
    let u = o.units.items in
    none_of (slot o.entries.items k) (entry_object p u) (sym (entry-listed p u o.entries.items k) ∙ h)

-- a place without an entry has no object
pub entry_none : (o : Objects) (k : ℕ) → slot o.entries.items k ≡ None → entry (objects_of o) k ≡ None
entry_none o k h = entry-listed o.pointers.items o.units.items o.entries.items k ∙ ap (option_map (entry_object o.pointers.items o.units.items)) h

-- an object that is added with the fields and units of another's entry
module _ (old new other : Objects) (k nf nu : ℕ) (e : Entry) (p : List Oop) (u : List ℕ) where
  pub copied_here : k < 32768 → slot other.entries.items k ≡ Some e → objects_of new ≡ set (objects_of old) k (Some (entry_object p u (new_entry e.class e.kind nf e.fields nu e.units)))
      → take e.fields (drop nf p) ≡ take e.fields (drop e.fields_at other.pointers.items) → take e.units (drop nu u) ≡ take e.units (drop e.units_at other.units.items)
      → entry (objects_of new) k ≡ entry (objects_of other) k
  copied_here within there objects fields units =
      let in_table : k < length (objects_of old) = let a = length-map old.entries.items (option_map (entry_object old.pointers.items old.units.items)) in let b = old.laid_out.places in omega (arith, a, b, within) in
      ap (λ t. entry t k) objects
      ∙ entry-set_same (objects_of old) k (Some (entry_object p u (new_entry e.class e.kind nf e.fields nu e.units))) in_table
      ∙ (λ i. Some (record { class = e.class.0 / 2; kind = e.kind; fields = map value (fields i); units = units i }))
      ∙ sym (entry-slot other.pointers.items other.units.items other.entries.items k e there)

  pub copied_others : (x : Option Object) → objects_of new ≡ set (objects_of old) k x → (j : ℕ) → j ≢ k → entry (objects_of new) j ≡ entry (objects_of old) j
  copied_others x objects j d = ap (λ t. entry t j) objects ∙ entry-set_other (objects_of old) k j x d

-- no object is copied where there is none
pub copied_none : (old other : Objects) (k : ℕ) → slot old.entries.items k ≡ None → slot other.entries.items k ≡ None → entry (objects_of old) k ≡ entry (objects_of other) k
copied_none old other k a b = entry_none old k a ∙ sym (entry_none other k b)

-- the fields and units of a place fit where those of the places before it are closed up
module _ (other : Objects) (k nf nu : ℕ) (below : k < other.table_end) (taken : 2 * nf + nu ≤ 2 * entry_total entry_words (take k other.entries.items)) where
  abbrev es : List (Option Entry)
  es = other.entries.items

  next_taken : 2 * (nf + slot_number entry_fields (slot es k)) + (nu + slot_number entry_units (slot es k)) ≤ 2 * entry_total entry_words (take (k + 1) es)
  next_taken = let a = other.laid_out.places in let b = other.laid_out.within in taken_more es k nf nu other.next_field other.next_unit other.laid_out.placed (omega (arith, a, b, below)) taken

  pub next_fits : (words : ℕ) → total_used words_of (objects_of other) ≤ words → (nf + slot_number entry_fields (slot es k) ≤ words) × (nu + slot_number entry_units (slot es k) ≤ 2 * words)
  next_fits words fits =
      let a = next_taken in
      let b = total_part entry_words es (k + 1) in
      let c = other.counted.words in
      let d : other.used.words ≡ total_used words_of (objects_of other) = ap (λ (m : Demand). m.words) (used_is other) in
      (omega (arith, a, b, c, d, fits), omega (arith, a, b, c, d, fits))

  pub still_taken : (e f : Extent) → e.next_field ≡ nf → e.next_unit ≡ nu → f ≡ with_taken e (slot_number entry_fields (slot es k)) (slot_number entry_units (slot es k)) → 2 * f.next_field + f.next_unit ≤ 2 * entry_total entry_words (take (k + 1) es)
  still_taken e f a b is = let x = ap (λ (g : Extent). g.next_field) is in let y = ap (λ (g : Extent). g.next_unit) is in let z = next_taken in omega (arith, x, y, z, a, b)

-- where all places are copied nothing is lost
pub all_copied : (new other : Objects) (k : ℕ) → other.table_end ≤ k → ((j : ℕ) → j < k → entry (objects_of new) j ≡ entry (objects_of other) j) → ((j : ℕ) → k ≤ j → entry (objects_of new) j ≡ None) → objects_of new ≡ objects_of other
all_copied new other k end below above = same_table (objects_of new) (objects_of other) (long new ∙ sym (long other)) each
  where
    long : (o : Objects) → length (objects_of o) ≡ 32768
    long o = length-map o.entries.items (option_map (entry_object o.pointers.items o.units.items)) ∙ o.laid_out.places

    each : (j : ℕ) → entry (objects_of new) j ≡ entry (objects_of other) j
    each j = elim (cases_lt j k) [
      | inl l ↦ below j l
      | inr l ↦ above j l ∙ sym (entry_none other j (other.laid_out.empty j (omega (arith, l, end))))
    ]
