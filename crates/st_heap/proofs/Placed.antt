-- What is read and written at the place of a block.
use Rattle.std.proofs.Common.{◌≡◌, ◌≢◌, ℕ, ◌/◌, true, List, Option, Some, None, get_or, set, refl, sym, ap, ◌∙◌, subst}
use Rattle.std.proofs.lemmas.List.{get_or-set_other}
use Rattle.st_table.specs.declared.entry.Entry.{Entry}
use Rattle.st_model.specs.declared.oop.Oop.{Oop}
use Rattle.st_model.specs.Values.{Value, value}
use Rattle.st_model.specs.View.{is_live}
use Rattle.st_heap.specs.declared.objects.HeapObjects.{HeapObjects}
use Rattle.st_heap.specs.inside.Stores.{stored_of}
use Rattle.st_heap.specs.inside.Stored.{HasStored}
use Rattle.st_heap.specs.inside.Tables.{objects_of}
use Rattle.st_heap.specs.inside.Places.{place_in, place_at, Stands}
use Rattle.st_heap.proofs.Living.{even_value, live_stored}

-- an entry that says so
pub record Entered (x : Option Entry) (at : ℕ) : Type 0 where
  pub entry : Entry
  pub is : x ≡ Some entry
  pub same : entry.at ≡ at

pub entered : (x : Option Entry) (at : ℕ) → place_in x ≡ Some at → Entered x at
entered None at q = cc
entered (Some e) at q = record { entry = e; is = refl; same = cc }

-- an entry that goes is no other one's place
pub places_without : (es es' : List (Option Entry)) (n k : ℕ) → es' ≡ set es n None → k ≢ n → place_in (get_or es' k None) ≡ place_in (get_or es k None)
places_without es es' n k is other = ap place_in (ap (λ (xs : List (Option Entry)). get_or xs k None) is ∙ get_or-set_other es n k None None other)

-- the place of an object is that of what is stored under its pointer
pub stands_stored : (o : HeapObjects) (p : Oop) (at : ℕ) → is_live (objects_of o) (value p) ≡ true → Stands o (value p) at → place_at o.store (p.0 / 2) ≡ Some at
stands_stored o p at live stands = subst (λ (v : Value). Stands o v at) (even_value (stored_of o.store) p.0 (live_stored (stored_of o.store) p live).even) stands

pub stored_stands : (o : HeapObjects) (p : Oop) (at : ℕ) → HasStored (stored_of o.store) p → place_at o.store (p.0 / 2) ≡ Some at → Stands o (value p) at
stored_stands o p at has is = subst (λ (v : Value). Stands o v at) (sym (even_value (stored_of o.store) p.0 has.even)) is
