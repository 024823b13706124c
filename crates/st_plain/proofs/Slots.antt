-- What the table of the lists has at a name, and the entry of a word.
use Rattle.std.proofs.Common.{◌≡◌, ℕ, ◌/◌, true, false, List, [], ◌∷◌, zero, suc, sym, ap, ◌∙◌, refl, is_some}
use Rattle.std.specs.Prelude.{slice_get, unwrap_or, Option, Some, None}
use Rattle.std.specs.Option.{option_map}
use Rattle.st_model.specs.declared.oop.Oop.{Oop}
use Rattle.st_model.specs.Values.{Value, Small, Ref, value_of, is_small}
use Rattle.st_model.specs.Table.{entry}
use Rattle.st_model.specs.View.{nothing, is_live, object_of}
use Rattle.st_model.proofs.Pointers.{value_of-even}
use Rattle.st_plain.specs.declared.entry.Entry.{Entry}
use Rattle.st_plain.specs.inside.Lists.{entry_object, listed_table, slot, entry_of, IsPlaced, AllPlaced}
use Rattle.st_heap.proofs.Changing.{none_of}

pub entry_of-small : (es : List (Option Entry)) (v : Value) → is_small v ≡ true → entry_of es v ≡ None
unfolding entry_of
entry_of-small es (Small n) h = refl
entry_of-small es (Ref n) h = cc

pub entry_of-even : (es : List (Option Entry)) (w : ℕ) → is_small (value_of w) ≡ false → entry_of es (value_of w) ≡ slot es (w / 2)
unfolding entry_of
entry_of-even es w h = ap (entry_of es) (value_of-even w h)

is_some-option_map : {A B : Type 0} (f : A → B) (x : Option A) → is_some (option_map f x) ≡ is_some x
is_some-option_map f None = refl
is_some-option_map f (Some x) = refl

slot_from : (x : Option (Option Entry)) (e : Entry) → unwrap_or x None ≡ Some e → x ≡ Some (Some e)
slot_from None e h = cc
slot_from (Some x) e h = ap Some h

pub slice_get-slot : (es : List (Option Entry)) (n : ℕ) (e : Entry) → slot es n ≡ Some e → slice_get es n ≡ Some (Some e)
slice_get-slot es n e h = slot_from (slice_get es n) e h

pub slot-slice_get : (es : List (Option Entry)) (n : ℕ) (e : Entry) → slice_get es n ≡ Some (Some e) → slot es n ≡ Some e
slot-slice_get es n e h = ap (λ x. unwrap_or x None) h

module _ (p : List Oop) (u : List ℕ) where
  pub entry-listed : (es : List (Option Entry)) (n : ℕ) → entry (listed_table p u es) n ≡ option_map (entry_object p u) (slot es n)
  entry-listed [] n = refl
  entry-listed (e ∷ es) zero = refl
  entry-listed (e ∷ es) (suc n) = entry-listed es n

  pub is_some-entry : (es : List (Option Entry)) (n : ℕ) → is_some (entry (listed_table p u es) n) ≡ is_some (slot es n)
  is_some-entry es n = ap is_some (entry-listed es n) ∙ is_some-option_map (entry_object p u) (slot es n)

  pub is_live-listed : (es : List (Option Entry)) (v : Value) → is_live (listed_table p u es) v ≡ is_some (entry_of es v)
  unfolding is_live entry_of
  is_live-listed es (Small n) = refl
  is_live-listed es (Ref n) = is_some-entry es n

  pub object_of-listed : (es : List (Option Entry)) (v : Value) (e : Entry) → entry_of es v ≡ Some e → object_of (listed_table p u es) v ≡ entry_object p u e
  unfolding object_of entry_of
  object_of-listed es (Small n) e h = cc
  object_of-listed es (Ref n) e h = ap (λ x. unwrap_or x nothing) (entry-listed es n ∙ ap (option_map (entry_object p u)) h)

  -- the table has at a name the object of the entry there
  pub entry-slot : (es : List (Option Entry)) (n : ℕ) (e : Entry) → slot es n ≡ Some e → entry (listed_table p u es) n ≡ Some (entry_object p u e)
  entry-slot es n e h = entry-listed es n ∙ ap (option_map (entry_object p u)) h

pub slot-entry_of : (es : List (Option Entry)) (v : Value) (e : Entry) → entry_of es v ≡ Some e → (n : ℕ) × (v ≡ Ref n) × (slot es n ≡ Some e)
unfolding entry_of
slot-entry_of es (Small n) e h = cc
slot-entry_of es (Ref n) e h = (n, refl, h)

-- a pointer that has an entry names its half
pub slot_half : (es : List (Option Entry)) (w n : ℕ) (e : Entry) → n ≡ w / 2 → entry_of es (value_of w) ≡ Some e → (value_of w ≡ Ref n) × (slot es n ≡ Some e)
slot_half es w n e half h =
    let r = slot-entry_of es (value_of w) e h in
    let even : is_small (value_of w) ≡ false = ap is_small r.1 in
    (value_of-even w even ∙ ap Ref (sym half), ap (slot es) half ∙ sym (entry_of-even es w even) ∙ h)

pub placed_entry : (nf nu : ℕ) (es : List (Option Entry)) (v : Value) (e : Entry) → AllPlaced nf nu es → entry_of es v ≡ Some e → IsPlaced nf nu e
placed_entry nf nu es v e placed h = let r = slot-entry_of es v e h in placed r.0 e (slice_get-slot es r.0 e r.2)

-- a pointer that no object has has no entry
pub free_slot : (p : List Oop) (u : List ℕ) (es : List (Option Entry)) (w : ℕ) → is_small (value_of w) ≡ false → is_live (listed_table p u es) (value_of w) ≡ false → slot es (w / 2) ≡ None
free_slot p u es w even free = none_of (slot es (w / 2)) (ap is_some (sym (entry_of-even es w even)) ∙ sym (is_live-listed p u es (value_of w)) ∙ free)

pub ruleset slots = (entry_of-small, entry_of-even)

pub ruleset lives = (is_live-listed, object_of-listed)
