-- The placing of the first objects, one after another.
use Rattle.std.specs.Prelude.{drop, replicate, is_some, codes, nat_le, ◌&&◌, ◌≡◌, ◌≢◌, ℕ, zero, suc, ◌+◌, ◌/◌, ◌<◌, ◌≤◌, true, false, List, [], ◌∷◌, length, Some, None, slice_get, Result, Ok, Err}
use Rattle.st_model.specs.Limits.{most_words}
use Rattle.st_model.specs.declared.oop.Oop.{Oop}
use Rattle.st_model.specs.Values.{Ref, value}
use Rattle.st_model.specs.Objects.{Object, one, words_of}
use Rattle.st_model.specs.Table.{entry, total_used}
use Rattle.st_model.specs.View.{View, with_object}
use Rattle.st_first_objects.specs.declared.unmade.Unmade.{Unmade}
use Rattle.st_first_objects.specs.declared.unmade.Unmade.TheVariants.{NoRoom, OutOfMemory}
use Rattle.st_first_objects.specs.Things.{Thing, class}
use Rattle.st_first_objects.specs.Plans.{FirstObjects}
use Rattle.st_first_objects.specs.Pointers.{place, object}
use Rattle.st_first_objects.specs.First.{with_things, fit_beside}

-- a place was given an object, and all else stands
pub record Puts (old new : View) (k : ℕ) (o : Object) : Type 0 where
  pub objects : new.objects ≡ with_object old.objects (Ref k) o
  pub held : new.held ≡ old.held
  pub head : new.head ≡ old.head

-- there is room for an object at a free place, and its class is no class of methods
pub record CanPlace (v : View) (at class : Oop) (k : ℕ) (o : Object) : Type 0 where
  pub here : value at ≡ Ref k
  pub borne : at.0 ≢ 0
  pub free : entry v.objects k ≡ None
  pub inside : k < length v.objects
  pub pointer : value class ≡ Ref o.class
  pub half : class.0 / 2 ≡ o.class
  pub other : o.class ≢ 17
  pub size : words_of o ≤ 65535
  pub entries : total_used one v.objects + 1 ≤ v.head.entries
  pub words : total_used words_of v.objects + words_of o ≤ v.head.words

-- a list of which the first so many values stand, and a filler in all other places
abbrev pub filled : {A : Type 0} → A → List A → ℕ → List A
filled filler [] n = []
filled filler (x ∷ xs) zero = filler ∷ filled filler xs zero
filled filler (x ∷ xs) (suc n) = x ∷ filled filler xs n

-- The objects of the first i things are placed, and these words are theirs.
pub record Underway (p : FirstObjects) (begun v : View) (used i : ℕ) : Type 0 where
  pub rest : with_things p 0 p.order.things begun.objects ≡ with_things p i (drop i p.order.things) v.objects
  pub fits : fit_beside p 0 p.order.things ≡ fit_beside p used (drop i p.order.things)
  pub held : v.held ≡ begun.held
  pub head : v.head ≡ begun.head
  pub places : length v.objects ≡ 32768
  pub entries : total_used one v.objects ≡ i
  pub words : total_used words_of v.objects ≡ used
  pub most : used ≤ most_words
  pub free : (j : ℕ) → i ≤ j → j < 32767 → entry v.objects (place j) ≡ None
  pub live : (j : ℕ) → j < i → is_some (entry v.objects (place j)) ≡ true
  pub objects : (k : ℕ) (o : Object) → entry v.objects k ≡ Some o → (x : Thing) × (o ≡ object p x)

-- no object is placed
pub record IsBegun (p : FirstObjects) (v : View) : Type 0 where
  pub objects : v.objects ≡ replicate 32768 None
  pub entries : v.head.entries ≡ 32767
  pub words : v.head.words ≡ most_words
  pub few : length p.order.things ≤ 32767
  pub methods : slice_get p.order.things 12 ≡ Some (class (codes "CompiledMethod"))

-- the objects of all things are placed, unless there is no room
abbrev pub PlacesAll : FirstObjects → (begun now : View) → Result Unit Unmade → Type 0
PlacesAll p begun now (Ok done) = (used : ℕ) × Underway p begun now used (length p.order.things)
PlacesAll p begun now (Err NoRoom) = fit_beside p 0 p.order.things ≡ false
PlacesAll p begun now (Err OutOfMemory) = Unit {0}

-- beside so many words an object of this content has room
abbrev pub HasWords : (used words : ℕ) → Result ℕ Unmade → Type 0
HasWords used words (Ok all) = (all ≡ used + words) × (words ≤ 65535) × (used + words ≤ most_words)
HasWords used words (Err NoRoom) = (nat_le words 65535 && nat_le (used + words) most_words) ≡ false
HasWords used words (Err OutOfMemory) = Unit {0}
