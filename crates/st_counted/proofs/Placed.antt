-- Where objects stand while others go.
use Rattle.std.proofs.Common.{◌≡◌, ◌≢◌, ℕ, zero, suc, true, [], ◌∷◌, set, is_some, refl, sym, ap, ◌∙◌, subst}
use Rattle.std.specs.Prelude.{None, slice_set}
use Rattle.std.proofs.lemmas.Bool.{false≢true}
use Rattle.st_model.specs.Values.{Value, Small, Ref}
use Rattle.st_model.specs.Table.{Table, entry}
use Rattle.st_model.specs.View.{is_live}
use Rattle.st_memory.specs.inside.Places.{KeepsPlaces, KeepsPlacesIn}
use Rattle.st_heap.specs.declared.objects.HeapObjects.{HeapObjects}
use Rattle.st_heap.specs.inside.Places.{SamePlaces, SameOtherPlaces, Stands}
use Rattle.st_heap.specs.inside.Tables.{objects_of}
use Rattle.st_counted.specs.inside.Links.{SameObjects}
use Rattle.st_counted.proofs.Referring.{entry-set_other}

pub all_stand : (o o' : HeapObjects) → SamePlaces o.store o'.store → KeepsPlaces (Stands o) (Stands o')
all_stand o o' same (Small n) at s = absurd s
all_stand o o' same (Ref n) at s = same n ∙ s

-- one change of links after another
pub same_then : (o o' o'' : HeapObjects) → SameObjects o o' → SameObjects o' o'' → SameObjects o o''
same_then o o' o'' first second = record {
  objects = second.objects ∙ first.objects;
  room = second.room ∙ first.room;
  places = λ k. second.places k ∙ first.places k;
}

gone : (t : Table) (k : ℕ) → entry (set t k None) k ≡ None
gone [] k = refl
gone (e ∷ t) zero = refl
gone (e ∷ t) (suc k) = gone t k

module _ (o o' : HeapObjects) (k : ℕ) (is : objects_of o' ≡ slice_set (objects_of o) k None) where
  left_other : (n : ℕ) → is_live (objects_of o') (Ref n) ≡ true → n ≢ k
  unfolding is_live
  left_other n live q = absurd (false≢true (sym (ap is_some (gone (objects_of o) k)) ∙ ap (λ (t : Table). is_some (entry t k)) (sym is) ∙ subst (λ m. is_some (entry (objects_of o') m) ≡ true) q live))

  pub left_live : (v : Value) → is_live (objects_of o') v ≡ true → is_live (objects_of o) v ≡ true
  unfolding is_live
  left_live (Small n) live = cc
  left_live (Ref n) live = ap is_some (sym (entry-set_other (objects_of o) k n None (left_other n live))) ∙ ap (λ (t : Table). is_some (entry t n)) (sym is) ∙ live

  pub left_stand : SameOtherPlaces o.store o'.store k → KeepsPlacesIn (objects_of o') (Stands o) (Stands o')
  left_stand same (Small n) at live s = absurd s
  left_stand same (Ref n) at live s = same n (left_other n live) ∙ s
