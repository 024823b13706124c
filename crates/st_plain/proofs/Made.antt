-- A new object at the least free place.
use Rattle.std.proofs.Common.{◌≡◌, ℕ, ◌+◌, ◌*◌, ◌<◌, true, false, length, sym, ap, ◌∙◌, subst, arith, inl, inr, is_some}
use Rattle.std.specs.Prelude.{Some}
use Rattle.std.specs.Option.{option_map}
use Rattle.std.proofs.lemmas.Bool.{cases_eq}
use Rattle.std.proofs.lemmas.List.{length-map}
use Rattle.st_model.specs.Values.{Ref, value_of, is_small}
use Rattle.st_model.specs.Objects.{Object}
use Rattle.st_model.specs.Table.{Table, entry, first_free, placed}
use Rattle.st_model.specs.View.{is_live, with_object}
use Rattle.st_model.proofs.Pointers.{value_of-pointer}
use Rattle.st_model.proofs.TableLemmas.{first_free-none}
use Rattle.st_model.proofs.Making.{placed_object}
use Rattle.st_plain.specs.declared.objects.Objects.{Objects}
use Rattle.st_plain.specs.inside.Lists.{entry_object, IsFull}
use Rattle.st_plain.specs.inside.ListsPlain.{objects_of}
use Rattle.st_plain.proofs.Slots.{is_some-entry}
use Rattle.st_counted.proofs.Referring.{entry-set_same, entry-set_other}

pub length-objects : (o : Objects) → length (objects_of o) ≡ 32768
length-objects o = length-map o.entries.items (option_map (entry_object o.pointers.items o.units.items)) ∙ o.laid_out.places

pub pointer_even : (k : ℕ) → is_small (value_of (2 * k)) ≡ false
pointer_even k = ap is_small (value_of-pointer k)

module _ (t : Table) (k : ℕ) (least : k ≡ first_free t) where
  pub pointer_free : is_live t (value_of (2 * k)) ≡ false
  unfolding is_live
  pointer_free = ap (is_live t) (value_of-pointer k) ∙ ap (λ n. is_some (entry t n)) least ∙ ap is_some (first_free-none t)

  pub pointer_least : value_of (2 * k) ≡ Ref (first_free t)
  pointer_least = value_of-pointer k ∙ ap Ref least

  pub made_placed : (o : Object) → first_free t < length t → with_object t (value_of (2 * k)) o ≡ placed t o
  made_placed o within = ap (λ v. with_object t v o) pointer_least ∙ sym (placed_object t o within)

-- each place up to the new object has one
pub made_full : (old new : Objects) (k : ℕ) (o : Object) → k < 32768 → IsFull old.entries.items k → objects_of new ≡ with_object (objects_of old) (value_of (2 * k)) o → IsFull new.entries.items (k + 1)
unfolding with_object
made_full old new k o within full objects = λ j low high.
    let is = objects ∙ ap (λ v. with_object (objects_of old) v o) (value_of-pointer k) in
    let in_table : k < length (objects_of old) = let a = length-objects old in omega (arith, a, within) in
    sym (is_some-entry new.pointers.items new.units.items new.entries.items j)
    ∙ ap (λ t. is_some (entry t j)) is
    ∙ elim (cases_eq j k) [
      | inl q ↦ subst (λ n. is_some (entry (with_object (objects_of old) (Ref k) o) n) ≡ true) (sym q) (ap is_some (entry-set_same (objects_of old) k (Some o) in_table))
      | inr d ↦ ap is_some (entry-set_other (objects_of old) k j (Some o) d) ∙ is_some-entry old.pointers.items old.units.items old.entries.items j ∙ full j low (omega (arith, high, d))
    ]
