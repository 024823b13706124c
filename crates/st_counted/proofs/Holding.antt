-- What is held after a word is held.
use Rattle.std.proofs.Common.{◌≡◌, ◌≢◌, ℕ, ◌<◌, ◌≤◌, List, length, set, sym, ◌∙◌, subst, inl, inr, get_or-set_same, get_or-set_other}
use Rattle.std.specs.Prelude.{slice_index_or}
use Rattle.std.proofs.lemmas.Bool.{cases_eq}
use Rattle.std.proofs.lemmas.List.{map-set}
use Rattle.st_model.specs.declared.oop.Oop.{Oop}
use Rattle.st_model.specs.declared.place.RootPlace.TheVariants.{Pending}
use Rattle.st_model.specs.Values.{value}
use Rattle.st_model.specs.View.{with_held}
use Rattle.st_counted.specs.declared.roots.Places.{Places}
use Rattle.st_counted.specs.inside.Held.{held_words}
use Rattle.st_counted.specs.inside.Words.{nil_word}

pub held_words-pending : (p : Places) (xs : List Oop) (k : ℕ) (x : Oop) → held_words p (set xs k x) ≡ with_held (held_words p xs) (Pending k) (value x)
held_words-pending p xs k x = λ i. record (held_words p xs) { devices = record (held_words p xs).devices { pending = map-set value xs k x i } }

-- past the new end all is nil still
pub nil_from : (xs : List Oop) (old new k : ℕ) (x : Oop) → k < length xs → ((j : ℕ) → old ≤ j → slice_index_or xs j nil_word ≡ nil_word) → (new ≤ k → x ≡ nil_word) → ((j : ℕ) → new ≤ j → j ≢ k → old ≤ j)
    → (j : ℕ) → new ≤ j → slice_index_or (set xs k x) j nil_word ≡ nil_word
nil_from xs old new k x within none here after j l = elim (cases_eq j k) [
  | inl e ↦ subst (λ i. slice_index_or (set xs k x) i nil_word ≡ nil_word) (sym e) (get_or-set_same xs k x nil_word within ∙ here (subst (λ i. new ≤ i) e l))
  | inr d ↦ get_or-set_other xs k j x nil_word d ∙ none j (after j l d)
]
