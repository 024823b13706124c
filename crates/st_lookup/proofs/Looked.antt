-- Values that are the same, and one entry more.
use Rattle.std.proofs.Common.{◌≡◌, ◌<◌, ℕ, List, Some, ap, sym, subst, ◌∙◌, length, inl, inr, set, get_or, length-set}
use Rattle.std.proofs.lemmas.Bool.{cases_eq}
use Rattle.std.proofs.lemmas.Option.{slice_get_within, get_or_from_slice_get, slice_get-get_or}
use Rattle.std.proofs.lemmas.List.{get_or-set_same, get_or-set_other}
use Rattle.st_model.specs.Table.{Table}
use Rattle.st_lookup.specs.declared.entry.CachedLookup.{CachedLookup}
use Rattle.st_lookup.specs.inside.Remembered.{IsRemembered, AllRemembered, Grows}

pub grows_then : (a b c : List ℕ) → Grows a b → Grows b c → Grows a c
grows_then a b c g h k e = h k (g k e)

pub all_set : (bits : List ℕ) (t : Table) (es : List CachedLookup) (k : ℕ) (x : CachedLookup) → AllRemembered bits t es → IsRemembered bits t x → AllRemembered bits t (set es k x)
all_set bits t es k x r h i e f =
    let l : i < length es = subst (λ (n : ℕ). i < n) (length-set es k x) (slice_get_within (set es k x) i e f) in
    let g : get_or (set es k x) i x ≡ e = get_or_from_slice_get (set es k x) i e x f in
    elim (cases_eq i k) [
      | inl q ↦ subst (λ (y : CachedLookup). IsRemembered bits t y)
          (sym (get_or-set_same es k x x (subst (λ (n : ℕ). n < length es) q l)) ∙ (ap (λ (n : ℕ). get_or (set es k x) n x) (sym q) ∙ g)) h
      | inr d ↦ r i e (slice_get-get_or es i x l ∙ ap (λ (y : CachedLookup). Some y) (sym (get_or-set_other es k i x x d) ∙ g))
    ]
