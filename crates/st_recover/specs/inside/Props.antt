-- A list is that of a store in one way only, so that a struct can keep it.
use mathlib.Core.HLevel.{is_prop→PathP}
use native.Mathlib.Bridge.{le_prop}
use Rattle.std.proofs.Common.{◌≡◌, ◌≤◌, ℕ, zero, suc, List, [], ◌∷◌, length, refl, sym, ap, ◌∙◌, arith, length-append}
use Rattle.std.proofs.Props.{props}
use Rattle.std.specs.Prelude.{take}
use Rattle.st_chunk.specs.Definitions.{Definition, entry, entries}
use Rattle.st_store.specs.Stored.{StoreState}
use Rattle.st_changes.specs.Lists.{StandsAt}
use Rattle.st_changes.specs.inside.States.{ChangesState}
use Rattle.st_recover.specs.inside.Archives.{IsListOf}

-- each entry has bytes, so entries as long are as many
same_count : (ds : List Definition) (m n : ℕ) → m ≤ length ds → n ≤ length ds → length (entries (take m ds)) ≡ length (entries (take n ds)) → m ≡ n
same_count [] m n low high long = omega (arith, low, high)
same_count (d ∷ ds) zero zero low high long = refl
same_count (d ∷ ds) zero (suc n) low high long = absurd (omega (arith, long, length-append (entry d) (entries (take n ds))))
same_count (d ∷ ds) (suc m) zero low high long = absurd (omega (arith, long, length-append (entry d) (entries (take m ds))))
same_count (d ∷ ds) (suc m) (suc n) low high long =
    ap (λ k. suc k) (same_count ds m n (omega (arith, low)) (omega (arith, high))
    (omega (arith, long, length-append (entry d) (entries (take m ds)), length-append (entry d) (entries (take n ds)))))

StandsAt-prop : (ds : List Definition) (base : ℕ) → IsProp (StandsAt ds base)
StandsAt-prop ds base a b i = record {
  count = same i;
  within = is_prop→PathP (λ j. same j ≤ length ds) (λ j. le_prop) a.within b.within i;
  is = is_prop→PathP (λ j. base ≡ length (entries (take (same j) ds))) (λ j. Prim.hlevel props) a.is b.is i;
}
  where
    same : a.count ≡ b.count
    same = same_count ds a.count b.count a.within b.within (sym a.is ∙ b.is)

pub IsListOf-prop : (store : StoreState) (changes : ChangesState) → IsProp (IsListOf store changes)
IsListOf-prop store changes = Prim.hlevel (props, StandsAt-prop)
