-- What places name, from one on.
use Rattle.std.proofs.Common.{◌≡◌, ℕ, zero, suc, ◌+◌, ◌-◌, ◌<◌, ◌≤◌, List, [], Option, Some, None, Bool, true, false, refl, sym, ap, ◌∙◌, arith}
use Rattle.std.specs.Prelude.{bytes_eq, if◌then◌else◌, IfSome}
use Rattle.std.specs.List.{filter_map, range_with_len, cons_option}
use Rattle.st_model.specs.Values.{value}
use Rattle.st_model.specs.Table.{Table}
use Rattle.st_browse.specs.declared.named.Named.{Named as NamedRead}
use Rattle.st_browse.specs.Naming.{Named, first_named}
use Rattle.st_browse.specs.inside.Listing.{first, next_in_order, taken, if_named}
use Rattle.st_browse.specs.inside.Entries.{IsName, named_if}
use Rattle.st_browse.proofs.Ordered.{first_with}

-- of n places, those from one on
abbrev pub named_from : (ℕ → Option Named) → ℕ → ℕ → List Named
named_from f n i = filter_map f (range_with_len i (n - i))

from_range : (f : ℕ → Option Named) (k i j : ℕ) → k ≡ suc j → filter_map f (range_with_len i k) ≡ cons_option (f i) (filter_map f (range_with_len (i + 1) j))
from_range f zero i j e = absurd (omega (arith, e))
from_range f (suc k) i j e = let q : k ≡ j = omega (arith, e) in rw q refl

pub place_more : (f : ℕ → Option Named) (n i : ℕ) → i < n → named_from f n i ≡ cons_option (f i) (named_from f n (i + 1))
place_more f n i l = from_range f (n - i) i (n - (i + 1)) (omega (arith, l))

none_from : (f : ℕ → Option Named) (k i : ℕ) → k ≡ 0 → filter_map f (range_with_len i k) ≡ []
none_from f zero i e = refl
none_from f (suc k) i e = absurd (omega (arith, e))

pub places_end : (f : ℕ → Option Named) (n i : ℕ) → n ≤ i → named_from f n i ≡ []
places_end f n i l = none_from f (n - i) i (omega (arith, l))

pub from_first : (f : ℕ → Option Named) (n : ℕ) → named_from f n 0 ≡ filter_map f (range_with_len 0 n)
from_first f n = let z : n - 0 ≡ n = omega arith in ap (λ k. filter_map f (range_with_len 0 k)) z

-- THE NEXT ONE

pub record IsNext (t : Table) (f : ℕ → Option Named) (n : ℕ) (after : Option (List ℕ)) (left : ℕ) (best : Option NamedRead) : Type 0 where
  pub within : left ≤ n
  pub is : named_if t best ≡ first (next_in_order after (named_from f n left))
  pub name : IfSome best (λ b. IsName t (value b.name))

none_next : (after : Option (List ℕ)) → None ≡ first (next_in_order after [])
none_next None = refl
none_next (Some a) = refl

pub next_begun : (t : Table) (f : ℕ → Option Named) (n : ℕ) (after : Option (List ℕ)) (left : ℕ) → left ≡ n → IsNext t f n after left None
next_begun t f n after left e = record {
  within = omega (arith, e);
  is = none_next after ∙ ap (λ xs. first (next_in_order after xs)) (sym (places_end f n left (omega (arith, e))));
  name = tt;
}

pub next_more : (t : Table) (f : ℕ → Option Named) (n : ℕ) (after : Option (List ℕ)) (left : ℕ) (best new : Option NamedRead) (i : ℕ) → 0 < left → i ≡ left - 1
    → IsNext t f n after left best → named_if t new ≡ taken after (f i) (named_if t best) → IfSome new (λ b. IsName t (value b.name)) → IsNext t f n after i new
next_more t f n after left best new i some e next is name =
    let w = next.within in
    let below : i < n = omega (arith, w, some, e) in
    let up : left ≡ i + 1 = omega (arith, some, e) in
    record {
      within = omega (arith, below);
      is = is ∙ (ap (λ b. taken after (f i) b) (next.is ∙ ap (λ k. first (next_in_order after (named_from f n k))) up)
          ∙ (sym (first_with after (f i) (named_from f n (i + 1))) ∙ ap (λ xs. first (next_in_order after xs)) (sym (place_more f n i below))));
      name = name;
    }

pub next_found : (t : Table) (f : ℕ → Option Named) (n : ℕ) (after : Option (List ℕ)) (left : ℕ) (best : Option NamedRead) → left ≤ 0
    → IsNext t f n after left best → named_if t best ≡ first (next_in_order after (filter_map f (range_with_len 0 n)))
next_found t f n after left best l next =
    let z : left ≡ 0 = omega (arith, l) in
    next.is ∙ (ap (λ k. first (next_in_order after (named_from f n k))) z ∙ ap (λ xs. first (next_in_order after xs)) (from_first f n))

-- THE FIRST OF A NAME

abbrev or_later : Option Named → Option Named → Option Named
or_later None b = b
or_later (Some a) b = Some a

first_more : (text : List ℕ) (e : Option Named) (xs : List Named) → first_named text (cons_option e xs) ≡ or_later (if_named text e) (first_named text xs)
first_more text None xs = refl
first_more text (Some n) xs = decided (bytes_eq n.name text)
  where
    decided : (b : Bool) → (if b then Some n else first_named text xs) ≡ or_later (if b then Some n else None) (first_named text xs)
    decided true = refl
    decided false = refl

module _ (text : List ℕ) (f : ℕ → Option Named) (n i : ℕ) where
  pub found_here : (all : Option Named) (x : Named) → i < n → Some x ≡ if_named text (f i) → first_named text (named_from f n i) ≡ all → Some x ≡ all
  found_here all x l e same =
      sym (ap (first_named text) (place_more f n i l) ∙ (first_more text (f i) (named_from f n (i + 1)) ∙ ap (λ o. or_later o (first_named text (named_from f n (i + 1)))) (sym e))) ∙ same

  pub not_here : (all : Option Named) → i < n → None ≡ if_named text (f i) → first_named text (named_from f n i) ≡ all → first_named text (named_from f n (i + 1)) ≡ all
  not_here all l e same =
      sym (ap (first_named text) (place_more f n i l) ∙ (first_more text (f i) (named_from f n (i + 1)) ∙ ap (λ o. or_later o (first_named text (named_from f n (i + 1)))) (sym e))) ∙ same

  pub nowhere : (all : Option Named) → n ≤ i → first_named text (named_from f n i) ≡ all → None ≡ all
  nowhere all l same = sym (ap (first_named text) (places_end f n i l)) ∙ same

pub in_count : {n k i : ℕ} → n ≡ k → i < n → i < k
in_count e l = omega (arith, e, l)
