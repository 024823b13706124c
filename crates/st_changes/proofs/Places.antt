-- How many definitions stand before a place.
use Rattle.std.proofs.Common.{◌≡◌, ◌≢◌, ◌+◌, ◌<◌, ◌≤◌, ⊎_elim, ℕ, List, length, take, sym, ap, ◌∙◌, arith, get_or, length-append, drop}
use Rattle.std.proofs.lemmas.List.{take-map, take-take, take-append-drop}
use Rattle.std.proofs.Math.ListN.{length-map}
use Rattle.std.proofs.lemmas.Bool.{cases_lt}
use Rattle.st_chunk.specs.Definitions.{Definition, entry, entries}
use Rattle.st_changes.specs.declared.definition.Definition as declared
use Rattle.st_changes.specs.inside.Views.{definition_of, definitions_of}
use Rattle.st_changes.specs.Lists.{StandsAt}
use Rattle.st_changes.proofs.ListTexts.{entries_more, entries_append, item_more}

abbrev end_of : List Definition → ℕ
end_of ds = length (entries ds)

pub at_mapped : (listed : List declared.Definition) (i : ℕ) → length (entries (definitions_of (take i listed))) ≡ length (entries (take i (definitions_of listed)))
at_mapped listed i = ap end_of (sym (take-map definition_of i listed))

pub apart_more : (listed : List declared.Definition) (i place at : ℕ) → at ≡ length (entries (definitions_of (take i listed))) → (at ≡ place → ⊥)
    → ((k : ℕ) → k < i → place ≢ length (entries (take k (definitions_of listed))))
    → (k : ℕ) → k < i + 1 → place ≢ length (entries (take k (definitions_of listed)))
apart_more listed i place at is other apart k less same = ⊎_elim
    (λ low. apart k low same)
    (λ high. other (is ∙ at_mapped listed i ∙ ap (λ n. length (entries (take n (definitions_of listed)))) (k_is high) ∙ sym same))
    (cases_lt k i)
  where
    k_is : i ≤ k → i ≡ k
    k_is high = omega arith

pub last_place : (listed : List declared.Definition) (i place : ℕ) → length listed ≤ i → StandsAt (definitions_of listed) place
    → ((k : ℕ) → k < i → place ≢ length (entries (take k (definitions_of listed))))
    → place ≡ length (entries (take (length listed) (definitions_of listed)))
last_place listed i place past stands apart = ⊎_elim
    (λ low. absurd (apart stands.count low stands.is))
    (λ high. stands.is ∙ ap (λ n. length (entries (take n (definitions_of listed)))) (count_is high))
    (cases_lt stands.count i)
  where
    count_is : i ≤ stands.count → stands.count ≡ length listed
    count_is high = omega (arith, stands.within, length-map listed definition_of)

-- fewer definitions end no later
fewer_end : (ds : List Definition) (m n : ℕ) → m ≤ n → end_of (take m ds) ≤ end_of (take n ds)
fewer_end ds m n less =
    let front : List Definition = take m (take n ds) in
    let back : List Definition = drop m (take n ds) in
    let whole = ap end_of (sym (take-append-drop m (take n ds))) ∙ ap length (entries_append front back) ∙ length-append (entries front) (entries back) in
    let same = ap end_of (take-take m n ds less) in
    omega (arith, whole, same)

-- the entry of a definition that stands before the place ends there at last
pub next_within : (listed : List declared.Definition) (i place at : ℕ) (x : declared.Definition) → i < length listed → x ≡ get_or listed i x
    → at ≡ length (entries (definitions_of (take i listed))) → (at ≡ place → ⊥) → StandsAt (definitions_of listed) place
    → ((k : ℕ) → k < i → place ≢ length (entries (take k (definitions_of listed))))
    → at + length (entry (definition_of x)) ≤ place
next_within listed i place at x less item is other stands apart = ⊎_elim
    (λ before. let upto = fewer_end (definitions_of listed) (i + 1) stands.count (omega (arith, before)) in
    let here = at_mapped listed (i + 1) in
    let more = ap end_of (item_more listed i x less item) ∙ ap length (entries_more (definitions_of (take i listed)) (definition_of x))
    ∙ length-append (entries (definitions_of (take i listed))) (entry (definition_of x)) in
    let place_is = stands.is in
    omega (arith, upto, here, more, place_is, is))
    (λ past. absurd (apart_more listed i place at is other apart stands.count (omega (arith, past)) stands.is))
    (cases_lt i stands.count)
