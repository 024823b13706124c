-- Counts of slots, where one changes.
use Rattle.std.proofs.Common.{◌≡◌, ◌≢◌, ℕ, zero, suc, ◌<◌, Bool, true, false, cond, List, [], ◌∷◌, Option, Some, None, length, get_or, set, replicate, is_some, refl, sym, ap, ◌∙◌, arith, length-set}
use Rattle.std.specs.Prelude.{unwrap_or, nat_eq}
use Rattle.std.proofs.lemmas.List.{map-set, get_or-map}
use Rattle.st_counted.specs.declared.counts.Slot.{Slot}
use Rattle.st_counted.specs.inside.Counts.{count_at, is_counted, number_at, is_zero, is_unused}
use Rattle.st_counted.specs.inside.Slots.{no_count, count_in, counts_in}
use Rattle.st_counted.proofs.ZeroList.{counted_within, none_still, not_here}

pub length_counts : (ss : List Slot) → length (counts_in ss) ≡ length ss
unfolding counts_in
length_counts [] = refl
length_counts (s ∷ ss) = ap suc (length_counts ss)

pub within_slots : (ss : List Slot) (k : ℕ) → length (counts_in ss) ≡ 32768 → k < 32768 → k < length ss
within_slots ss k long h = let e = length_counts ss in omega (arith, e, long, h)

-- a place that is counted is one of them
pub counted_slot : (ss : List Slot) (k : ℕ) → is_counted (counts_in ss) k ≡ true → k < length ss
counted_slot ss k h =
    let e = length_counts ss in
    let within = counted_within (counts_in ss) k h in omega (arith, e, within)

pub counts_set : (ss : List Slot) (k : ℕ) (s : Slot) → counts_in (set ss k s) ≡ set (counts_in ss) k (count_in s)
unfolding counts_in
counts_set ss k s = map-set count_in ss k s

pub counts_none : (n : ℕ) → counts_in (replicate n no_count) ≡ replicate n None
unfolding counts_in
counts_none zero = refl
counts_none (suc n) = ap (λ (cs : List (Option ℕ)). None ∷ cs) (counts_none n)

-- what stands in a slot
pub count_here : (ss : List Slot) (k : ℕ) (s : Slot) → k < length ss → s ≡ get_or ss k s → count_at (counts_in ss) k ≡ count_in s
unfolding counts_in
count_here ss k s within is = get_or-map count_in ss k s None within ∙ ap count_in (sym is)

some_counted : (b : Bool) (n : ℕ) → is_some (cond b (Some n) None) ≡ true → b ≡ true
some_counted true n h = refl
some_counted false n h = cc

some_number : (b : Bool) (n : ℕ) → b ≡ true → unwrap_or (cond b (Some n) None) 0 ≡ n
some_number true n h = refl
some_number false n h = cc

pub slot_counted : (ss : List Slot) (k : ℕ) (s : Slot) → s ≡ get_or ss k s → is_counted (counts_in ss) k ≡ true → s.counted ≡ true
slot_counted ss k s is h = some_counted s.counted s.number (sym (ap is_some (count_here ss k s (counted_slot ss k h) is)) ∙ h)

pub slot_number : (ss : List Slot) (k : ℕ) (s : Slot) → s ≡ get_or ss k s → is_counted (counts_in ss) k ≡ true → number_at (counts_in ss) k ≡ s.number
slot_number ss k s is h = ap (λ x. unwrap_or x 0) (count_here ss k s (counted_slot ss k h) is) ∙ some_number s.counted s.number (slot_counted ss k s is h)

zero_counted_slot : (b : Bool) (n : ℕ) → b ≡ true → nat_eq n 0 ≡ is_zero (cond b (Some n) None)
zero_counted_slot true n h = refl
zero_counted_slot false n h = cc

zero_free_slot : (b : Bool) (n : ℕ) → b ≡ false → b ≡ is_zero (cond b (Some n) None)
zero_free_slot true n h = cc
zero_free_slot false n h = refl

pub unused_counted : (ss : List Slot) (k : ℕ) (s : Slot) → k < length ss → s ≡ get_or ss k s → s.counted ≡ true → nat_eq s.number 0 ≡ is_unused (counts_in ss) k
unused_counted ss k s within is h = zero_counted_slot s.counted s.number h ∙ sym (ap is_zero (count_here ss k s within is))

pub unused_free : (ss : List Slot) (k : ℕ) (s : Slot) → k < length ss → s ≡ get_or ss k s → s.counted ≡ false → s.counted ≡ is_unused (counts_in ss) k
unused_free ss k s within is h = zero_free_slot s.counted s.number h ∙ sym (ap is_zero (count_here ss k s within is))

-- the number of a place that is counted changes
pub number_set : (ss : List Slot) (k n : ℕ) (s : Slot) → s ≡ get_or ss k s → is_counted (counts_in ss) k ≡ true → counts_in (set ss k (record { number = n; counted = s.counted })) ≡ set (counts_in ss) k (Some n)
number_set ss k n s is h = counts_set ss k (record { number = n; counted = s.counted }) ∙ ap (λ b. set (counts_in ss) k (cond b (Some n) None)) (slot_counted ss k s is h)

-- there are as many places as before, and the first is not counted
pub as_many : (cs cs' : List (Option ℕ)) (k : ℕ) (x : Option ℕ) → cs' ≡ set cs k x → length cs ≡ 32768 → length cs' ≡ 32768
as_many cs cs' k x is long = ap length is ∙ length-set cs k x ∙ long

pub none_first_still : (cs cs' : List (Option ℕ)) (k : ℕ) (x : Option ℕ) → cs' ≡ set cs k x → count_at cs 0 ≡ None → k ≢ 0 → count_at cs' 0 ≡ None
none_first_still cs cs' k x is none some = ap (λ (ns : List (Option ℕ)). count_at ns 0) is ∙ none_still cs k x none some

-- so it is where a place that is counted changes
pub counts_still : (cs cs' : List (Option ℕ)) (k : ℕ) (x : Option ℕ) → cs' ≡ set cs k x → length cs ≡ 32768 → count_at cs 0 ≡ None → is_counted cs k ≡ true → record { places : length cs' ≡ 32768; none_first : count_at cs' 0 ≡ None }
counts_still cs cs' k x is long none counted = record { places = as_many cs cs' k x is long; none_first = none_first_still cs cs' k x is none (not_here cs k none counted) }
