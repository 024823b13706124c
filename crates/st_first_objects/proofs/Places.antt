-- The places of the first objects.
use Rattle.std.proofs.Common.{◌≡◌, ℕ, zero, suc, ◌+◌, ◌-◌, ◌*◌, ◌/◌, ◌%◌, ◌<◌, ◌≤◌, ◌⊎◌, Bool, true, cond, nat_lt, nat_eq, List, [], ◌∷◌, length, get_or, Some, None, refl, sym, subst, ap, ◌∙◌, inl, inr, arith}
use Rattle.std.specs.Prelude.{◌&&◌}
use Rattle.std.specs.List.{list_all, position}
use Rattle.std.proofs.lemmas.Bool.{cases_lt, ltb-true, le-ltb, lt-ltb, and_parts}
use Rattle.std.proofs.lemmas.Bool.Decides.{Decides-eqb}
use Rattle.st_model.specs.Values.{Ref, value_of}
use Rattle.st_first_objects.specs.Things.{Thing, same}
use Rattle.st_first_objects.specs.Pointers.{first_places, place, place_at, place_in}

-- the first places

abbrev inside : ℕ → Bool
inside p = nat_lt 0 p && nat_lt p 29

each_inside : (ps : List ℕ) (i : ℕ) → list_all inside ps ≡ true → i < length ps → inside (get_or ps i 0) ≡ true
each_inside [] i all lt = absurd (omega arith)
each_inside (p ∷ ps) zero all lt = (and_parts (inside p) (list_all inside ps) all).0
each_inside (p ∷ ps) (suc i) all lt = each_inside ps i (and_parts (inside p) (list_all inside ps) all).1 (omega arith)

inside_is : (p : ℕ) → inside p ≡ true → (0 < p) × (p < 29)
inside_is p e = let a = and_parts (nat_lt 0 p) (nat_lt p 29) e in (ltb-true 0 p a.0, ltb-true p 29 a.1)

pub place_first : (i : ℕ) → i < 28 → (get_or first_places i 0 ≡ place i) × (0 < get_or first_places i 0) × (get_or first_places i 0 < 32768)
unfolding place
place_first i lt =
    let t = lt-ltb i 28 lt in
    let b = inside_is (get_or first_places i 0) (each_inside first_places i refl lt) in
    let u = b.1 in
    (rw t refl, b.0, omega arith)

pub place_later : (i : ℕ) → 28 ≤ i → i + 1 ≡ place i
unfolding place
place_later i le = by (cases_lt i 28) le
  where
    by : ((i < 28) ⊎ (28 ≤ i)) → 28 ≤ i → i + 1 ≡ cond (nat_lt i 28) (get_or first_places i 0) (i + 1)
    by (inl lt) le = absurd (omega arith)
    by (inr ge) le = let f = le-ltb i 28 ge in rw f refl

pub value_of_half : (p : ℕ) → value_of (2 * p) ≡ Ref p
unfolding value_of
value_of_half p = let a : 2 * p % 2 ≡ 0 = omega arith in let b : 2 * p / 2 ≡ p = omega arith in rw (a, b) refl

pub value_of_nil : value_of 2 ≡ Ref 1
unfolding value_of
value_of_nil = refl

pub place_found : (ts : List Thing) (t : Thing) (i : ℕ) → Some i ≡ position (same t) ts → place i ≡ place_in ts t
unfolding place_in
place_found ts t i e = ap place_at e

pub place_absent : (ts : List Thing) (t : Thing) → None ≡ position (same t) ts → 1 ≡ place_in ts t
unfolding place_in
place_absent ts t e = ap place_at e

-- NO TWO THINGS HAVE ONE PLACE

-- as which the object at a place is made
turns : List ℕ
turns =
    0 ∷ 0 ∷ 1 ∷ 2 ∷ 3 ∷ 20 ∷ 4 ∷ 5 ∷ 6 ∷ 21 ∷ 22 ∷ 7 ∷ 8 ∷ 9 ∷ 10 ∷ 23 ∷ 11 ∷ 12 ∷ 24 ∷ 25 ∷ 13 ∷ 14 ∷ 15 ∷ 26 ∷ 16 ∷ 17 ∷ 18 ∷ 27 ∷ 19 ∷ []

abbrev turn : ℕ → ℕ
turn p = cond (nat_lt p 29) (get_or turns p 0) (p - 1)

abbrev turns_back : ℕ → Bool
turns_back zero = true
turns_back (suc n) = nat_eq (turn (get_or first_places n 0)) n && turns_back n

each_turns : (n i : ℕ) → turns_back n ≡ true → i < n → turn (get_or first_places i 0) ≡ i
each_turns zero i e lt = absurd (omega arith)
each_turns (suc n) i e lt = by (and_parts (nat_eq (turn (get_or first_places n 0)) n) (turns_back n) e) (cases_lt i n) (λ b less. each_turns n i b less)
  where
    by : (nat_eq (turn (get_or first_places n 0)) n ≡ true) × (turns_back n ≡ true) → ((i < n) ⊎ (n ≤ i)) → (turns_back n ≡ true → i < n → turn (get_or first_places i 0) ≡ i) → turn (get_or first_places i 0) ≡ i
    by b (inl less) more = more b.1 less
    by b (inr ge) more = let same : n ≡ i = omega arith in subst (λ k. turn (get_or first_places k 0) ≡ k) same ((Decides-eqb (turn (get_or first_places n 0)) n).0 b.0)

all_turn : turns_back 28 ≡ true
unfolding turns
all_turn = refl

turn_place : (i : ℕ) → turn (place i) ≡ i
turn_place i = by (cases_lt i 28)
  where
    by : ((i < 28) ⊎ (28 ≤ i)) → turn (place i) ≡ i
    by (inl lt) = ap turn (sym (place_first i lt).0) ∙ each_turns 28 i all_turn lt
    by (inr ge) = let f = le-ltb (i + 1) 29 (omega arith) in ap turn (sym (place_later i ge)) ∙ (rw f (omega arith))

pub same_turn : (i j : ℕ) → place i ≡ place j → i ≡ j
same_turn i j e = sym (turn_place i) ∙ ap turn e ∙ turn_place j

pub place_within : (i : ℕ) → i < 32767 → (0 < place i) × (place i < 32768)
place_within i lt = by (cases_lt i 28)
  where
    by : ((i < 28) ⊎ (28 ≤ i)) → (0 < place i) × (place i < 32768)
    by (inl less) = let p = place_first i less in let e = p.0 in let a = p.1 in let b = p.2 in (omega arith, omega arith)
    by (inr ge) = let e = place_later i ge in (omega arith, omega arith)
