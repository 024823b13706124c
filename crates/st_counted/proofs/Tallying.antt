-- Counts that are numbers of references, where one of them changes.
use Rattle.std.proofs.Common.{◌≡◌, ◌≢◌, ℕ, zero, suc, ◌+◌, ◌-◌, ◌/◌, ◌<◌, ◌≤◌, Bool, true, false, cond, List, ◌∷◌, ◌++◌, length, replicate, set, refl, sym, ap, ◌∙◌, subst, is_some, arith}
use Rattle.std.specs.Prelude.{◌==◌, Option, Some, None, unwrap_or}
use Rattle.std.proofs.lemmas.List.{get_or-set_same, get_or-set_other}
use Rattle.st_model.specs.Values.{Value, Small, Ref, value_of, is_small}
use Rattle.st_model.specs.Table.{Table, entry}
use Rattle.st_model.specs.Settled.{names}
use Rattle.st_model.specs.View.{is_live, IsKnown}
use Rattle.st_model.proofs.Pointers.{value_of-even}
use Rattle.st_counted.specs.inside.Counts.{count_at, is_counted, number_at, raised, lowered}
use Rattle.st_counted.proofs.Linked.{test_other, test_same, same_test, other_test}
use Rattle.st_counted.proofs.ZeroList.{counted_within}
use Rattle.st_counted.specs.inside.References.{times, IsTallied, references, IsCounted, IsEntered, raised_by, lowered_by}

abbrev pub one_if : Bool → ℕ
one_if b = cond b 1 0

-- the same numbers
pub tally_same : (t : Table) (f g : ℕ → ℕ) (cs : List (Option ℕ)) → IsTallied t f cs → ((j : ℕ) → g j ≡ f j) → IsTallied t g cs
tally_same t f g cs h same = λ j. h j ∙ ap (λ n. cond (is_some (entry t j)) (Some n) None) (sym (same j))

-- other objects at the same places
pub tally_moved : (t u : Table) (f : ℕ → ℕ) (cs : List (Option ℕ)) → IsTallied t f cs → ((j : ℕ) → is_some (entry u j) ≡ is_some (entry t j)) → IsTallied u f cs
tally_moved t u f cs h same = λ j. h j ∙ ap (λ b. cond b (Some (f j)) None) (sym (same j))

pub tally_entered : (t : Table) (f : ℕ → ℕ) (cs : List (Option ℕ)) → IsTallied t f cs → IsEntered t cs
tally_entered t f cs h = λ j. ap is_some (h j) ∙ by_case (f j) (is_some (entry t j))
  where
    by_case : (n : ℕ) (b : Bool) → is_some (cond b (Some n) None) ≡ b
    by_case n true = refl
    by_case n false = refl

pub tally_number : (t : Table) (f : ℕ → ℕ) (cs : List (Option ℕ)) (k : ℕ) → IsTallied t f cs → is_some (entry t k) ≡ true → number_at cs k ≡ f k
tally_number t f cs k h live = ap (λ x. unwrap_or x 0) (h k) ∙ ap (λ b. unwrap_or (cond b (Some (f k)) None) 0) live

-- no number is above that of its references
pub tally_most : (t : Table) (f : ℕ → ℕ) (cs : List (Option ℕ)) (k : ℕ) → IsTallied t f cs → number_at cs k ≤ f k
tally_most t f cs k h = subst (λ x. unwrap_or x 0 ≤ f k) (sym (h k)) (by_case (is_some (entry t k)))
  where
    by_case : (b : Bool) → unwrap_or (cond b (Some (f k)) None) 0 ≤ f k
    by_case true = omega arith
    by_case false = omega arith

-- what is entered has its own numbers
pub entered_tally : (t : Table) (cs : List (Option ℕ)) → IsEntered t cs → IsTallied t (number_at cs) cs
entered_tally t cs h = λ j. by_count (count_at cs j) ∙ ap (λ b. cond b (Some (number_at cs j)) None) (h j)
  where
    by_count : (x : Option ℕ) → x ≡ cond (is_some x) (Some (unwrap_or x 0)) None
    by_count None = refl
    by_count (Some n) = refl

-- one count is another number
pub tally_set : (t : Table) (f g : ℕ → ℕ) (cs : List (Option ℕ)) (k m : ℕ) → IsTallied t f cs → is_some (entry t k) ≡ true → g k ≡ m → ((j : ℕ) → j ≢ k → g j ≡ f j) → IsTallied t g (set cs k (Some m))
tally_set t f g cs k m h live here others = λ j. by_case j (k == j) refl
  where
    within : k < length cs
    within = counted_within cs k (tally_entered t f cs h k ∙ live)

    by_case : (j : ℕ) (b : Bool) → (k == j) ≡ b → count_at (set cs k (Some m)) j ≡ cond (is_some (entry t j)) (Some (g j)) None
    by_case j true q =
        subst (λ y. count_at (set cs k (Some m)) y ≡ cond (is_some (entry t y)) (Some (g y)) None) (same_test k j q)
        (get_or-set_same cs k (Some m) None within ∙ ap (λ n. Some n) (sym here) ∙ ap (λ b. cond b (Some (g k)) None) (sym live))
    by_case j false q =
        let ne : j ≢ k = λ z. other_test k j q (sym z) in
        get_or-set_other cs k j (Some m) None ne ∙ h j ∙ ap (λ n. cond (is_some (entry t j)) (Some n) None) (sym (others j ne))

pub live_known : (t : Table) (k : ℕ) → IsKnown t (Ref k) → is_some (entry t k) ≡ true
unfolding is_live
live_known t k h = h refl

pub tally_raised : (t : Table) (f : ℕ → ℕ) (cs : List (Option ℕ)) (v : Value) (by : ℕ) → IsTallied t f cs → IsKnown t v → IsTallied t (λ j. cond (names v j) by 0 + f j) (raised_by cs v by)
tally_raised t f cs (Small n) by h known = tally_same t f _ cs h (λ j. omega arith)
tally_raised t f cs (Ref k) by h known =
    let live = live_known t k known in
    let is = tally_number t f cs k h live in
    tally_set t f (λ j. cond (j == k) by 0 + f j) cs k (number_at cs k + by) h live
    (ap (λ b. cond b by 0 + f k) (test_same k) ∙ omega (arith, is))
    (λ j ne. ap (λ b. cond b by 0 + f j) (test_other j k ne) ∙ omega arith)

pub tally_less : (t : Table) (f : ℕ → ℕ) (cs : List (Option ℕ)) (k by : ℕ) → IsTallied t (λ j. cond (names (Ref k) j) by 0 + f j) cs → IsKnown t (Ref k) → IsTallied t f (lowered cs k by)
tally_less t f cs k by h known =
    let live = live_known t k known in
    let g : ℕ → ℕ = λ j. cond (j == k) by 0 + f j in
    let is : number_at cs k ≡ g k = tally_number t g cs k h live in
    let all : g k ≡ by + f k = ap (λ b. cond b by 0 + f k) (test_same k) in
    tally_set t g f cs k (number_at cs k - by) h live (omega (arith, is, all))
    (λ j ne. let none : g j ≡ f j = ap (λ b. cond b by 0 + f j) (test_other j k ne) ∙ omega arith in sym none)

pub tally_lowered : (t : Table) (f : ℕ → ℕ) (cs : List (Option ℕ)) (v : Value) → IsTallied t (λ j. cond (names v j) 1 0 + f j) cs → IsKnown t v → IsTallied t f (lowered_by cs v)
tally_lowered t f cs (Small n) h known = tally_same t _ f cs h (λ j. omega arith)
tally_lowered t f cs (Ref k) h known = tally_less t f cs k 1 h known

-- what names nothing dead isn't the name of something dead
pub known_other : (t : Table) (v : Value) (k : ℕ) → IsKnown t v → is_some (entry t k) ≡ false → names v k ≡ false
known_other t (Small n) k known dead = refl
known_other t (Ref n) k known dead = test_other k n (λ e. let live = live_known t n known in let a : is_some (entry t k) ≡ true = ap (λ j. is_some (entry t j)) e ∙ live in cc)

pub times_replicate : (k n : ℕ) (v : Value) (xs : List Value) → times k (replicate n v ++ xs) ≡ cond (names v k) n 0 + times k xs
times_replicate k zero v xs = by_case (names v k)
  where
    by_case : (b : Bool) → times k xs ≡ cond b 0 0 + times k xs
    by_case true = omega arith
    by_case false = omega arith
times_replicate k (suc n) v xs = let s = times_replicate k n v xs in by_case (names v k) s
  where
    by_case : (b : Bool) → times k (replicate n v ++ xs) ≡ cond b n 0 + times k xs → cond b 1 0 + times k (replicate n v ++ xs) ≡ cond b (suc n) 0 + times k xs
    by_case true s = omega (arith, s)
    by_case false s = omega (arith, s)

module _ (t : Table) (roots : List Value) where
  -- references more in hand
  pub counted_raised : (hand : List Value) (cs : List (Option ℕ)) (v : Value) (n : ℕ) → IsCounted t roots hand cs → IsKnown t v → IsCounted t roots (replicate n v ++ hand) (raised_by cs v n)
  counted_raised hand cs v n h known = record {
    tallied = tally_same t _ _ (raised_by cs v n) (tally_raised t (references t roots hand) cs v n h.tallied known) same;
    closed = λ k dead. let a = h.closed k dead in let s = times_replicate k n v hand in let z : cond (names v k) n 0 ≡ 0 = ap (λ b. cond b n 0) (known_other t v k known dead) in omega (arith, a, s, z);
  }
    where
      same : (k : ℕ) → references t roots (replicate n v ++ hand) k ≡ cond (names v k) n 0 + references t roots hand k
      same k = let s = times_replicate k n v hand in omega (arith, s)

  -- what is in hand is there
  pub hand_known : (hand : List Value) (cs : List (Option ℕ)) (v : Value) → IsCounted t roots (v ∷ hand) cs → IsKnown t v
  unfolding is_live
  hand_known hand cs (Small n) h = λ small. let z : true ≡ false = small in cc
  hand_known hand cs (Ref k) h = λ small. by_case (is_some (entry t k)) refl
    where
      by_case : (b : Bool) → is_some (entry t k) ≡ b → is_live t (Ref k) ≡ true
      by_case true e = e
      by_case false e = let a = h.closed k e in let one : one_if (k == k) ≡ 1 = ap one_if (test_same k) in absurd (omega (arith, a, one))

  -- one less
  pub counted_lowered : (hand : List Value) (cs : List (Option ℕ)) (v : Value) → IsCounted t roots (v ∷ hand) cs → IsCounted t roots hand (lowered_by cs v)
  counted_lowered hand cs v h = record {
    tallied = tally_lowered t (references t roots hand) cs v (tally_same t (references t roots (v ∷ hand)) _ cs h.tallied (λ k. omega arith)) (hand_known hand cs v h);
    closed = λ k dead. let a = h.closed k dead in omega (arith, a);
  }

  -- many less
  pub counted_less : (hand : List Value) (cs : List (Option ℕ)) (k n : ℕ) → IsCounted t roots (replicate n (Ref k) ++ hand) cs → IsKnown t (Ref k) → IsCounted t roots hand (lowered cs k n)
  counted_less hand cs k n h known = record {
    tallied = tally_less t (references t roots hand) cs k n (tally_same t (references t roots (replicate n (Ref k) ++ hand)) _ cs h.tallied (λ j. let s = times_replicate j n (Ref k) hand in omega (arith, s))) known;
    closed = λ j dead. let a = h.closed j dead in let s = times_replicate j n (Ref k) hand in omega (arith, a, s);
  }

  -- what the first word in hand names is counted, by one at least
  pub hand_counted : (hand : List Value) (cs : List (Option ℕ)) (w : ℕ) → IsCounted t roots (value_of w ∷ hand) cs → is_small (value_of w) ≡ false → is_counted cs (w / 2) ≡ true
  hand_counted hand cs w h some =
      let named = value_of-even w some in
      tally_entered t _ cs h.tallied (w / 2) ∙ live_known t (w / 2) (subst (λ v. IsKnown t v) named (hand_known hand cs (value_of w) h))

  pub hand_some : (hand : List Value) (cs : List (Option ℕ)) (w : ℕ) → IsCounted t roots (value_of w ∷ hand) cs → is_small (value_of w) ≡ false → number_at cs (w / 2) ≢ 0
  hand_some hand cs w h some none =
      let named = value_of-even w some in
      let live = live_known t (w / 2) (subst (λ v. IsKnown t v) named (hand_known hand cs (value_of w) h)) in
      let is = tally_number t (references t roots (value_of w ∷ hand)) cs (w / 2) h.tallied live in
      let one : one_if (names (value_of w) (w / 2)) ≡ 1 = ap (λ v. one_if (names v (w / 2))) named ∙ ap one_if (test_same (w / 2)) in
      omega (arith, is, one, none)

-- what a word names is counted
pub known_counted : (t : Table) (f : ℕ → ℕ) (cs : List (Option ℕ)) (w : ℕ) → IsTallied t f cs → IsKnown t (value_of w) → is_small (value_of w) ≡ false → is_counted cs (w / 2) ≡ true
known_counted t f cs w h known some = tally_entered t f cs h (w / 2) ∙ live_known t (w / 2) (subst (λ v. IsKnown t v) (value_of-even w some) known)

-- the same references to objects at the same places
pub counted_alike : (t u : Table) (roots roots' hand hand' : List Value) (cs : List (Option ℕ)) → IsCounted t roots hand cs
    → ((k : ℕ) → is_some (entry u k) ≡ is_some (entry t k)) → ((k : ℕ) → references u roots' hand' k ≡ references t roots hand k) → IsCounted u roots' hand' cs
counted_alike t u roots roots' hand hand' cs h live same = record {
  tallied = tally_moved t u _ cs (tally_same t _ _ cs h.tallied same) live;
  closed = λ k dead. same k ∙ h.closed k (sym (live k) ∙ dead);
}

pub raised_small : (cs : List (Option ℕ)) (v : Value) (n : ℕ) → is_small v ≡ true → raised_by cs v n ≡ cs
raised_small cs (Small x) n h = refl
raised_small cs (Ref k) n h = cc

pub raised_even : (cs : List (Option ℕ)) (w n : ℕ) → is_small (value_of w) ≡ false → raised_by cs (value_of w) n ≡ raised cs (w / 2) n
raised_even cs w n h = ap (λ v. raised_by cs v n) (value_of-even w h)

pub lowered_small : (cs : List (Option ℕ)) (v : Value) → is_small v ≡ true → lowered_by cs v ≡ cs
lowered_small cs (Small x) h = refl
lowered_small cs (Ref k) h = cc

pub lowered_even : (cs : List (Option ℕ)) (w : ℕ) → is_small (value_of w) ≡ false → lowered_by cs (value_of w) ≡ lowered cs (w / 2) 1
lowered_even cs w h = ap (lowered_by cs) (value_of-even w h)
