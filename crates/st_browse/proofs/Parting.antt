-- Bytes of a method, one bytecode after the other.
use Rattle.std.proofs.Common.{◌≡◌, ◌≢◌, ℕ, zero, suc, ◌+◌, ◌-◌, ◌<◌, ◌≤◌, List, [], ◌∷◌, ◌++◌, length, take, drop, Some, None, Bool, true, false, refl, sym, ap, ◌∙◌, arith, append_assoc, append-nil, Ok, Err}
use Rattle.std.specs.Prelude.{slice_get, ◌||◌, ◌==◌, min, Result, IsErr}
use Rattle.std.specs.List.{list_any}
use Rattle.std.proofs.lemmas.Bool.Decides.{nat_tests}
use Rattle.st_host.specs.declared.host.Host.{Ghosts}
use Rattle.st_host.specs.declared.host.SayFault.{SayFault}
use Rattle.st_host.proofs.Telling.{OnlyNow}
use Rattle.st_call.specs.inside.Saying.{Pushes}
use Rattle.st_call.proofs.Pushing.{push_none, push_then, push_begun, push_as}
use Rattle.st_parts.specs.Cutting.{code_length, codes_behind, codes_of}
use Rattle.st_browse.specs.Replies.{code_line, codes_text}
use Rattle.st_browse.specs.Senders.{is_special}

pub dropped : {A : Type 0} (us : List A) (at : ℕ) (b : A) → slice_get us at ≡ Some b → drop at us ≡ b ∷ drop (suc at) us
dropped [] at b e = cc
dropped (u ∷ us) zero b e = let q : u ≡ b = cc in ap (λ x. x ∷ us) q
dropped (u ∷ us) (suc at) b e = dropped us at b e

pub dropped_all : {A : Type 0} (us : List A) (at : ℕ) → length us ≤ at → drop at us ≡ []
dropped_all [] zero l = refl
dropped_all [] (suc at) l = refl
dropped_all (u ∷ us) zero l = absurd (omega (arith, l))
dropped_all (u ∷ us) (suc at) l = dropped_all us at (omega (arith, l))

dropped_more : {A : Type 0} (us : List A) (at k : ℕ) → drop k (drop at us) ≡ drop (at + k) us
dropped_more us zero k = let z : k ≡ 0 + k = omega arith in ap (λ j. drop j us) z
dropped_more [] (suc at) k = dropped_all [] k (omega arith) ∙ sym (dropped_all [] (suc at + k) (omega arith))
dropped_more (u ∷ us) (suc at) k =
    let z : suc (at + k) ≡ suc at + k = omega arith in
    dropped_more us at k ∙ ap (λ j. drop j (u ∷ us)) z

skipped : (k : ℕ) (bs : List ℕ) → codes_behind k bs ≡ codes_of (drop k bs)
skipped zero bs = refl
skipped (suc k) [] = refl
skipped (suc k) (b ∷ bs) = skipped k bs

cut_one : (b n : ℕ) (rest : List ℕ) → n ≡ code_length b → 1 ≤ n → codes_of (b ∷ rest) ≡ take n (b ∷ rest) ∷ codes_of (drop n (b ∷ rest))
cut_one b zero rest e l = absurd (omega (arith, l))
cut_one b (suc k) rest e l =
    let j : code_length b - 1 ≡ k = omega (arith, e) in
    ap (λ i. (b ∷ take i rest) ∷ codes_behind i rest) j ∙ ap (λ cs. (b ∷ take k rest) ∷ cs) (skipped k rest)

module _ (us : List ℕ) (at b n : ℕ) (e : slice_get us at ≡ Some b) (n_is : n ≡ code_length b) (some : 1 ≤ n) where
  pub codes_next : codes_of (drop at us) ≡ take n (drop at us) ∷ codes_of (drop (at + n) us)
  codes_next =
      let q : drop at us ≡ b ∷ drop (suc at) us = dropped us at b e in
      ap codes_of q
      ∙ (cut_one b n (drop (suc at) us) n_is some ∙ (ap (λ bs. take n bs ∷ codes_of (drop n bs)) (sym q) ∙ ap (λ cs. take n (drop at us) ∷ codes_of cs) (dropped_more us at n)))

  pub count_next : (count all : ℕ) → count + length (codes_of (drop at us)) ≡ all → (count + 1) + length (codes_of (drop (at + n) us)) ≡ all
  count_next count all h = let a = ap length codes_next in omega (arith, a, h)

-- the first bytecode is a special send, or not
module _ (us : List ℕ) (at b : ℕ) (e : slice_get us at ≡ Some b) (k : ℕ) (all : Bool) (h : list_any (is_special (Some k)) (codes_of (drop at us)) ≡ all) where
  later : Bool
  later = list_any (is_special (Some k)) (codes_behind (code_length b - 1) (drop (suc at) us))

  parts : list_any (is_special (Some k)) (codes_of (drop at us)) ≡ (b == 176 + k) || later
  unfolding later
  parts = ap (λ bs. list_any (is_special (Some k)) (codes_of bs)) (dropped us at b e)

  pub special_here : b ≡ 176 + k → true ≡ all
  special_here same =
      let t : (b == 176 + k) ≡ true = grind (arith, nat_tests, same) in
      sym (parts ∙ ap (λ x. x || later) t) ∙ h

  pub special_next : (n : ℕ) → n ≡ code_length b → 1 ≤ n → b ≢ 176 + k → list_any (is_special (Some k)) (codes_of (drop (at + n) us)) ≡ all
  unfolding later
  special_next n n_is some other =
      let t : (b == 176 + k) ≡ false = grind (arith, nat_tests, other) in
      let behind : codes_behind (code_length b - 1) (drop (suc at) us) ≡ codes_of (drop (at + n) us) =
      skipped (code_length b - 1) (drop (suc at) us)
      ∙ (ap codes_of (dropped_more us (suc at) (code_length b - 1)) ∙ (let z : suc at + (code_length b - 1) ≡ at + n = omega (arith, n_is, some) in ap (λ j. codes_of (drop j us)) z)) in
      sym (ap (list_any (is_special (Some k))) behind) ∙ (sym (parts ∙ ap (λ x. x || later) t) ∙ h)

pub none_special : (cs : List (List ℕ)) → list_any (is_special None) cs ≡ false
none_special [] = refl
none_special (c ∷ cs) = none_special cs

pub codes_end : (us : List ℕ) (at : ℕ) → length us ≤ at → codes_of (drop at us) ≡ []
codes_end us at l = ap codes_of (dropped_all us at l)

-- LINES

length_take : (us : List ℕ) (n : ℕ) → n ≤ length us → length (take n us) ≡ n
length_take us zero l = refl
length_take [] (suc n) l = absurd (omega (arith, l))
length_take (u ∷ us) (suc n) l = let a = length_take us n (omega (arith, l)) in omega (arith, a)

length_drop : (us : List ℕ) (at : ℕ) → length (drop at us) ≡ length us - at
length_drop us zero = omega arith
length_drop [] (suc at) = omega arith
length_drop (u ∷ us) (suc at) = let a = length_drop us at in omega (arith, a)

taken_within : (us : List ℕ) (n : ℕ) → take (min n (length us)) us ≡ take n us
taken_within us zero = let z : min 0 (length us) ≡ 0 = omega arith in ap (λ k. take k us) z
taken_within [] (suc n) = let z : min (suc n) 0 ≡ 0 = omega arith in ap (λ k. take k []) z
taken_within (u ∷ us) (suc n) =
    let z : min (suc n) (suc (length us)) ≡ suc (min n (length us)) = omega arith in
    ap (λ k. take k (u ∷ us)) z ∙ ap (λ t. u ∷ t) (taken_within us n)

-- the bytes of a code that are there
pub those_there : (us : List ℕ) (at n k units : ℕ) → units ≡ length us → k ≡ min n (units - at) → take k (drop at us) ≡ take n (drop at us)
those_there us at n k units e f =
    let l = length_drop us at in
    let z : k ≡ min n (length (drop at us)) = omega (arith, e, f, l) in
    ap (λ i. take i (drop at us)) z ∙ taken_within (drop at us) n

pub unit_of : (us : List ℕ) (from count i : ℕ) (b : ℕ) → i < count → slice_get us (from + i) ≡ Some b → slice_get (take count (drop from us)) i ≡ Some b
unit_of us from count i b l e = taken_get (drop from us) count i l ∙ (dropped_get us from i ∙ e)
  where
    taken_get : (xs : List ℕ) (n k : ℕ) → k < n → slice_get (take n xs) k ≡ slice_get xs k
    taken_get xs zero k l = absurd (omega (arith, l))
    taken_get [] (suc n) k l = refl
    taken_get (x ∷ xs) (suc n) zero l = refl
    taken_get (x ∷ xs) (suc n) (suc k) l = taken_get xs n k (omega (arith, l))

    dropped_get : (xs : List ℕ) (n k : ℕ) → slice_get (drop n xs) k ≡ slice_get xs (n + k)
    dropped_get xs zero k = let z : k ≡ 0 + k = omega arith in ap (slice_get xs) z
    dropped_get [] (suc n) k = refl
    dropped_get (x ∷ xs) (suc n) k = let z : suc (n + k) ≡ suc n + k = omega arith in dropped_get xs n k ∙ ap (slice_get (x ∷ xs)) z

pub taken_all : (us : List ℕ) (from count i : ℕ) → count ≤ i → take i (take count (drop from us)) ≡ take count (drop from us)
taken_all us from count i l = whole (drop from us) count i l
  where
    whole : (xs : List ℕ) (n k : ℕ) → n ≤ k → take k (take n xs) ≡ take n xs
    whole xs zero zero l = refl
    whole xs zero (suc k) l = refl
    whole xs (suc n) zero l = absurd (omega (arith, l))
    whole [] (suc n) (suc k) l = refl
    whole (x ∷ xs) (suc n) (suc k) l = ap (λ t. x ∷ t) (whole xs n k (omega (arith, l)))

-- a place behind a code that is cut off is none of the others
place_of_next : (place at n : ℕ) (us : List ℕ) → codes_text (place + length (take n (drop at us))) (codes_of (drop (at + n) us)) ≡ codes_text (place + n) (codes_of (drop (at + n) us))
place_of_next place at n us = by (length us - (at + n)) refl
  where
    by : (d : ℕ) → length us - (at + n) ≡ d → codes_text (place + length (take n (drop at us))) (codes_of (drop (at + n) us)) ≡ codes_text (place + n) (codes_of (drop (at + n) us))
    by zero e = rw (codes_end us (at + n) (omega (arith, e))) refl
    by (suc d) e =
        let a = length_drop us at in
        ap (λ k. codes_text (place + k) (codes_of (drop (at + n) us))) (length_take (drop at us) n (omega (arith, a, e)))

module _ {D : Type 0} (host : Ghosts D) (us : List ℕ) (place : ℕ) where
  -- the lines of the bytecodes so far were added
  pub record ArePushed (at : ℕ) (old new : D) (before behind : List ℕ) : Type 0 where
    pub done : List ℕ
    pub is : done ++ codes_text (place + at) (codes_of (drop at us)) ≡ codes_text place (codes_of us)
    pub pushes : Pushes {E = SayFault} host done old new before behind (Ok tt)

  pub pushed_none : (old : D) (before : List ℕ) → OnlyNow host old → ArePushed 0 old old before before
  pushed_none old before now =
      let z : place + 0 ≡ place = omega arith in
      record { done = []; is = ap (λ k. codes_text k (codes_of us)) z; pushes = push_none host old now }

  module _ (at b n : ℕ) (e : slice_get us at ≡ Some b) (n_is : n ≡ code_length b) (some : 1 ≤ n) where
    lines_next : codes_text (place + at) (codes_of (drop at us)) ≡ code_line (place + at) (take n (drop at us)) ++ codes_text (place + (at + n)) (codes_of (drop (at + n) us))
    lines_next =
        let z : (place + at) + n ≡ place + (at + n) = omega arith in
        ap (codes_text (place + at)) (codes_next us at b n e n_is some)
        ∙ ap (λ t. code_line (place + at) (take n (drop at us)) ++ t) (place_of_next (place + at) at n us ∙ ap (λ k. codes_text k (codes_of (drop (at + n) us))) z)

    pub pushed_more : {old mid new : D} {before between behind : List ℕ} → ArePushed at old mid before between
        → Pushes {E = SayFault} host (code_line (place + at) (take n (drop at us))) mid new between behind (Ok tt) → ArePushed (at + n) old new before behind
    pushed_more p run = record {
      done = p.done ++ code_line (place + at) (take n (drop at us));
      is = append_assoc p.done (code_line (place + at) (take n (drop at us))) (codes_text (place + (at + n)) (codes_of (drop (at + n) us)))
          ∙ (ap (λ t. p.done ++ t) (sym lines_next) ∙ p.is);
      pushes = push_then p.pushes run;
    }

    pub pushed_stopped : {old mid new : D} {before between behind : List ℕ} {fault : SayFault} {result : Result Unit SayFault} → IsErr result → ArePushed at old mid before between
        → Pushes {E = SayFault} host (code_line (place + at) (take n (drop at us))) mid new between behind (Err fault)
        → Pushes host (codes_text place (codes_of us)) old new before behind result
    pushed_stopped err p run =
        push_as (push_then p.pushes (push_begun (codes_text (place + (at + n)) (codes_of (drop (at + n) us))) err run))
        (ap (λ t. p.done ++ t) (sym lines_next) ∙ p.is)

  pub pushed_all : {at : ℕ} {old new : D} {before behind : List ℕ} → length us ≤ at → ArePushed at old new before behind
      → Pushes {E = SayFault} host (codes_text place (codes_of us)) old new before behind (Ok tt)
  pushed_all {at = at} l p =
      push_as p.pushes (sym (append-nil p.done) ∙ (ap (λ cs. p.done ++ codes_text (place + at) cs) (sym (codes_end us at l)) ∙ p.is))
