-- What stands in the first bytes is found by the places of instructions.
use Rattle.std.proofs.Common.{◌≡◌, ◌<◌, ◌≤◌, ℕ, zero, suc, ◌+◌, ◌-◌, ◌==◌, Bool, true, false, ltb, List, [], ◌∷◌, ◌++◌, map, take, drop, length, get_or, Option, Some, None, refl, sym, ap, ap₂, ◌∙◌, subst, arith, append_assoc}
use Rattle.std.proofs.lemmas.Bool.{ltb-true, ltb-false, lt-ltb}
use Rattle.std.specs.List.Sorted.{IsPartitionPoint, IsPartitionedBy}
use Rattle.std.proofs.lemmas.Bool.Decides.{nat_tests}
use Rattle.st_emit.specs.declared.instruction.Instruction.{Instruction}
use Rattle.st_emit.specs.Steps.{size_of}
use Rattle.st_decompile.specs.declared.located.Located.{Located}
use Rattle.st_decompile.specs.Reading.{front, behind}
use Rattle.st_decompile.specs.inside.Located.{steps_in, end_of, located_from, place_or, split_of, AreFrom, AreSpaced, AreWithin, AreFront, AreBehind}
use Rattle.st_decompile.proofs.Running.{front_none, front_turn, behind_none, behind_turn}

-- LOCATED

pub located_steps : (at : ℕ) (ss : List Instruction) → steps_in (located_from at ss) ≡ ss
located_steps at [] = refl
located_steps at (s ∷ ss) = ap (λ (xs : List Instruction). s ∷ xs) (located_steps (at + size_of s) ss)

located_are : (at : ℕ) (ss : List Instruction) → AreFrom at (located_from at ss)
located_are at [] = tt
located_are at (s ∷ ss) = (refl, located_are (at + size_of s) ss)

pub located_spaced : (at : ℕ) (ss : List Instruction) → AreSpaced (located_from at ss)
located_spaced at [] = tt
located_spaced at (s ∷ ss) = located_are (at + size_of s) ss

-- one more
pub located_turn : (at next : ℕ) (ss : List Instruction) (s : Instruction) (rest : List Instruction) (ls new whole : List Located) → ss ≡ s ∷ rest → next ≡ at + size_of s → new ≡ ls ++ record { at = at; step = s } ∷ [] → ls ++ located_from at ss ≡ whole → new ++ located_from next rest ≡ whole
located_turn at next ss s rest ls new whole cut e pushed h =
    ap₂ (λ (xs : List Located) (n : ℕ). xs ++ located_from n rest) pushed e
    ∙ append_assoc ls (record { at = at; step = s } ∷ []) (located_from (at + size_of s) rest)
    ∙ ap (λ (xs : List Instruction). ls ++ located_from at xs) (sym cut) ∙ h

-- the first one
pub split_is : (ls rest : List Located) (l : Located) → Some (l, rest) ≡ split_of ls → ls ≡ l ∷ rest
split_is [] rest l e = absurd cc
split_is (x ∷ ls) rest l e = let same : (l, rest) ≡ (x, ls) = cc in ap₂ (λ (y : Located) (ys : List Located). y ∷ ys) (sym (ap (λ (p : Located × List Located). p.0) same)) (sym (ap (λ (p : Located × List Located). p.1) same))

pub split_none : (ls : List Located) → None ≡ split_of ls → ls ≡ []
split_none [] e = refl
split_none (x ∷ ls) e = absurd cc

-- SPACED

pub spaced : (at : ℕ) (ls : List Located) → AreFrom at ls → AreSpaced ls
spaced at [] f = tt
spaced at (l ∷ ls) f = subst (λ (n : ℕ). AreFrom (n + size_of l.step) ls) (sym f.0) f.1

from_first : (l : Located) (ls : List Located) → AreSpaced (l ∷ ls) → AreFrom l.at (l ∷ ls)
from_first l ls s = (refl, s)

from_take : (n at : ℕ) (ls : List Located) → AreFrom at ls → AreFrom at (take n ls)
from_take zero at ls f = tt
from_take (suc n) at [] f = tt
from_take (suc n) at (l ∷ ls) f = (f.0, from_take n (at + size_of l.step) ls f.1)

from_drop : (n at : ℕ) (ls : List Located) → AreFrom at ls → AreFrom (end_of at (steps_in (take n ls))) (drop n ls)
from_drop zero at ls f = f
from_drop (suc n) at [] f = tt
from_drop (suc n) at (l ∷ ls) f = from_drop n (at + size_of l.step) ls f.1

from_some : (ls : List Located) → AreSpaced ls → (at : ℕ) × AreFrom at ls
from_some [] s = (0, tt)
from_some (l ∷ ls) s = (l.at, from_first l ls s)

-- PARTS

module _ (distance n : ℕ) (ls : List Located) (within : AreWithin distance ls n) where
  pub front_is : AreSpaced ls → AreFront distance ls (take n ls)
  front_is s = let f = from_some ls s in (sym within.0, spaced f.0 (take n ls) (from_take n f.0 ls f.1))

  pub behind_is : AreBehind distance ls (drop n ls)
  behind_is = (sym within.1, λ at f. subst (λ (ss : List Instruction). AreFrom (end_of at ss) (drop n ls)) (sym within.0) (from_drop n at ls f))

-- what stands behind the first bytes is spaced too
pub spaced_behind : (distance : ℕ) (ls part : List Located) → AreSpaced ls → AreBehind distance ls part → AreSpaced part
spaced_behind distance ls part s b = let f = from_some ls s in spaced (end_of f.0 (front distance (steps_in ls))) part (b.1 f.0 f.1)

-- BY THEIR PLACES

not_before : (at : ℕ) (ls : List Located) (k : ℕ) (d : Located) → AreFrom at ls → k < length ls → at ≤ (get_or ls k d).at
not_before at [] k d f h = absurd (omega (arith, h))
not_before at (l ∷ ls) zero d f h = let e = f.0 in omega (arith, e)
not_before at (l ∷ ls) (suc k) d f h = let less = not_before (at + size_of l.step) ls k d f.1 (omega (arith, h)) in omega (arith, less)

pub rises : (at : ℕ) (ls : List Located) (i j : ℕ) (d : Located) → AreFrom at ls → i ≤ j → j < length ls → (get_or ls i d).at ≤ (get_or ls j d).at
rises at [] i j d f le h = absurd (omega (arith, h))
rises at (l ∷ ls) zero j d f le h = let e = f.0 in let less = not_before at (l ∷ ls) j d f h in omega (arith, e, less)
rises at (l ∷ ls) (suc i) zero d f le h = absurd (omega (arith, le))
rises at (l ∷ ls) (suc i) (suc j) d f le h = rises (at + size_of l.step) ls i j d f.1 (omega (arith, le)) (omega (arith, h))

-- those before n begin within the first bytes, the others don't
abbrev pub Begin : ℕ → ℕ → List Located → ℕ → Type 0
Begin distance at ls n = ((k : ℕ) (d : Located) → k < n → (get_or ls k d).at - at < distance) × ((k : ℕ) (d : Located) → n ≤ k → k < length ls → distance ≤ (get_or ls k d).at - at)

within_none : (distance : ℕ) (ls : List Located) → distance ≡ 0 → AreWithin distance ls 0
within_none distance ls e = (ap (λ (d : ℕ). front d (steps_in ls)) e ∙ front_none (steps_in ls), ap (λ (d : ℕ). behind d (steps_in ls)) e ∙ behind_none (steps_in ls))

pub within : (n distance at : ℕ) (ls : List Located) → AreFrom at ls → n ≤ length ls → Begin distance at ls n → AreWithin distance ls n
within zero distance at [] f few b = (refl, refl)
within (suc n) distance at [] f few b = absurd (omega (arith, few))
within zero distance at (l ∷ ls) f few b =
    let e = f.0 in
    let over : distance ≤ l.at - at = b.1 0 l (omega arith) (omega arith) in
    within_none distance (l ∷ ls) (omega (arith, e, over))
within (suc n) distance at (l ∷ ls) f few b =
    let size = size_of l.step in
    let under : l.at - at < distance = b.0 0 l (omega arith) in
    let e = f.0 in
    let some : 0 < distance = omega (arith, under) in
    let not_none : (distance == 0) ≡ false = grind (arith, nat_tests) in
    let begin : Begin (distance - size) (at + size) ls n = (
      λ k d h. let less = b.0 (suc k) d (omega (arith, h)) in let up = not_before (at + size) ls k d f.1 (omega (arith, h, few)) in omega (arith, less, up),
      λ k d h short. let more = b.1 (suc k) d (omega (arith, h)) (omega (arith, short)) in let up = not_before (at + size) ls k d f.1 short in omega (arith, more, up),
    ) in
    let rest = within n (distance - size) (at + size) ls f.1 (omega (arith, few)) begin in (
      front_turn distance l.step (steps_in ls) not_none ∙ ap (λ (ss : List Instruction). l.step ∷ ss) rest.0,
      behind_turn distance l.step (steps_in ls) not_none ∙ rest.1,
    )

-- BY A SEARCH

module _ (distance start : ℕ) (ls : List Located) (s : AreSpaced ls) where
  pub is_parted : IsPartitionedBy (λ (l : Located). ltb (l.at - start) distance) ls
  is_parted i j d le short up =
      let less : (get_or ls i d).at ≤ (get_or ls j d).at = rises (from_some ls s).0 ls i j d (from_some ls s).1 le short in
      let over = ltb-true ((get_or ls j d).at - start) distance up in
      lt-ltb ((get_or ls i d).at - start) distance (omega (arith, less, over))

from_place : (ls : List Located) → AreSpaced ls → AreFrom (place_or 0 ls) ls
from_place [] s = tt
from_place (l ∷ ls) s = (refl, s)

pub point_within : (distance start : ℕ) (ls : List Located) (n : ℕ) → AreSpaced ls → start ≡ place_or 0 ls → n ≤ length ls → IsPartitionPoint (λ (l : Located). ltb (l.at - start) distance ≡ true) (λ (l : Located). ltb (l.at - start) distance ≡ false) ls n → AreWithin distance ls n
point_within distance start ls n s e few point =
    within n distance start ls (subst (λ (k : ℕ). AreFrom k ls) (sym e) (from_place ls s)) few (
      λ k d h. ltb-true ((get_or ls k d).at - start) distance (point.0 k d (omega arith) h),
      λ k d h short. ltb-false ((get_or ls k d).at - start) distance (point.1 k d h short),
    )
