-- The turns of reading a region: what an instruction passes is left out at once.
use Rattle.std.proofs.Common.{◌≡◌, ℕ, zero, suc, ◌+◌, ◌-◌, ◌≤◌, ◌<◌, ◌==◌, Bool, true, false, List, [], ◌∷◌, ◌++◌, map, take, drop, length, get_or, Option, Some, None, refl, sym, ap, ap₂, ◌∙◌, subst, arith}
use Rattle.std.proofs.lemmas.Bool.Decides.{nat_tests}
use Rattle.std.specs.Prelude.{if◌then◌else◌}
use Rattle.st_emit.specs.declared.instruction.InstructionOperand.{InstructionOperand}
use Rattle.st_emit.specs.declared.instruction.Instruction.{Instruction}
use Rattle.st_emit.specs.Steps.{size_of}
use Rattle.st_emit.specs.Literals.{LiteralView}
use Rattle.st_resolved.specs.Instructions.{on_some}
use Rattle.st_expression_stack.specs.declared.item.Item.{Item as KeptItem}
use Rattle.st_decompile.specs.declared.located.Located.{Located}
use Rattle.st_decompile.specs.declared.reading.Reading.{Reading}
use Rattle.st_expression_stack.specs.Items.{Item, Acted}
use Rattle.st_decompile.specs.inside.Located.{steps_in, end_of, place_or, split_of, AreFrom, AreSpaced, AreBehind}
use Rattle.st_decompile.specs.Reading.{front, behind, act, run}
use Rattle.st_expression_stack.specs.inside.Stacks.{stack_view, acted_by}
use Rattle.st_decompile.specs.inside.Read.{name_by, literals_by, region_by, act_by}
use Rattle.st_decompile.proofs.Locating.{spaced, split_is, split_none}
use Rattle.st_decompile.proofs.Running.{front_none, front_turn, behind_none, behind_turn, done_turn, none_turn, passed_turn, region_none, region_some}

-- PLACES

end_up : (at : ℕ) (ss : List Instruction) → at ≤ end_of at ss
end_up at [] = omega arith
end_up at (s ∷ ss) = let more = end_up (at + size_of s) ss in omega (arith, more)

end_shift : (a b : ℕ) (ss : List Instruction) → end_of (a + b) ss ≡ a + end_of b ss
end_shift a b [] = refl
end_shift a b (s ∷ ss) = let e : (a + b) + size_of s ≡ a + (b + size_of s) = omega arith in ap (λ (n : ℕ). end_of n ss) e ∙ end_shift a (b + size_of s) ss

module _ (name_of : InstructionOperand → List ℕ) (literals : List LiteralView) (inner : ℕ → List Instruction → Option (List Item)) where
  run_none : (at : ℕ) (ss : List Instruction) (xs : List Item) → run name_of literals inner 0 (end_of at (front 0 ss)) (behind 0 ss) xs ≡ run name_of literals inner 0 at ss xs
  run_none at ss xs = ap₂ (λ (a b : List Instruction). run name_of literals inner 0 (end_of at a) b xs) (front_none ss) (behind_none ss)

  run_passed : (skip at : ℕ) (ss : List Instruction) (xs : List Item) → run name_of literals inner 0 (end_of at (front skip ss)) (behind skip ss) xs ≡ run name_of literals inner skip at ss xs
  run_passed zero at ss xs = run_none at ss xs
  run_passed (suc k) at [] xs = refl
  run_passed (suc k) at (s ∷ ss) xs =
      let some : (suc k == 0) ≡ false = grind (arith, nat_tests) in
      ap₂ (λ (a b : List Instruction). run name_of literals inner 0 (end_of at a) b xs) (front_turn (suc k) s ss some) (behind_turn (suc k) s ss some)
      ∙ run_passed (suc k - size_of s) (at + size_of s) ss xs
      ∙ passed_turn name_of literals inner (suc k) at s ss xs (run name_of literals inner (suc k) at (s ∷ ss) xs) some refl

  -- what is left of a region that begins at a place, while its first instruction stands at `start`, gives what the whole gives
  pub record LeftAt (at start : ℕ) (ls : List Located) (xs : List Item) (whole : Option (List Item)) : Type 0 where
    pub in_turn : AreSpaced ls
    pub not_before : start ≤ place_or start ls
    pub left : run name_of literals inner 0 (at + (place_or start ls - start)) (steps_in ls) xs ≡ whole

  moved : (at start b : ℕ) (ss : List Instruction) (ls : List Located) (xs : List Item) (whole : Option (List Item)) → AreFrom (end_of (start + b) ss) ls → run name_of literals inner 0 (end_of (at + b) ss) (steps_in ls) xs ≡ whole → LeftAt at start ls xs whole
  moved at start b ss [] xs whole f h = record { in_turn = tt; not_before = omega arith; left = h }
  moved at start b ss (l ∷ ls) xs whole f h =
      let here = f.0 in
      let from = end_shift start b ss in
      let there = end_shift at b ss in
      let same : at + (l.at - start) ≡ end_of (at + b) ss = omega (arith, here, from, there) in
      record {
        in_turn = spaced (end_of (start + b) ss) (l ∷ ls) f;
        not_before = omega (arith, here, from);
        left = ap (λ (n : ℕ). run name_of literals inner 0 n (steps_in (l ∷ ls)) xs) same ∙ h;
      }

  -- nothing is read yet
  pub start_left : (at : ℕ) (ls : List Located) (xs : List Item) (whole : Option (List Item)) → AreSpaced ls → run name_of literals inner 0 at (steps_in ls) xs ≡ whole → LeftAt at (place_or 0 ls) ls xs whole
  start_left at [] xs whole s h = record { in_turn = tt; not_before = omega arith; left = h }
  start_left at (l ∷ ls) xs whole s h =
      let same : at + (l.at - l.at) ≡ at = omega arith in
      record { in_turn = s; not_before = omega arith; left = ap (λ (n : ℕ). run name_of literals inner 0 n (steps_in (l ∷ ls)) xs) same ∙ h }

  module _ (at start place next : ℕ) (first : Located) (later : List Located) (xs : List Item) (whole : Option (List Item)) (l : LeftAt at start (first ∷ later) xs whole) (here : place ≡ at + (first.at - start)) (there : next ≡ place + size_of first.step) where
    from_here : run name_of literals inner 0 place (steps_in (first ∷ later)) xs ≡ whole
    from_here = ap (λ (n : ℕ). run name_of literals inner 0 n (steps_in (first ∷ later)) xs) here ∙ l.left

    pub none_left : (new : List KeptItem) → acted_by None new ≡ act name_of literals inner first.step place next (steps_in later) xs → None ≡ whole
    none_left new a =
        none_turn name_of literals inner 0 place first.step (steps_in later) xs new whole refl from_here
        (a ∙ ap (λ (n : ℕ). act name_of literals inner first.step place n (steps_in later) xs) there)

    pub turn_left : (skip : ℕ) (rest : List Located) (new : List KeptItem) → acted_by (Some skip) new ≡ act name_of literals inner first.step place next (steps_in later) xs → AreBehind skip later rest → LeftAt at start rest (stack_view new) whole
    turn_left skip rest new a b =
        let size = size_of first.step in
        let up : start ≤ first.at = l.not_before in
        let gap = (first.at - start) + size in
        let spot : next ≡ at + gap = omega (arith, here, there) in
        let kept : first.at + size ≡ start + gap = omega (arith, up) in
        let passed = front skip (steps_in later) in
        let did : run name_of literals inner skip (place + size) (steps_in later) (stack_view new) ≡ whole =
        done_turn name_of literals inner 0 place skip first.step (steps_in later) xs new whole refl from_here
        (a ∙ ap (λ (n : ℕ). act name_of literals inner first.step place n (steps_in later) xs) there) in
        let left : run name_of literals inner 0 (end_of (at + gap) passed) (steps_in rest) (stack_view new) ≡ whole =
        ap₂ (λ (n : ℕ) (ss : List Instruction). run name_of literals inner 0 (end_of n passed) ss (stack_view new)) (sym spot ∙ there) b.0
        ∙ run_passed skip (place + size) (steps_in later) (stack_view new) ∙ did in
        moved at start gap passed rest (stack_view new) whole (subst (λ (n : ℕ). AreFrom (end_of n passed) rest) kept (b.1 (first.at + size) l.in_turn)) left

  pub end_left : (at start : ℕ) (ls : List Located) (xs : List Item) (whole : Option (List Item)) → LeftAt at start ls xs whole → ls ≡ [] → Some xs ≡ whole
  end_left at start [] xs whole l e = l.left
  end_left at start (x ∷ ls) xs whole l e = absurd cc

-- A REGION

pub later_spaced : (ls later : List Located) (first : Located) → Some (first, later) ≡ split_of ls → AreSpaced ls → AreSpaced later
later_spaced ls later first e s = spaced (first.at + size_of first.step) later (subst AreSpaced (split_is ls later first e) s)

pub some_depth : (depth : ℕ) → (depth ≡ 0 → ⊥) → 0 < depth
some_depth zero n = absurd (n refl)
some_depth (suc d) n = omega arith

module _ (r : Reading) (depth at : ℕ) (steps : List Located) where
  -- what is left of these instructions gives what they give
  abbrev pub Left : (start : ℕ) → List Located → List KeptItem → Type 0
  Left start ls items = LeftAt (name_by r) (literals_by r) (region_by r (depth - 1)) at start ls (stack_view items) (region_by r depth at (steps_in steps))

  pub no_region : depth ≡ 0 → None ≡ region_by r depth at (steps_in steps)
  no_region e = sym (region_none (name_by r) (literals_by r) depth at (steps_in steps) e)

  pub begun : (items : List KeptItem) (start : ℕ) → (depth ≡ 0 → ⊥) → start ≡ place_or 0 steps → AreSpaced steps → items ≡ [] → Left start steps items
  begun items start some there s e =
      let whole = region_by r depth at (steps_in steps) in
      let made : run (name_by r) (literals_by r) (region_by r (depth - 1)) 0 at (steps_in steps) (stack_view items) ≡ whole =
      ap (λ (xs : List KeptItem). run (name_by r) (literals_by r) (region_by r (depth - 1)) 0 at (steps_in steps) (stack_view xs)) e
      ∙ sym (region_some (name_by r) (literals_by r) depth at (steps_in steps) (some_depth depth some)) in
      subst (λ (n : ℕ). Left n steps items) (sym there) (start_left (name_by r) (literals_by r) (region_by r (depth - 1)) at steps (stack_view items) whole s made)

  pub left_spaced : (start : ℕ) (ls : List Located) (items : List KeptItem) → Left start ls items → AreSpaced ls
  left_spaced start ls items l = l.in_turn

  module _ (start place next : ℕ) (first : Located) (ls later : List Located) (items new : List KeptItem) (l : Left start ls items) (cut : Some (first, later) ≡ split_of ls) (here : place ≡ at + (first.at - start)) (size : next ≡ place + size_of first.step) where
    at_first : Left start (first ∷ later) items
    at_first = subst (λ (zs : List Located). Left start zs items) (split_is ls later first cut) l

    pub stopped : acted_by None new ≡ act_by r (depth - 1) first.step place next (steps_in later) (stack_view items) → None ≡ region_by r depth at (steps_in steps)
    stopped a = none_left (name_by r) (literals_by r) (region_by r (depth - 1)) at start place next first later (stack_view items) (region_by r depth at (steps_in steps)) at_first here size new a

    pub turned : (skip : ℕ) (rest : List Located) → acted_by (Some skip) new ≡ act_by r (depth - 1) first.step place next (steps_in later) (stack_view items) → AreBehind skip later rest → Left start rest new
    turned skip rest a b = turn_left (name_by r) (literals_by r) (region_by r (depth - 1)) at start place next first later (stack_view items) (region_by r depth at (steps_in steps)) at_first here size skip rest new a b

    -- what an instruction passes stands in fewer
    pub shorter : (skip : ℕ) (rest : List Located) → length rest ≤ length later → length rest < length ls
    shorter skip rest few = let e = ap length (split_is ls later first cut) in omega (arith, e, few)

  pub ended : (start : ℕ) (ls : List Located) (items : List KeptItem) → Left start ls items → None ≡ split_of ls → Some (stack_view items) ≡ region_by r depth at (steps_in steps)
  ended start ls items l e = end_left (name_by r) (literals_by r) (region_by r (depth - 1)) at start ls (stack_view items) (region_by r depth at (steps_in steps)) l (split_none ls e)
