-- What is done once a region is read.
use Rattle.std.proofs.Common.{◌≡◌, ◌+◌, ◌-◌, ℕ, Bool, true, false, List, [], ◌∷◌, ◌++◌, Option, Some, None, refl, sym, ap, ap₂, ◌∙◌}
use Rattle.std.specs.Borrow.{Bor}
use Rattle.std.specs.Global.{Vec}
use Rattle.st_scan.specs.Views.{no_statements}
use Rattle.st_emit.specs.declared.instruction.Instruction.{Instruction}
use Rattle.st_emit.specs.declared.instruction.Instruction.TheVariants.{Push, PushConstant, PushNumber, Store, PopStore, Pop, Duplicate, Send, SendSuper, SendSpecial, ReturnConstant, ReturnTop, ReturnBlock, Jump as JumpOver, JumpBack, JumpIf, JumpPast}
use Rattle.st_resolved.specs.Instructions.{on_some}
use Rattle.st_expression_stack.specs.declared.item.Item.{Item as KeptItem}
use Rattle.st_expression_stack.specs.declared.item.Item.TheVariants as kept
use Rattle.st_decompile.specs.declared.reading.Reading.{Reading}
use Rattle.st_decompile.specs.declared.region.Jump.{Jump}
use Rattle.st_decompile.specs.declared.region.Spot.{Spot}
use Rattle.st_expression_stack.specs.Items.{Item, Taken, piece, cascade, again, answered, argument, over, back, no_arguments, statements_of, Acted, statements_from, put_low}
use Rattle.st_decompile.specs.declared.located.Located.{Located}
use Rattle.st_decompile.specs.inside.Located.{steps_in, split_of, AreSpaced}
use Rattle.st_decompile.specs.Reading.{loop_piece, passes, passed, front, behind}
use Rattle.st_expression_stack.specs.inside.Stacks.{stack_view, item_view, stack_if, acted_by, chosen_if}
use Rattle.st_decompile.specs.inside.Read.{region_by, act_by, IsPlain, block_by, block_made_by, makes_block_by, choice_made_by, chosen_by, looped_by, repeats_by, decided_by, passed_by, IsPassed, IsBlockStart}
use Rattle.st_decompile.proofs.Locating.{split_is, split_none}
use Rattle.st_decompile.proofs.RegionTurns.{later_spaced}
use Rattle.st_expression_stack.proofs.Stacking.{stack_more}

acted : ℕ → List Item → Acted
acted skip xs = record { skip = skip; items = xs }

-- THE SIDES OF A FORM

module _ (j : Jump) (a b : List Item) where
  -- the piece that is made, with what is passed
  chosen_on : (xs : List Item) → on_some (chosen_by j.on a b xs) (λ ys. Some (acted (j.distance + j.end) ys)) ≡ choice_made_by j a (Some b) xs
  unfolding acted
  chosen_on [] = refl
  chosen_on (piece x ∷ xs) = refl
  chosen_on (cascade x ms ∷ xs) = refl
  chosen_on (again ∷ xs) = refl
  chosen_on (answered ∷ xs) = refl
  chosen_on (argument p ∷ xs) = refl
  chosen_on (over d ∷ xs) = refl
  chosen_on (back d ∷ xs) = refl

  pub choice_done : (xs : List Item) (new : List KeptItem) (skip : ℕ) (o : Option (Vec KeptItem)) (second : Vec KeptItem) → o ≡ Some second → b ≡ stack_view second.items → skip ≡ j.distance + j.end → chosen_if true new ≡ chosen_by j.on a b xs
      → acted_by (Some skip) new ≡ choice_made_by j a (stack_if o) xs
  unfolding acted
  choice_done xs new skip o second e same k h =
      ap (λ (n : ℕ). acted_by (Some n) new) k ∙ ap (λ (ys : Option (List Item)). on_some ys (λ z. Some (acted (j.distance + j.end) z))) h ∙ chosen_on xs
      ∙ ap (λ (z : Option (List Item)). choice_made_by j a z xs) (ap (λ (y : List Item). Some y) same ∙ sym (ap stack_if e))

  pub choice_not : (xs : List Item) (new : List KeptItem) (o : Option (Vec KeptItem)) (second : Vec KeptItem) → o ≡ Some second → b ≡ stack_view second.items → chosen_if false new ≡ chosen_by j.on a b xs
      → acted_by None new ≡ choice_made_by j a (stack_if o) xs
  unfolding acted
  choice_not xs new o second e same h =
      ap (λ (ys : Option (List Item)). on_some ys (λ z. Some (acted (j.distance + j.end) z))) h ∙ chosen_on xs
      ∙ ap (λ (z : Option (List Item)). choice_made_by j a z xs) (ap (λ (y : List Item). Some y) same ∙ sym (ap stack_if e))

-- LOOPS

module _ (j : Jump) (next at : ℕ) (body xs : List Item) (here : at ≡ next + j.distance - j.end) where
  looped_as : (o : Option Taken) → on_some (on_some o (λ x. put_low (loop_piece j.on (next + j.distance - j.end) x (statements_of body)) x.below)) (λ ys. Some (acted (j.distance + 1) ys))
      ≡ on_some o (λ x. passes (j.distance + 1) (loop_piece j.on (next + j.distance - j.end) x (statements_of body)) x.below)
  unfolding acted
  looped_as None = refl
  looped_as (Some x) = refl

  looped_then : on_some (looped_by j.on at body xs) (λ ys. Some (acted (j.distance + 1) ys)) ≡ repeats_by j next body xs
  unfolding acted
  looped_then = ap (λ (n : ℕ). on_some (looped_by j.on n body xs) (λ ys. Some (acted (j.distance + 1) ys))) here ∙ looped_as (statements_from (next + j.distance - j.end) no_statements no_arguments 0 xs)

  pub loop_done : (new : List KeptItem) (skip : ℕ) → skip ≡ j.distance + 1 → chosen_if true new ≡ looped_by j.on at body xs → acted_by (Some skip) new ≡ repeats_by j next body xs
  unfolding acted
  loop_done new skip k h = ap (λ (n : ℕ). acted_by (Some n) new) k ∙ ap (λ (ys : Option (List Item)). on_some ys (λ z. Some (acted (j.distance + 1) z))) h ∙ looped_then

  pub loop_not : (new : List KeptItem) → chosen_if false new ≡ looped_by j.on at body xs → acted_by None new ≡ repeats_by j next body xs
  unfolding acted
  loop_not new h = ap (λ (ys : Option (List Item)). on_some ys (λ z. Some (acted (j.distance + 1) z))) h ∙ looped_then

-- PASSED

module _ (ls : List Located) where
  pub passed_end : None ≡ split_of ls → IsPassed ls None
  passed_end e = ap (λ (xs : List Located). passed_by (steps_in xs)) (split_none ls e)

  module _ (first : Located) (rest : Bor (List Located)) (cut : Some (first, rest.now) ≡ split_of ls) where
    passed_first : passed_by (steps_in ls) ≡ passed_by (first.step ∷ steps_in rest.now)
    passed_first = ap (λ (xs : List Located). passed_by (steps_in xs)) (split_is ls rest.now first cut)

    pub passed_long : (d : ℕ) → AreSpaced ls → first.step ≡ JumpPast d → IsPassed ls (Some (d, rest))
    passed_long d s is = (passed_first ∙ ap (λ (x : Instruction). passed_by (x ∷ steps_in rest.now)) is, later_spaced ls rest.now first cut s)

    pub passed_short : (d : ℕ) → AreSpaced ls → first.step ≡ JumpOver d → IsPassed ls (Some (d, rest))
    passed_short d s is = (passed_first ∙ ap (λ (x : Instruction). passed_by (x ∷ steps_in rest.now)) is, later_spaced ls rest.now first cut s)

    pub passed_none : ((d : ℕ) → first.step ≡ JumpPast d → ⊥) → ((d : ℕ) → first.step ≡ JumpOver d → ⊥) → IsPassed ls None
    passed_none n m = passed_first ∙ not_passed first.step (steps_in rest.now) n m
      where
        not_passed : (s : Instruction) (ss : List Instruction) → ((d : ℕ) → s ≡ JumpPast d → ⊥) → ((d : ℕ) → s ≡ JumpOver d → ⊥) → passed_by (s ∷ ss) ≡ None
        not_passed (Push p) ss n m = refl
        not_passed (PushConstant k) ss n m = refl
        not_passed (PushNumber k) ss n m = refl
        not_passed (Store p) ss n m = refl
        not_passed (PopStore p) ss n m = refl
        not_passed Pop ss n m = refl
        not_passed Duplicate ss n m = refl
        not_passed (Send k l) ss n m = refl
        not_passed (SendSuper k l) ss n m = refl
        not_passed (SendSpecial k) ss n m = refl
        not_passed (ReturnConstant k) ss n m = refl
        not_passed ReturnTop ss n m = refl
        not_passed ReturnBlock ss n m = refl
        not_passed (JumpOver d) ss n m = absurd (m d refl)
        not_passed (JumpBack d) ss n m = refl
        not_passed (JumpIf on d) ss n m = refl
        not_passed (JumpPast d) ss n m = absurd (n d refl)

-- BLOCKS

module _ (r : Reading) (start distance : ℕ) (body xs : List Item) where
  pub block_done : (new : List KeptItem) (skip : ℕ) (made : Option (Vec KeptItem)) (inside : Vec KeptItem) → made ≡ Some inside → body ≡ stack_view inside.items → skip ≡ 2 + distance → chosen_if true new ≡ put_low (block_by r start body) xs
      → acted_by (Some skip) new ≡ block_made_by r start distance (stack_if made) xs
  unfolding acted
  block_done new skip made inside e same k h =
      ap (λ (n : ℕ). acted_by (Some n) new) k ∙ ap (λ (ys : Option (List Item)). on_some ys (λ z. Some (acted (2 + distance) z))) h
      ∙ ap (λ (o : Option (List Item)). block_made_by r start distance o xs) (ap (λ (y : List Item). Some y) same ∙ sym (ap stack_if e))

  pub block_not : (new : List KeptItem) (made : Option (Vec KeptItem)) (inside : Vec KeptItem) → made ≡ Some inside → body ≡ stack_view inside.items → chosen_if false new ≡ put_low (block_by r start body) xs
      → acted_by None new ≡ block_made_by r start distance (stack_if made) xs
  unfolding acted
  block_not new made inside e same h =
      ap (λ (ys : Option (List Item)). on_some ys (λ z. Some (acted (2 + distance) z))) h
      ∙ ap (λ (o : Option (List Item)). block_made_by r start distance o xs) (ap (λ (y : List Item). Some y) same ∙ sym (ap stack_if e))

passed_as : (ss : List Instruction) (f : ℕ → List Instruction → Option Acted) → passed ss f ≡ on_some (passed_by ss) (λ p. f p.0 p.1)
passed_as [] f = refl
passed_as (Push p ∷ ss) f = refl
passed_as (PushConstant k ∷ ss) f = refl
passed_as (PushNumber n ∷ ss) f = refl
passed_as (Store p ∷ ss) f = refl
passed_as (PopStore p ∷ ss) f = refl
passed_as (Pop ∷ ss) f = refl
passed_as (Duplicate ∷ ss) f = refl
passed_as (Send n k ∷ ss) f = refl
passed_as (SendSuper n k ∷ ss) f = refl
passed_as (SendSpecial k ∷ ss) f = refl
passed_as (ReturnConstant k ∷ ss) f = refl
passed_as (ReturnTop ∷ ss) f = refl
passed_as (ReturnBlock ∷ ss) f = refl
passed_as (JumpOver d ∷ ss) f = refl
passed_as (JumpBack d ∷ ss) f = refl
passed_as (JumpIf on d ∷ ss) f = refl
passed_as (JumpPast d ∷ ss) f = refl

module _ (r : Reading) (depth next : ℕ) (ss : List Instruction) (old mid : List KeptItem) where
  -- a block that starts there, behind a jump over its body
  abbrev body_read : (start : ℕ) → List Item → ℕ → List Instruction → Option Acted
  body_read start rest d inside = block_made_by r start d (region_by r depth (next + 2) (front d inside)) rest

  pub block_none : IsBlockStart old mid None → None ≡ makes_block_by r depth next ss (stack_view old)
  block_none h = sym (h (λ x rest. passed ss (body_read x.start rest)))

  abbrev body_passed : (start : ℕ) → Option (ℕ × List Instruction) → Option Acted
  body_passed start o = on_some o (λ p. body_read start (stack_view mid) p.0 p.1)

  block_from : (start : ℕ) → IsBlockStart old mid (Some start) → makes_block_by r depth next ss (stack_view old) ≡ body_passed start (passed_by ss)
  block_from start h = h (λ s rest. passed ss (body_read s rest)) ∙ passed_as ss (body_read start (stack_view mid))

  pub block_unpassed : (start : ℕ) → IsBlockStart old mid (Some start) → passed_by ss ≡ None → None ≡ makes_block_by r depth next ss (stack_view old)
  block_unpassed start h e = sym (block_from start h ∙ ap (body_passed start) e)

  pub block_read : (start d at : ℕ) (inside part : List Instruction) (made : Option (Vec KeptItem)) → IsBlockStart old mid (Some start) → passed_by ss ≡ Some (d, inside) → at ≡ next + 2 → part ≡ front d inside → stack_if made ≡ region_by r depth at part
      → block_made_by r start d (stack_if made) (stack_view mid) ≡ makes_block_by r depth next ss (stack_view old)
  block_read start d at inside part made h e here cut is =
      ap (λ (o : Option (List Item)). block_made_by r start d o (stack_view mid)) (is ∙ ap₂ (region_by r depth) here cut)
      ∙ sym (block_from start h ∙ ap (body_passed start) e)

-- FORMS

module _ (r : Reading) (depth : ℕ) (on : Bool) (distance : ℕ) (s : Spot) (xs : List Item) where
  abbrev pub formed : List Item → Option Acted
  formed a = decided_by r depth on distance s a xs

  pub formed_top : (below : List KeptItem) (first : List KeptItem) (last y : KeptItem) → first ≡ below ++ last ∷ [] → last ≡ y → formed (item_view y ∷ stack_view below) ≡ formed (stack_view first)
  formed_top below first last y e is = sym (ap (λ (l : List KeptItem). formed (stack_view l)) e ∙ ap formed (stack_more [] below last) ∙ ap (λ (x : KeptItem). formed (item_view x ∷ stack_view below)) is)

  pub formed_empty : (first : List KeptItem) → first ≡ [] → None ≡ formed (stack_view first)
  formed_empty first e = sym (ap (λ (l : List KeptItem). formed (stack_view l)) e)

  not_formed : (x : KeptItem) (ys : List Item) → ((d : ℕ) → x ≡ kept.Over d → ⊥) → ((d : ℕ) → x ≡ kept.Back d → ⊥) → formed (item_view x ∷ ys) ≡ None
  not_formed (kept.Piece p) ys n m = refl
  not_formed (kept.Cascade p ms) ys n m = refl
  not_formed kept.Again ys n m = refl
  not_formed kept.Answered ys n m = refl
  not_formed (kept.Argument p) ys n m = refl
  not_formed (kept.Over d) ys n m = absurd (n d refl)
  not_formed (kept.Back d) ys n m = absurd (m d refl)

  pub formed_none : (below first : List KeptItem) (last : KeptItem) → first ≡ below ++ last ∷ [] → ((d : ℕ) → last ≡ kept.Over d → ⊥) → ((d : ℕ) → last ≡ kept.Back d → ⊥) → None ≡ formed (stack_view first)
  formed_none below first last e n m = sym (sym (formed_top below first last last e refl) ∙ not_formed last (stack_view below) n m)

  -- the first side is read
  pub side_read : (part : List Instruction) (o : Option (Vec KeptItem)) (first : Vec KeptItem) → part ≡ front distance (steps_in s.rest.now) → stack_if o ≡ region_by r depth s.next part → o ≡ Some first
      → formed (stack_view first.items) ≡ act_by r depth (JumpIf on distance) s.at s.next (steps_in s.rest.now) xs
  side_read part o first cut is e = ap (λ (y : Option (List Item)). on_some y formed) (sym (ap stack_if e) ∙ is ∙ ap (region_by r depth s.next) cut)

  pub side_none : (part : List Instruction) (o : Option (Vec KeptItem)) → part ≡ front distance (steps_in s.rest.now) → stack_if o ≡ region_by r depth s.next part → o ≡ None
      → None ≡ act_by r depth (JumpIf on distance) s.at s.next (steps_in s.rest.now) xs
  side_none part o cut is e = ap (λ (y : Option (List Item)). on_some y formed) (sym (ap stack_if e) ∙ is ∙ ap (region_by r depth s.next) cut)

module _ (r : Reading) (depth : ℕ) (j : Jump) (s : Spot) (first xs : List Item) where
  -- the second side is read
  pub second_read : (at : ℕ) (rest part : List Instruction) (second : Option (Vec KeptItem)) → at ≡ s.next + j.distance → rest ≡ behind j.distance (steps_in s.rest.now) → part ≡ front j.end rest → stack_if second ≡ region_by r depth at part
      → choice_made_by j first (stack_if second) xs ≡ decided_by r depth j.on j.distance s (over j.end ∷ first) xs
  second_read at rest part second here cut ends is =
      ap (λ (o : Option (List Item)). choice_made_by j first o xs) (is ∙ ap₂ (region_by r depth) here (ends ∙ ap (front j.end) cut))

-- ONE INSTRUCTION

pub is_plain : (s : Instruction) → ((on : Bool) (d : ℕ) → s ≡ JumpIf on d → ⊥) → ((k : ℕ) → s ≡ SendSpecial k → ⊥) → IsPlain s
is_plain (JumpIf on d) n m = absurd (n on d refl)
is_plain (SendSpecial k) n m = absurd (m k refl)
is_plain s n m = tt
