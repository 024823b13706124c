-- How conditional forms, loops and blocks are read, given how what stands in them is.
use Rattle.std.proofs.Common.{◌≡◌, ℕ, zero, suc, ◌+◌, ◌-◌, ◌≤◌, Bool, List, [], ◌∷◌, ◌++◌, Option, Some, refl, sym, ap, ◌∙◌, arith, append_assoc}
use Rattle.st_scan.specs.Views.{no_statements}
use Rattle.st_emit.specs.declared.instruction.Constant.TheVariants.{Nil}
use Rattle.st_emit.specs.declared.instruction.InstructionOperand.{InstructionOperand}
use Rattle.st_emit.specs.declared.instruction.InstructionOperand.TheVariants.{Temporary}
use Rattle.st_emit.specs.declared.instruction.Instruction.{Instruction}
use Rattle.st_emit.specs.declared.instruction.Instruction.TheVariants.{PushConstant, PopStore, Pop, SendSpecial, Jump, JumpBack, JumpIf, JumpPast}
use Rattle.st_emit.specs.Steps.{size, size_of}
use Rattle.st_emit.specs.Literals.{LiteralView}
use Rattle.st_emit.specs.Resolving.{first_special, block_copy}
use Rattle.st_emit.specs.Nodes.{Body}
use Rattle.st_emit.specs.Emitting.{choice, repeat, pop_arguments, body_code}
use Rattle.st_resolved.specs.Instructions.{on_some}
use Rattle.st_resolved.proofs.Sizes.{size-append}
use Rattle.st_decompile.proofs.Cuts.{front_is, behind_is}
use Rattle.st_expression_stack.specs.Items.{Piece, Item, piece, argument, over, back, no_arguments, Taken, statements_of, Acted, goes_on, on_piece, statements_from, most_high}
use Rattle.st_decompile.specs.Reading.{front, behind, decided, choice_piece, loop_piece, block_piece, popped_into, passes}
use Rattle.st_decompile.proofs.Pieces.{body_items, body_taken, body_from, body_popped, IsBare, argument_items}
use Rattle.st_decompile.proofs.High.{passes_is}
use Rattle.st_decompile.proofs.Moves as moves

module _ (name_of : InstructionOperand → List ℕ) (literals : List LiteralView) where
  abbrev pub Follows : ℕ → ℕ → List Instruction → (old new : List Item) → Type 0
  Follows f at code old new = moves.Follows name_of literals f at code old new

  abbrev pub within : ℕ → ℕ → List Instruction → Option (List Item)
  within f = moves.within name_of literals f

  abbrev pub acts : ℕ → Instruction → ℕ → List Instruction → List Item → Option Acted
  acts f s at ss items = moves.acts name_of literals f s at ss items

  -- the first instructions, which are those of a part
  front_of : (d : ℕ) (a b whole : List Instruction) → d ≡ size a → whole ≡ a ++ b → front d whole ≡ a
  front_of d a b whole h e = ap (λ (n : ℕ). front n whole) h ∙ ap (front (size a)) e ∙ front_is a b

  behind_of : (d : ℕ) (a b whole : List Instruction) → d ≡ size a → whole ≡ a ++ b → behind d whole ≡ b
  behind_of d a b whole h e = ap (λ (n : ℕ). behind n whole) h ∙ ap (behind (size a)) e ∙ behind_is a b

  -- a region with one instruction more
  with_last : (f at : ℕ) (a : List Instruction) (s : Instruction) (sa : List Item) (i : Item) → Follows f at a [] sa → ((ss : List Instruction) (at1 : ℕ) → acts f s at1 ss sa ≡ goes_on (i ∷ sa)) → within (suc f) at (a ++ s ∷ []) ≡ Some (i ∷ sa)
  with_last f at a s sa i p h =
      moves.region_is name_of literals f at (a ++ s ∷ []) (i ∷ sa)
      (moves.then_follows name_of literals f at (at + size a) a (s ∷ []) [] sa (i ∷ sa) refl p
      (moves.one_follows name_of literals f (at + size a) s sa (i ∷ sa) (λ ss. h ss (at + size a))))

  -- CONDITIONAL FORMS

  module _ (f at : ℕ) (on : Bool) (a b : List Instruction) (sa sb : List Item) (x : Piece) (items : List Item) where
    abbrev end_jump : Instruction
    end_jump = Jump (size b)

    abbrev passing : ℕ
    passing = size a + size_of end_jump

    abbrev at_a : ℕ
    at_a = at + size_of (JumpIf on passing)

    abbrev chosen_piece : Piece
    chosen_piece = choice_piece on x (statements_of sa) (statements_of sb)

    abbrev chosen_items : List Item
    chosen_items = piece chosen_piece ∷ items

    pub choice_acts : chosen_piece.height ≤ most_high → Follows f at_a a [] sa → Follows f (at_a + passing) b [] sb → (rest : List Instruction)
        → acts (suc f) (JumpIf on passing) at ((a ++ end_jump ∷ b) ++ rest) (piece x ∷ items) ≡ Some (record { skip = passing + size b; items = chosen_items })
    choice_acts low p q rest =
        let whole = (a ++ end_jump ∷ b) ++ rest in
        let parts : whole ≡ (a ++ end_jump ∷ []) ++ (b ++ rest) = append_assoc a (end_jump ∷ b) rest ∙ sym (append_assoc a (end_jump ∷ []) (b ++ rest)) in
        let long : passing ≡ size (a ++ end_jump ∷ []) = omega (arith, size-append a (end_jump ∷ [])) in
        let first : front passing whole ≡ a ++ end_jump ∷ [] = front_of passing (a ++ end_jump ∷ []) (b ++ rest) whole long parts in
        let made : within (suc f) at_a (front passing whole) ≡ Some (over (size b) ∷ sa) = ap (within (suc f) at_a) first ∙ with_last f at_a a end_jump sa (over (size b)) p (λ ss at1. refl) in
        let second : front (size b) (behind passing whole) ≡ b = ap (front (size b)) (behind_of passing (a ++ end_jump ∷ []) (b ++ rest) whole long parts) ∙ front_is b rest in
        let other : within (suc f) (at_a + passing) (front (size b) (behind passing whole)) ≡ Some sb = ap (within (suc f) (at_a + passing)) second ∙ moves.region_is name_of literals f (at_a + passing) b sb q in
        ap (λ (o : Option (List Item)). on_some o (decided name_of literals (within (suc f)) on at_a passing whole (piece x ∷ items))) made
        ∙ ap (λ (o : Option (List Item)). on_some o (λ t. on_piece (piece x ∷ items) (λ y rest'. passes (passing + size b) (choice_piece on y (statements_of sa) (statements_of t)) rest'))) other
        ∙ passes_is (passing + size b) chosen_piece items low

    pub choice_follows : chosen_piece.height ≤ most_high → Follows f at_a a [] sa → Follows f (at_a + passing) b [] sb → Follows (suc f) at (choice on [] a b) (piece x ∷ items) chosen_items
    choice_follows low p q =
        moves.passing_follows name_of literals (suc f) at (JumpIf on passing) (a ++ end_jump ∷ b) (piece x ∷ items) chosen_items (passing + size b)
        (omega (arith, size-append a (end_jump ∷ b))) (choice_acts low p q)

  -- LOOPS

  module _ (f at : ℕ) (on : Bool) (x b : Body) (sa : List Item) (items : List Item) where
    abbrev leaving : ℕ
    leaving = size (body_code b) + 3

    abbrev turn : Instruction
    turn = JumpBack (size (body_code x) + size_of (JumpIf on leaving) + size (body_code b) + 3)

    abbrev turned : ℕ
    turned = size (body_code x) + size_of (JumpIf on leaving) + size (body_code b) + 3

    -- where the jump to the end stands, and what is behind it
    abbrev at_leave : ℕ
    at_leave = at + size (body_code x)

    abbrev at_body : ℕ
    at_body = at_leave + size_of (JumpIf on leaving)

    abbrev tail : List Instruction
    tail = body_code b ++ Pop ∷ turn ∷ PushConstant Nil ∷ []

    abbrev looped_piece : Piece
    looped_piece = loop_piece on at (body_taken name_of x no_statements no_arguments 0 items) (statements_of (body_items name_of b at_body []))

    abbrev loop_items : List Item
    loop_items = piece looped_piece ∷ items

    loop_region : Follows f at_body (body_code b) [] (body_items name_of b at_body []) → within (suc f) at_body (body_code b ++ Pop ∷ turn ∷ []) ≡ Some (back turned ∷ body_items name_of b at_body [])
    loop_region p =
        let done = body_items name_of b at_body [] in
        let behind_body = at_body + size (body_code b) in
        moves.region_is name_of literals f at_body (body_code b ++ Pop ∷ turn ∷ []) (back turned ∷ done)
        (moves.then_follows name_of literals f at_body behind_body (body_code b) (Pop ∷ turn ∷ []) [] done (back turned ∷ done) refl p
        (moves.then_follows name_of literals f behind_body (behind_body + 1) (Pop ∷ []) (turn ∷ []) done done (back turned ∷ done) (omega arith)
        (moves.one_follows name_of literals f behind_body Pop done done (λ ss. ap goes_on (body_popped name_of b at_body [])))
        (moves.one_follows name_of literals f (behind_body + 1) turn done (back turned ∷ done) (λ ss. refl))))

    loop_acts : looped_piece.height ≤ most_high → Follows f at_body (body_code b) [] (body_items name_of b at_body []) → (rest : List Instruction)
        → acts (suc f) (JumpIf on leaving) at_leave (tail ++ rest) (body_items name_of x at items) ≡ Some (record { skip = leaving + 1; items = loop_items })
    loop_acts low p rest =
        let whole = tail ++ rest in
        let ends = body_code b ++ Pop ∷ turn ∷ [] in
        let parts : whole ≡ ends ++ (PushConstant Nil ∷ rest) = append_assoc (body_code b) (Pop ∷ turn ∷ PushConstant Nil ∷ []) rest ∙ sym (append_assoc (body_code b) (Pop ∷ turn ∷ []) (PushConstant Nil ∷ rest)) in
        let long : leaving ≡ size ends = omega (arith, size-append (body_code b) (Pop ∷ turn ∷ [])) in
        let first : front leaving whole ≡ ends = front_of leaving ends (PushConstant Nil ∷ rest) whole long parts in
        let made : within (suc f) at_body (front leaving whole) ≡ Some (back turned ∷ body_items name_of b at_body []) = ap (within (suc f) at_body) first ∙ loop_region p in
        let top : at_body + leaving - turned ≡ at = omega arith in
        let stood = body_items name_of x at items in
        let a = statements_of (body_items name_of b at_body []) in
        ap (λ (o : Option (List Item)). on_some o (decided name_of literals (within (suc f)) on at_body leaving whole stood)) made
        ∙ ap (λ (n : ℕ). on_some (statements_from n no_statements no_arguments 0 stood) (λ t. passes (leaving + 1) (loop_piece on n t a) t.below)) top
        ∙ ap (λ (o : Option Taken). on_some o (λ t. passes (leaving + 1) (loop_piece on at t a) t.below)) (body_from name_of x at no_statements no_arguments 0 items)
        ∙ passes_is (leaving + 1) looped_piece items low

    pub loop_follows : looped_piece.height ≤ most_high → Follows (suc f) at (body_code x) items (body_items name_of x at items) → Follows f at_body (body_code b) [] (body_items name_of b at_body [])
        → Follows (suc f) at (repeat on (body_code x) (body_code b)) items loop_items
    loop_follows low q p =
        moves.then_follows name_of literals (suc f) at at_leave (body_code x) (JumpIf on leaving ∷ tail) items (body_items name_of x at items) loop_items refl q
        (moves.passing_follows name_of literals (suc f) at_leave (JumpIf on leaving) tail (body_items name_of x at items) loop_items (leaving + 1)
        (omega (arith, size-append (body_code b) (Pop ∷ turn ∷ PushConstant Nil ∷ []))) (loop_acts low p))

  -- BLOCKS

  pub pops_follow : (f : ℕ) (first n at : ℕ) (items : List Item) → IsBare name_of items → Follows f at (pop_arguments first n) items (argument_items name_of first n items)
  pops_follow f first zero at items h = moves.nothing_follows name_of literals f at items
  pops_follow f first (suc n) at items h =
      let s = PopStore (Temporary (first + n)) in
      let more = argument (Temporary (first + n)) ∷ items in
      moves.then_follows name_of literals f at (at + size_of s) (s ∷ []) (pop_arguments first n) items more (argument_items name_of first n more) (omega arith)
      (moves.one_follows name_of literals f at s items more (λ ss. popped_bare items h)) (pops_follow f first n (at + size_of s) more tt)
    where
      popped_bare : (st : List Item) → IsBare name_of st → popped_into name_of literals (within f) (Temporary (first + n)) st ≡ goes_on (argument (Temporary (first + n)) ∷ st)
      popped_bare (piece p ∷ st) h = absurd h
      popped_bare st h = refl

  module _ (f at : ℕ) (inside : List Instruction) (made : List Item) (count_piece context : Piece) (items : List Item) where
    abbrev made_piece : Piece
    made_piece = block_piece name_of literals (within (suc f)) context.start (statements_of made)

    abbrev block_items : List Item
    block_items = piece made_piece ∷ items

    -- from the send of blockCopy: on
    pub copy_follows : made_piece.height ≤ most_high → Follows f (at + 3) inside [] made → Follows (suc f) at (SendSpecial (first_special + block_copy) ∷ JumpPast (size inside) ∷ inside) (piece count_piece ∷ piece context ∷ items) block_items
    copy_follows low p =
        moves.passing_follows name_of literals (suc f) at (SendSpecial (first_special + block_copy)) (JumpPast (size inside) ∷ inside) (piece count_piece ∷ piece context ∷ items) block_items (2 + size inside)
        refl
        (λ rest.
        let there : at + 1 + 2 ≡ at + 3 = omega arith in
        let made' : within (suc f) (at + 1 + 2) (front (size inside) (inside ++ rest)) ≡ Some made =
        ap (within (suc f) (at + 1 + 2)) (front_is inside rest) ∙ ap (λ (n : ℕ). within (suc f) n inside) there ∙ moves.region_is name_of literals f (at + 3) inside made p in
        ap (λ (o : Option (List Item)). on_some o (λ m. passes (2 + size inside) (block_piece name_of literals (within (suc f)) context.start (statements_of m)) items)) made'
        ∙ passes_is (2 + size inside) made_piece items low)
