-- Instructions as they are read back are read as those that were written.
use Rattle.std.proofs.Common.{◌≡◌, ℕ, zero, suc, ◌+◌, ◌-◌, ◌%◌, ◌≤◌, ◌<◌, ◌==◌, Bool, true, false, ◌&&◌, List, [], ◌∷◌, Option, Some, None, refl, sym, ap, ap₂, ◌∙◌, arith}
use Rattle.std.proofs.lemmas.Bool.Decides.{nat_tests}
use Rattle.std.specs.Prelude.{if◌then◌else◌, nat_lt, nat_le, map, slice_get}
use Rattle.st_emit.specs.declared.instruction.InstructionOperand.{InstructionOperand}
use Rattle.st_emit.specs.declared.instruction.Instruction.{Instruction}
use Rattle.st_emit.specs.declared.instruction.Instruction.TheVariants.{Push, PushConstant, PushNumber, Store, PopStore, Pop, Duplicate, Send, SendSuper, SendSpecial, ReturnConstant, ReturnTop, ReturnBlock, Jump, JumpBack, JumpIf, JumpPast}
use Rattle.st_emit.specs.Steps.{size_of, is_short, long_send_size, long_if}
use Rattle.st_emit.specs.Literals.{LiteralView}
use Rattle.st_emit.specs.Resolving.{special_selectors, first_special, block_copy}
use Rattle.st_resolved.specs.Instructions.{on_some, long_count, read_as}
use Rattle.st_expression_stack.specs.Items.{Item, piece, cascade, again, answered, argument, over, back, statements_of, Acted, goes_on, on_piece}
use Rattle.st_expression_stack.specs.Messages.{sends}
use Rattle.st_decompile.specs.Reading.{front, behind, passed, act, decided, makes_block, block_piece, choice_piece, passes, run, region}
use Rattle.std.proofs.lemmas.Bool.{and_parts, and_right}
use Rattle.st_resolved.proofs.Fitting.{at_most}
use Rattle.st_resolved.proofs.Decoding.{below}

-- SIZES

two_bytes : (d : ℕ) (b : Bool) → is_short d ≡ b → size_of (if b then JumpPast d else Jump d) ≡ 2
two_bytes d true e = refl
two_bytes d false e = ap long_if e

-- what isn't sent by two bytes isn't by one
no_shorter : (n s : ℕ) → (nat_lt s 32 && nat_le n 7) ≡ false → (nat_lt s 16 && nat_le n 2) ≡ false
no_shorter n s h = by_test (nat_lt s 16 && nat_le n 2) refl
  where
    by_test : (b : Bool) → (nat_lt s 16 && nat_le n 2) ≡ b → b ≡ false
    by_test false e = refl
    by_test true e =
        let p = and_parts (nat_lt s 16) (nat_le n 2) e in
        let i = below s 16 p.0 in
        let j = at_most n 2 p.1 in
        let a : nat_lt s 32 ≡ true = grind (arith, nat_tests, i) in
        let b : nat_le n 7 ≡ true = grind (arith, nat_tests, j) in
        let c : (nat_lt s 32 && nat_le n 7) ≡ true = ap₂ (λ (x y : Bool). x && y) a b in
        absurd cc

three_bytes : (n s : ℕ) → (nat_lt s 32 && nat_le n 7) ≡ false → size_of (Send n s) ≡ 3
three_bytes n s h = ap (λ (b : Bool). if b then 1 else long_send_size n s) (no_shorter n s h) ∙ ap (λ (b : Bool). if b then 2 else 3) h

many : (n : ℕ) → 8 ≤ n → nat_le n 7 ≡ false
many n h = grind (arith, nat_tests, h)

long_three : (m s : ℕ) → (nat_lt s 32 && nat_le (long_count m s) 7) ≡ false
long_three m s = by_test (nat_lt s 32 && nat_le m 7) refl
  where
    by_test : (b : Bool) → (nat_lt s 32 && nat_le m 7) ≡ b → (nat_lt s 32 && nat_le (if b then m + 256 else m) 7) ≡ false
    by_test true e = and_right (nat_lt s 32) (nat_le (m + 256) 7) (many (m + 256) (omega arith))
    by_test false e = e

count_size : (n s : ℕ) (b : Bool) → nat_lt n 256 ≡ b → size_of (Send (if b then n else long_count (n % 256) s) s) ≡ size_of (Send n s)
count_size n s true e = refl
count_size n s false e =
    let h : 256 ≤ n = grind (arith, nat_tests, e) in
    let i : (nat_lt s 32 && nat_le n 7) ≡ false = and_right (nat_lt s 32) (nat_le n 7) (many n (omega (arith, h))) in
    three_bytes (long_count (n % 256) s) s (long_three (n % 256) s) ∙ sym (three_bytes n s i)

super_size : (n s : ℕ) (b : Bool) → nat_lt n 256 ≡ b → size_of (SendSuper (if b then n else long_count (n % 256) s) s) ≡ size_of (SendSuper n s)
super_size n s true e = refl
super_size n s false e =
    let h : 256 ≤ n = grind (arith, nat_tests, e) in
    let i : (nat_lt s 32 && nat_le n 7) ≡ false = and_right (nat_lt s 32) (nat_le n 7) (many n (omega (arith, h))) in
    ap (λ (b : Bool). if b then 2 else 3) (long_three (n % 256) s) ∙ sym (ap (λ (b : Bool). if b then 2 else 3) i)

size_same : (x : Instruction) → size_of (read_as x) ≡ size_of x
size_same (Send n s) = count_size n s (nat_lt n 256) refl
size_same (SendSuper n s) = super_size n s (nat_lt n 256) refl
size_same (JumpPast d) = two_bytes d (is_short d) refl
size_same (Push p) = refl
size_same (PushConstant k) = refl
size_same (PushNumber n) = refl
size_same (Store p) = refl
size_same (PopStore p) = refl
size_same Pop = refl
size_same Duplicate = refl
size_same (SendSpecial k) = refl
size_same (ReturnConstant k) = refl
size_same ReturnTop = refl
size_same ReturnBlock = refl
size_same (Jump d) = refl
size_same (JumpBack d) = refl
size_same (JumpIf on d) = refl

-- CUTS

abbrev as_read : List Instruction → List Instruction
as_read ss = map read_as ss

front_same : (ss : List Instruction) (d : ℕ) → front d (as_read ss) ≡ as_read (front d ss)
front_same [] d = refl
front_same (s ∷ ss) d = by_test (d == 0) (front_same ss (d - size_of s))
  where
    by_test : (b : Bool) → front (d - size_of s) (as_read ss) ≡ as_read (front (d - size_of s) ss)
        → (if b then [] else read_as s ∷ front (d - size_of (read_as s)) (as_read ss)) ≡ as_read (if b then [] else s ∷ front (d - size_of s) ss)
    by_test true h = refl
    by_test false h = ap (λ (n : ℕ). read_as s ∷ front (d - n) (as_read ss)) (size_same s) ∙ ap (λ (l : List Instruction). read_as s ∷ l) h

behind_same : (ss : List Instruction) (d : ℕ) → behind d (as_read ss) ≡ as_read (behind d ss)
behind_same [] d = refl
behind_same (s ∷ ss) d = by_test (d == 0) (behind_same ss (d - size_of s))
  where
    by_test : (b : Bool) → behind (d - size_of s) (as_read ss) ≡ as_read (behind (d - size_of s) ss)
        → (if b then read_as s ∷ as_read ss else behind (d - size_of (read_as s)) (as_read ss)) ≡ as_read (if b then s ∷ ss else behind (d - size_of s) ss)
    by_test true h = refl
    by_test false h = ap (λ (n : ℕ). behind (d - n) (as_read ss)) (size_same s) ∙ h

passed_same : (ss : List Instruction) (f : ℕ → List Instruction → Option Acted) → ((d : ℕ) (inside : List Instruction) → f d (as_read inside) ≡ f d inside) → passed (as_read ss) f ≡ passed ss f
passed_same [] f h = refl
passed_same (JumpPast d ∷ ss) f h = by_test (is_short d)
  where
    by_test : (b : Bool) → passed ((if b then JumpPast d else Jump d) ∷ as_read ss) f ≡ f d ss
    by_test true = h d ss
    by_test false = h d ss
passed_same (Jump d ∷ ss) f h = h d ss
passed_same (Send n s ∷ ss) f h = refl
passed_same (SendSuper n s ∷ ss) f h = refl
passed_same (Push p ∷ ss) f h = refl
passed_same (PushConstant k ∷ ss) f h = refl
passed_same (PushNumber n ∷ ss) f h = refl
passed_same (Store p ∷ ss) f h = refl
passed_same (PopStore p ∷ ss) f h = refl
passed_same (Pop ∷ ss) f h = refl
passed_same (Duplicate ∷ ss) f h = refl
passed_same (SendSpecial k ∷ ss) f h = refl
passed_same (ReturnConstant k ∷ ss) f h = refl
passed_same (ReturnTop ∷ ss) f h = refl
passed_same (ReturnBlock ∷ ss) f h = refl
passed_same (JumpBack d ∷ ss) f h = refl
passed_same (JumpIf on d ∷ ss) f h = refl

module _ (name_of : InstructionOperand → List ℕ) (literals : List LiteralView) where
  module _ (reg : ℕ → List Instruction → Option (List Item)) (alike : (at : ℕ) (ss : List Instruction) → reg at (as_read ss) ≡ reg at ss) where
    reg_front : (at d : ℕ) (ss : List Instruction) → reg at (front d (as_read ss)) ≡ reg at (front d ss)
    reg_front at d ss = ap (reg at) (front_same ss d) ∙ alike at (front d ss)

    decided_same : (on : Bool) (at d : ℕ) (ss : List Instruction) (items a : List Item) → decided name_of literals reg on at d (as_read ss) items a ≡ decided name_of literals reg on at d ss items a
    decided_same on at d ss items (over e ∷ a) =
        ap (λ (o : Option (List Item)). on_some o (λ b. on_piece items (λ x rest. passes (d + e) (choice_piece on x (statements_of a) (statements_of b)) rest)))
        (ap (λ (l : List Instruction). reg (at + d) (front e l)) (behind_same ss d) ∙ reg_front (at + d) e (behind d ss))
    decided_same on at d ss items (back e ∷ a) = refl
    decided_same on at d ss items [] = refl
    decided_same on at d ss items (piece p ∷ a) = refl
    decided_same on at d ss items (cascade p ms ∷ a) = refl
    decided_same on at d ss items (again ∷ a) = refl
    decided_same on at d ss items (answered ∷ a) = refl
    decided_same on at d ss items (argument p ∷ a) = refl

    on_decided : (on : Bool) (at d : ℕ) (ss : List Instruction) (items : List Item) (o : Option (List Item)) → on_some o (decided name_of literals reg on at d (as_read ss) items) ≡ on_some o (decided name_of literals reg on at d ss items)
    on_decided on at d ss items None = refl
    on_decided on at d ss items (Some a) = decided_same on at d ss items a

    block_same : (at : ℕ) (ss : List Instruction) (items : List Item) → makes_block name_of literals reg at (as_read ss) items ≡ makes_block name_of literals reg at ss items
    block_same at ss (piece n ∷ piece x ∷ rest) =
        passed_same ss (λ d inside. on_some (reg (at + 2) (front d inside)) (λ made. passes (2 + d) (block_piece name_of literals reg x.start (statements_of made)) rest))
        (λ d inside. ap (λ (o : Option (List Item)). on_some o (λ made. passes (2 + d) (block_piece name_of literals reg x.start (statements_of made)) rest)) (reg_front (at + 2) d inside))
    block_same at ss [] = refl
    block_same at ss (piece n ∷ []) = refl
    block_same at ss (piece n ∷ cascade p ms ∷ rest) = refl
    block_same at ss (piece n ∷ again ∷ rest) = refl
    block_same at ss (piece n ∷ answered ∷ rest) = refl
    block_same at ss (piece n ∷ argument p ∷ rest) = refl
    block_same at ss (piece n ∷ over d ∷ rest) = refl
    block_same at ss (piece n ∷ back d ∷ rest) = refl
    block_same at ss (cascade p ms ∷ rest) = refl
    block_same at ss (again ∷ rest) = refl
    block_same at ss (answered ∷ rest) = refl
    block_same at ss (argument p ∷ rest) = refl
    block_same at ss (over d ∷ rest) = refl
    block_same at ss (back d ∷ rest) = refl

    special_same : (b : Bool) (code at : ℕ) (ss : List Instruction) (items : List Item)
        → (if b then makes_block name_of literals reg at (as_read ss) items else on_some (slice_get special_selectors (code - first_special)) (λ s. sends false s items))
        ≡ (if b then makes_block name_of literals reg at ss items else on_some (slice_get special_selectors (code - first_special)) (λ s. sends false s items))
    special_same true code at ss items = block_same at ss items
    special_same false code at ss items = refl

    past_same : (d at after : ℕ) (ss : List Instruction) (items : List Item) (b : Bool) → act name_of literals reg (if b then JumpPast d else Jump d) at after ss items ≡ goes_on (over d ∷ items)
    past_same d at after ss items true = refl
    past_same d at after ss items false = refl

    act_same : (x : Instruction) (at after : ℕ) (ss : List Instruction) (items : List Item) → act name_of literals reg (read_as x) at after (as_read ss) items ≡ act name_of literals reg x at after ss items
    act_same (JumpIf on d) at after ss items =
        ap (λ (o : Option (List Item)). on_some o (decided name_of literals reg on after d (as_read ss) items)) (reg_front after d ss) ∙ on_decided on after d ss items (reg after (front d ss))
    act_same (SendSpecial code) at after ss items = special_same (code == first_special + block_copy) code after ss items
    act_same (JumpPast d) at after ss items = past_same d at after (as_read ss) items (is_short d)
    act_same (Send n s) at after ss items = refl
    act_same (SendSuper n s) at after ss items = refl
    act_same (Push p) at after ss items = refl
    act_same (PushConstant k) at after ss items = refl
    act_same (PushNumber n) at after ss items = refl
    act_same (Store p) at after ss items = refl
    act_same (PopStore p) at after ss items = refl
    act_same Pop at after ss items = refl
    act_same Duplicate at after ss items = refl
    act_same (ReturnConstant k) at after ss items = refl
    act_same ReturnTop at after ss items = refl
    act_same ReturnBlock at after ss items = refl
    act_same (Jump d) at after ss items = refl
    act_same (JumpBack d) at after ss items = refl

    run_same : (ss : List Instruction) (skip at : ℕ) (items : List Item) → run name_of literals reg skip at (as_read ss) items ≡ run name_of literals reg skip at ss items
    run_same [] skip at items = refl
    run_same (s ∷ ss) skip at items =
        ap (λ (n : ℕ). if skip == 0 then on_some (act name_of literals reg (read_as s) at (at + n) (as_read ss) items) (λ a. run name_of literals reg a.skip (at + n) (as_read ss) a.items) else run name_of literals reg (skip - n) (at + n) (as_read ss) items) (size_same s)
        ∙ ap (λ (o : Option Acted). if skip == 0 then on_some o (λ a. run name_of literals reg a.skip (at + size_of s) (as_read ss) a.items) else run name_of literals reg (skip - size_of s) (at + size_of s) (as_read ss) items) (act_same s at (at + size_of s) ss items)
        ∙ by_test (skip == 0) (act name_of literals reg s at (at + size_of s) ss items) (λ k a. run_same ss k (at + size_of s) a)
      where
        by_test : (b : Bool) (o : Option Acted) → ((k : ℕ) (a : List Item) → run name_of literals reg k (at + size_of s) (as_read ss) a ≡ run name_of literals reg k (at + size_of s) ss a)
            → (if b then on_some o (λ a. run name_of literals reg a.skip (at + size_of s) (as_read ss) a.items) else run name_of literals reg (skip - size_of s) (at + size_of s) (as_read ss) items)
            ≡ (if b then on_some o (λ a. run name_of literals reg a.skip (at + size_of s) ss a.items) else run name_of literals reg (skip - size_of s) (at + size_of s) ss items)
        by_test true None h = refl
        by_test true (Some a) h = h a.skip a.items
        by_test false o h = h (skip - size_of s) items

  pub region_same : (f at : ℕ) (ss : List Instruction) → region name_of literals f at (as_read ss) ≡ region name_of literals f at ss
  region_same zero at ss = refl
  region_same (suc f) at ss = run_same (region name_of literals f) (λ at' ss'. region_same f at' ss') ss 0 at []
