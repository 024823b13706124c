-- The instructions of a method without faults fit their bytes.
use Rattle.std.proofs.Common.{◌≡◌, ℕ, zero, suc, ◌+◌, ◌-◌, ◌<◌, ◌≤◌, Bool, true, false, List, [], ◌∷◌, ◌++◌, length, Option, Some, None, inl, inr, refl, arith}
use Rattle.std.proofs.lemmas.Bool.Decides.{nat_tests}
use Rattle.std.proofs.lemmas.Option.{slice_get_within}
use Rattle.std.specs.Prelude.{if◌then◌else◌, nat_lt, nat_le, slice_get}
use Rattle.st_emit.specs.declared.instruction.Constant.TheVariants.{Receiver, True, False, Nil, Context}
use Rattle.st_emit.specs.declared.instruction.InstructionOperand.{InstructionOperand}
use Rattle.st_emit.specs.declared.instruction.InstructionOperand.TheVariants.{Field, Temporary, Literal, Shared}
use Rattle.st_emit.specs.declared.instruction.Instruction.{Instruction}
use Rattle.st_emit.specs.declared.instruction.Instruction.TheVariants.{Push, PushConstant, PushNumber, Pop, ReturnTop, Jump, JumpBack, JumpIf, JumpPast}
use Rattle.st_emit.specs.declared.form.By.{By}
use Rattle.st_emit.specs.declared.form.By.TheVariants.{Special, SelectorAt}
use Rattle.st_emit.specs.declared.form.TwoSided.TheVariants.{TrueFirst, FalseFirst}
use Rattle.st_emit.specs.Names.{NamesView, field_from, if_named}
use Rattle.st_emit.specs.Literals.{LiteralView, named}
use Rattle.st_emit.specs.Steps.{reaches, all_reach}
use Rattle.st_emit.specs.Resolving.{special_selectors, first_special}
use Rattle.st_emit.specs.Nodes as nodes
use Rattle.st_emit.specs.Nodes.{Node, Body, Messages, Nodes, count, returns}
use Rattle.st_emit.specs.Emitting.{Use, for_value, for_effect, used, stored, choice, repeat, code_of, body_code, messages_code, nodes_code, method_code, return_code, block_end, pop_arguments, passes_on, other_side, leaves_on, send_step}
use Rattle.st_resolved.specs.inside.Placed.{IsCount, IsFound, Placed, BodyPlaced, MessagesPlaced, NodesPlaced}
use Rattle.st_resolved.specs.Instructions.{IsNumbered, Fits, AllFit}
use Rattle.st_resolved.specs.inside.Seen.{In, range, AllBelow, SeenPlace, StoredPlace, Fresh, Seen, BodySeen, MessagesSeen, NodesSeen}
use Rattle.st_resolved.proofs.Seen.{below_more, below_both, below_range}
use Rattle.std.proofs.lemmas.Bool.{and_parts}

-- an instruction that fits but for how far it jumps
abbrev pub Held : Instruction → Type 0
Held (Jump d) = Unit {0}
Held (JumpPast d) = Unit {0}
Held (JumpIf on d) = Unit {0}
Held (JumpBack d) = 1 ≤ d
Held s = Fits s

abbrev pub AllHeld : List Instruction → Type 0
AllHeld [] = Unit {0}
AllHeld (s ∷ ss) = Held s × AllHeld ss

both_held : (a b : List Instruction) → AllHeld a → AllHeld b → AllHeld (a ++ b)
both_held [] b h k = k
both_held (s ∷ a) b h k = (h.0, both_held a b h.1 k)

pub at_most : (m n : ℕ) → nat_le m n ≡ true → m ≤ n
at_most m n e = grind (arith, nat_tests)

held_fits : (s : Instruction) → Held s → reaches s ≡ true → Fits s
held_fits (Jump d) h r = at_most d 1023 r
held_fits (JumpPast d) h r = at_most d 1023 r
held_fits (JumpIf on d) h r = at_most d 1023 r
held_fits (JumpBack d) h r = (h, at_most d 1024 r)
held_fits s h r = h

pub all_fit : (ss : List Instruction) → AllHeld ss → all_reach ss ≡ true → AllFit ss
all_fit [] h r = tt
all_fit (s ∷ ss) h r = let p = and_parts (reaches s) (all_reach ss) r in (held_fits s h.0 p.0, all_fit ss h.1 p.1)

in_below : (ks : List ℕ) (k : ℕ) → In ks k → AllBelow 64 ks → k < 64
in_below [] k h b = absurd h
in_below (j ∷ ks) k (inl e) b = omega (arith, e, b.0)
in_below (j ∷ ks) k (inr h) b = in_below ks k h b.1

numbered_few : (o : Option ℕ) (n : ℕ) → if_named o ≡ Some n → n < 64
numbered_few None n e = absurd cc
numbered_few (Some k) n e = by_test (nat_lt k 64) refl e
  where
    by_test : (b : Bool) → nat_lt k 64 ≡ b → (if b then Some k else None) ≡ Some n → n < 64
    by_test true t i = let is : k ≡ n = cc in let low : k < 64 = grind (arith, nat_tests, t) in omega (arith, is, low)
    by_test false t i = absurd cc

module _ (from to : ℕ) (names : NamesView) (final : List LiteralView) (short : length final ≤ 63) where
  abbrev IsSeen : List ℕ → Node → Type 0
  IsSeen ks n = Seen from to names final ks n

  abbrev IsBodySeen : List ℕ → Body → Type 0
  IsBodySeen ks b = BodySeen from to names final ks b

  found_few : (k : ℕ) (l : LiteralView) → slice_get final k ≡ Some l → k < 64
  found_few k l e = omega (arith, slice_get_within final k l e, short)

  place_held : (p : InstructionOperand) (ks : List ℕ) → AllBelow 64 ks → SeenPlace from to names final ks p → IsNumbered p
  place_held (Temporary k) ks b s = in_below ks k s b
  place_held (Field n) ks b s = numbered_few (field_from 0 names.fields s.text) n s.is
  place_held (Shared p) ks b s = found_few p (named s.association) s.there
  place_held (Literal n) ks b s = absurd s

  target_held : (p : InstructionOperand) (ks : List ℕ) → AllBelow 64 ks → StoredPlace from to names final ks p → IsNumbered p
  target_held (Temporary k) ks b s = in_below ks k s.0 b
  target_held (Field n) ks b s = numbered_few (field_from 0 names.fields s.text) n s.is
  target_held (Shared p) ks b s = found_few p (named s.association) s.there
  target_held (Literal n) ks b s = absurd s

  send_held : (above : Bool) (text : List ℕ) (by : By) (n : ℕ) → IsFound final above text by → Held (send_step above by n)
  send_held true text (Special c) n h = absurd h
  send_held false text (Special c) n h =
      let low : c - first_special < length special_selectors = slice_get_within special_selectors (c - first_special) text h.is in
      (h.low, omega (arith, low, h.low))
  send_held true text (SelectorAt k) n h = found_few k _ h
  send_held false text (SelectorAt k) n h = found_few k _ h

  used_held : (u : Use) (code : List Instruction) → AllHeld code → AllHeld (used u code)
  used_held for_value code h = h
  used_held for_effect code h = both_held code (Pop ∷ []) h (tt, tt)

  stored_held : (u : Use) (p : InstructionOperand) → IsNumbered p → AllHeld (stored u p ∷ [])
  stored_held for_value p h = (h, tt)
  stored_held for_effect p h = (h, tt)

  choice_held : (on : Bool) (x a b : List Instruction) → AllHeld x → AllHeld a → AllHeld b → AllHeld (choice on x a b)
  choice_held on x a b h k l = both_held x _ h (tt, both_held a _ k (tt, l))

  repeat_held : (on : Bool) (x a : List Instruction) → AllHeld x → AllHeld a → AllHeld (repeat on x a)
  repeat_held on x a h k = both_held x _ h (tt, both_held a _ k (tt, (omega arith, (tt, tt))))

  pops_held : (first n : ℕ) → first + n ≤ 64 → AllHeld (pop_arguments first n)
  pops_held first zero h = tt
  pops_held first (suc n) h = (omega (arith, h), pops_held first n (omega (arith, h)))

  fresh_held : (first n : ℕ) (ks : List ℕ) → Fresh from to names final first n ks → AllHeld (pop_arguments first n)
  fresh_held first zero ks h = tt
  fresh_held first (suc n) ks h = pops_held first (suc n) h.2

  fresh_below : (first n : ℕ) (ks : List ℕ) → AllBelow 64 ks → Fresh from to names final first n ks → AllBelow 64 (ks ++ range first n)
  fresh_below first zero ks b h = below_both 64 ks [] b tt
  fresh_below first (suc n) ks b h = below_both 64 ks (range first (suc n)) b (below_more (first + suc n) 64 (range first (suc n)) h.2 (below_range first (suc n)))

  end_held : (r : Bool) → AllHeld (block_end r)
  end_held true = tt
  end_held false = (tt, tt)

  mutual
    pub node_held : (u : Use) (n : Node) (ks : List ℕ) → AllBelow 64 ks → Placed final n → IsSeen ks n → AllHeld (code_of u n)
    node_held u (nodes.constant k) ks b p s = used_held u (PushConstant k ∷ []) (tt, tt)
    node_held u (nodes.small k) ks b p s = used_held u (PushNumber k ∷ []) (p, tt)
    node_held u (nodes.literal l place) ks b p s = used_held u (Push (Literal place) ∷ []) (found_few place l p, tt)
    node_held u (nodes.variable q) ks b p s = used_held u (Push q ∷ []) (place_held q ks b s, tt)
    node_held u (nodes.assign q n) ks b p s = both_held (code_of for_value n) (stored u q ∷ []) (node_held for_value n ks b p s.1) (stored_held u q (target_held q ks b s.0))
    node_held u (nodes.block first n c body) ks b p s =
        used_held u _ (
          tt,
          both_held (code_of for_value c) _ (count_held c p.0 p.1) (
            (omega arith, omega arith),
            (tt, both_held (pop_arguments first n) _ (fresh_held first n ks s.0) (both_held (body_code body) _ (body_held body (ks ++ range first n) (fresh_below first n ks b s.0) p.2 s.1) (end_held (returns body)))),
          ),
        )
    node_held u (nodes.send above r ms) ks b p s = used_held u _ (both_held (code_of for_value r) _ (node_held for_value r ks b p.0 s.0) (messages_held above ms ks b p.1 s.1))
    node_held u (nodes.one_sided side x a) ks b p s =
        used_held u _ (choice_held (passes_on side) (code_of for_value x) (body_code a) (PushConstant (other_side side) ∷ []) (node_held for_value x ks b p.0 s.0) (body_held a ks b p.1 s.1) (tt, tt))
    node_held u (nodes.two_sided TrueFirst x a c) ks b p s =
        used_held u _ (choice_held false (code_of for_value x) (body_code a) (body_code c) (node_held for_value x ks b p.0 s.0) (body_held a ks b p.1 s.1) (body_held c ks b p.2 s.2))
    node_held u (nodes.two_sided FalseFirst x a c) ks b p s =
        used_held u _ (choice_held false (code_of for_value x) (body_code c) (body_code a) (node_held for_value x ks b p.0 s.0) (body_held c ks b p.2 s.2) (body_held a ks b p.1 s.1))
    node_held u (nodes.loop kind x a) ks b p s = used_held u _ (repeat_held (leaves_on kind) (body_code x) (body_code a) (body_held x ks b p.0 s.0) (body_held a ks b p.1 s.1))

    -- the count of a block's arguments
    count_held : (c : Node) → Placed final c → IsCount c → AllHeld (code_of for_value c)
    count_held (nodes.small k) p i = (p, tt)
    count_held (nodes.literal l place) p i = (found_few place l p, tt)
    count_held (nodes.constant k) p i = absurd i
    count_held (nodes.variable q) p i = absurd i
    count_held (nodes.assign q x) p i = absurd i
    count_held (nodes.block f n x body) p i = absurd i
    count_held (nodes.send above r ms) p i = absurd i
    count_held (nodes.one_sided side x a) p i = absurd i
    count_held (nodes.two_sided side x a c) p i = absurd i
    count_held (nodes.loop kind x a) p i = absurd i

    pub body_held : (t : Body) (ks : List ℕ) → AllBelow 64 ks → BodyPlaced final t → IsBodySeen ks t → AllHeld (body_code t)
    body_held nodes.nothing ks b p s = (tt, tt)
    body_held (nodes.last n) ks b p s = node_held for_value n ks b p s
    body_held (nodes.next n t) ks b p s = both_held (code_of for_effect n) (body_code t) (node_held for_effect n ks b p.0 s.0) (body_held t ks b p.1 s.1)
    body_held (nodes.returned n) ks b p s = returned_held n (node_held for_value n ks b p s)

    messages_held : (above : Bool) (ms : Messages) (ks : List ℕ) → AllBelow 64 ks → MessagesPlaced final above ms → MessagesSeen from to names final ks ms → AllHeld (messages_code above ms)
    messages_held above (nodes.only t ns) ks b p s = both_held (nodes_code ns) _ (nodes_held ns ks b p.0 s) (send_held above t.selector t.by (count ns) p.1.found, tt)
    messages_held above (nodes.also t ns ms) ks b p s =
        (tt, both_held (nodes_code ns) _ (nodes_held ns ks b p.0 s.0) (send_held above t.selector t.by (count ns) p.1.found, (tt, messages_held above ms ks b p.2 s.1)))

    nodes_held : (ns : Nodes) (ks : List ℕ) → AllBelow 64 ks → NodesPlaced final ns → NodesSeen from to names final ks ns → AllHeld (nodes_code ns)
    nodes_held nodes.none ks b p s = tt
    nodes_held (nodes.node n ns) ks b p s = both_held (code_of for_value n) (nodes_code ns) (node_held for_value n ks b p.0 s.0) (nodes_held ns ks b p.1 s.1)

    returned_held : (n : Node) → AllHeld (code_of for_value n) → AllHeld (return_code n (code_of for_value n))
    returned_held (nodes.constant Receiver) h = (tt, tt)
    returned_held (nodes.constant True) h = (tt, tt)
    returned_held (nodes.constant False) h = (tt, tt)
    returned_held (nodes.constant Nil) h = (tt, tt)
    returned_held (nodes.constant Context) h = (tt, (tt, tt))
    returned_held (nodes.small k) h = both_held (code_of for_value (nodes.small k)) (ReturnTop ∷ []) h (tt, tt)
    returned_held (nodes.literal l place) h = both_held (code_of for_value (nodes.literal l place)) (ReturnTop ∷ []) h (tt, tt)
    returned_held (nodes.variable q) h = both_held (code_of for_value (nodes.variable q)) (ReturnTop ∷ []) h (tt, tt)
    returned_held (nodes.assign q x) h = both_held (code_of for_value (nodes.assign q x)) (ReturnTop ∷ []) h (tt, tt)
    returned_held (nodes.block f n x body) h = both_held (code_of for_value (nodes.block f n x body)) (ReturnTop ∷ []) h (tt, tt)
    returned_held (nodes.send above r ms) h = both_held (code_of for_value (nodes.send above r ms)) (ReturnTop ∷ []) h (tt, tt)
    returned_held (nodes.one_sided side x a) h = both_held (code_of for_value (nodes.one_sided side x a)) (ReturnTop ∷ []) h (tt, tt)
    returned_held (nodes.two_sided side x a c) h = both_held (code_of for_value (nodes.two_sided side x a c)) (ReturnTop ∷ []) h (tt, tt)
    returned_held (nodes.loop kind x a) h = both_held (code_of for_value (nodes.loop kind x a)) (ReturnTop ∷ []) h (tt, tt)

  pub method_held : (t : Body) (ks : List ℕ) → AllBelow 64 ks → BodyPlaced final t → IsBodySeen ks t → AllHeld (method_code t)
  method_held nodes.nothing ks b p s = (tt, tt)
  method_held (nodes.last n) ks b p s = both_held (code_of for_effect n) _ (node_held for_effect n ks b p s) (tt, tt)
  method_held (nodes.next n t) ks b p s = both_held (code_of for_effect n) (method_code t) (node_held for_effect n ks b p.0 s.0) (method_held t ks b p.1 s.1)
  method_held (nodes.returned n) ks b p s = returned_held n (node_held for_value n ks b p s)
