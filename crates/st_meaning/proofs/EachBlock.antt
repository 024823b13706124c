-- What is so of code with all that stands in it is so of each of its blocks.
use Rattle.std.proofs.Common.{ℕ, ◌+◌, Bool, false, List, [], ◌∷◌, ◌++◌}
use Rattle.st_emit.specs.declared.instruction.Instruction.{Instruction}
use Rattle.st_emit.specs.declared.instruction.Instruction.TheVariants.{PushConstant, SendSpecial, Jump, JumpIf, JumpPast, Pop, ReturnTop}
use Rattle.st_emit.specs.declared.instruction.Constant.TheVariants.{Context}
use Rattle.st_emit.specs.declared.form.TwoSided.TheVariants.{TrueFirst, FalseFirst}
use Rattle.st_emit.specs.Literals.{LiteralView}
use Rattle.st_emit.specs.Steps.{size, size_of}
use Rattle.st_emit.specs.Resolving.{first_special, block_copy}
use Rattle.st_emit.specs.Nodes.{Node, constant, small, literal, variable, assign, block, send, one_sided, two_sided, loop, Body, nothing, last, next, returned, Messages, only, also, Nodes, none, node, count, returns}
use Rattle.st_emit.specs.Emitting.{Use, for_value, for_effect, used, stored, code_of, body_code, messages_code, nodes_code, method_code, send_step, passes_on, other_side, leaves_on, pop_arguments, block_end, choice, repeat, return_code}
use Rattle.st_resolved.specs.inside.Placed.{Placed, BodyPlaced, MessagesPlaced, NodesPlaced}
use Rattle.st_meaning.specs.inside.Blocks.{OfBlock, first_at, second_at, inside_at, Each, EachOfBody, EachOfMessages, EachOfNodes}
use Rattle.st_meaning.proofs.Leads as leads
use Rattle.st_meaning.proofs.Living.{BodyFew}

-- its body sends what it comes to with few arguments
abbrev pub FewBlock : OfBlock
FewBlock at first i b = BodyFew b

module _ (most : ℕ) (literals : List LiteralView) (bytes : List ℕ) (P : OfBlock) where
  abbrev pub Stand : ℕ → List Instruction → Type 0
  Stand at xs = leads.Stand most literals bytes at xs

  -- the code of a block's body stands at its place
  abbrev pub Stands : (at first i : ℕ) → Body → Type 0
  Stands at first i b = Stand at (pop_arguments first i ++ (body_code b ++ block_end (returns b)))

  front : (at : ℕ) (a b : List Instruction) → Stand at (a ++ b) → Stand at a
  front = leads.stand_front most literals bytes

  back : (at : ℕ) (a b : List Instruction) → Stand at (a ++ b) → Stand (at + size a) b
  back = leads.stand_back most literals bytes

  used_front : (u : Use) (at : ℕ) (c : List Instruction) → Stand at (used u c) → Stand at c
  used_front for_value at c h = h
  used_front for_effect at c h = front at c (Pop ∷ []) h

  -- the parts of a choice, each at its place
  sides_stand : (c a b : List Instruction) (at : ℕ) → Stand at (choice false c a b) → Stand at c × Stand (at + size c + size_of (JumpIf false (size a + size_of (Jump (size b))))) a
      × Stand (at + size c + size_of (JumpIf false (size a + size_of (Jump (size b)))) + size a + size_of (Jump (size b))) b
  sides_stand c a b at h =
      let over = Jump (size b) in
      let test = JumpIf false (size a + size_of over) in
      let behind = back at c (test ∷ (a ++ over ∷ b)) h in
      (front at c (test ∷ (a ++ over ∷ b)) h, front (at + size c + size_of test) a (over ∷ b) behind.1, (back (at + size c + size_of test) a (over ∷ b) behind.1).1)

  -- the blocks of what is returned
  returned_each : (n : Node) (at : ℕ) → (Stand at (code_of for_value n) → Each P at n) → Stand at (return_code n (code_of for_value n)) → Each P at n
  returned_each (constant k) at f h = tt
  returned_each (small k) at f h = f (front at (code_of for_value (small k)) (ReturnTop ∷ []) h)
  returned_each (literal x place) at f h = f (front at (code_of for_value (literal x place)) (ReturnTop ∷ []) h)
  returned_each (variable q) at f h = f (front at (code_of for_value (variable q)) (ReturnTop ∷ []) h)
  returned_each (assign q x) at f h = f (front at (code_of for_value (assign q x)) (ReturnTop ∷ []) h)
  returned_each (block first i x b) at f h = f (front at (code_of for_value (block first i x b)) (ReturnTop ∷ []) h)
  returned_each (send above r ms) at f h = f (front at (code_of for_value (send above r ms)) (ReturnTop ∷ []) h)
  returned_each (one_sided side x a) at f h = f (front at (code_of for_value (one_sided side x a)) (ReturnTop ∷ []) h)
  returned_each (two_sided side x a b) at f h = f (front at (code_of for_value (two_sided side x a b)) (ReturnTop ∷ []) h)
  returned_each (loop kind x a) at f h = f (front at (code_of for_value (loop kind x a)) (ReturnTop ∷ []) h)

  module _ (holds : (at first i : ℕ) (b : Body) → BodyPlaced literals b → BodyFew b → Stands at first i b → P at first i b) where
    mutual
      each : (u : Use) (n : Node) (at : ℕ) → Placed literals n → Each FewBlock at n → Stand at (code_of u n) → Each P at n
      each u (constant k) at p f h = tt
      each u (small k) at p f h = tt
      each u (literal x place) at p f h = tt
      each u (variable q) at p f h = tt
      each u (assign q x) at p f h = each for_value x at p f (front at (code_of for_value x) (stored u q ∷ []) h)
      each u (block first i x b) at p f h =
          let c = code_of for_value x in
          let inside = pop_arguments first i ++ (body_code b ++ block_end (returns b)) in
          let whole = used_front u at (PushConstant Context ∷ (c ++ SendSpecial (first_special + block_copy) ∷ JumpPast (size inside) ∷ inside)) h in
          let stands = (back (at + 1) c (SendSpecial (first_special + block_copy) ∷ JumpPast (size inside) ∷ inside) whole.1).1.1 in
          let behind = back (inside_at at x) (pop_arguments first i) (body_code b ++ block_end (returns b)) stands in (
            holds (inside_at at x) first i b p.2 f.0 stands,
            each_of_body b (inside_at at x + size (pop_arguments first i)) p.2 f.1 (front (inside_at at x + size (pop_arguments first i)) (body_code b) (block_end (returns b)) behind),
          )
      each u (send above r ms) at p f h =
          let c = code_of for_value r in
          let whole = used_front u at (c ++ messages_code above ms) h in
          (each for_value r at p.0 f.0 (front at c (messages_code above ms) whole), each_of_messages above ms (at + size c) p.1 f.1 (back at c (messages_code above ms) whole))
      each u (one_sided side x a) at p f h =
          let c = code_of for_value x in
          let other = PushConstant (other_side side) ∷ [] in
          let over = Jump (size other) in
          let test = JumpIf (passes_on side) (size (body_code a) + size_of over) in
          let whole = used_front u at (c ++ test ∷ (body_code a ++ over ∷ other)) h in
          let behind = back at c (test ∷ (body_code a ++ over ∷ other)) whole in
          (each for_value x at p.0 f.0 (front at c (test ∷ (body_code a ++ over ∷ other)) whole), each_of_body a (at + size c + size_of test) p.1 f.1 (front (at + size c + size_of test) (body_code a) (over ∷ other) behind.1))
      each u (two_sided TrueFirst x a b) at p f h =
          let k = sides_stand (code_of for_value x) (body_code a) (body_code b) at (used_front u at (choice false (code_of for_value x) (body_code a) (body_code b)) h) in
          (each for_value x at p.0 f.0 k.0, each_of_body a (first_at at x a b) p.1 f.1 k.1, each_of_body b (second_at at x a b) p.2 f.2 k.2)
      each u (two_sided FalseFirst x a b) at p f h =
          let k = sides_stand (code_of for_value x) (body_code b) (body_code a) at (used_front u at (choice false (code_of for_value x) (body_code b) (body_code a)) h) in
          (each for_value x at p.0 f.0 k.0, each_of_body b (first_at at x b a) p.2 f.1 k.1, each_of_body a (second_at at x b a) p.1 f.2 k.2)
      each u (loop kind x a) at p f h =
          let c = body_code x in
          let leave = JumpIf (leaves_on kind) (size (body_code a) + 3) in
          let rest = repeat (leaves_on kind) [] (body_code a) in
          let whole = used_front u at (repeat (leaves_on kind) c (body_code a)) h in
          let behind = back at c _ whole in
          (each_of_body x at p.0 f.0 (front at c _ whole), each_of_body a (at + size c + size_of leave) p.1 f.1 (front (at + size c + size_of leave) (body_code a) _ behind.1))

      each_of_body : (b : Body) (at : ℕ) → BodyPlaced literals b → EachOfBody FewBlock at b → Stand at (body_code b) → EachOfBody P at b
      each_of_body nothing at p f h = tt
      each_of_body (last n) at p f h = each for_value n at p f h
      each_of_body (next n b) at p f h =
          let c = code_of for_effect n in
          (each for_effect n at p.0 f.0 (front at c (body_code b) h), each_of_body b (at + size c) p.1 f.1 (back at c (body_code b) h))
      each_of_body (returned n) at p f h = returned_each n at (λ h1. each for_value n at p f h1) h

      each_of_messages : (above : Bool) (ms : Messages) (at : ℕ) → MessagesPlaced literals above ms → EachOfMessages FewBlock at above ms → Stand at (messages_code above ms) → EachOfMessages P at above ms
      each_of_messages above (only s ns) at p f h = each_of_nodes ns at p.0 f (front at (nodes_code ns) (send_step above s.by (count ns) ∷ []) h)
      each_of_messages above (also s ns ms) at p f h =
          let c = nodes_code ns in
          let x = send_step above s.by (count ns) in
          let rest = x ∷ Pop ∷ messages_code above ms in
          (each_of_nodes ns (at + 1) p.0 f.0 (front (at + 1) c rest h.1), each_of_messages above ms (at + 1 + size c + size_of x + 1) p.2 f.1 (back (at + 1) c rest h.1).1.1)

      each_of_nodes : (ns : Nodes) (at : ℕ) → NodesPlaced literals ns → EachOfNodes FewBlock at ns → Stand at (nodes_code ns) → EachOfNodes P at ns
      each_of_nodes none at p f h = tt
      each_of_nodes (node n ns) at p f h =
          let c = code_of for_value n in
          (each for_value n at p.0 f.0 (front at c (nodes_code ns) h), each_of_nodes ns (at + size c) p.1 f.1 (back at c (nodes_code ns) h))

    -- the blocks of a method
    pub each_of_method : (b : Body) (at : ℕ) → BodyPlaced literals b → EachOfBody FewBlock at b → Stand at (method_code b) → EachOfBody P at b
    each_of_method nothing at p f h = tt
    each_of_method (last n) at p f h = each for_effect n at p f (front at (code_of for_effect n) _ h)
    each_of_method (next n b) at p f h =
        let c = code_of for_effect n in
        (each for_effect n at p.0 f.0 (front at c (method_code b) h), each_of_method b (at + size c) p.1 f.1 (back at c (method_code b) h))
    each_of_method (returned n) at p f h = returned_each n at (λ h1. each for_value n at p f h1) h
