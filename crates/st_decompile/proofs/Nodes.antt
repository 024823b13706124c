-- What is read of a node's code is its tree.
use Rattle.std.proofs.Common.{◌≡◌, ℕ, zero, suc, ◌+◌, ◌≤◌, max, min, Bool, true, false, List, [], ◌∷◌, ◌++◌, Option, Some, refl, sym, ap, ◌∙◌, subst, arith}
use Rattle.std.specs.Prelude.{option_map, map}
use Rattle.st_scan.specs.Views.{ExpressionView, ExpressionsView, StatementsView, MessagesView, no_messages, no_expressions, no_statements, statement}
use Rattle.st_scan.specs.Views as views
use Rattle.st_emit.specs.declared.instruction.Constant.{Constant}
use Rattle.st_emit.specs.declared.instruction.Constant.TheVariants.{Receiver, True, False, Nil, Context}
use Rattle.st_emit.specs.declared.instruction.InstructionOperand.{InstructionOperand}
use Rattle.st_emit.specs.declared.instruction.InstructionOperand.TheVariants.{Field, Temporary, Literal, Shared}
use Rattle.st_emit.specs.declared.instruction.Instruction.{Instruction}
use Rattle.st_emit.specs.declared.instruction.Instruction.TheVariants.{Push, PushConstant, PushNumber, Store, PopStore, Pop, Duplicate, SendSpecial, ReturnConstant, ReturnTop, ReturnBlock, Jump, JumpIf, JumpPast}
use Rattle.st_emit.specs.declared.form.TwoSided.TheVariants.{TrueFirst, FalseFirst}
use Rattle.st_emit.specs.Steps.{size, size_of}
use Rattle.st_emit.specs.Literals.{LiteralView}
use Rattle.st_emit.specs.Resolving.{first_special, block_copy}
use Rattle.st_emit.specs.Nodes.{Node, constant, small, literal, variable, assign, block, send, one_sided, two_sided, loop, Body, nothing, last, next, returned, Messages, only, also, Nodes, none, node, count, returns}
use Rattle.st_emit.specs.Emitting.{Use, for_value, for_effect, used, stored, choice, repeat, code_of, body_code, messages_code, nodes_code, method_code, return_code, block_code, block_end, pop_arguments, passes_on, other_side, leaves_on, send_step}
use Rattle.st_resolved.specs.Instructions.{on_some}
use Rattle.st_expression_stack.specs.Items.{Piece, Item, piece, cascade, again, no_arguments, leaf, Taken, statements_of, arguments_of, goes_on, most_high}
use Rattle.st_expression_stack.specs.Choosing.{called, constant_tree, literal_tree, received, choice_tree}
use Rattle.st_decompile.specs.Reading.{choice_piece, loop_piece, block_piece, least_among}
use Rattle.st_resolved.specs.inside.Placed.{IsVariable, Placed, BodyPlaced, MessagesPlaced, NodesPlaced}
use Rattle.st_decompile.specs.Back.{places_from, high, body_high, messages_high, nodes_high, least, body_least, tree_of, body_tree, messages_tree, messages_list}
use Rattle.st_decompile.proofs.Pieces.{piece_of, body_items, body_taken, body_alone, body_bare, arguments_bare, argument_items, arguments_are, nodes_items, method_items, listed}
use Rattle.st_decompile.proofs.Messages.{with_messages, message_follows, first_follows}
use Rattle.st_decompile.proofs.Regions.{choice_follows, loop_follows, pops_follow, copy_follows}
use Rattle.st_decompile.proofs.High.{Fits, fits_both, fits_within, fits_messages, fits_count}
use Rattle.st_decompile.proofs.Moves as moves

module _ (name_of : InstructionOperand → List ℕ) (literals : List LiteralView) where
  abbrev pub Follows : ℕ → ℕ → List Instruction → (old new : List Item) → Type 0
  Follows f at code old new = moves.Follows name_of literals f at code old new

  one : (f at : ℕ) (s : Instruction) (old new : List Item) → ((ss : List Instruction) → moves.acts name_of literals f s at ss old ≡ goes_on new) → Follows f at (s ∷ []) old new
  one = moves.one_follows name_of literals

  both : (f at at1 : ℕ) (a b : List Instruction) (old mid new : List Item) → at1 ≡ at + size a → Follows f at a old mid → Follows f at1 b mid new → Follows f at (a ++ b) old new
  both = moves.then_follows name_of literals

  to_piece : (f at : ℕ) (code : List Instruction) (old : List Item) (p q : Piece) (items : List Item) → p ≡ q → Follows f at code old (piece p ∷ items) → Follows f at code old (piece q ∷ items)
  to_piece f at code old p q items e h = subst (λ (x : Piece). Follows f at code old (piece x ∷ items)) e h

  -- a value that may not be used
  used_follows : (u : Use) (f at : ℕ) (code : List Instruction) (old : List Item) (p : Piece) (items : List Item) → Follows f at code old (piece p ∷ items) → Follows f at (used u code) old (piece p ∷ items)
  used_follows for_value f at code old p items h = h
  used_follows for_effect f at code old p items h =
      both f at (at + size code) code (Pop ∷ []) old (piece p ∷ items) (piece p ∷ items) refl h (one f (at + size code) Pop (piece p ∷ items) (piece p ∷ items) (λ ss. refl))

  stored_follows : (u : Use) (f at : ℕ) (p : InstructionOperand) (x : Piece) (items : List Item)
      → Follows f at (stored u p ∷ []) (piece x ∷ items) (piece (record x { tree = views.assign (called (name_of p)) x.tree }) ∷ items)
  stored_follows for_value f at p x items = one f at (Store p) (piece x ∷ items) _ (λ ss. refl)
  stored_follows for_effect f at p x items = one f at (PopStore p) (piece x ∷ items) _ (λ ss. refl)

  pushed_follows : (f at : ℕ) (p : InstructionOperand) → IsVariable p → (items : List Item) → Follows f at (Push p ∷ []) items (piece (leaf (views.variable (called (name_of p))) at) ∷ items)
  pushed_follows f at (Field n) v items = one f at (Push (Field n)) items _ (λ ss. refl)
  pushed_follows f at (Temporary n) v items = one f at (Push (Temporary n)) items _ (λ ss. refl)
  pushed_follows f at (Shared n) v items = one f at (Push (Shared n)) items _ (λ ss. refl)
  pushed_follows f at (Literal n) v items = absurd v

  -- CONDITIONAL FORMS

  one_side : (f at : ℕ) (on : Bool) (x : Node) (a : Body) (k : Constant) (items : List Item)
      → max (high x) (suc (max (body_high a 0) 0)) ≤ most_high
      → Follows (suc f) at (code_of for_value x) items (piece (piece_of name_of x at) ∷ items) → ((at1 : ℕ) → Follows f at1 (body_code a) [] (body_items name_of a at1 []))
      → Follows (suc f) at (choice on (code_of for_value x) (body_code a) (PushConstant k ∷ [])) items
      (piece (record (piece_of name_of x at) { tree = choice_tree on (tree_of name_of x) (body_tree name_of a no_statements) (body_least a no_arguments) (statement false (constant_tree k) no_statements) no_arguments; least = min (least x) (min (body_least a no_arguments) no_arguments); height = max (high x) (suc (max (body_high a 0) 0)) }) ∷ items)
  one_side f at on x a k items low h p =
      let at1 = at + size (code_of for_value x) in
      let at_a = at1 + size_of (JumpIf on (size (body_code a) + size_of (Jump 1))) in
      let at_b = at_a + (size (body_code a) + size_of (Jump 1)) in
      let x' = piece_of name_of x at in
      let sb = piece (leaf (constant_tree k) at_b) ∷ [] in
      let low' : max (high x) (suc (max (statements_of (body_items name_of a at_a [])).height (statements_of sb).height)) ≤ most_high =
      subst (λ (t : Taken). max (high x) (suc (max t.height (statements_of sb).height)) ≤ most_high) (sym (body_alone name_of a at_a)) low in
      to_piece (suc f) at (choice on (code_of for_value x) (body_code a) (PushConstant k ∷ [])) items _ _ items
      (ap (λ (t : Taken). choice_piece on x' t (statements_of sb)) (body_alone name_of a at_a))
      (both (suc f) at at1 (code_of for_value x) (choice on [] (body_code a) (PushConstant k ∷ [])) items (piece x' ∷ items) _ refl h
      (choice_follows name_of literals f at1 on (body_code a) (PushConstant k ∷ []) (body_items name_of a at_a []) sb x' items low' (p at_a) (one f at_b (PushConstant k) [] sb (λ ss. refl))))

  two_side : (f at : ℕ) (x : Node) (a b : Body) (items : List Item) → max (high x) (suc (max (body_high a 0) (body_high b 0))) ≤ most_high
      → Follows (suc f) at (code_of for_value x) items (piece (piece_of name_of x at) ∷ items)
      → ((at1 : ℕ) → Follows f at1 (body_code a) [] (body_items name_of a at1 [])) → ((at1 : ℕ) → Follows f at1 (body_code b) [] (body_items name_of b at1 []))
      → Follows (suc f) at (choice false (code_of for_value x) (body_code a) (body_code b)) items
      (piece (record (piece_of name_of x at) { tree = choice_tree false (tree_of name_of x) (body_tree name_of a no_statements) (body_least a no_arguments) (body_tree name_of b no_statements) (body_least b no_arguments); least = min (least x) (min (body_least a no_arguments) (body_least b no_arguments)); height = max (high x) (suc (max (body_high a 0) (body_high b 0))) }) ∷ items)
  two_side f at x a b items low h p q =
      let at1 = at + size (code_of for_value x) in
      let over = Jump (size (body_code b)) in
      let at_a = at1 + size_of (JumpIf false (size (body_code a) + size_of over)) in
      let at_b = at_a + (size (body_code a) + size_of over) in
      let x' = piece_of name_of x at in
      let low' : max (high x) (suc (max (statements_of (body_items name_of a at_a [])).height (statements_of (body_items name_of b at_b [])).height)) ≤ most_high =
      subst (λ (t : Taken). max (high x) (suc (max t.height (statements_of (body_items name_of b at_b [])).height)) ≤ most_high) (sym (body_alone name_of a at_a))
      (subst (λ (t : Taken). max (high x) (suc (max (body_high a 0) t.height)) ≤ most_high) (sym (body_alone name_of b at_b)) low) in
      to_piece (suc f) at (choice false (code_of for_value x) (body_code a) (body_code b)) items _ _ items
      (ap (λ (t : Taken). choice_piece false x' t (statements_of (body_items name_of b at_b []))) (body_alone name_of a at_a)
      ∙ ap (λ (t : Taken). choice_piece false x' (body_taken name_of a no_statements no_arguments 0 []) t) (body_alone name_of b at_b))
      (both (suc f) at at1 (code_of for_value x) (choice false [] (body_code a) (body_code b)) items (piece x' ∷ items) _ refl h
      (choice_follows name_of literals f at1 false (body_code a) (body_code b) (body_items name_of a at_a []) (body_items name_of b at_b []) x' items low' (p at_a) (q at_b)))

  looping : (f at : ℕ) (on : Bool) (x a : Body) (items : List Item) → suc (max (body_high x 0) (body_high a 0)) ≤ most_high
      → Follows (suc f) at (body_code x) items (body_items name_of x at items) → ((at1 : ℕ) → Follows f at1 (body_code a) [] (body_items name_of a at1 []))
      → Follows (suc f) at (repeat on (body_code x) (body_code a)) items
      (piece (loop_piece on at (body_taken name_of x no_statements no_arguments 0 items) (body_taken name_of a no_statements no_arguments 0 [])) ∷ items)
  looping f at on x a items low h p =
      let at_a = at + size (body_code x) + size_of (JumpIf on (size (body_code a) + 3)) in
      let low' : suc (max (body_high x 0) (statements_of (body_items name_of a at_a [])).height) ≤ most_high =
      subst (λ (t : Taken). suc (max (body_high x 0) t.height) ≤ most_high) (sym (body_alone name_of a at_a)) low in
      to_piece (suc f) at (repeat on (body_code x) (body_code a)) items _ _ items
      (ap (λ (t : Taken). loop_piece on at (body_taken name_of x no_statements no_arguments 0 items) t) (body_alone name_of a at_a))
      (loop_follows name_of literals f at on x a (body_items name_of a at_a []) items low' h (p at_a))

  -- BLOCKS

  end_follows : (returning : Bool) (f at : ℕ) (items : List Item) → Follows f at (block_end returning) items items
  end_follows true f at items = moves.nothing_follows name_of literals f at items
  end_follows false f at items = one f at ReturnBlock items items (λ ss. refl)

  block_follows : (f at first arguments : ℕ) (n : Node) (body : Body) (items : List Item) → suc (body_high body 0) ≤ most_high
      → ((old : List Item) (at1 : ℕ) → Follows (suc f) at1 (code_of for_value n) old (piece (piece_of name_of n at1) ∷ old))
      → ((old : List Item) (at1 : ℕ) → Follows f at1 (body_code body) old (body_items name_of body at1 old))
      → Follows (suc f) at (block_code (code_of for_value n) (pop_arguments first arguments ++ (body_code body ++ block_end (returns body)))) items (piece (piece_of name_of (block first arguments n body) at) ∷ items)
  block_follows f at first arguments n body items low hn hb =
      let pops = pop_arguments first arguments in
      let ends = block_end (returns body) in
      let inside = pops ++ (body_code body ++ ends) in
      let context = leaf (constant_tree Context) at in
      let copy = SendSpecial (first_special + block_copy) ∷ JumpPast (size inside) ∷ inside in
      let at1 = at + 1 in
      let at2 = at1 + size (code_of for_value n) in
      let at3 = at2 + 3 in
      let at4 = at3 + size pops in
      let at5 = at4 + size (body_code body) in
      let arguments' = argument_items name_of first arguments [] in
      let made = body_items name_of body at4 arguments' in
      let inner : Follows f at3 inside [] made =
      both f at3 at4 pops (body_code body ++ ends) [] arguments' made refl (pops_follow name_of literals f first arguments at3 [] tt)
      (both f at4 at5 (body_code body) ends arguments' made made refl (hb arguments' at4) (end_follows (returns body) f at5 made)) in
      let taken : statements_of made ≡ body_taken name_of body no_statements no_arguments 0 arguments' = body_bare name_of body at4 arguments' (arguments_bare name_of first arguments [] tt) in
      let ps : arguments_of arguments' ≡ places_from first arguments [] = arguments_are name_of first arguments [] in
      let same : block_piece name_of literals (moves.within name_of literals (suc f)) at (statements_of made) ≡ piece_of name_of (block first arguments n body) at =
      ap (block_piece name_of literals (moves.within name_of literals (suc f)) at) taken
      ∙ ap (λ (l : List InstructionOperand). record { returns = false; tree = views.block (map (λ p. called (name_of p)) l) (body_tree name_of body no_statements); start = at; least = least_among l (body_least body no_arguments); height = suc (body_high body 0) }) ps in
      let low' : suc (statements_of made).height ≤ most_high = subst (λ (t : Taken). suc t.height ≤ most_high) (sym taken) low in
      to_piece (suc f) at (block_code (code_of for_value n) inside) items _ _ items same
      (both (suc f) at at1 (PushConstant Context ∷ []) (code_of for_value n ++ copy) items (piece context ∷ items) _ refl (one (suc f) at (PushConstant Context) items (piece context ∷ items) (λ ss. refl))
      (both (suc f) at1 at2 (code_of for_value n) copy (piece context ∷ items) (piece (piece_of name_of n at1) ∷ piece context ∷ items) _ refl (hn (piece context ∷ items) at1)
      (copy_follows name_of literals f at2 inside made (piece_of name_of n at1) context items low' inner)))

  returns_follow : (n : Node) (f at : ℕ) (items : List Item) → Follows f at (code_of for_value n) items (piece (piece_of name_of n at) ∷ items)
      → Follows f at (return_code n (code_of for_value n)) items (piece (record (piece_of name_of n at) { returns = true }) ∷ items)
  returns_follow n f at items h = by_node n h
    where
      top : (n : Node) → Follows f at (code_of for_value n) items (piece (piece_of name_of n at) ∷ items) → Follows f at (code_of for_value n ++ ReturnTop ∷ []) items (piece (record (piece_of name_of n at) { returns = true }) ∷ items)
      top n h = moves.then_follows name_of literals f at (at + size (code_of for_value n)) (code_of for_value n) (ReturnTop ∷ []) items (piece (piece_of name_of n at) ∷ items) _ refl h
          (moves.one_follows name_of literals f (at + size (code_of for_value n)) ReturnTop (piece (piece_of name_of n at) ∷ items) _ (λ ss. refl))

      by_node : (n : Node) → Follows f at (code_of for_value n) items (piece (piece_of name_of n at) ∷ items) → Follows f at (return_code n (code_of for_value n)) items (piece (record (piece_of name_of n at) { returns = true }) ∷ items)
      by_node (constant Receiver) h = moves.one_follows name_of literals f at (ReturnConstant Receiver) items _ (λ ss. refl)
      by_node (constant True) h = moves.one_follows name_of literals f at (ReturnConstant True) items _ (λ ss. refl)
      by_node (constant False) h = moves.one_follows name_of literals f at (ReturnConstant False) items _ (λ ss. refl)
      by_node (constant Nil) h = moves.one_follows name_of literals f at (ReturnConstant Nil) items _ (λ ss. refl)
      by_node (constant Context) h = top (constant Context) h
      by_node (small k) h = top (small k) h
      by_node (literal l place) h = top (literal l place) h
      by_node (variable p) h = top (variable p) h
      by_node (assign p n) h = top (assign p n) h
      by_node (block first arguments n body) h = top (block first arguments n body) h
      by_node (send above r ms) h = top (send above r ms) h
      by_node (one_sided side x a) h = top (one_sided side x a) h
      by_node (two_sided side x a b) h = top (two_sided side x a b) h
      by_node (loop kind x a) h = top (loop kind x a) h

  -- NODES

  no_region : (h : ℕ) → Fits (suc h) 0 → ⊥
  no_region h e = omega (arith, e.0)

  no_choice : (a b : ℕ) → Fits (max a (suc b)) 0 → ⊥
  no_choice a b e = omega (arith, e.0)

  -- no higher than a text may have
  low : (h f : ℕ) → Fits h f → h ≤ most_high
  low h f e = omega (arith, e.0, e.1)

  mutual
    pub node_follows : (u : Use) (n : Node) (f at : ℕ) (items : List Item) → Placed literals n → Fits (high n) f → Follows f at (code_of u n) items (piece (piece_of name_of n at) ∷ items)
    node_follows u (constant k) f at items p d = used_follows u f at (PushConstant k ∷ []) items _ items (one f at (PushConstant k) items _ (λ ss. refl))
    node_follows u (small k) f at items p d = used_follows u f at (PushNumber k ∷ []) items _ items (one f at (PushNumber k) items _ (λ ss. refl))
    node_follows u (literal x place) f at items p d =
        used_follows u f at (Push (Literal place) ∷ []) items _ items
        (one f at (Push (Literal place)) items _ (λ ss. ap (λ (o : Option LiteralView). on_some (option_map literal_tree o) (λ e. goes_on (piece (leaf e at) ∷ items))) p))
    node_follows u (variable q) f at items p d = used_follows u f at (Push q ∷ []) items _ items (pushed_follows f at q p items)
    node_follows u (assign q n) f at items p d =
        both f at (at + size (code_of for_value n)) (code_of for_value n) (stored u q ∷ []) items (piece (piece_of name_of n at) ∷ items) _ refl
        (node_follows for_value n f at items p d) (stored_follows u f (at + size (code_of for_value n)) q (piece_of name_of n at) items)
    node_follows u (block first arguments n body) zero at items p d = absurd (no_region (body_high body 0) d)
    node_follows u (block first arguments n body) (suc f) at items p d =
        used_follows u (suc f) at _ items _ items
        (block_follows f at first arguments n body items (low (suc (body_high body 0)) (suc f) d) (λ old at1. node_follows for_value n (suc f) at1 old p.0 (fits_count n p.1 (suc f) d.1))
        (λ old at1. body_follows body f at1 old p.2 (fits_within (body_high body 0) f d)))
    node_follows u (send above r ms) f at items p d =
        let fits = fits_messages (high r) ms f d in
        let sent' : MessagesView → Piece =
        λ l. record { returns = false; tree = views.send (received above (tree_of name_of r)) l; start = at; least = least (send above r ms); height = high (send above r ms) } in
        used_follows u f at (code_of for_value r ++ messages_code above ms) items _ items
        (to_piece f at (code_of for_value r ++ messages_code above ms) items (sent' (messages_tree name_of no_messages ms)) (sent' (messages_list name_of ms)) items (ap sent' (listed name_of ms no_messages))
        (both f at (at + size (code_of for_value r)) (code_of for_value r) (messages_code above ms) items (piece (piece_of name_of r at) ∷ items) _ refl
        (node_follows for_value r f at items p.0 fits.0) (messages_follow above ms f (at + size (code_of for_value r)) (piece_of name_of r at) items p.1 fits.1)))
    node_follows u (one_sided side x a) zero at items p d = absurd (no_choice (high x) (max (body_high a 0) 0) d)
    node_follows u (one_sided side x a) (suc f) at items p d =
        let fits = fits_both (high x) (suc (max (body_high a 0) 0)) (suc f) d in
        let inner = fits_both (body_high a 0) 0 f (fits_within (max (body_high a 0) 0) f fits.1) in
        let on = passes_on side in
        let other = PushConstant (other_side side) ∷ [] in
        used_follows u (suc f) at (choice on (code_of for_value x) (body_code a) other) items _ items
        (one_side f at on x a (other_side side) items (low (max (high x) (suc (max (body_high a 0) 0))) (suc f) d) (node_follows for_value x (suc f) at items p.0 fits.0) (λ at1. body_follows a f at1 [] p.1 inner.0))
    node_follows u (two_sided TrueFirst x a b) zero at items p d = absurd (no_choice (high x) (max (body_high a 0) (body_high b 0)) d)
    node_follows u (two_sided FalseFirst x a b) zero at items p d = absurd (no_choice (high x) (max (body_high b 0) (body_high a 0)) d)
    node_follows u (two_sided TrueFirst x a b) (suc f) at items p d =
        let sides = max (body_high a 0) (body_high b 0) in
        let fits = fits_both (high x) (suc sides) (suc f) d in
        let inner = fits_both (body_high a 0) (body_high b 0) f (fits_within sides f fits.1) in
        used_follows u (suc f) at (choice false (code_of for_value x) (body_code a) (body_code b)) items _ items
        (two_side f at x a b items (low (max (high x) (suc sides)) (suc f) d) (node_follows for_value x (suc f) at items p.0 fits.0) (λ at1. body_follows a f at1 [] p.1 inner.0) (λ at1. body_follows b f at1 [] p.2 inner.1))
    node_follows u (two_sided FalseFirst x a b) (suc f) at items p d =
        let sides = max (body_high b 0) (body_high a 0) in
        let fits = fits_both (high x) (suc sides) (suc f) d in
        let inner = fits_both (body_high b 0) (body_high a 0) f (fits_within sides f fits.1) in
        used_follows u (suc f) at (choice false (code_of for_value x) (body_code b) (body_code a)) items _ items
        (two_side f at x b a items (low (max (high x) (suc sides)) (suc f) d) (node_follows for_value x (suc f) at items p.0 fits.0) (λ at1. body_follows b f at1 [] p.2 inner.0) (λ at1. body_follows a f at1 [] p.1 inner.1))
    node_follows u (loop kind x a) zero at items p d = absurd (no_region (max (body_high x 0) (body_high a 0)) d)
    node_follows u (loop kind x a) (suc f) at items p d =
        let sides = max (body_high x 0) (body_high a 0) in
        let inner = fits_both (body_high x 0) (body_high a 0) f (fits_within sides f d) in
        let first : Fits (body_high x 0) (suc f) = (omega (arith, inner.0.0), d.1) in
        used_follows u (suc f) at (repeat (leaves_on kind) (body_code x) (body_code a)) items _ items
        (looping f at (leaves_on kind) x a items (low (suc sides) (suc f) d) (body_follows x (suc f) at items p.0 first) (λ at1. body_follows a f at1 [] p.1 inner.1))

    pub body_follows : (b : Body) (f at : ℕ) (items : List Item) → BodyPlaced literals b → Fits (body_high b 0) f → Follows f at (body_code b) items (body_items name_of b at items)
    body_follows nothing f at items p d = one f at (PushConstant Nil) items _ (λ ss. refl)
    body_follows (last n) f at items p d = node_follows for_value n f at items p (fits_both (high n) 0 f d).0
    body_follows (next n b) f at items p d =
        let fits = fits_both (high n) (body_high b 0) f d in
        both f at (at + size (code_of for_effect n)) (code_of for_effect n) (body_code b) items (piece (piece_of name_of n at) ∷ items) _ refl
        (node_follows for_effect n f at items p.0 fits.0) (body_follows b f (at + size (code_of for_effect n)) (piece (piece_of name_of n at) ∷ items) p.1 fits.1)
    body_follows (returned n) f at items p d = returns_follow n f at items (node_follows for_value n f at items p (fits_both (high n) 0 f d).0)

    messages_follow : (above : Bool) (ms : Messages) (f at : ℕ) (r : Piece) (items : List Item) → MessagesPlaced literals above ms → Fits (messages_high 0 ms) f
        → Follows f at (messages_code above ms) (piece r ∷ items) (piece (with_messages name_of literals above r no_messages ms) ∷ items)
    messages_follow above (only s ns) f at r items p d =
        let fits = fits_both 0 (nodes_high ns 0) f d in
        message_follows name_of literals f at above s ns (piece r ∷ items) _ p.1 (nodes_follow ns f at (piece r ∷ items) p.0 fits.1) (low (nodes_high ns 0) f fits.1) refl
    messages_follow above (also s ns ms) f at r items p d =
        let fits = fits_messages (max 0 (nodes_high ns 0)) ms f d in
        let first = fits_both 0 (nodes_high ns 0) f fits.0 in
        both f at (at + 1) (Duplicate ∷ []) (nodes_code ns ++ send_step above s.by (count ns) ∷ Pop ∷ messages_code above ms) (piece r ∷ items) (again ∷ cascade r no_messages ∷ items) _ (omega arith)
        (one f at Duplicate (piece r ∷ items) (again ∷ cascade r no_messages ∷ items) (λ ss. refl))
        (first_follows name_of literals f (at + 1) above s ns ms r no_messages items p.1 (low (nodes_high ns 0) f first.1) (λ old at1. nodes_follow ns f at1 old p.0 first.1) (λ at1 q more. cascade_follows above ms f at1 q more items p.2 fits.1))

    cascade_follows : (above : Bool) (ms : Messages) (f at : ℕ) (r : Piece) (done : MessagesView) (items : List Item) → MessagesPlaced literals above ms → Fits (messages_high 0 ms) f
        → Follows f at (messages_code above ms) (cascade r done ∷ items) (piece (with_messages name_of literals above r done ms) ∷ items)
    cascade_follows above (only s ns) f at r done items p d =
        let fits = fits_both 0 (nodes_high ns 0) f d in
        message_follows name_of literals f at above s ns (cascade r done ∷ items) _ p.1 (nodes_follow ns f at (cascade r done ∷ items) p.0 fits.1) (low (nodes_high ns 0) f fits.1) refl
    cascade_follows above (also s ns ms) f at r done items p d =
        let fits = fits_messages (max 0 (nodes_high ns 0)) ms f d in
        let first = fits_both 0 (nodes_high ns 0) f fits.0 in
        both f at (at + 1) (Duplicate ∷ []) (nodes_code ns ++ send_step above s.by (count ns) ∷ Pop ∷ messages_code above ms) (cascade r done ∷ items) (again ∷ cascade r done ∷ items) _ (omega arith)
        (one f at Duplicate (cascade r done ∷ items) (again ∷ cascade r done ∷ items) (λ ss. refl))
        (first_follows name_of literals f (at + 1) above s ns ms r done items p.1 (low (nodes_high ns 0) f first.1) (λ old at1. nodes_follow ns f at1 old p.0 first.1) (λ at1 q more. cascade_follows above ms f at1 q more items p.2 fits.1))

    nodes_follow : (ns : Nodes) (f at : ℕ) (items : List Item) → NodesPlaced literals ns → Fits (nodes_high ns 0) f → Follows f at (nodes_code ns) items (nodes_items name_of ns at items)
    nodes_follow none f at items p d = moves.nothing_follows name_of literals f at items
    nodes_follow (node n ns) f at items p d =
        let fits = fits_both (suc (high n)) (nodes_high ns 0) f d in
        let first : Fits (high n) f = (omega (arith, fits.0.0), d.1) in
        both f at (at + size (code_of for_value n)) (code_of for_value n) (nodes_code ns) items (piece (piece_of name_of n at) ∷ items) _ refl
        (node_follows for_value n f at items p.0 first) (nodes_follow ns f (at + size (code_of for_value n)) (piece (piece_of name_of n at) ∷ items) p.1 fits.1)

  -- METHODS

  pub method_follows : (b : Body) (f at : ℕ) (items : List Item) → BodyPlaced literals b → Fits (body_high b 0) f → Follows f at (method_code b) items (method_items name_of b at items)
  method_follows nothing f at items p d = one f at (ReturnConstant Receiver) items _ (λ ss. refl)
  method_follows (last n) f at items p d =
      both f at (at + size (code_of for_effect n)) (code_of for_effect n) (ReturnConstant Receiver ∷ []) items (piece (piece_of name_of n at) ∷ items) _ refl
      (node_follows for_effect n f at items p (fits_both (high n) 0 f d).0) (one f (at + size (code_of for_effect n)) (ReturnConstant Receiver) (piece (piece_of name_of n at) ∷ items) _ (λ ss. refl))
  method_follows (next n b) f at items p d =
      let fits = fits_both (high n) (body_high b 0) f d in
      both f at (at + size (code_of for_effect n)) (code_of for_effect n) (method_code b) items (piece (piece_of name_of n at) ∷ items) _ refl
      (node_follows for_effect n f at items p.0 fits.0) (method_follows b f (at + size (code_of for_effect n)) (piece (piece_of name_of n at) ∷ items) p.1 fits.1)
  method_follows (returned n) f at items p d = returns_follow n f at items (node_follows for_value n f at items p (fits_both (high n) 0 f d).0)

  -- the whole
  pub method_read : (b : Body) (f : ℕ) → BodyPlaced literals b → Fits (body_high b 0) f → moves.within name_of literals (suc f) 0 (method_code b) ≡ Some (method_items name_of b 0 [])
  method_read b f p d = moves.region_is name_of literals f 0 (method_code b) (method_items name_of b 0 []) (method_follows b f 0 [] p d)
