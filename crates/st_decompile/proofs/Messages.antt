-- How messages are read, given how their arguments are.
use Rattle.std.proofs.Common.{◌≡◌, ℕ, ◌+◌, ◌-◌, ◌≤◌, Bool, true, false, List, [], ◌∷◌, ◌++◌, Option, None, refl, ap, ◌∙◌, subst, arith, ne_eqb, append_assoc}
use Rattle.std.specs.Prelude.{if◌then◌else◌, slice_get}
use Rattle.st_scan.specs.Views.{ExpressionView, ExpressionsView, MessagesView, no_messages, no_expressions, with_message}
use Rattle.st_scan.specs.Views as views
use Rattle.st_emit.specs.declared.instruction.InstructionOperand.{InstructionOperand}
use Rattle.st_emit.specs.declared.instruction.Instruction.{Instruction}
use Rattle.st_emit.specs.declared.instruction.Instruction.TheVariants.{Pop}
use Rattle.st_emit.specs.declared.form.By.{By}
use Rattle.st_emit.specs.declared.form.By.TheVariants.{Special, SelectorAt}
use Rattle.st_emit.specs.Steps.{size}
use Rattle.st_emit.specs.Literals.{LiteralView}
use Rattle.st_emit.specs.Resolving.{special_selectors, first_special, block_copy}
use Rattle.st_emit.specs.Nodes.{Sending, Messages, also, Nodes, count}
use Rattle.st_emit.specs.Emitting.{send_step, nodes_code, messages_code}
use Rattle.st_resolved.specs.Instructions.{on_some}
use Rattle.st_emit.specs.Selectors.{arity}
use Rattle.st_expression_stack.specs.Items.{Piece, Item, piece, cascade, again, answered, no_arguments, most_high, Acted, goes_on}
use Rattle.st_expression_stack.specs.Choosing.{received}
use Rattle.st_expression_stack.specs.Messages.{sends, sent_to, sent_low, to_receiver, with_arguments}
use Rattle.st_decompile.specs.Reading.{symbol_of, makes_block}
use Rattle.st_resolved.specs.inside.Placed.{IsFound, IsSent}
use Rattle.st_decompile.specs.Back.{messages_tree, messages_least, messages_high, nodes_tree, nodes_least, nodes_high}
use Rattle.st_decompile.proofs.High.{low_is}
use Rattle.st_decompile.proofs.Pieces.{nodes_items, nodes_taken}
use Rattle.st_decompile.proofs.Moves as moves

module _ (name_of : InstructionOperand → List ℕ) (literals : List LiteralView) where
  abbrev pub Follows : ℕ → ℕ → List Instruction → (old new : List Item) → Type 0
  Follows f at code old new = moves.Follows name_of literals f at code old new

  abbrev pub acts : ℕ → Instruction → ℕ → List Instruction → List Item → Option Acted
  acts f s at ss items = moves.acts name_of literals f s at ss items

  abbrev taken : (above : Bool) → List ℕ → ℕ → List Item → Option Acted
  taken above text n items = with_arguments n no_expressions no_arguments 0 items (sent_low above text)

  send_by : (f : ℕ) (above : Bool) (text : List ℕ) (by : By) (n : ℕ) → IsFound literals above text by → arity text ≡ n → (at : ℕ) (ss : List Instruction) (items : List Item)
      → acts f (send_step above by n) at ss items ≡ taken above text n items
  send_by f true text (Special c) n h e at ss items = absurd h
  send_by f false text (Special c) n h e at ss items =
      ap (λ (b : Bool). if b then makes_block name_of literals (moves.within name_of literals f) (at + 1) ss items else on_some (slice_get special_selectors (c - first_special)) (λ s. sends false s items)) (ne_eqb c (first_special + block_copy) h.other)
      ∙ ap (λ (o : Option (List ℕ)). on_some o (λ s. sends false s items)) h.is
      ∙ ap (λ (m : ℕ). taken false text m items) e
  send_by f true text (SelectorAt k) n h e at ss items =
      ap (λ (o : Option LiteralView). on_some (on_some o symbol_of) (λ s. sends true s items)) h ∙ ap (λ (m : ℕ). taken true text m items) e
  send_by f false text (SelectorAt k) n h e at ss items =
      ap (λ (o : Option LiteralView). on_some (on_some o symbol_of) (λ s. sends false s items)) h ∙ ap (λ (m : ℕ). taken false text m items) e

  -- a message behind its arguments
  abbrev pub one_code : (above : Bool) → Sending → Nodes → List Instruction
  one_code above s ns = nodes_code ns ++ send_step above s.by (count ns) ∷ []

  pub message_follows : (f at : ℕ) (above : Bool) (s : Sending) (ns : Nodes) (old new : List Item) → IsSent literals above s (count ns)
      → Follows f at (nodes_code ns) old (nodes_items name_of ns at old)
      → nodes_high ns 0 ≤ most_high → sent_to above s.selector (nodes_tree name_of ns no_expressions) (nodes_least ns no_arguments) (nodes_high ns 0) old ≡ goes_on new
      → Follows f at (one_code above s ns) old new
  message_follows f at above s ns old new h p low e =
      let end = at + size (nodes_code ns) in
      moves.then_follows name_of literals f at end (nodes_code ns) (send_step above s.by (count ns) ∷ []) old (nodes_items name_of ns at old) new refl p
      (moves.one_follows name_of literals f end (send_step above s.by (count ns)) (nodes_items name_of ns at old) new
      (λ ss. send_by f above s.selector s.by (count ns) h.found h.many end ss (nodes_items name_of ns at old) ∙ nodes_taken name_of ns at old (sent_low above s.selector)
      ∙ ap (λ (b : Bool). if b then sent_to above s.selector (nodes_tree name_of ns no_expressions) (nodes_least ns no_arguments) (nodes_high ns 0) old else None) (low_is (nodes_high ns 0) low) ∙ e))

  -- CASCADES

  -- what receives messages, with these behind others
  abbrev pub with_messages : (above : Bool) → Piece → MessagesView → Messages → Piece
  with_messages above r done ms = record r { tree = views.send (received above r.tree) (messages_tree name_of done ms); least = messages_least r.least ms; height = messages_high r.height ms }

  abbrev pub es_of : Nodes → ExpressionsView
  es_of ns = nodes_tree name_of ns no_expressions

  abbrev pub l_of : Nodes → ℕ
  l_of ns = nodes_least ns no_arguments

  abbrev pub h_of : Nodes → ℕ
  h_of ns = nodes_high ns 0

  twice : (above : Bool) (r : Piece) (done : MessagesView) (s : Sending) (ns : Nodes) (ms : Messages)
      → with_messages above (to_receiver above (l_of ns) (h_of ns) r) (with_message done s.selector (es_of ns)) ms ≡ with_messages above r done (also s ns ms)
  twice true r done s ns ms = refl
  twice false r done s ns ms = refl

  -- a message that isn't the last one, behind the 136
  pub first_follows : (f at : ℕ) (above : Bool) (s : Sending) (ns : Nodes) (ms : Messages) (r : Piece) (done : MessagesView) (items : List Item) → IsSent literals above s (count ns) → nodes_high ns 0 ≤ most_high
      → ((old : List Item) (at1 : ℕ) → Follows f at1 (nodes_code ns) old (nodes_items name_of ns at1 old))
      → ((at1 : ℕ) (q : Piece) (more : MessagesView) → Follows f at1 (messages_code above ms) (cascade q more ∷ items) (piece (with_messages above q more ms) ∷ items))
      → Follows f at (nodes_code ns ++ send_step above s.by (count ns) ∷ Pop ∷ messages_code above ms) (again ∷ cascade r done ∷ items) (piece (with_messages above r done (also s ns ms)) ∷ items)
  first_follows f at above s ns ms r done items h low p q =
      let send = send_step above s.by (count ns) in
      let r' = to_receiver above (l_of ns) (h_of ns) r in
      let more = with_message done s.selector (es_of ns) in
      let at1 = at + size (one_code above s ns) in
      let new = piece (with_messages above r' more ms) ∷ items in
      let whole : Follows f at (one_code above s ns ++ Pop ∷ messages_code above ms) (again ∷ cascade r done ∷ items) new =
      moves.then_follows name_of literals f at at1 (one_code above s ns) (Pop ∷ messages_code above ms) (again ∷ cascade r done ∷ items) (answered ∷ cascade r' more ∷ items) new refl
      (message_follows f at above s ns (again ∷ cascade r done ∷ items) (answered ∷ cascade r' more ∷ items) h (p (again ∷ cascade r done ∷ items) at) low refl)
      (moves.then_follows name_of literals f at1 (at1 + 1) (Pop ∷ []) (messages_code above ms) (answered ∷ cascade r' more ∷ items) (cascade r' more ∷ items) new (omega arith)
      (moves.one_follows name_of literals f at1 Pop (answered ∷ cascade r' more ∷ items) (cascade r' more ∷ items) (λ ss. refl))
      (q (at1 + 1) r' more)) in
      let code : one_code above s ns ++ Pop ∷ messages_code above ms ≡ nodes_code ns ++ send ∷ Pop ∷ messages_code above ms = append_assoc (nodes_code ns) (send ∷ []) (Pop ∷ messages_code above ms) in
      subst (λ (c : List Instruction). Follows f at c (again ∷ cascade r done ∷ items) (piece (with_messages above r done (also s ns ms)) ∷ items)) code
      (subst (λ (x : Piece). Follows f at (one_code above s ns ++ Pop ∷ messages_code above ms) (again ∷ cascade r done ∷ items) (piece x ∷ items)) (twice above r done s ns ms) whole)
