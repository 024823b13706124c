-- What is on top when a message is sent, when it is doubled and when it is popped, and what is then.
use Rattle.std.proofs.Common.{◌≡◌, true, List, [], ◌∷◌, ◌++◌, None, refl, sym, ap, ◌∙◌}
use Rattle.std.specs.Global.{Vec}
use Rattle.st_scan.specs.declared.tree.Message.{Message}
use Rattle.st_scan.specs.Views.{MessagesView, send, expression_view, expressions_view, messages_view, with_message}
use Rattle.st_scan.proofs.Views.{messages_view-push}
use Rattle.st_emit.specs.declared.form.Lookup.{Lookup}
use Rattle.st_emit.specs.Nodes.{is_above}
use Rattle.st_expression_stack.specs.declared.item.Piece.{Piece as Kept}
use Rattle.st_expression_stack.specs.declared.item.Item.{Item as KeptItem}
use Rattle.st_expression_stack.specs.declared.item.Item.TheVariants as kept
use Rattle.st_expression_stack.specs.declared.sending.Received.{Received}
use Rattle.st_expression_stack.specs.Items.{Piece, Item, piece, cascade, again, answered, goes_on}
use Rattle.st_expression_stack.specs.Messages.{to_receiver, sent, doubled, popped}
use Rattle.st_expression_stack.specs.inside.Stacks.{piece_view, item_view, stack_view, acted_if}
use Rattle.st_expression_stack.specs.inside.Sent.{sent_by, finished_by}
use Rattle.st_expression_stack.proofs.Stacking.{stack_more}

-- an item on top
pub on_top : (xs : List KeptItem) (x y : KeptItem) → x ≡ y → stack_view (xs ++ x ∷ []) ≡ item_view y ∷ stack_view xs
on_top xs x y e = stack_more [] xs x ∙ ap (λ (z : KeptItem). item_view z ∷ stack_view xs) e

pub two_on_top : (xs : List KeptItem) (x y : KeptItem) → stack_view ((xs ++ x ∷ []) ++ y ∷ []) ≡ item_view y ∷ item_view x ∷ stack_view xs
two_on_top xs x y = stack_more [] (xs ++ x ∷ []) y ∙ ap (λ (l : List Item). item_view y ∷ l) (stack_more [] xs x)

-- POPPED

pub popped_answered : (xs : List KeptItem) (x : KeptItem) → x ≡ kept.Answered → stack_view xs ≡ popped (stack_view (xs ++ x ∷ []))
popped_answered xs x e = sym (ap popped (on_top xs x kept.Answered e))

popped_same : (x : KeptItem) (ys : List Item) → (x ≡ kept.Answered → ⊥) → popped (item_view x ∷ ys) ≡ item_view x ∷ ys
popped_same (kept.Piece p) ys n = refl
popped_same (kept.Cascade p ms) ys n = refl
popped_same kept.Again ys n = refl
popped_same kept.Answered ys n = absurd (n refl)
popped_same (kept.Argument p) ys n = refl
popped_same (kept.Over d) ys n = refl
popped_same (kept.Back d) ys n = refl

pub popped_kept : (xs : List KeptItem) (x : KeptItem) → (x ≡ kept.Answered → ⊥) → stack_view (xs ++ x ∷ []) ≡ popped (stack_view (xs ++ x ∷ []))
popped_kept xs x n = stack_more [] xs x ∙ sym (popped_same x (stack_view xs) n) ∙ sym (ap popped (stack_more [] xs x))

-- DOUBLED

pub doubled_piece : (xs new : List KeptItem) (x : KeptItem) (r : Kept) (ms : Vec Message) → x ≡ kept.Piece r → ms.items ≡ [] → new ≡ (xs ++ kept.Cascade r ms ∷ []) ++ kept.Again ∷ []
    → acted_if true new ≡ doubled (stack_view (xs ++ x ∷ []))
doubled_piece xs new x r ms e none n =
    ap (λ (l : List KeptItem). goes_on (stack_view l)) n
    ∙ ap goes_on (two_on_top xs (kept.Cascade r ms) kept.Again ∙ ap (λ (l : List Message). again ∷ cascade (piece_view r) (messages_view l) ∷ stack_view xs) none)
    ∙ sym (ap doubled (on_top xs x (kept.Piece r) e))

pub doubled_cascade : (xs new : List KeptItem) (x : KeptItem) (r : Kept) (ms : Vec Message) → x ≡ kept.Cascade r ms → new ≡ (xs ++ kept.Cascade r ms ∷ []) ++ kept.Again ∷ []
    → acted_if true new ≡ doubled (stack_view (xs ++ x ∷ []))
doubled_cascade xs new x r ms e n =
    ap (λ (l : List KeptItem). goes_on (stack_view l)) n
    ∙ ap goes_on (two_on_top xs (kept.Cascade r ms) kept.Again)
    ∙ sym (ap doubled (on_top xs x (kept.Cascade r ms) e))

not_doubled : (x : KeptItem) (ys : List Item) → ((r : Kept) → x ≡ kept.Piece r → ⊥) → ((r : Kept) (ms : Vec Message) → x ≡ kept.Cascade r ms → ⊥) → doubled (item_view x ∷ ys) ≡ None
not_doubled (kept.Piece p) ys n m = absurd (n p refl)
not_doubled (kept.Cascade p ms) ys n m = absurd (m p ms refl)
not_doubled kept.Again ys n m = refl
not_doubled kept.Answered ys n m = refl
not_doubled (kept.Argument p) ys n m = refl
not_doubled (kept.Over d) ys n m = refl
not_doubled (kept.Back d) ys n m = refl

pub doubled_none : (xs : List KeptItem) (x : KeptItem) → ((r : Kept) → x ≡ kept.Piece r → ⊥) → ((r : Kept) (ms : Vec Message) → x ≡ kept.Cascade r ms → ⊥) → None ≡ doubled (stack_view (xs ++ x ∷ []))
doubled_none xs x n m = sym (ap doubled (stack_more [] xs x) ∙ not_doubled x (stack_view xs) n m)

-- SENT

module _ (lookup : Lookup) (m : Received) where
  -- one more message of a cascade
  abbrev pub more : MessagesView → MessagesView
  more ms = with_message ms m.message.selector.items (expressions_view m.message.arguments.items)

  pub one_more : (ms new : List Message) → new ≡ ms ++ m.message ∷ [] → messages_view new ≡ more (messages_view ms)
  one_more ms new e = ap messages_view e ∙ messages_view-push ms m.message

  pub sent_on_piece : (xs new : List KeptItem) (top y : KeptItem) (r : Kept) (ms : Vec Message) → top ≡ kept.Piece r → ms.items ≡ [] → item_view y ≡ finished_by lookup r ms m → new ≡ xs ++ y ∷ []
      → acted_if true new ≡ sent_by lookup m (stack_view (xs ++ top ∷ []))
  sent_on_piece xs new top y r ms e none f n =
      ap (λ (l : List KeptItem). goes_on (stack_view l)) n
      ∙ ap goes_on (stack_more [] xs y ∙ ap (λ (i : Item). i ∷ stack_view xs) (f ∙ ap (λ (l : List Message). piece (sent (is_above lookup) (piece_view r) (more (messages_view l)) m.least m.height)) none))
      ∙ sym (ap (sent_by lookup m) (on_top xs top (kept.Piece r) e))

  pub sent_on_cascade : (xs new : List KeptItem) (top y : KeptItem) (r : Kept) (ms : Vec Message) → top ≡ kept.Cascade r ms → item_view y ≡ finished_by lookup r ms m → new ≡ xs ++ y ∷ []
      → acted_if true new ≡ sent_by lookup m (stack_view (xs ++ top ∷ []))
  sent_on_cascade xs new top y r ms e f n =
      ap (λ (l : List KeptItem). goes_on (stack_view l)) n
      ∙ ap goes_on (stack_more [] xs y ∙ ap (λ (i : Item). i ∷ stack_view xs) f)
      ∙ sym (ap (sent_by lookup m) (on_top xs top (kept.Cascade r ms) e))

  not_sent : (x : KeptItem) (ys : List Item) → ((r : Kept) → x ≡ kept.Piece r → ⊥) → ((r : Kept) (ms : Vec Message) → x ≡ kept.Cascade r ms → ⊥) → (x ≡ kept.Again → ⊥) → sent_by lookup m (item_view x ∷ ys) ≡ None
  not_sent (kept.Piece p) ys n c a = absurd (n p refl)
  not_sent (kept.Cascade p ms) ys n c a = absurd (c p ms refl)
  not_sent kept.Again ys n c a = absurd (a refl)
  not_sent kept.Answered ys n c a = refl
  not_sent (kept.Argument p) ys n c a = refl
  not_sent (kept.Over d) ys n c a = refl
  not_sent (kept.Back d) ys n c a = refl

  pub sent_none : (xs : List KeptItem) (x : KeptItem) → ((r : Kept) → x ≡ kept.Piece r → ⊥) → ((r : Kept) (ms : Vec Message) → x ≡ kept.Cascade r ms → ⊥) → (x ≡ kept.Again → ⊥) → None ≡ sent_by lookup m (stack_view (xs ++ x ∷ []))
  sent_none xs x n c a = sym (ap (sent_by lookup m) (stack_more [] xs x) ∙ not_sent x (stack_view xs) n c a)

  -- a message of a cascade that isn't the last one
  pub cascade_more : (xs new : List KeptItem) (below : KeptItem) (r r' : Kept) (ms ms' : Vec Message) → below ≡ kept.Cascade r ms → piece_view r' ≡ to_receiver (is_above lookup) m.least m.height (piece_view r)
      → ms'.items ≡ ms.items ++ m.message ∷ [] → new ≡ (xs ++ kept.Cascade r' ms' ∷ []) ++ kept.Answered ∷ [] → acted_if true new ≡ sent_by lookup m (again ∷ stack_view (xs ++ below ∷ []))
  cascade_more xs new below r r' ms ms' e t p n =
      ap (λ (l : List KeptItem). goes_on (stack_view l)) n
      ∙ ap goes_on (two_on_top xs (kept.Cascade r' ms') kept.Answered
      ∙ ap (λ (q : Piece). answered ∷ cascade q (messages_view ms'.items) ∷ stack_view xs) t
      ∙ ap (λ (v : MessagesView). answered ∷ cascade (to_receiver (is_above lookup) m.least m.height (piece_view r)) v ∷ stack_view xs) (one_more ms.items ms'.items p))
      ∙ sym (ap (λ (l : List Item). sent_by lookup m (again ∷ l)) (on_top xs below (kept.Cascade r ms) e))

  not_cascade : (x : KeptItem) (ys : List Item) → ((r : Kept) (ms : Vec Message) → x ≡ kept.Cascade r ms → ⊥) → sent_by lookup m (again ∷ item_view x ∷ ys) ≡ None
  not_cascade (kept.Piece p) ys c = refl
  not_cascade (kept.Cascade p ms) ys c = absurd (c p ms refl)
  not_cascade kept.Again ys c = refl
  not_cascade kept.Answered ys c = refl
  not_cascade (kept.Argument p) ys c = refl
  not_cascade (kept.Over d) ys c = refl
  not_cascade (kept.Back d) ys c = refl

  pub cascade_none : (xs : List KeptItem) (x : KeptItem) → ((r : Kept) (ms : Vec Message) → x ≡ kept.Cascade r ms → ⊥) → None ≡ sent_by lookup m (again ∷ stack_view (xs ++ x ∷ []))
  cascade_none xs x c = sym (ap (λ (l : List Item). sent_by lookup m (again ∷ l)) (stack_more [] xs x) ∙ not_cascade x (stack_view xs) c)

  -- a message to a piece: the messages so far, and this one
  pub finished_is : (r r' x : Kept) (ms ms' : Vec Message) → piece_view r' ≡ to_receiver (is_above lookup) m.least m.height (piece_view r) → ms'.items ≡ ms.items ++ m.message ∷ []
      → piece_view x ≡ record (piece_view r') { tree = send (expression_view r'.tree) (messages_view ms'.items) } → piece (piece_view x) ≡ finished_by lookup r ms m
  finished_is r r' x ms ms' t p s =
      ap piece s
      ∙ ap (λ (v : MessagesView). piece (record (piece_view r') { tree = send (expression_view r'.tree) v })) (one_more ms.items ms'.items p)
      ∙ ap (λ (q : Piece). piece (record q { tree = send q.tree (more (messages_view ms.items)) })) t
