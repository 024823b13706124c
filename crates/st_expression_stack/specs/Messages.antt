-- Messages as they are read.
use Rattle.std.specs.Prelude.{ℕ, zero, suc, min, max, Bool, List, [], ◌∷◌, Option, None, if◌then◌else◌}
use Rattle.st_scan.specs.Views.{MessagesView, ExpressionsView, expression, no_expressions, no_messages, with_message}
use Rattle.st_scan.specs.Views as views
use Rattle.st_emit.specs.Selectors.{arity}
use Rattle.st_expression_stack.specs.Items.{Piece, Item, piece, cascade, again, answered, no_arguments, is_low, Acted, goes_on}
use Rattle.st_expression_stack.specs.Choosing.{received, one_message}

-- a receiver of messages, with one more message, whose arguments have this least number and this height
abbrev pub to_receiver : (above : Bool) → (l h : ℕ) → Piece → Piece
to_receiver above l h p = record p { tree = received above p.tree; least = min p.least l; height = max p.height h }

abbrev pub sent : (above : Bool) → Piece → MessagesView → (l h : ℕ) → Piece
sent above r ms l h = record r { tree = views.send (received above r.tree) ms; least = min r.least l; height = max r.height h }

abbrev pub sent_to : (above : Bool) → List ℕ → ExpressionsView → (l h : ℕ) → List Item → Option Acted
sent_to above s es l h (piece r ∷ items) = goes_on (piece (sent above r (one_message s es) l h) ∷ items)
sent_to above s es l h (cascade r ms ∷ items) = goes_on (piece (sent above r (with_message ms s es) l h) ∷ items)
sent_to above s es l h (again ∷ cascade r ms ∷ items) = goes_on (answered ∷ cascade (to_receiver above l h r) (with_message ms s es) ∷ items)
sent_to above s es l h items = None

-- if a text may have such arguments
abbrev pub sent_low : (above : Bool) → List ℕ → ExpressionsView → (l h : ℕ) → List Item → Option Acted
sent_low above s es l h items = if is_low h then sent_to above s es l h items else None

-- the last n pieces as arguments, before others
abbrev pub with_arguments : ℕ → ExpressionsView → (l h : ℕ) → List Item → (ExpressionsView → (l h : ℕ) → List Item → Option Acted) → Option Acted
with_arguments zero es l h items f = f es l h items
with_arguments (suc n) es l h (piece p ∷ items) f = with_arguments n (expression p.tree es) (min p.least l) (max (suc p.height) h) items f
with_arguments (suc n) es l h items f = None

abbrev pub sends : (above : Bool) → List ℕ → List Item → Option Acted
sends above s items = with_arguments (arity s) no_expressions no_arguments 0 items (sent_low above s)

-- the top once more, as the receiver of a cascade
abbrev pub doubled : List Item → Option Acted
doubled (piece p ∷ items) = goes_on (again ∷ cascade p no_messages ∷ items)
doubled (cascade p ms ∷ items) = goes_on (again ∷ cascade p ms ∷ items)
doubled items = None

-- a value that isn't used stays as a statement
abbrev pub popped : List Item → List Item
popped (answered ∷ items) = items
popped items = items
