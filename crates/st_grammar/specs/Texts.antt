-- What the grammar sees of a text, its fault there, and which fault of a text is the first.
use Rattle.std.specs.Prelude.{◌≡◌, ℕ, ◌+◌, ◌-◌, ◌≤◌, Bool, true, false, ◌&&◌, ◌||◌, ◌==◌, nat_lt, if◌then◌else◌, List, [], ◌∷◌, ◌++◌, length, drop, Option, Some, None, Result, Ok, Err}
use Rattle.st_scan.specs.declared.token.Token.{Token}
use Rattle.st_scan.specs.declared.token.Sort.TheVariants as sorts
use Rattle.st_scan.specs.declared.fault.Fault.{Fault}
use Rattle.st_scan.specs.declared.fault.Cause.{Cause}
use Rattle.st_scan.specs.declared.fault.Cause.TheVariants as causes
use Rattle.st_scan.specs.declared.fault.SyntaxFault.{SyntaxFault}
use Rattle.st_scan.specs.declared.fault.SyntaxFault.TheVariants.{At, OutOfMemory}
use Rattle.st_scan.specs.TreeFaults.{cause_number}
use Rattle.st_scan.specs.declared.tree.MethodTree.{MethodTree}
use Rattle.st_scan.specs.Views.{MethodView, method_view}
use Rattle.st_grammar.specs.declared.leaf.Leaf.{Leaf}
use Rattle.st_grammar.specs.declared.leaf.Kind.TheVariants.{Number}
use Rattle.st_grammar.specs.Leaves.{leaves_of}
use Rattle.st_grammar.specs.Faults.{highest, most, IsMethod, FaultAt}

-- The scanner's fault is that of a number.
abbrev pub is_number_fault : Cause → Bool
is_number_fault causes.Number = true
is_number_fault causes.Float = true
is_number_fault _ = false

-- a number with a fault, from a place on
abbrev pub bad_number : ℕ → Leaf
bad_number place = record { kind = Number; token = record { start = place - 1; end = place - 1; sort = sorts.Bytes }; place = place }

-- What the grammar sees of a text: its tokens up to the scanner's first fault, and the number there, if it is one.
abbrev pub words : List ℕ → List Token → Option Fault → List Leaf
words text tokens None = leaves_of text tokens
words text tokens (Some fault) = if is_number_fault fault.cause then leaves_of text tokens ++ bad_number fault.place ∷ [] else leaves_of text tokens

-- the place of the first leaf; at the end of a text one past it
abbrev pub place_at : List ℕ → List Leaf → ℕ
place_at text [] = length text + 1
place_at text (x ∷ ts) = x.place

-- The grammar's fault of leaves, or none: then they are a method, with no bracket too many.
abbrev pub GrammarFinds : List ℕ → List Leaf → Option Fault → Type 0
GrammarFinds text ts None = IsMethod text ts × (highest 0 ts ≤ most)
GrammarFinds text ts (Some fault) = (left : ℕ) × FaultAt text ts fault.cause left × (fault.place ≡ place_at text (drop (length ts - left) ts))

-- the first fault is the one at the less place, and at one place the one with the less number
abbrev pub is_before : Fault → Fault → Bool
is_before f g = nat_lt f.place g.place || (f.place == g.place && nat_lt (cause_number f.cause) (cause_number g.cause))

abbrev pub first_fault : Option Fault → Option Fault → Option Fault
first_fault None g = g
first_fault (Some f) None = Some f
first_fault (Some f) (Some g) = if is_before g f then Some g else Some f

-- the result is this tree, unless memory ran out
abbrev pub IsOnly : MethodView → Result MethodTree SyntaxFault → Type 0
IsOnly t (Ok u) = method_view u ≡ t
IsOnly t (Err (At place cause)) = ⊥
IsOnly t (Err OutOfMemory) = Unit {0}
