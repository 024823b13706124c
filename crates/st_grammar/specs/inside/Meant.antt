-- What a method's text means, and its first fault.
use Rattle.std.specs.Prelude.{◌≡◌, ℕ, ◌≤◌, List, Option, Some}
use Rattle.st_scan.specs.declared.token.Token.{Token}
use Rattle.st_scan.specs.declared.fault.Fault.{Fault}
use Rattle.st_scan.specs.declared.fault.SyntaxFault.{SyntaxFault}
use Rattle.st_scan.specs.declared.fault.SyntaxFault.TheVariants.{At, OutOfMemory}
use Rattle.st_scan.specs.TreeFaults.{cause_number}
use Rattle.st_scan.specs.Views.{MethodView}
use Rattle.st_scan.specs.inside.Scanned.{ScansTo, HasTokens}
use Rattle.st_grammar.specs.Leaves.{leaves_of}
use Rattle.st_grammar.specs.Faults.{highest, most, IsMethodOf}
use Rattle.st_grammar.specs.Texts.{words, GrammarFinds, first_fault}

-- A text means a tree: its tokens are those of a method with this tree, with no bracket too many.
pub record Means (text : List ℕ) (tree : MethodView) : Type 0 where
  pub tokens : List Token
  pub scan : HasTokens text tokens
  pub method : IsMethodOf text (leaves_of text tokens) tree
  pub shallow : highest 0 (leaves_of text tokens) ≤ most

-- The first fault of a text: of the scanner's and the grammar's the one that comes first.
pub record HasFirst (text : List ℕ) (fault : Fault) : Type 0 where
  pub tokens : List Token
  pub scanner : Option Fault
  pub grammar : Option Fault
  pub scan : ScansTo text tokens scanner
  pub finds : GrammarFinds text (words text tokens scanner) grammar
  pub is_first : first_fault scanner grammar ≡ Some fault

abbrev pub HasFault : List ℕ → ℕ → ℕ → Type 0
HasFault text place cause = (fault : Fault) × HasFirst text fault × (fault.place ≡ place) × (cause_number fault.cause ≡ cause)

abbrev pub IsFaultOf : List ℕ → SyntaxFault → Type 0
IsFaultOf text (At place cause) = HasFault text place cause
IsFaultOf text OutOfMemory = Unit {0}
