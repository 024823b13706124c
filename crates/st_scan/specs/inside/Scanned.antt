-- What the scanner answers: the tokens of a text, up to its end or its first fault.
use Rattle.std.specs.Prelude.{◌≡◌, ℕ, ◌+◌, List, [], ◌++◌, length, Option, Some, None}
use Rattle.st_scan.specs.declared.token.Token.{Token}
use Rattle.st_scan.specs.declared.fault.Fault.{Fault}
use Rattle.st_scan.specs.declared.fault.SyntaxFault.{SyntaxFault}
use Rattle.st_scan.specs.declared.fault.SyntaxFault.TheVariants.{At, OutOfMemory}
use Rattle.st_scan.specs.TreeFaults.{cause_number}
use Rattle.st_scan.specs.Pieces.{Piece}
use Rattle.st_scan.specs.inside.Faults.{IsFaulty}
use Rattle.st_scan.specs.Scans.{Context, start, signs, after_all, joined, AllStand, tokens_from}

-- behind pieces of so many bytes the text ends, or it has its first fault
abbrev pub EndsBy : Context → ℕ → List ℕ → Option Fault → Type 0
EndsBy c at rest None = rest ≡ []
EndsBy c at rest (Some fault) = (fault.place ≡ at + 1) × IsFaulty (signs c) fault.cause rest

-- the text up to its end, or up to its first fault, has these tokens
pub record ScansTo (text : List ℕ) (tokens : List Token) (fault : Option Fault) : Type 0 where
  pub pieces : List Piece
  pub rest : List ℕ
  pub parts : joined pieces ++ rest ≡ text
  pub stand : AllStand start pieces rest
  pub are_tokens : tokens_from 0 pieces ≡ tokens
  pub ends : EndsBy (after_all start pieces) (length (joined pieces)) rest fault

-- some tokens, up to the end or a fault
pub record HasScan (text : List ℕ) : Type 0 where
  pub tokens : List Token
  pub fault : Option Fault
  pub scan : ScansTo text tokens fault

-- the text has no fault, and these tokens
abbrev pub HasTokens : List ℕ → List Token → Type 0
HasTokens text tokens = ScansTo text tokens None

-- the scanner's first fault in the text, by place and number
abbrev pub HasFault : List ℕ → ℕ → ℕ → Type 0
HasFault text place cause = (tokens : List Token) × (fault : Fault) × ScansTo text tokens (Some fault) × (fault.place ≡ place) × (cause_number fault.cause ≡ cause)

abbrev pub IsFaultOf : List ℕ → SyntaxFault → Type 0
IsFaultOf text (At place cause) = HasFault text place cause
IsFaultOf text OutOfMemory = Unit {0}
