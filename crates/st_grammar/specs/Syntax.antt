-- The syntax of a method's text: its tree, or its first fault. A text has exactly one of the two.
use Rattle.std.specs.Prelude.{ℕ, zero, suc, ◌+◌, ◌-◌, List, [], ◌∷◌, length, drop, Option, Some, None, Result, Ok, Err, if◌then◌else◌}
use Rattle.st_scan.specs.declared.fault.Fault.{Fault}
use Rattle.st_scan.specs.Views.{MethodView}
use Rattle.st_scan.specs.Pieces.{Piece, spelling}
use Rattle.st_scan.specs.Fronts.{Found, piece, fault, front_of}
use Rattle.st_scan.specs.Scans.{Context, start, signs, after, tokens_from}
use Rattle.st_grammar.specs.declared.leaf.Leaf.{Leaf}
use Rattle.st_grammar.specs.Faults.{most}
use Rattle.st_grammar.specs.Reading.{Stop, whole_at}
use Rattle.st_grammar.specs.Texts.{words, place_at, is_before}

-- PIECES

-- the pieces of a text one after the other, up to its end or its first fault
pub record Scan : Type 0 where
  pub pieces : List Piece
  pub fault : Option Fault

-- nothing more
abbrev pub scanned : Scan
scanned = record { pieces = []; fault = None }

-- what stands at a place, and what follows it
abbrev pub with_found : ℕ → Found → (Piece → Scan) → Scan
with_found at (fault cause) next = record { pieces = []; fault = Some (record { place = at + 1; cause = cause }) }
with_found at (piece p) next = record { pieces = p ∷ (next p).pieces; fault = (next p).fault }

-- from a place on, so many pieces and no more
abbrev pub scan_from : ℕ → Context → (place : ℕ) → List ℕ → Scan
scan_from n c at [] = scanned
scan_from zero c at (b ∷ text) = scanned
scan_from (suc n) c at (b ∷ text) =
    with_found at (front_of (signs c) (b ∷ text)) (λ p. scan_from n (after c p) (at + length (spelling p)) (drop (length (spelling p)) (b ∷ text)))

-- a piece has a byte or more
abbrev pub scan_of : List ℕ → Scan
scan_of text = scan_from (length text) start 0 text

-- TREES

-- the place of a fault of the grammar
abbrev pub stopped : List ℕ → List Leaf → Stop → Fault
stopped text ts s = record { place = place_at text (drop (length ts - s.left) ts); cause = s.cause }

-- the tree, or of the scanner's fault and the grammar's the first
abbrev pub tree_or_first : List ℕ → List Leaf → Option Fault → Result MethodView Stop → Result MethodView Fault
tree_or_first text ts None (Ok tree) = Ok tree
tree_or_first text ts None (Err s) = Err (stopped text ts s)
tree_or_first text ts (Some f) (Ok tree) = Err f
tree_or_first text ts (Some f) (Err s) = Err (if is_before (stopped text ts s) f then stopped text ts s else f)

abbrev pub words_of : List ℕ → Scan → List Leaf
words_of text s = words text (tokens_from 0 s.pieces) s.fault

abbrev pub syntax_by : List ℕ → Scan → Result MethodView Fault
syntax_by text s = tree_or_first text (words_of text s) s.fault (whole_at text most (words_of text s))

-- the tree of a text, or its first fault
unfoldable pub syntax : List ℕ → Result MethodView Fault
syntax text = syntax_by text (scan_of text)
