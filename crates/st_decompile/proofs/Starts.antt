-- Where the code of what is on top starts.
use Rattle.std.proofs.Common.{◌≡◌, ℕ, List, Option, Some, None, ◌∙◌}
use Rattle.st_expression_stack.specs.declared.item.Item.{Item as KeptItem}
use Rattle.st_expression_stack.specs.Items.{Item, Piece, Acted, on_piece}
use Rattle.st_decompile.specs.inside.Read.{IsPieceStart, IsBlockStart}

pub start_none : (old mid new : List KeptItem) → IsPieceStart old mid None → IsBlockStart old new None
start_none old mid new h = λ f. h (λ n below. on_piece below f)

pub start_twice : (old mid new : List KeptItem) (first : ℕ) (at : Option ℕ) → IsPieceStart old mid (Some first) → IsPieceStart mid new at → IsBlockStart old new at
start_twice old mid new first None h k = λ f. h (λ n below. on_piece below f) ∙ k f
start_twice old mid new first (Some at) h k = λ f. h (λ n below. on_piece below (λ x rest. f x.start rest)) ∙ k f
