-- What holds of the selectors of the forms with one side.
use Rattle.std.proofs.Common.{ℕ, Bool, true, false, List, Option, Some, None}
use Rattle.std.specs.Prelude.{codes}
use Rattle.st_emit.specs.declared.instruction.Constant.{Constant}
use Rattle.st_emit.specs.declared.instruction.Constant.TheVariants.{True, False, Nil}
use Rattle.st_expression_stack.specs.Choosing.{one_sided_by}

abbrev pub IfNamed : (List ℕ → Type 0) → Option (List ℕ) → Type 0
IfNamed P None = Unit {0}
IfNamed P (Some s) = P s

pub each_side : (P : List ℕ → Type 0) → P (codes "ifTrue:") → P (codes "ifFalse:") → P (codes "and:") → P (codes "or:") → (on : Bool) (k : Option Constant) → IfNamed P (one_sided_by on k)
each_side P a b c d false (Some Nil) = a
each_side P a b c d true (Some Nil) = b
each_side P a b c d false (Some False) = c
each_side P a b c d true (Some True) = d
each_side P a b c d on k = tt
