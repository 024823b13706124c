-- Too few or too many arguments or messages for a form.
use Rattle.std.proofs.Common.{◌≡◌, Bool, true, false, ℕ, ◌<◌, ◌≤◌, List, [], ◌∷◌, length, None, refl, arith}
use Rattle.st_scan.specs.declared.tree.Expression.{Expression}
use Rattle.st_scan.specs.declared.tree.Message.{Message}
use Rattle.st_scan.specs.Views.{ExpressionView, expressions_view, messages_view}
use Rattle.st_scan.specs.inside.Chains.{sent}
use Rattle.st_emit.specs.declared.form.OneSided.{OneSided}
use Rattle.st_emit.specs.declared.form.TwoSided.{TwoSided}
use Rattle.st_emit.specs.inside.Shapes.{plain, one_sided_shape, two_sided_shape, repetition_with, repetition_of, IsCascade}

pub one_sided-many : (side : OneSided) (es : List Expression) → 2 ≤ length es → plain ≡ one_sided_shape side (expressions_view es)
one_sided-many side [] h = refl
one_sided-many side (e ∷ []) h = absurd (omega arith)
one_sided-many side (e ∷ f ∷ es) h = refl

pub two_sided-few : (side : TwoSided) (es : List Expression) → length es < 2 → plain ≡ two_sided_shape side (expressions_view es)
two_sided-few side [] h = refl
two_sided-few side (e ∷ []) h = refl
two_sided-few side (e ∷ f ∷ es) h = absurd (omega arith)

pub two_sided-many : (side : TwoSided) (es : List Expression) → 3 ≤ length es → plain ≡ two_sided_shape side (expressions_view es)
two_sided-many side [] h = refl
two_sided-many side (e ∷ []) h = refl
two_sided-many side (e ∷ f ∷ []) h = absurd (omega arith)
two_sided-many side (e ∷ f ∷ g ∷ es) h = refl

pub repetition_with-many : (selector : List ℕ) (es : List Expression) (e : ExpressionView) → 2 ≤ length es → None ≡ repetition_with selector (expressions_view es) e
repetition_with-many selector [] e h = refl
repetition_with-many selector (x ∷ []) e h = absurd (omega arith)
repetition_with-many selector (x ∷ y ∷ es) e h = refl

pub repetition_of-many : (ms : List Message) (e : ExpressionView) → 2 ≤ length ms → None ≡ repetition_of e (sent (messages_view ms))
repetition_of-many [] e h = refl
repetition_of-many (x ∷ []) e h = absurd (omega arith)
repetition_of-many (x ∷ y ∷ ms) e h = refl

pub cascade_many : (above : Bool) (ms : List Message) → 2 ≤ length ms → IsCascade above (messages_view ms)
cascade_many true ms h = tt
cascade_many false [] h = tt
cascade_many false (x ∷ []) h = absurd (omega arith)
cascade_many false (x ∷ y ∷ ms) h = tt
