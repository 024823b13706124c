use Rattle.st_bitblt.proofs.Parts.{not_same}
use Rattle.st_bitblt.proofs.row.begins_before.Goals as goal

pub returns-then-object-ends : goal.returns-then-object-ends
returns-then-object-ends c = (λ t. cc, λ h. absurd (not_same _ _ _ _ c.in-Words.is c.if-object-ends.true h.0))
