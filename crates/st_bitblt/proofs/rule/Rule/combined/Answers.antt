use Rattle.std.proofs.Common.{sym}
use Rattle.st_bitblt.proofs.Bits.{combined_bit}
use Rattle.st_bitblt.proofs.rule.Rule.combined.Goals as goal

pub returns : goal.returns
returns c = λ j h. combined_bit _ _ _ _ _ _ _ j h (sym c.self.view_is) c.self.invariant.0 c.self.invariant.1 c.self.invariant.2 c.self.invariant.3
