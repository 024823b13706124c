use Rattle.std.proofs.Common.{◌∙◌, sym}
use Rattle.st_install.proofs.Stores.{raised, stays_most}
use Rattle.st_install.proofs.storing.raised_tally.Goals as goal

pub returns-then-tally-eq32767 : goal.returns-then-tally-eq32767
returns-then-tally-eq32767 c = stays_most c.args.tally.0 c.if-tally-eq32767.true

pub returns : goal.returns
returns c = raised c.args.tally.0 (sym c.is_small.ensures ∙ c.if-not-is_small.false) c.if-tally-eq32767.false
