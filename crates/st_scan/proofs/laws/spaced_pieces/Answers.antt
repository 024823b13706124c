use Rattle.st_scan.proofs.Formed.{before_blank, before_end}
use Rattle.st_scan.proofs.laws.spaced_pieces.Goals as goal

pub returns-clause-blank : goal.returns-clause-blank
returns-clause-blank c signs p rest f = before_blank signs p rest f

pub returns-clause-end : goal.returns-clause-end
returns-clause-end c signs p f = before_end signs p f
