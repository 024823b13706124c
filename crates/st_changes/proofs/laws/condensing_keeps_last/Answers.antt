use Rattle.st_changes.proofs.KeptLast.{condensed_alike}
use Rattle.st_changes.proofs.laws.condensing_keeps_last.Goals as goal

pub returns-clause-last : goal.returns-clause-last
returns-clause-last k = λ ds base z c m s t l. (condensed_alike ds base z).last c m s t l

pub returns-clause-nowhere : goal.returns-clause-nowhere
returns-clause-nowhere k = λ ds base z c m s none. (condensed_alike ds base z).nowhere c m s none
