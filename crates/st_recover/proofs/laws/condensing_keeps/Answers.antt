use Rattle.st_recover.proofs.Condensing.{reopens_alike, same_last, same_nowhere, one_condensed}
use Rattle.st_recover.proofs.laws.condensing_keeps.Goals as goal

pub returns-clause-opens : goal.returns-clause-opens
returns-clause-opens k install c d r is opens = reopens_alike c d is install r opens

pub returns-clause-last : goal.returns-clause-last
returns-clause-last k c d class meta selector text is last = same_last c d is class meta selector text last

pub returns-clause-nowhere : goal.returns-clause-nowhere
returns-clause-nowhere k c d class meta selector is none = same_nowhere c d is class meta selector none

pub returns-clause-one : goal.returns-clause-one
returns-clause-one k = one_condensed
