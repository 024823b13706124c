use Rattle.st_meaning.proofs.Sources.{method_means, blocks_mean}
use Rattle.st_meaning.proofs.laws.code_means.Goals as goal

pub returns-clause-method : goal.returns-clause-method
returns-clause-method c = method_means

pub returns-clause-blocks : goal.returns-clause-blocks
returns-clause-blocks c = blocks_mean
