use Rattle.st_grammar.proofs.Faulty.{tree_determined}
use Rattle.st_grammar.proofs.laws.one_tree.Goals as goal

pub returns : goal.returns
returns c = tree_determined
