use Rattle.st_grammar.proofs.FormedTrees.{means_formed}
use Rattle.st_grammar.proofs.laws.formed_tree.Goals as goal

pub returns : goal.returns
returns c = means_formed
