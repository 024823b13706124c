use Rattle.st_grammar.proofs.Faulty.{fault_determined, tree_or_fault}
use Rattle.st_grammar.proofs.laws.one_fault.Goals as goal

pub returns-clause-one : goal.returns-clause-one
returns-clause-one c text place other cause reason x y = fault_determined text place other cause reason x y

pub returns-clause-none : goal.returns-clause-none
returns-clause-none c text t m place cause h = tree_or_fault text t place cause m h
