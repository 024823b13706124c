use Rattle.st_grammar.proofs.Syntaxes.{is, only}
use Rattle.st_grammar.proofs.laws.one_syntax.Goals as goal

pub returns-clause-is : goal.returns-clause-is
returns-clause-is c text = is text

pub returns-clause-only : goal.returns-clause-only
returns-clause-only c text r h = only text r h
