use Rattle.st_parse.proofs.Parsing.{only}
use Rattle.st_parse.proofs.parser.parse.Goals as goal

pub returns-clause-only : goal.returns-clause-only
returns-clause-only c t m = only c.args.text.now c.tree_or_fault.result c.tree_or_fault.ensures.tree c.tree_or_fault.ensures.fault t m
