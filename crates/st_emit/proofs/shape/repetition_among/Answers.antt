use Rattle.st_scan.specs.Views.{expression_view}
use Rattle.st_emit.proofs.Shapes.{repetition_of-many}
use Rattle.st_emit.proofs.shape.repetition_among.Goals as goal

pub returns-in-len2-up-clause-repetition : goal.returns-in-len2-up-clause-repetition
returns-in-len2-up-clause-repetition c = repetition_of-many c.args.messages.now (expression_view c.args.start.now) c.in-len2-up.len_at_least
