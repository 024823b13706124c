use Rattle.st_call.proofs.Pushing.{pushed_says, pushed_part}
use Rattle.st_call.proofs.last_line.say_last_line.Goals as goal

pub returns-in_err-push_last_line-clause-says : goal.returns-in_err-push_last_line-clause-says
returns-in_err-push_last_line-clause-says g c = pushed_part c.new-out.ensures c.in_err-push_last_line.ensures

pub returns-clause-says : goal.returns-clause-says
returns-clause-says g c = pushed_says c.new-out.ensures c.in_ok-push_last_line.ensures c.finish.ensures.says
