use Rattle.st_call.proofs.Pushing.{pushed_says, pushed_part}
use Rattle.st_browse.proofs.saying.say_sought.Goals as goal

pub returns-in_err-push_sought-clause-says : goal.returns-in_err-push_sought-clause-says
returns-in_err-push_sought-clause-says g c = pushed_part c.new-out.ensures c.in_err-push_sought.ensures

pub returns-clause-says : goal.returns-clause-says
returns-clause-says g c = pushed_says c.new-out.ensures c.in_ok-push_sought.ensures c.finish.ensures.says
