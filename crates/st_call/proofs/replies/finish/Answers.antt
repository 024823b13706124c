use Rattle.st_call.proofs.Saying.{tells_all, tells_part}
use Rattle.st_call.proofs.replies.finish.Goals as goal

pub returns-in-Ok : goal.returns-in-Ok
returns-in-Ok g c = tells_all g.H.Host c.args.out _ _ c.in-Ok.ensures.all c.in-Ok.ensures.says

pub returns-in-Err : goal.returns-in-Err
returns-in-Err g c = tells_part g.H.Host c.args.out _ _ _ c.in-Err.ensures.says c.in-Err.ensures.cause
