use Rattle.st_frames.proofs.Putting.{put-above, put-uncounted}
use Rattle.st_frames.proofs.stack.fault_above.Goals as goal

pub returns-in-Ok : goal.returns-in-Ok
returns-in-Ok g c = λ at x above s over. put-above _ s _ at x _ above (c.in-Ok.ensures.counts s over)

pub returns-in-Err : goal.returns-in-Err
returns-in-Err g c = λ at x above s over. put-uncounted _ s _ at x _ (c.in-Err.ensures.counts s over)
