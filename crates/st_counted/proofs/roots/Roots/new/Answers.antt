use Rattle.st_counted.proofs.Nothing.{nothing_words}
use Rattle.st_counted.proofs.roots.Roots.new.Goals as goal

pub returns : goal.returns
returns c = nothing_words c.in_ok-pending.pending.items c.in_ok-pending.ensures.len c.in_ok-pending.ensures.nil
