use Rattle.st_frames.proofs.numbers.+number_read.Given as goal

abbrev pub decreases-number_read : goal.decreases-number_read
decreases-number_read g l = l.n
