use Rattle.st_frames.proofs.answering.+pop_words.Given as goal

abbrev pub decreases-pop_words : goal.decreases-pop_words
decreases-pop_words g l = l.n
