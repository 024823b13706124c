use Rattle.st_bitblt.proofs.Stretches.{Combining}
use Rattle.st_bitblt.proofs.stretch.combine_shifted.Given as goal

abbrev pub invariant-loop-j : goal.invariant-loop-j
invariant-loop-j l = record { combined : Combining l.rule l.tone l.source l.skip l.fn.dest l.dest l.j }
