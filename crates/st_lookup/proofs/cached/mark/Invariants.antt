use Rattle.st_lookup.specs.inside.Remembered.{Grows}
use Rattle.st_lookup.proofs.cached.mark.Given as goal

abbrev pub invariant-loop : goal.invariant-loop
invariant-loop g l = Grows l.fn.watch.words.items l.watch.words.items
