use Rattle.st_model.specs.Values.{value}
use Rattle.st_lookup.proofs.Staying.{same_unit, stays_as}
use Rattle.st_lookup.proofs.cached.CachedMemory.set_word.Goals as goal

pub invariant_of-self-clause-remembered : goal.invariant_of-self-clause-remembered
invariant_of-self-clause-remembered g c = c.forget_if.ensures.kept _ _ (stays_as _ (value c.args.o) _ _ _ c.set_word.ensures.objects (same_unit _ _ (value c.args.o) c.args.at c.args.v)) c.args.self.now.remembered
