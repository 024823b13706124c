use Rattle.st_model.specs.Values.{value}
use Rattle.st_lookup.proofs.Staying.{same_stored, stays_as}
use Rattle.st_lookup.proofs.cached.CachedMemory.set_pointer.Goals as goal

pub invariant_of-self-clause-remembered : goal.invariant_of-self-clause-remembered
invariant_of-self-clause-remembered g c = c.forget_if.ensures.kept _ _ (stays_as _ (value c.args.o) _ _ _ c.set_pointer.ensures.objects (same_stored _ _ (value c.args.o) c.args.at (value c.args.v))) c.args.self.now.remembered
