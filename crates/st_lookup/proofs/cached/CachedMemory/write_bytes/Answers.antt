use Rattle.st_model.specs.Values.{value}
use Rattle.st_lookup.proofs.Staying.{same_units, stays_as}
use Rattle.st_lookup.proofs.cached.CachedMemory.write_bytes.Goals as goal

pub invariant_of-self-clause-remembered : goal.invariant_of-self-clause-remembered
invariant_of-self-clause-remembered g c = c.forget_if.ensures.kept _ _ (stays_as _ (value c.args.o) _ _ _ c.write_bytes.ensures.objects (same_units _ _ (value c.args.o) _)) c.args.self.now.remembered
