use Rattle.st_lookup.proofs.Staying.{all_settled}
use Rattle.st_lookup.proofs.cached.CachedMemory.settle.Goals as goal

pub invariant_of-self : goal.invariant_of-self
invariant_of-self g c =
    let a = c.args.self.now in
    record { size = a.size; remembered = all_settled (g.M.Memory.view a.memory) (g.M.Memory.view c.settle.new.self) (g.met.M.Memory.whole a.memory) c.settle.ensures.settles a.watch.words.items a.entries.items a.remembered }
