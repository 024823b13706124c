use Rattle.std.proofs.Common.{sym, subst}
use Rattle.st_model.specs.Table.{Table}
use Rattle.st_lookup.specs.inside.Remembered.{AllRemembered}
use Rattle.st_lookup.proofs.cached.CachedMemory.hold.Goals as goal

pub invariant_of-self : goal.invariant_of-self
invariant_of-self g c =
    let a = c.args.self.now in
    record { size = a.size; remembered = subst (λ (t : Table). AllRemembered a.watch.words.items t a.entries.items) (sym c.hold.ensures.objects) a.remembered }
