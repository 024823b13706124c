use Rattle.std.proofs.Common.{sym, subst}
use Rattle.st_model.specs.Values.{value}
use Rattle.st_model.specs.Table.{Table}
use Rattle.st_lookup.specs.inside.Remembered.{AllRemembered}
use Rattle.st_lookup.proofs.Staying.{same_stored, all_same}
use Rattle.st_lookup.proofs.cached.CachedMemory.set_placed_pointer.Goals as goal

-- an object that isn't watched
pub invariant_of-self : goal.invariant_of-self
invariant_of-self g c =
    let a = c.args.self.now in
    let t = (g.M.Memory.view a.memory).objects in
    let bits = a.watch.words.items in
    let es = a.entries.items in
    record {
      size = a.size;
      remembered = subst (λ (y : Table). AllRemembered bits y es) (sym c.set_placed_pointer.ensures.objects)
          (all_same bits t _ es (same_stored bits t (value c.args.o) c.args.at (value c.args.v) (c.has.ensures.off c.if-has.false)) a.remembered);
    }
