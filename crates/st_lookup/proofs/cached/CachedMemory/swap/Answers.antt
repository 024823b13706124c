use Rattle.std.proofs.Common.{sym, subst, ◌∙◌, refl}
use Rattle.st_model.specs.Values.{value}
use Rattle.st_model.specs.Table.{Table}
use Rattle.st_lookup.specs.inside.Remembered.{AllRemembered}
use Rattle.st_lookup.proofs.Staying.{same_exchanged, all_same}
use Rattle.st_lookup.proofs.cached.CachedMemory.swap.Goals as goal

pub invariant_of-self : goal.invariant_of-self
invariant_of-self g c =
    let a = c.args.self.now in
    let t = (g.M.Memory.view a.memory).objects in
    let u = (g.M.Memory.view c.swap.new.self).objects in
    let f = c.forget_if in
    let h = c.forget_if-2 in
    let bits = h.new.watch.words.items in
    let es = h.new.entries.items in
    let both = h.ensures.kept t t (λ off k e. refl) (f.ensures.kept t t (λ off k e. refl) a.remembered) in
    record {
      size = h.ensures.size ∙ (f.ensures.size ∙ a.size);
      remembered = subst (λ (y : Table). AllRemembered bits y es) (sym c.swap.ensures.objects)
          (all_same bits t _ es (same_exchanged bits t (value c.args.a) (value c.args.b) (h.ensures.fewer (value c.args.a) f.ensures.off) h.ensures.off) both);
    }
