use Rattle.std.proofs.Common.{sym, subst, ◌∙◌}
use Rattle.st_model.specs.Values.{value}
use Rattle.st_model.specs.Table.{Table, first_free}
use Rattle.st_lookup.specs.inside.Remembered.{SameWatched}
use Rattle.st_lookup.proofs.Staying.{same_placed, off_name}
use Rattle.st_lookup.proofs.cached.CachedMemory.make.Goals as goal

pub invariant_of-self : goal.invariant_of-self
invariant_of-self g c =
    let a = c.args.self.now in
    let t = (g.M.Memory.view a.memory).objects in
    let m = c.make-made in
    let u = (g.M.Memory.view m.new.self).objects in
    record {
      size = c.forget_if.ensures.size ∙ a.size;
      remembered = c.forget_if.ensures.kept t u
          (λ off. subst (λ (y : Table). SameWatched a.watch.words.items t y) (sym m.ensures.objects)
          (same_placed a.watch.words.items t _ (off_name a.watch.words.items (value m.result) (first_free t) m.ensures.pointer off)))
          a.remembered;
    }
