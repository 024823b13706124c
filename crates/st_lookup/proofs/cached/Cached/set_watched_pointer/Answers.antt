use Rattle.std.proofs.Common.{◌∙◌}
use Rattle.st_lookup.proofs.cached.Cached.set_watched_pointer.Goals as goal

pub invariant_of-self : goal.invariant_of-self
invariant_of-self g c =
    let a = c.args.self.now in
    record {
      size = c.forget.ensures.size ∙ a.size;
      remembered = c.forget.ensures.none (g.M.Memory.view c.set_placed_pointer.new.self).objects;
    }
