use Rattle.std.proofs.Common.{refl, ap, ◌∙◌}
use Rattle.st_model.specs.Values.{value, word}
use Rattle.st_model.specs.Machine.{used}
use Rattle.st_model.specs.Table.{table}
use Rattle.st_at_once.proofs.Keeping.{near_stored}
use Rattle.st_at_once.proofs.Placed.{placed_kept}
use Rattle.st_at_once.proofs.Direct.{store_absent}
use Rattle.st_at_once.proofs.Uses.{stored_used}
use Rattle.st_at_once.proofs.near.Near.store_near.Goals as goal

pub invariant_of-self : goal.invariant_of-self
invariant_of-self g c =
    let a = c.args in
    let near = a.self.now in
    record {
      near = near_stored (g.M.Memory.view near.memory.now) (g.M.Memory.view c.set_placed_pointer.new.self) near.known
          (value a.object.object) a.i (value c.in-Some.value) c.set_placed_pointer.ensures.objects c.set_placed_pointer.ensures.held near.near;
      places = placed_kept (g.M.Memory.stands near.memory.now) (g.M.Memory.stands c.set_placed_pointer.new.self) near.known c.set_placed_pointer.ensures.places near.places;
    }

pub returns-in-Some-clause-used : goal.returns-in-Some-clause-used
returns-in-Some-clause-used g c =
    let v = g.M.Memory.view c.args.self.now.memory.now in
    ap (used table) c.set_placed_pointer.ensures.objects ∙ stored_used v.objects (value c.args.object.object) c.args.i (value c.in-Some.value) c.requires.has.live

pub returns-in-None-clause-stores : goal.returns-in-None-clause-stores
returns-in-None-clause-stores g c =
    let a = c.args in
    λ s over head.
    store_absent (g.M.Memory.view a.self.now.memory.now).objects (value a.object.object) (value a.object.object) a.i (word a.x) refl c.requires.has c.in-None.ensures.gone s over
