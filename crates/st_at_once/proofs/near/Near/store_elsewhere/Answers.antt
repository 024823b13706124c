use Rattle.std.proofs.Common.{◌≡◌, ap}
use Rattle.st_model.specs.Values.{word}
use Rattle.st_model.specs.Steps.{store_field}
use Rattle.st_model.specs.Table.{bounded_table}
use Rattle.st_at_once.proofs.InContext.{bounded_store, keeps_sizes, keeps_used}
use Rattle.st_at_once.proofs.Keeping.{near_unless}
use Rattle.st_at_once.proofs.Placed.{placed_kept}
use Rattle.st_at_once.proofs.Uses.{if_err, used_unless}
use Rattle.st_at_once.proofs.near.Near.store_elsewhere.Goals as goal

pub invariant_of-self : goal.invariant_of-self
invariant_of-self g c =
    let a = c.args in
    let done = c.store_live_field in
    let v = g.M.Memory.view a.self.now.memory.now in
    let u = g.M.Memory.view done.new.m in
    record {
      near = near_unless (store_field bounded_table (word a.o) a.i (word a.x)) done.result v u a.self.now.known (keeps_sizes _ (bounded_store (word a.o) a.i (word a.x))) done.ensures.stores
          (if_err done.result (done.new.m ≡ a.self.now.memory.now) (u.objects ≡ v.objects) (ap (λ m. (g.M.Memory.view m).objects)) done.ensures.dead) done.ensures.held a.self.now.near;
      places = placed_kept (g.M.Memory.stands a.self.now.memory.now) (g.M.Memory.stands done.new.m) a.self.now.known done.ensures.places a.self.now.places;
    }

pub returns-clause-used : goal.returns-clause-used
returns-clause-used g c =
    let a = c.args in
    let done = c.store_live_field in
    let v = g.M.Memory.view a.self.now.memory.now in
    let u = g.M.Memory.view done.new.m in
    used_unless (store_field bounded_table (word a.o) a.i (word a.x)) (keeps_used _ (bounded_store (word a.o) a.i (word a.x))) done.result v.objects u.objects v.head done.ensures.stores
    (if_err done.result (done.new.m ≡ a.self.now.memory.now) (u.objects ≡ v.objects) (ap (λ m. (g.M.Memory.view m).objects)) done.ensures.dead)
