use Rattle.std.proofs.Common.{◌≡◌, ◌-◌, ◌∙◌}
use Rattle.st_model.specs.declared.demand.Demand.{Demand}
use Rattle.st_model.specs.Machine.{less, capacity_of, used}
use Rattle.st_model.specs.Table.{bounded_table}
use Rattle.st_memory.proofs.Sizes.{frees}
use Rattle.st_memory.proofs.live.AnyObjects.free.Goals as goal

pub returns : goal.returns
returns g c =
    let v = g.M.Memory.view c.args.self.now in
    let r : Demand = record { entries = c.saturating_sub.result; words = c.saturating_sub-2.result } in
    let entries = c.saturating_sub.ensures ∙ (λ i. (c.capacity-capacity.ensures i).entries - (c.used-used.ensures i).entries) in
    let words = c.saturating_sub-2.ensures ∙ (λ i. (c.capacity-capacity.ensures i).words - (c.used-used.ensures i).words) in
    let is : r ≡ less (capacity_of v.head) (used bounded_table v.objects) = (λ i. record { entries = entries i; words = words i }) in
    frees bounded_table v.objects v.head r is
