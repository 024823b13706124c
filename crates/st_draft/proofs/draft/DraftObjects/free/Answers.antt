use Rattle.std.proofs.Common.{◌≡◌, ◌-◌, ◌∙◌, ap, arith}
use Rattle.st_model.specs.declared.demand.Demand.{Demand}
use Rattle.st_model.specs.Machine.{less, capacity_of, used}
use Rattle.st_model.specs.Table.{bounded_table, apart}
use Rattle.st_draft.specs.inside.Noted.{drafted}
use Rattle.st_memory.proofs.Sizes.{frees, freed}
use Rattle.st_draft.proofs.draft.DraftObjects.free.Goals as goal

pub returns : goal.returns
returns g c =
    let d = c.args.self.now in
    let v = g.M.Memory.view d.base.now in
    let now = drafted v.objects d.notes d.exchanges in
    let base = freed bounded_table v.objects v.head c.free-free.result c.free-free.ensures in
    let r : Demand = record { entries = c.saturating_sub.result; words = c.saturating_sub-2.result } in
    let made = c.demand-made.ensures in
    let made_entries = made.entries in
    let made_words = made.words in
    let base_entries = ap (λ (x : Demand). x.entries) base in
    let base_words = ap (λ (x : Demand). x.words) base in
    let left_entries : c.free-free.result.entries - c.demand-made.result.entries ≡ (less (capacity_of v.head) (used apart now)).entries = omega (arith, made_entries, base_entries) in
    let left_words : c.free-free.result.words - c.demand-made.result.words ≡ (less (capacity_of v.head) (used apart now)).words = omega (arith, made_words, base_words) in
    let entries = c.saturating_sub.ensures ∙ left_entries in
    let words = c.saturating_sub-2.ensures ∙ left_words in
    let is : r ≡ less (capacity_of v.head) (used apart now) = (λ i. record { entries = entries i; words = words i }) in
    frees apart now v.head r is
