use Rattle.std.proofs.Common.{◌*◌, List, Option, refl, subst}
use Rattle.st_table.specs.declared.entry.Entry.{Entry}
use Rattle.st_table.specs.inside.Entries.{IsLeastFree}
use Rattle.st_table.proofs.Keeping.{least_pointer}
use Rattle.st_table.proofs.table.Table.least_free.Goals as goal

pub returns-clause-least : goal.returns-clause-least
returns-clause-least c =
    subst (λ (es : List (Option Entry)). IsLeastFree es (record { 0 = 2 * c.in_ok-k.k })) c.self.view_is
    (least_pointer _ _ c.in_ok-k.k _ c.self.invariant c.in_ok-k.ensures.least c.in_ok-k.ensures.within refl)
