use Rattle.std.proofs.Common.{◌/◌, List, Option, Some, subst, sym, arith}
use Rattle.st_table.specs.declared.entry.Entry.{Entry}
use Rattle.st_table.specs.inside.Entries.{IsFree}
use Rattle.st_table.proofs.Keeping.{mapped_set}
use Rattle.st_table.proofs.table.Table.take_entry.Goals as goal

pub invariant_of-self : goal.invariant_of-self
invariant_of-self c =
    let free : IsFree c.self.inside.entries.items c.args.o = subst (λ (es : List (Option Entry)). IsFree es c.args.o) (sym c.self.view_is) c.requires in
    let first = free.first in
    mapped_set _ _ c.self.inside.entries.items (c.args.o.0 / 2) (Some c.args.e) c.self.invariant (omega (arith, first)) free.last c.take.ensures.taken c.take.ensures.others
