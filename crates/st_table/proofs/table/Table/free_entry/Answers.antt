use Rattle.std.proofs.Common.{◌/◌, List, Option, None, subst, sym}
use Rattle.st_table.specs.declared.entry.Entry.{Entry}
use Rattle.st_table.specs.inside.Entries.{HasEntry}
use Rattle.st_table.proofs.Keeping.{mapped_set, entered_within}
use Rattle.st_table.proofs.table.Table.free_entry.Goals as goal

pub invariant_of-self : goal.invariant_of-self
invariant_of-self c =
    let has : HasEntry c.self.inside.entries.items c.args.o = subst (λ (es : List (Option Entry)). HasEntry es c.args.o) (sym c.self.view_is) c.requires in
    let within = entered_within _ _ c.args.o c.self.invariant has in
    mapped_set _ _ c.self.inside.entries.items (c.args.o.0 / 2) None c.self.invariant within.0 within.1 c.free.ensures.free c.free.ensures.others
