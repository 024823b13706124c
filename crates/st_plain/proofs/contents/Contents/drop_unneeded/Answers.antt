use Rattle.std.proofs.Common.{ap, ◌∙◌}
use Rattle.st_model.specs.Table.{settled_table}
use Rattle.st_model.specs.Settled.{is_marked}
use Rattle.st_model.proofs.Rounds.{settled_same}
use Rattle.st_plain.specs.declared.contents.Contents.{Contents}
use Rattle.st_plain.specs.inside.ListsPlain.{objects_of}
use Rattle.st_plain.specs.inside.Plain.{plain_view, is_needed}
use Rattle.st_plain.proofs.Referring.{entry_within}
use Rattle.st_plain.proofs.contents.Contents.drop_unneeded.Goals as goal

pub returns-clause-objects : goal.returns-clause-objects
returns-clause-objects c =
    let o = c.args.self.now.objects in
    let marked = is_marked c.mark_needed.new.self.marks.names.items in
    c.keep_marked.ensures.objects
    ∙ ap (λ (m : Contents). settled_table (objects_of m.objects) marked) c.mark_needed.ensures.rest
    ∙ settled_same (objects_of o) marked (is_needed (plain_view c.args.self.now)) (λ k b h.
    c.mark_needed.ensures.marked k (entry_within o.pointers.items o.units.items o.entries.items o.table_end k b o.laid_out.empty h))
