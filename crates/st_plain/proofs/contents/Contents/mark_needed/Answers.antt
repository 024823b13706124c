use Rattle.std.proofs.Common.{ap, ◌∙◌}
use Rattle.st_model.specs.Machine.{table_root}
use Rattle.st_model.specs.Settled.{or, any_names}
use Rattle.st_plain.specs.inside.Held.{names_held}
use Rattle.st_plain.specs.inside.Marked.{is_of_page}
use Rattle.st_plain.specs.inside.ListsPlain.{is_referred}
use Rattle.st_plain.specs.inside.Plain.{plain_view}
use Rattle.st_plain.proofs.Marking.{or_false}
use Rattle.st_plain.proofs.Needing.{needed_parts}
use Rattle.st_plain.proofs.contents.Contents.mark_needed.Goals as goal

pub returns-clause-marked : goal.returns-clause-marked
returns-clause-marked c = λ n below.
    let v = plain_view c.args.self.now in
    let globals = any_names (table_root v.head.globals) n in
    let symbols = any_names (table_root v.head.symbols) n in
    c.mark_references.ensures n
    ∙ ap (or (is_referred v.objects n)) (c.mark_roots.ensures n
    ∙ ap (or (names_held v.held n)) (c.mark_table-2.ensures n
    ∙ ap (or symbols) (c.mark_table.ensures n
    ∙ ap (or globals) (c.mark_page.ensures n ∙ ap (or (is_of_page n)) (c.clear.ensures.cleared n below) ∙ or_false (is_of_page n)))))
    ∙ needed_parts v n
