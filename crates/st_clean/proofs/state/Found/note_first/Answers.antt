use Rattle.std.proofs.Common.{◌++◌, subst}
use Rattle.st_model.specs.Machine.{table_root}
use Rattle.st_clean.specs.inside.Found.{Notes, page_names}
use Rattle.st_clean.proofs.Steps.{notes_join}
use Rattle.st_clean.proofs.state.Found.note_first.Goals as goal

pub returns : goal.returns
returns g c =
    let v = g.M.Memory.view c.args.m.now in
    let one = subst (λ t. Notes (table_root t) c.note_page.new.self c.note_table.new.self) c.globals.ensures c.in_ok-note_table.ensures in
    let two = subst (λ t. Notes (table_root t) c.note_table.new.self c.note_table-2.new.self) c.symbols.ensures c.in_ok-note_table-2.ensures in
    let tables = notes_join (table_root v.head.globals) (table_root v.head.symbols) _ _ _ one two in
    notes_join page_names (table_root v.head.globals ++ table_root v.head.symbols) c.args.self.now c.note_page.new.self c.note_table-2.new.self c.in_ok-note_page.ensures tables
