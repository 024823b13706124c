use Rattle.std.proofs.Common.{◌≡◌, true, is_some, sym, ◌∙◌}
use Rattle.st_model.specs.Values.{value}
use Rattle.st_plain.specs.inside.Lists.{entry_of}
use Rattle.st_plain.proofs.Slots.{is_live-listed, placed_entry}
use Rattle.st_plain.proofs.objects.Objects.live_entry.Goals as goal

pub unwrap-requires : goal.unwrap-requires
unwrap-requires c =
    let o = c.args.self.now in
    let there : is_some (entry_of o.entries.items (value c.args.o)) ≡ true = sym (is_live-listed o.pointers.items o.units.items o.entries.items (value c.args.o)) ∙ c.requires in
    rw c.entry.ensures there

pub returns-clause-placed : goal.returns-clause-placed
returns-clause-placed c =
    let o = c.args.self.now in
    placed_entry o.next_field o.next_unit o.entries.items (value c.args.o) c.unwrap.result o.laid_out.placed (sym c.entry.ensures ∙ c.unwrap.ensures)
