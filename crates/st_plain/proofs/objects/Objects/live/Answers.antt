use Rattle.std.proofs.Common.{ap, sym, ◌∙◌, is_some}
use Rattle.st_model.specs.Values.{value}
use Rattle.st_plain.proofs.Slots.{is_live-listed}
use Rattle.st_plain.proofs.objects.Objects.live.Goals as goal

pub returns : goal.returns
returns c =
    let o = c.args.self.now in
    c.is_some.ensures ∙ ap is_some c.entry.ensures ∙ sym (is_live-listed o.pointers.items o.units.items o.entries.items (value c.args.o))
