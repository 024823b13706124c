use Rattle.std.proofs.Common.{sym, ap, ◌∙◌, subst}
use Rattle.st_chunk.specs.Groups.{trimmed}
use Rattle.st_chunk.specs.Reading.{Reading}
use Rattle.st_chunk.specs.Scripts.{IsDefined}
use Rattle.st_chunk.proofs.Held.{good, lent}
use Rattle.st_chunk.proofs.reader.Reader.definition.Goals as goal

pub returns-clause-good : goal.returns-clause-good
returns-clause-good c =
    let p = c.self.inside.progress in
    let there = subst (λ (r : Reading). IsDefined r.place) (sym c.self.view_is) c.requires in
    good p.mode p _ there c.self.invariant.1 (lent p c.as_slice-text.result.now c.trimmed.result.now c.as_slice-text.ensures (c.trimmed.ensures ∙ ap trimmed c.text.ensures))
