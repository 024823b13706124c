use Rattle.std.proofs.Common.{List, refl, sym, ap, ◌∙◌}
use Rattle.std.proofs.lemmas.List.{length-map}
use Rattle.st_emit.specs.declared.instruction.Instruction.{Instruction}
use Rattle.st_emit.specs.declared.level.Level.{Level}
use Rattle.st_emit.specs.inside.Views.{literal_view, literals_view}
use Rattle.st_emit.proofs.LiteralPlaces.{views_more, new_place}
use Rattle.st_emit.proofs.draft.Draft.named.Goals as goal

pub returns : goal.returns
returns c =
    let old = c.args.self.now.literals.items in
    let new = new_place (literals_view old) (literal_view c.args.literal) (sym c.in_ok-place.ensures ∙ c.in_default.is) in
    record {
      part = c.len-place.ensures ∙ sym (length-map old literal_view) ∙ new.0;
      literals = ap literals_view c.in_ok-put.ensures ∙ views_more old c.args.literal ∙ new.1;
      steps = refl {A = List Instruction};
      level = refl {A = Level};
    }
