use Rattle.std.proofs.Common.{◌+◌, Some, sym, ap, ◌∙◌}
use Rattle.std.specs.Prelude.{option_map}
use Rattle.st_emit.specs.Names.{temporary}
use Rattle.st_emit.proofs.NamePlaces.{declared_place}
use Rattle.st_emit.proofs.names.declared_in.Goals as goal

pub returns : goal.returns
returns c =
    let frame = c.args.frame in
    (λ t. Some (temporary (c.in_ok-sum.ensures t) frame.assignable))
    ∙ ap (option_map (λ i. temporary (frame.first + i) frame.assignable)) (sym c.in-Some.is ∙ c.name_place.ensures)
    ∙ sym (declared_place c.args.text.now frame.assignable frame.first frame.names.now)

pub returns-in_default : goal.returns-in_default
returns-in_default c =
    let frame = c.args.frame in
    ap (option_map (λ i. temporary (frame.first + i) frame.assignable)) (sym c.in_default.is ∙ c.name_place.ensures) ∙ sym (declared_place c.args.text.now frame.assignable frame.first frame.names.now)
