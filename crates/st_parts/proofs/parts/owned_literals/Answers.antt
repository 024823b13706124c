use Rattle.std.proofs.Common.{◌≡◌, List, [], ◌∷◌, refl, sym, ap, ◌∙◌}
use Rattle.std.proofs.lemmas.List.{map-append}
use Rattle.st_emit.specs.declared.literal.Literal.TheVariants.{Owner}
use Rattle.st_emit.specs.Literals.{owner}
use Rattle.st_emit.specs.inside.NameViews.{names_view}
use Rattle.st_emit.specs.inside.Views.{literal_view, literals_view}
use Rattle.st_scope.specs.inside.Meanings.{values}
use Rattle.st_parts.specs.Numbers.{small_number}
use Rattle.st_parts.specs.Parts.{from_end}
use Rattle.st_parts.specs.inside.Places.{place_of}
use Rattle.st_parts.specs.inside.Readings.{literals_if}
use Rattle.st_parts.proofs.Ends.{before-none, before-some, owned-read}
use Rattle.st_parts.proofs.parts.owned_literals.Goals as goal

pub returns-in_default : goal.returns-in_default
returns-in_default g c =
    let v = g.M.Memory.view c.args.m.now in
    owned-read (names_view c.args.names.now) v (place_of c.args.of) (values c.args.vs.now) (sym c.ends_owned.ensures.owned ∙ c.if-not-ends_owned.false) _
    (before-none (names_view c.args.names.now) v (place_of c.args.of) c.args.vs.now 1 (owner ∷ []) _ refl (ap literals_if (sym c.in_default.is) ∙ c.in_ok-list.ensures))

pub returns : goal.returns
returns g c =
    let v = g.M.Memory.view c.args.m.now in
    owned-read (names_view c.args.names.now) v (place_of c.args.of) (values c.args.vs.now) (sym c.ends_owned.ensures.owned ∙ c.if-not-ends_owned.false) _
    (before-some (names_view c.args.names.now) v (place_of c.args.of) c.args.vs.now 1 (owner ∷ []) _ c.in-Some.list c.push.new.self.items refl (ap literals_if (sym c.in-Some.is) ∙ c.in_ok-list.ensures)
    (ap literals_view c.in_ok-push.ensures.items ∙ map-append literal_view c.in-Some.list.items (Owner ∷ [])))
