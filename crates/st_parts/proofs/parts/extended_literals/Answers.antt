use Rattle.std.proofs.Common.{◌≡◌, ◌+◌, ◌-◌, length, List, [], ◌∷◌, refl, sym, ap, ◌∙◌, arith}
use Rattle.std.proofs.lemmas.List.{map-append}
use Rattle.st_emit.specs.declared.literal.Literal.TheVariants.{Owner}
use Rattle.st_emit.specs.Literals.{owner}
use Rattle.st_emit.specs.inside.NameViews.{names_view}
use Rattle.st_emit.specs.inside.Views.{literal_view, literals_view}
use Rattle.st_scope.specs.inside.Meanings.{values}
use Rattle.st_parts.specs.Numbers.{small_number}
use Rattle.st_parts.specs.Parts.{from_end}
use Rattle.st_parts.specs.inside.Places.{place_of}
use Rattle.st_parts.specs.inside.Readings.{literals_if}
use Rattle.st_parts.proofs.Ends.{before-none, before-some, extended-read, end_is, two_more}
use Rattle.st_parts.proofs.parts.extended_literals.Goals as goal

pub returns-in_default : goal.returns-in_default
returns-in_default g c =
    let v = g.M.Memory.view c.args.m.now in
    extended-read (names_view c.args.names.now) v (place_of c.args.of) (values c.args.vs.now) (sym c.ends_extended.ensures.extended ∙ c.if-not-ends_extended.false) _
    (before-none (names_view c.args.names.now) v (place_of c.args.of) c.args.vs.now 2 (small_number (from_end 2 (values c.args.vs.now)) ∷ owner ∷ []) _ refl (ap literals_if (sym c.in_default.is) ∙ c.in_ok-list.ensures))

pub returns : goal.returns
returns g c =
    let v = g.M.Memory.view c.args.m.now in
    let many = c.ends_extended.ensures.some c.if-not-ends_extended.false in
    let number = c.small_number.ensures ∙ ap small_number (sym (end_is c.args.vs.now 2 (length c.args.vs.now - 2) _ (omega (arith, many)) (omega arith))) in
    extended-read (names_view c.args.names.now) v (place_of c.args.of) (values c.args.vs.now) (sym c.ends_extended.ensures.extended ∙ c.if-not-ends_extended.false) _
    (before-some (names_view c.args.names.now) v (place_of c.args.of) c.args.vs.now 2 (small_number (from_end 2 (values c.args.vs.now)) ∷ owner ∷ []) _ c.in-Some.list c.push-2.new.self.items refl
    (ap literals_if (sym c.in-Some.is) ∙ c.in_ok-list.ensures)
    (two_more c.in-Some.list.items c.push.new.self.items c.push-2.new.self.items c.small_number.result _ c.in_ok-push.ensures.items c.in_ok-push-2.ensures.items number))
