use Rattle.std.proofs.Common.{◌≡◌, ◌∙◌, ap, ◌/◌, [], refl, sym, subst, arith}
use Rattle.std.proofs.lemmas.Bool.{eqb-true}
use Rattle.st_model.specs.Table.{Table}
use Rattle.st_model.specs.View.{with_held}
use Rattle.st_counted.specs.inside.Held.{held_of}
use Rattle.st_model.specs.Values.{value, value_of}
use Rattle.st_counted.specs.inside.Contents.{counts_of}
use Rattle.st_counted.specs.inside.References.{all_roots, IsCounted}
use Rattle.st_counted.specs.inside.Counted.{counted_view, numbers_of}
use Rattle.st_counted.proofs.Tallying.{hand_counted, hand_some}
use Rattle.st_counted.proofs.Rooting.{counted_few, held_already}
use Rattle.st_counted.proofs.Storing.{name_counted, held, lowered_to}
use Rattle.st_counted.proofs.contents.Contents.hold.Goals as goal

pub raise-requires-clause-counted : goal.raise-requires-clause-counted
raise-requires-clause-counted c small = name_counted c.args.self.now c.args.o c.requires.counted c.requires.known small

pub raise-requires-clause-room : goal.raise-requires-clause-room
raise-requires-clause-room c =
    let v = counted_view c.args.self.now in
    let a = counted_few v [] (numbers_of c.args.self.now) (c.args.o.0 / 2) c.requires.whole c.requires.counted in omega (arith, a)

-- what the place held is in hand
pub lower-requires : goal.lower-requires
lower-requires c =
    let m = c.args.self.now in
    let w = counted_view (record m { roots = c.hold.new.self }) in
    let cs1 = counts_of c.raise.new.counts in
    let hand = held (counted_view m) w (numbers_of m) cs1 c.args.place (value c.args.o) (value c.held-old.result) c.requires.counted c.requires.known c.requires.place c.requires.whole.pending c.raise.ensures.counts refl c.hold.ensures refl c.held-old.ensures in
    record {
      counted = hand_counted w.objects (all_roots w) [] cs1 c.held-old.result.0 hand;
      some = hand_some w.objects (all_roots w) [] cs1 c.held-old.result.0 hand;
      listed = c.raise.ensures.listed;
    }

pub returns-clause-counted : goal.returns-clause-counted
returns-clause-counted c =
    let m = c.args.self.now in
    let w = counted_view (record m { roots = c.hold.new.self }) in
    let cs1 = counts_of c.raise.new.counts in
    subst (λ (t : Table). IsCounted t (all_roots w) [] (counts_of c.lower.new.counts)) (sym (c.lower.ensures.rest.objects ∙ c.raise.ensures.rest.objects))
    (lowered_to w.objects (all_roots w) [] cs1 (counts_of c.lower.new.counts) (value c.held-old.result) (held (counted_view m) w (numbers_of m) cs1 c.args.place (value c.args.o) (value c.held-old.result) c.requires.counted c.requires.known c.requires.place c.requires.whole.pending c.raise.ensures.counts refl c.hold.ensures refl c.held-old.ensures) c.lower.ensures.counts)

-- what is held already stays
pub returns-then-eq-clause-held : goal.returns-then-eq-clause-held
returns-then-eq-clause-held c =
    let h = held_of c.args.self.now.roots in
    let same : value c.held-old.result ≡ value c.args.o = ap value_of (eqb-true c.held-old.result.0 c.args.o.0 (sym c.eq.ensures ∙ c.if-eq.true)) in
    sym (ap (with_held h c.args.place) (sym same ∙ c.held-old.ensures) ∙ held_already h c.args.place)

pub returns-clause-objects : goal.returns-clause-objects
returns-clause-objects c = c.lower.ensures.rest.objects ∙ c.raise.ensures.rest.objects

pub returns-clause-room : goal.returns-clause-room
returns-clause-room c = λ h. c.lower.ensures.rest.room ∙ c.raise.ensures.rest.room ∙ h

pub returns-clause-places : goal.returns-clause-places
returns-clause-places c = λ k. c.lower.ensures.rest.places k ∙ c.raise.ensures.rest.places k
