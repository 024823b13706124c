use Rattle.std.proofs.Common.{◌/◌, ◌<◌, sym, ◌∙◌, arith}
use Rattle.std.proofs.Math.Logic.{∥∥₁_map}
use Rattle.st_counted.proofs.Linked.{linked}
use Rattle.st_counted.proofs.Listing.{some_place}
use Rattle.st_counted.proofs.links.link.Goals as goal

pub returns-clause-holds : goal.returns-clause-holds
returns-clause-holds c = λ p h out.
    let o = c.args.objects.now in
    let k = c.args.o.0 / 2 in
    let first = c.args.first.0 / 2 in
    let within : k < 32768 = omega arith in
    let e = c.set_next.ensures.links in
    let f = c.set_before.ensures.links in
    let g = c.precede.ensures in
    ∥∥₁_map h (λ h. linked o.store c.precede.new.objects.store first k p h out (some_place o k c.requires.stored) within
    (g.next k ∙ f.next k ∙ e.here)
    (λ z ne. g.next z ∙ f.next z ∙ e.others z ne)
    (λ ne. g.others k (λ q. ne (sym q)) ∙ f.here)
    (λ z ne other. g.others z other ∙ f.others z ne ∙ e.before z)
    g.here)

pub returns-clause-rest : goal.returns-clause-rest
returns-clause-rest c = record {
  objects = c.precede.ensures.rest.objects ∙ c.set_before.ensures.objects ∙ c.set_next.ensures.objects;
  room = c.precede.ensures.rest.room ∙ c.set_before.ensures.room ∙ c.set_next.ensures.room;
  places = λ k. c.precede.ensures.rest.places k ∙ c.set_before.ensures.places k ∙ c.set_next.ensures.places k;
}
