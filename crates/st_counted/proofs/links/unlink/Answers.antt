use Rattle.std.proofs.Common.{◌≡◌, ◌/◌, Bool, true, false, cond, refl, sym, ap, ◌∙◌, subst}
use Rattle.std.specs.Prelude.{◌==◌}
use Rattle.std.proofs.Math.Logic.{∥∥₁_map}
use Rattle.st_model.specs.declared.oop.Oop.{Oop}
use Rattle.st_heap.specs.inside.Links.{next_of, before_of}
use Rattle.st_counted.specs.inside.Links.{Listed, IsEnd, without_member}
use Rattle.st_counted.proofs.Linked.{unlinked}
use Rattle.st_counted.proofs.Listing.{same_end}
use Rattle.st_counted.proofs.Placed.{same_then}
use Rattle.st_counted.proofs.links.unlink.Goals as goal

pub precede-requires : goal.precede-requires
precede-requires c = subst (λ k. IsEnd c.args.objects.now k) (sym c.next-next.ensures) c.requires.next

pub follow-requires : goal.follow-requires
follow-requires c = same_end c.args.objects.now c.precede.new.objects (c.before-before.result.0 / 2) c.precede.ensures.rest.objects (subst (λ k. IsEnd c.args.objects.now k) (sym c.before-before.ensures) c.requires.before)

place_cond : (t : Bool) (a b : Oop) → (cond t a b).0 / 2 ≡ cond t (a.0 / 2) (b.0 / 2)
place_cond true a b = refl
place_cond false a b = refl

pub returns-clause-holds : goal.returns-clause-holds
returns-clause-holds c = λ p h is_in.
    let s = c.args.objects.now.store in
    let t = c.precede.new.objects.store in
    let u = c.follow.new.objects.store in
    let k = c.args.o.0 / 2 in
    let n = c.next-next.result.0 / 2 in
    let b = c.before-before.result.0 / 2 in
    let en : n ≡ next_of s k = c.next-next.ensures in
    let eb : b ≡ before_of s k = c.before-before.ensures in
    let e = c.precede.ensures in
    let f = c.follow.ensures in
    let head : c.follow.result.0 / 2 ≡ cond (before_of s k == 0) (next_of s k) (c.args.first.0 / 2) =
    ap (λ (o : Oop). o.0 / 2) f.head ∙ place_cond (b == 0) c.next-next.result c.args.first ∙ ap (λ m. cond (m == 0) n (c.args.first.0 / 2)) eb ∙ ap (λ m. cond (before_of s k == 0) m (c.args.first.0 / 2)) en in
    ∥∥₁_map h (λ h. subst (λ a. Listed u a (without_member k p)) (sym head)
    (unlinked s u (c.args.first.0 / 2) k p h is_in
    (λ z ne. f.others z (λ q. ne (q ∙ eb)) ∙ e.next z)
    (λ ne. ap (next_of u) (sym eb) ∙ f.here (λ q. ne (sym eb ∙ q)) ∙ en)
    (λ z ne. f.before z ∙ e.others z (λ q. ne (q ∙ en)))
    (λ ne. f.before (next_of s k) ∙ ap (before_of t) (sym en) ∙ e.here (λ q. ne (sym en ∙ q)) ∙ eb)))

pub returns-clause-rest : goal.returns-clause-rest
returns-clause-rest c = same_then _ _ _ c.precede.ensures.rest c.follow.ensures.rest
