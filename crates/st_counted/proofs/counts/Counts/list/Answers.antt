use Rattle.std.proofs.Common.{◌/◌, ap, sym, ◌∙◌, subst, is_some}
use Rattle.st_model.specs.declared.oop.Oop.{Oop}
use Rattle.st_model.specs.Table.{entry}
use Rattle.st_heap.specs.inside.Tables.{objects_of}
use Rattle.st_counted.specs.inside.Links.{Holds, with_member}
use Rattle.st_counted.proofs.Listing.{half_of}
use Rattle.st_counted.proofs.counts.Counts.list.Goals as goal

pub link-self-requires-clause-stored : goal.link-self-requires-clause-stored
link-self-requires-clause-stored c = ap (λ j. is_some (entry (objects_of c.args.objects.now) j)) (half_of c.pointer_of.result.0 c.args.k c.pointer_of.ensures) ∙ c.requires.stored

pub returns-clause-holds : goal.returns-clause-holds
returns-clause-holds c = λ p h out.
    let o = c.pointer_of.result in
    let s = c.link-self.new.objects.store in
    let half = half_of o.0 c.args.k c.pointer_of.ensures in
    subst (λ (v : Oop). Holds s (v.0 / 2) (with_member c.args.k p)) (sym c.link-self.ensures.head)
    (subst (λ j. Holds s (o.0 / 2) (with_member j p)) half (c.link-self.ensures.holds p h (ap p half ∙ out)))
