use Rattle.std.proofs.Common.{◌≡◌, ◌+◌, refl, sym, ap, ◌∙◌, subst, length, arith}
use Rattle.st_model.specs.Table.{Table, entry}
use Rattle.st_model.specs.View.{IsWhole}
use Rattle.st_counted.specs.inside.Counts.{number_at}
use Rattle.st_heap.specs.inside.Tables.{objects_of}
use Rattle.st_counted.specs.declared.contents.Contents.{Contents}
use Rattle.st_counted.specs.inside.References.{object_uses, uses, uses_below, IsTallied, IsEntered}
use Rattle.st_counted.specs.inside.Counted.{counted_view, numbers_of}
use Rattle.st_counted.proofs.Tallying.{tally_entered, tally_most, tally_same}
use Rattle.st_counted.proofs.Rooting.{uses_few}
use Rattle.st_counted.proofs.Finishing.{tallied_more, below_all, below_few}
use Rattle.st_counted.proofs.contents.Contents.raise_objects.Goals as goal

pub raise_object-requires-clause-whole : goal.raise_object-requires-clause-whole
raise_object-requires-clause-whole c = subst (λ (m : Contents). IsWhole (counted_view m)) (sym c.loop-k.invariant.rest) c.requires.whole

pub raise_object-requires-clause-entered : goal.raise_object-requires-clause-entered
raise_object-requires-clause-entered c =
    let i = c.loop-k.invariant in
    let t = (counted_view c.args.self.now).objects in
    subst (λ (m : Contents). IsEntered (objects_of m.objects) (numbers_of c.loop-k.self)) (sym i.rest) (tally_entered t (λ j. uses_below j t c.loop-k.k) (numbers_of c.loop-k.self) i.tallied)

pub raise_object-requires-clause-room : goal.raise_object-requires-clause-room
raise_object-requires-clause-room c = λ j.
    let i = c.loop-k.invariant in
    let w = c.requires.whole in
    let t = (counted_view c.args.self.now).objects in
    let a = tally_most t (λ j. uses_below j t c.loop-k.k) (numbers_of c.loop-k.self) j i.tallied in
    let b = below_few j t c.loop-k.k in
    let d = uses_few j t w.formed in
    let e = w.words in
    let f = w.most_words in omega (arith, a, b, d, e, f)

pub loop-k-preserved : goal.loop-k-preserved
loop-k-preserved c =
    let i = c.loop-k.invariant in
    let e = c.raise_object.ensures in
    let cs1 = numbers_of c.raise_object.new.self in
    let same : objects_of c.loop-k.self.objects ≡ (counted_view c.args.self.now).objects = ap (λ (m : Contents). objects_of m.objects) i.rest in
    record {
      tallied = tallied_more (counted_view c.args.self.now).objects c.loop-k.k (numbers_of c.loop-k.self) cs1 i.tallied
          (subst (λ (u : Table). IsTallied u (λ j. object_uses j (entry u c.loop-k.k) + number_at (numbers_of c.loop-k.self) j) cs1) same e.tallied);
      rest = e.rest ∙ ap (λ (m : Contents). record m { counts = c.raise_object.new.self.counts }) i.rest;
    }

pub returns-clause-tallied : goal.returns-clause-tallied
returns-clause-tallied c =
    let i = c.loop-k.invariant in
    let t = (counted_view c.args.self.now).objects in
    let places : length t ≡ 32768 = c.requires.whole.places in
    let end : c.loop-k.k ≡ length t = omega (arith, places) in
    tally_same t (λ j. uses_below j t c.loop-k.k) (λ j. uses j t) (numbers_of c.loop-k.self) i.tallied (λ j. sym (ap (uses_below j t) end ∙ below_all j t))

pub loop-k-init : goal.loop-k-init
loop-k-init c = record { tallied = c.requires.tallied; rest = refl }
