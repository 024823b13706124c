use Rattle.std.proofs.Common.{◌≡◌, inl, inr, refl, sym, ap, ◌∙◌, subst, cond, is_some, length, arith}
use Rattle.std.specs.Prelude.{Option, Some, None}
use Rattle.std.proofs.lemmas.Bool.{cases_lt}
use Rattle.st_model.specs.Objects.{Object}
use Rattle.st_model.specs.Table.{entry}
use Rattle.st_model.specs.View.{IsWhole}
use Rattle.st_model.proofs.TableLemmas.{entry_past}
use Rattle.st_heap.specs.inside.Tables.{objects_of}
use Rattle.st_counted.specs.declared.contents.Contents.{Contents}
use Rattle.st_counted.specs.inside.Counted.{counted_view, numbers_of}
use Rattle.st_counted.proofs.Finishing.{entered_more}
use Rattle.st_counted.proofs.contents.Contents.enter_all.Goals as goal

pub enter_object-requires-clause-whole : goal.enter_object-requires-clause-whole
enter_object-requires-clause-whole c = subst (λ (m : Contents). IsWhole (counted_view m)) (sym c.loop-k.invariant.rest) c.requires.whole

pub enter_object-requires-clause-none : goal.enter_object-requires-clause-none
enter_object-requires-clause-none c = c.loop-k.invariant.above c.loop-k.k (omega arith)

pub loop-k-preserved : goal.loop-k-preserved
loop-k-preserved c =
    let i = c.loop-k.invariant in
    let e = c.enter_object.ensures in
    let k = c.loop-k.k in
    let t = (counted_view c.args.self.now).objects in
    let cs1 = numbers_of c.enter_object.new.self in
    let here = e.here ∙ ap (λ (m : Contents). cond (is_some (entry (objects_of m.objects) k)) (Some 0) None) i.rest in
    record {
      below = λ j l. entered_more t (numbers_of c.loop-k.self) cs1 k j l here e.others i.below;
      above = λ j l. e.others j (λ q. absurd (omega (arith, l, q))) ∙ i.above j (omega (arith, l));
      rest = e.rest ∙ ap (λ (m : Contents). record m { counts = c.enter_object.new.self.counts }) i.rest;
    }

pub returns-clause-tallied : goal.returns-clause-tallied
returns-clause-tallied c = λ j.
    let i = c.loop-k.invariant in
    let t = (counted_view c.args.self.now).objects in
    let places : length t ≡ 32768 = c.requires.whole.places in
    elim (cases_lt j c.loop-k.k) [
      | inl l ↦ i.below j l
      | inr l ↦ i.above j l ∙ ap (λ (x : Option Object). cond (is_some x) (Some 0) None) (sym (entry_past t j (omega (arith, l, places))))
    ]

pub loop-k-init : goal.loop-k-init
loop-k-init c = record { below = λ j l. absurd (omega (arith, l)); above = λ j l. c.requires.none j; rest = refl }
