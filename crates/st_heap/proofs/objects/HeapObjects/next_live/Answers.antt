use Rattle.std.proofs.Common.{◌+◌, ◌/◌, None, is_some, sym, ap, ◌∙◌, arith, inl, inr}
use Rattle.std.proofs.lemmas.Bool.{cases_lt, cases_eq}
use Rattle.std.proofs.lemmas.List.{get_or_past}
use Rattle.st_model.specs.View.{is_live}
use Rattle.st_model.proofs.Pointers.{value_of-pointer}
use Rattle.st_heap.specs.inside.Stored.{slot}
use Rattle.st_heap.specs.inside.Stores.{stored_of}
use Rattle.st_heap.specs.inside.Forms.{objects_in}
use Rattle.st_heap.proofs.Living.{live_ref}
use Rattle.st_heap.proofs.Changing.{dead_word}
use Rattle.st_heap.proofs.Placing.{length-stored}
use Rattle.st_heap.proofs.objects.HeapObjects.next_live.Goals as goal

pub returns-then-live-clause-least : goal.returns-then-live-clause-least
returns-then-live-clause-least c = λ p low high. dead_word (stored_of c.args.self.now.store) c.args.after c.loop-k.k p.0 c.loop-k.invariant low high

pub loop-k-preserved : goal.loop-k-preserved
loop-k-preserved c = λ j low high.
    let all = stored_of c.args.self.now.store in
    elim (cases_eq j c.loop-k.k) [
      | inl e ↦ ap (λ n. is_some (slot all n)) e ∙ sym (live_ref all c.loop-k.k) ∙ ap (is_live (objects_in all)) (sym (value_of-pointer c.loop-k.k)) ∙ sym c.live.ensures ∙ c.if-live.false
      | inr d ↦ c.loop-k.invariant j low (omega (arith, high, d))
    ]

pub returns-clause-none : goal.returns-clause-none
returns-clause-none c = λ p low.
    let all = stored_of c.args.self.now.store in
    let long = length-stored c.args.self.now.store in
    dead_word all c.args.after (p.0 / 2 + 1) p.0 (λ j from below. elim (cases_lt j c.loop-k.k) [
      | inl l ↦ c.loop-k.invariant j from l
      | inr l ↦ ap is_some (get_or_past all j None (omega (arith, l, long, from)))
    ]) low (omega arith)
