use Rattle.std.proofs.Common.{◌+◌, ◌++◌, true, false, drop, sym, ap, ◌∙◌, refl}
use Rattle.std.specs.Prelude.{filter, slice_get}
use Rattle.st_first_objects.specs.Contents.{is_shared_of}
use Rattle.st_first_objects.specs.Plans.{FirstObjects}
use Rattle.st_first_objects.specs.Contents.{all_of, members}
use Rattle.st_first_objects.specs.inside.Views.{thing_of, fields_of}
use Rattle.st_first_objects.proofs.Lists.{pushed, filtered}
use Rattle.st_first_objects.proofs.plan.FirstObjects.shared.Goals as goal
use Rattle.st_first_objects.proofs.plan.FirstObjects.shared.Goals.{then-is_shared_of+in_ok-push, else-is_shared_of}

pub loop-i-preserved : goal.loop-i-preserved
loop-i-preserved c =
    let ts = c.args.self.now.order.things in
    let t = thing_of c.thing-thing.result in
    let got = sym (ap (λ (p : FirstObjects). slice_get p.order.things c.loop-i.i) c.self.view_is) ∙ c.thing-thing.ensures in
    elim c.if-is_shared_of.branch [
      | then-is_shared_of+in_ok-push w ↦
          pushed c.loop-i.fields.items c.if-is_shared_of.fields.items _ t (all_of (filter (is_shared_of c.args.self.now c.args.class.now) (drop (c.loop-i.i + 1) ts))) (members c.args.self.now (is_shared_of c.args.self.now c.args.class.now))
          (ap (λ v. v.items) w.fields-is ∙ w.in_ok-push.ensures.items) refl
          (ap (λ xs. fields_of c.loop-i.fields.items ++ xs) (sym (filtered (is_shared_of c.args.self.now c.args.class.now) ts c.loop-i.i t true got (sym c.is_shared_of.ensures ∙ w.if-is_shared_of.true))) ∙ c.loop-i.invariant)
      | else-is_shared_of w ↦
          ap (λ v. fields_of v.items ++ all_of (filter (is_shared_of c.args.self.now c.args.class.now) (drop (c.loop-i.i + 1) ts))) w.fields-is
          ∙ ap (λ xs. fields_of c.loop-i.fields.items ++ xs) (sym (filtered (is_shared_of c.args.self.now c.args.class.now) ts c.loop-i.i t false got (sym c.is_shared_of.ensures ∙ w.if-is_shared_of.false))) ∙ c.loop-i.invariant
    ]
