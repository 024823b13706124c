use Rattle.std.proofs.Common.{◌+◌, ◌++◌, true, false, drop, sym, ap, ◌∙◌, refl}
use Rattle.std.specs.Prelude.{filter, slice_get}
use Rattle.st_first_objects.specs.Things.{is}
use Rattle.st_first_objects.specs.Plans.{FirstObjects}
use Rattle.st_first_objects.specs.Contents.{all_of, members}
use Rattle.st_first_objects.specs.inside.Views.{thing_of, fields_of}
use Rattle.st_first_objects.proofs.Lists.{pushed, filtered}
use Rattle.st_first_objects.proofs.plan.FirstObjects.members.Goals as goal
use Rattle.st_first_objects.proofs.plan.FirstObjects.members.Goals.{then-is+in_ok-push, else-is}

pub loop-i-preserved : goal.loop-i-preserved
loop-i-preserved c =
    let ts = c.args.self.now.order.things in
    let t = thing_of c.thing-thing.result in
    let got = sym (ap (λ (p : FirstObjects). slice_get p.order.things c.loop-i.i) c.self.view_is) ∙ c.thing-thing.ensures in
    elim c.if-is.branch [
      | then-is+in_ok-push w ↦
          pushed c.loop-i.fields.items c.if-is.fields.items _ t (all_of (filter (is c.args.what) (drop (c.loop-i.i + 1) ts))) (members c.args.self.now (is c.args.what))
          (ap (λ v. v.items) w.fields-is ∙ w.in_ok-push.ensures.items) refl
          (ap (λ xs. fields_of c.loop-i.fields.items ++ xs) (sym (filtered (is c.args.what) ts c.loop-i.i t true got (sym c.is.ensures ∙ w.if-is.true))) ∙ c.loop-i.invariant)
      | else-is w ↦
          ap (λ v. fields_of v.items ++ all_of (filter (is c.args.what) (drop (c.loop-i.i + 1) ts))) w.fields-is
          ∙ ap (λ xs. fields_of c.loop-i.fields.items ++ xs) (sym (filtered (is c.args.what) ts c.loop-i.i t false got (sym c.is.ensures ∙ w.if-is.false))) ∙ c.loop-i.invariant
    ]
