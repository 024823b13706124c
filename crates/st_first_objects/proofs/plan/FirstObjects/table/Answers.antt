use Rattle.std.proofs.Common.{arith, ap, get_or, ◌∙◌}
use Rattle.std.specs.Prelude.{unwrap_or}
use Rattle.st_first_objects.specs.declared.content.Field.TheVariants.{Empty as code_empty}
use Rattle.st_first_objects.specs.Contents.{padded}
use Rattle.st_first_objects.proofs.Lists.{pushed_at, padded_done}
use Rattle.st_first_objects.proofs.plan.FirstObjects.table.Goals as goal

pub loop-i-preserved : goal.loop-i-preserved
loop-i-preserved c =
    pushed_at c.loop-i.fields.items c.push.new.self.items c.in_ok-members.members.items c.unwrap_or-field.result c.args.places c.loop-i.i _ c.loop-i-test.true
    c.in_ok-push.ensures.items
    (c.unwrap_or-field.ensures ∙ ap (λ o. unwrap_or o code_empty) c.copied.ensures ∙ c.get.ensures.lookup.4 (omega arith) code_empty
    ∙ ap (λ ms. get_or ms c.loop-i.i code_empty) c.deref.ensures.value)
    c.loop-i.invariant

pub returns : goal.returns
returns c = padded_done c.loop-i.fields.items c.in_ok-members.members.items c.args.places c.loop-i.i _ (omega arith) c.loop-i.invariant ∙ ap (padded c.args.places) c.in_ok-members.ensures
