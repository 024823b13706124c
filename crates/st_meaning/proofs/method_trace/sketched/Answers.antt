use Rattle.std.proofs.Common.{ap, ◌∙◌}
use Rattle.st_scan.specs.Views.{method_view, statements_view}
use Rattle.st_emit.specs.declared.names.Around.{Around}
use Rattle.st_emit.specs.inside.NameViews.{names_view, scope_view}
use Rattle.st_meaning.proofs.WholeTrace.{declared_is, few_is, sketch_is}
use Rattle.st_meaning.proofs.method_trace.sketched.Goals as goal

pub returns : goal.returns
returns c =
    let tree = c.args.tree.now in
    let names = names_view c.args.names.now in
    let around : Around = record { names = c.args.names; scope = c.deref-5.result; next = c.in_ok-sum.field-0 } in
    let here = declared_is tree names (scope_view c.deref-5.result.now) c.deref-2.result.now c.deref-4.result.now c.len-first.result c.in_ok-sum.field-0 c.len.result
    (c.len-first.ensures ∙ tree.arguments.ok.0) (c.len.ensures ∙ tree.temporaries.ok.0) c.in_ok-sum.ensures c.deref-2.ensures.value c.deref-4.ensures.value (ap scope_view c.deref-5.ensures.value ∙ c.in_ok-scope.ensures) in
    sketch_is (method_view tree) names around c.deref-6.result.now c.in_ok-inside.inside c.new-sketch.result c.body.new.sketch c.requires c.new-sketch.ensures.draft here (ap statements_view c.deref-6.ensures.value) c.in_ok-inside.ensures.built

pub body-requires : goal.body-requires
body-requires c =
    let tree = c.args.tree.now in
    let names = names_view c.args.names.now in
    let around : Around = record { names = c.args.names; scope = c.deref-5.result; next = c.in_ok-sum.field-0 } in
    let here = declared_is tree names (scope_view c.deref-5.result.now) c.deref-2.result.now c.deref-4.result.now c.len-first.result c.in_ok-sum.field-0 c.len.result
    (c.len-first.ensures ∙ tree.arguments.ok.0) (c.len.ensures ∙ tree.temporaries.ok.0) c.in_ok-sum.ensures c.deref-2.ensures.value c.deref-4.ensures.value (ap scope_view c.deref-5.ensures.value ∙ c.in_ok-scope.ensures) in
    few_is (method_view tree) names around c.requires here
