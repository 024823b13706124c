use Rattle.std.proofs.Common.{◌≡◌, ◌+◌, List, Err, length, refl, sym, ◌∙◌, subst, rules}
use Rattle.st_scan.specs.Views.{method_view}
use Rattle.st_emit.specs.inside.NameViews.{names_view}
use Rattle.st_emit.proofs.Forms.{names_many}
use Rattle.st_meaning.specs.declared.arena.Node.{Node}
use Rattle.st_meaning.specs.inside.Deeds.{answers_view}
use Rattle.st_meaning.specs.inside.Meanings.{Trace}
use Rattle.st_meaning.specs.inside.Courses.{going_view}
use Rattle.st_meaning.specs.inside.Traced.{IsOver, IsCut, method_in}
use Rattle.st_meaning.proofs.Stepping.{faults_so}
use Rattle.st_meaning.proofs.WholeTrace.{begun_with, trace_is, lists_over, trace_long}
use Rattle.st_meaning.proofs.method_trace.trace.Goals as goal

pub returns-clause-list : goal.returns-clause-list
returns-clause-list c =
    let many = c.len.ensures ∙ c.args.tree.now.arguments.ok.0 ∙ names_many c.args.tree.now.arguments.items in
    let begun = begun_with c.len.result (length (method_view c.args.tree.now).arguments) c.args.answers.now.items c.deref.result.now (going_view c.in_ok-course.course) c.in_ok-course.ensures.begins many c.deref.ensures.value in
    let same = trace_is (method_view c.args.tree.now) (names_view c.args.names.now) (answers_view c.args.answers.now.items) c.in_ok-sketch.sketch c.in_ok-sketch.inside (1000000 + 1) (going_view c.in_ok-course.course) c.in_ok-sketch.ensures refl begun in
    let done = subst (λ (xs : List Node). IsOver (method_in xs (1000000 + 1) c.in_ok-sketch.inside) c.in_ok-course.course c.method.new.course) c.deref-2.ensures.value c.in_ok-method.ensures.over in
    lists_over (Trace (method_view c.args.tree.now) (names_view c.args.names.now) (answers_view c.args.answers.now.items)) (going_view c.method.new.course) (sym same ∙ done)

pub returns-in_err-method-clause-fault : goal.returns-in_err-method-clause-fault
returns-in_err-method-clause-fault c =
    let many = c.len.ensures ∙ c.args.tree.now.arguments.ok.0 ∙ names_many c.args.tree.now.arguments.items in
    let begun = begun_with c.len.result (length (method_view c.args.tree.now).arguments) c.args.answers.now.items c.deref.result.now (going_view c.in_ok-course.course) c.in_ok-course.ensures.begins many c.deref.ensures.value in
    let same = trace_is (method_view c.args.tree.now) (names_view c.args.names.now) (answers_view c.args.answers.now.items) c.in_ok-sketch.sketch c.in_ok-sketch.inside (1000000 + 1) (going_view c.in_ok-course.course) c.in_ok-sketch.ensures refl begun in
    let fault = c.in_err-method.field-0.0 in
    let e : c.from_residual-in_err-method.result ≡ Err fault = search rules in
    faults_so _ (IsCut (method_in c.deref-2.result.now (1000000 + 1) c.in_ok-sketch.inside) c.in_ok-course.course) (Trace (method_view c.args.tree.now) (names_view c.args.names.now) (answers_view c.args.answers.now.items)) c.from_residual-in_err-method.result fault e
    (λ h. trace_long (method_view c.args.tree.now) (names_view c.args.names.now) (answers_view c.args.answers.now.items) _ same (subst (λ (xs : List Node). IsCut (method_in xs (1000000 + 1) c.in_ok-sketch.inside) c.in_ok-course.course) c.deref-2.ensures.value h)) c.in_err-method.ensures.long
