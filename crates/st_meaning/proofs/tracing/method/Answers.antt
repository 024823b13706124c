use Rattle.std.proofs.Common.{◌≡◌, true, false, Err, rules}
use Rattle.st_emit.specs.declared.instruction.Constant.TheVariants.{Receiver}
use Rattle.st_meaning.specs.inside.Values.{constant_value}
use Rattle.st_meaning.specs.inside.Courses.{going_view}
use Rattle.st_meaning.specs.inside.Meanings.{most}
use Rattle.st_meaning.specs.inside.Arenas.{runs_of, method_end}
use Rattle.st_meaning.specs.inside.Traced.{IsCut, nodes_in, method_in}
use Rattle.st_meaning.proofs.Following.{some_went, none_over, ended_is, ended_over, ended_cut, return_goes, return_faults}
use Rattle.st_meaning.proofs.Continuing.{faulted}
use Rattle.st_meaning.proofs.tracing.method.Goals as goal

pub returns-then-inside-clause-over : goal.returns-then-inside-clause-over
returns-then-inside-clause-over c =
    let given = some_went (nodes_in c.args.nodes.now c.args.bound c.deref.result.now (going_view c.args.course.now)) _ c.in-Some.value (going_view c.statements.new.course) c.in-Some.is c.in_ok-value.ensures.goes in
    let is = ended_is c.args.nodes.now c.args.bound (method_end most (runs_of most c.args.nodes.now) c.args.bound) c.args.inside.now c.deref.result.now (going_view c.args.course.now) c.deref.ensures.value true c.in-Some.value (going_view c.statements.new.course) c.if-inside.true given in
    return_goes (method_in c.args.nodes.now c.args.bound c.args.inside.now (going_view c.args.course.now)) c.in-Some.value c.statements.new.course is c.did.new.self c.did.result c.did.ensures.few c.did.ensures.went

pub returns-then-inside-clause-long : goal.returns-then-inside-clause-long
returns-then-inside-clause-long c =
    let given = some_went (nodes_in c.args.nodes.now c.args.bound c.deref.result.now (going_view c.args.course.now)) _ c.in-Some.value (going_view c.statements.new.course) c.in-Some.is c.in_ok-value.ensures.goes in
    let is = ended_is c.args.nodes.now c.args.bound (method_end most (runs_of most c.args.nodes.now) c.args.bound) c.args.inside.now c.deref.result.now (going_view c.args.course.now) c.deref.ensures.value true c.in-Some.value (going_view c.statements.new.course) c.if-inside.true given in
    return_faults (method_in c.args.nodes.now c.args.bound c.args.inside.now (going_view c.args.course.now)) c.in-Some.value c.statements.new.course is c.did.result c.did.ensures.long

pub returns-else-inside-clause-over : goal.returns-else-inside-clause-over
returns-else-inside-clause-over c =
    let given = some_went (nodes_in c.args.nodes.now c.args.bound c.deref.result.now (going_view c.args.course.now)) _ c.in-Some.value (going_view c.statements.new.course) c.in-Some.is c.in_ok-value.ensures.goes in
    let is = ended_is c.args.nodes.now c.args.bound (method_end most (runs_of most c.args.nodes.now) c.args.bound) c.args.inside.now c.deref.result.now (going_view c.args.course.now) c.deref.ensures.value false c.in-Some.value (going_view c.statements.new.course) c.if-inside.false given in
    return_goes (method_in c.args.nodes.now c.args.bound c.args.inside.now (going_view c.args.course.now)) (constant_value Receiver) c.statements.new.course is c.did-else-inside.new.self c.did-else-inside.result c.did-else-inside.ensures.few c.did-else-inside.ensures.went

pub returns-else-inside-clause-long : goal.returns-else-inside-clause-long
returns-else-inside-clause-long c =
    let given = some_went (nodes_in c.args.nodes.now c.args.bound c.deref.result.now (going_view c.args.course.now)) _ c.in-Some.value (going_view c.statements.new.course) c.in-Some.is c.in_ok-value.ensures.goes in
    let is = ended_is c.args.nodes.now c.args.bound (method_end most (runs_of most c.args.nodes.now) c.args.bound) c.args.inside.now c.deref.result.now (going_view c.args.course.now) c.deref.ensures.value false c.in-Some.value (going_view c.statements.new.course) c.if-inside.false given in
    return_faults (method_in c.args.nodes.now c.args.bound c.args.inside.now (going_view c.args.course.now)) (constant_value Receiver) c.statements.new.course is c.did-else-inside.result c.did-else-inside.ensures.long

pub returns-in-None-clause-over : goal.returns-in-None-clause-over
returns-in-None-clause-over c =
    let old = going_view c.args.course.now in
    let mid = going_view c.statements.new.course in
    ended_over c.args.nodes.now c.args.bound (method_end most (runs_of most c.args.nodes.now) c.args.bound) c.args.inside.now c.deref.result.now old c.deref.ensures.value mid
    (none_over (nodes_in c.args.nodes.now c.args.bound c.deref.result.now old) _ mid c.in-None.is c.in_ok-value.ensures.goes)

pub returns-in_err-value-clause-long : goal.returns-in_err-value-clause-long
returns-in_err-value-clause-long c =
    let old = going_view c.args.course.now in
    let fault = c.in_err-value.field-0.0 in
    let e : c.from_residual.result ≡ Err fault = search rules in
    faulted _ (IsCut (nodes_in c.args.nodes.now c.args.bound c.deref.result.now) c.args.course.now) (IsCut (method_in c.args.nodes.now c.args.bound c.args.inside.now) c.args.course.now) c.from_residual.result fault e
    (λ h. ended_cut c.args.nodes.now c.args.bound (method_end most (runs_of most c.args.nodes.now) c.args.bound) c.args.inside.now c.deref.result.now old c.deref.ensures.value h) c.in_err-value.ensures.long
