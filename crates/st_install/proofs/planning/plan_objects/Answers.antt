use Rattle.std.proofs.Common.{rules, ◌≡◌, List, Err, Ok, ◌∙◌, sym, ap, subst}
use Rattle.st_model.specs.inside.Calls.{Reads, itself}
use Rattle.st_scope.specs.declared.unread.Unread.TheVariants.{Dies}
use Rattle.st_install.specs.Plans.{NewObject, Plan}
use Rattle.st_install.specs.Shapes.{check_size}
use Rattle.st_install.specs.inside.Rooms.{AreSmall}
use Rattle.st_install.specs.inside.Readies.{object_of, objects_of}
use Rattle.st_install.proofs.Growths.{not_planned, objects_too_large, all_planned}
use Rattle.st_install.proofs.planning.plan_objects.Goals as goal

pub returns-in_err-growth-clause-plan : goal.returns-in_err-growth-clause-plan
returns-in_err-growth-clause-plan g c =
    let e : c.from_residual.result ≡ Err c.in_err-growth.field-0.0 = search rules in
    rw e (not_planned c.args.class c.args.draft (object_of c.args.method) (g.M.Memory.view c.args.m.now).objects c.in-Ok.next (search rules) c.in_err-growth.field-0.0 c.in_err-growth.ensures)

pub returns-in_err-check_size-clause-plan : goal.returns-in_err-check_size-clause-plan
returns-in_err-check_size-clause-plan g c =
    let t = (g.M.Memory.view c.args.m.now).objects in
    let e : c.from_residual-in_err-check_size.result ≡ Err (Dies c.in_err-check_size.field-0.0) = search rules in
    let objects = ap objects_of c.deref.ensures.value ∙ ap (λ (p : Plan). p.objects) c.in_ok-ready.ensures.plan in
    rw e (objects_too_large c.args.class c.args.draft (object_of c.args.method) t c.in-Ok.next (search rules) c.in_ok-growth.growth c.in_ok-growth.ensures c.in_err-check_size.field-0.0
    (subst (λ (os : List NewObject). Reads (check_size os) itself t (Err c.in_err-check_size.field-0.0)) objects (c.in_err-check_size.ensures.check t)))

pub returns-clause-plan : goal.returns-clause-plan
returns-clause-plan g c =
    let t = (g.M.Memory.view c.args.m.now).objects in
    let objects = ap objects_of c.deref.ensures.value ∙ ap (λ (p : Plan). p.objects) c.in_ok-ready.ensures.plan in
    all_planned c.args.class c.args.draft (object_of c.args.method) t c.in-Ok.next (search rules) c.in_ok-growth.growth c.in_ok-growth.ensures c.in_ok-check_size.field-0
    (subst (λ (os : List NewObject). Reads (check_size os) itself t (Ok c.in_ok-check_size.field-0)) objects (c.in_ok-check_size.ensures.check t))
    c.in_ok-ready.ready c.in_ok-ready.ensures.plan

pub returns-clause-bodies : goal.returns-clause-bodies
returns-clause-bodies g c = subst (λ (os : List _). AreSmall (objects_of os)) c.deref.ensures.value c.in_ok-check_size.ensures.small
