use Rattle.std.proofs.Common.{◌≡◌, ◌^◌, ◌≤◌, List, sym, ◌∙◌, ap, subst}
use Rattle.st_install.specs.declared.plan.NewObject.{NewObject}
use Rattle.st_install.specs.Plans.{words_of_all, demand_of_all}
use Rattle.st_install.specs.inside.Readies.{objects_of, plan_of}
use Rattle.st_install.proofs.Rooms.{no_room, has_room, many_objects}
use Rattle.st_install.proofs.room.with_room.Goals as goal

pub returns-then-not-room-clause-plan : goal.returns-then-not-room-clause-plan
returns-then-not-room-clause-plan g c =
    let demand = c.in-Some.ensures.demand ∙ ap (λ os. demand_of_all (objects_of os)) c.deref.ensures.value in
    no_room (g.M.Memory.view c.args.m.now) (plan_of c.args.ready) c.in-Some.demand demand (sym c.room.ensures ∙ c.if-not-room.true)

pub returns-clause-plan : goal.returns-clause-plan
returns-clause-plan g c =
    let demand = c.in-Some.ensures.demand ∙ ap (λ os. demand_of_all (objects_of os)) c.deref.ensures.value in
    has_room (g.M.Memory.view c.args.m.now) (plan_of c.args.ready) c.in-Some.demand demand (sym c.room.ensures ∙ c.if-not-room.false)

pub returns-in_default-clause-many : goal.returns-in_default-clause-many
returns-in_default-clause-many g c e =
    let words = subst (λ (os : List NewObject). 2 ^ 32 ≤ words_of_all (objects_of os)) c.deref.ensures.value c.in_default.ensures.many in
    many_objects (objects_of c.args.ready.objects.items) c.requires.bodies words
