use Rattle.std.proofs.Common.{Ok, Err, refl, sym, ◌∙◌}
use Rattle.st_model.specs.Values.{word}
use Rattle.st_draft.specs.inside.Noted.{drafted}
use Rattle.st_draft.proofs.Bearing.{instance_true, instance_false, instance_err, instance_none}
use Rattle.st_draft.proofs.draft.Draft.instance_at.Goals as goal

pub returns-in-None : goal.returns-in-None
returns-in-None g c =
    let d = c.args.self.now in
    let now = drafted (g.M.Memory.view d.base.now).objects d.notes d.exchanges in
    instance_none now (word c.args.class) c.args.place c.in-None.ensures

pub returns-in-Err : goal.returns-in-Err
returns-in-Err g c =
    let d = c.args.self.now in
    let now = drafted (g.M.Memory.view d.base.now).objects d.notes d.exchanges in
    instance_err now c.in-Some.o (Err c.in-Err.field-0) c.in-Err.ensures (word c.args.class) c.args.place c.in-Err.field-0 c.in-Some.ensures refl

pub returns-then-same : goal.returns-then-same
returns-then-same g c =
    let d = c.args.self.now in
    let now = drafted (g.M.Memory.view d.base.now).objects d.notes d.exchanges in
    instance_true now c.in-Some.o (Ok c.in-Ok.own) c.in-Ok.ensures (word c.args.class) c.args.place c.in-Ok.own c.in-Some.ensures refl (sym c.same.ensures ∙ c.if-same.true)

pub returns-else-same : goal.returns-else-same
returns-else-same g c =
    let d = c.args.self.now in
    let now = drafted (g.M.Memory.view d.base.now).objects d.notes d.exchanges in
    instance_false now c.in-Some.o (Ok c.in-Ok.own) c.in-Ok.ensures (word c.args.class) c.args.place c.in-Ok.own c.in-Some.ensures refl (sym c.same.ensures ∙ c.if-same.false)
