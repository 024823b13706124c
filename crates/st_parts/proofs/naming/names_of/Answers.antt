use Rattle.std.proofs.Common.{Ok, Err, subst}
use Rattle.st_model.specs.Values.{value}
use Rattle.st_model.specs.Table.{table}
use Rattle.st_scan.specs.Views.{MethodView}
use Rattle.st_scope.specs.Calls.{names}
use Rattle.st_scope.specs.inside.Meanings.{values}
use Rattle.st_scope.specs.inside.Seen.{AnswersNames}
use Rattle.st_parts.proofs.KeysIn.{seen_for, fault_for}
use Rattle.st_parts.proofs.naming.names_of.Goals as goal

pub returns-in-Err-names : goal.returns-in-Err-names
returns-in-Err-names g c =
    let v = g.M.Memory.view c.args.m.now in
    fault_for (values c.args.vs.now) _ v.objects c.in-Err-names.fault
    (subst (λ (tree : MethodView). AnswersNames (names table v.head (value c.args.class) c.args.meta tree) v.objects (Err c.in-Err-names.fault)) c.in-Ok.ensures c.in-Err-names.ensures)

pub returns-in-Ok-names_for : goal.returns-in-Ok-names_for
returns-in-Ok-names_for g c =
    let v = g.M.Memory.view c.args.m.now in
    seen_for (values c.args.vs.now) _ v.objects c.in-Ok-names.seen c.in-Ok-names_for.names
    (subst (λ (tree : MethodView). AnswersNames (names table v.head (value c.args.class) c.args.meta tree) v.objects (Ok c.in-Ok-names.seen)) c.in-Ok.ensures c.in-Ok-names.ensures) c.in-Ok-names_for.ensures
