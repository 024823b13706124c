use Rattle.std.proofs.Common.{Err, subst}
use Rattle.st_model.specs.Values.{value}
use Rattle.st_model.specs.Table.{table}
use Rattle.st_scan.specs.Views.{method_view}
use Rattle.st_scope.specs.Calls.{names_seen}
use Rattle.st_scope.specs.inside.Seen.{FindsNames}
use Rattle.st_scope.proofs.SeenIn.{answers_seen, answers_shape}
use Rattle.st_scope.proofs.naming.names.Goals as goal

pub returns-in-Ok : goal.returns-in-Ok
returns-in-Ok g c =
    let v = g.M.Memory.view c.args.m.now in
    answers_seen v.head (value c.args.class) c.args.meta (method_view c.args.t.now) v.objects c.in-Ok.names c.in-Ok.ensures

pub returns-in-Err-Dies : goal.returns-in-Err-Dies
returns-in-Err-Dies g c =
    let v = g.M.Memory.view c.args.m.now in
    let dies = subst (λ u. FindsNames (names_seen table v.head (value c.args.class) c.args.meta (method_view c.args.t.now)) v.objects (Err u)) c.in-Err-Dies.field-0-is c.in-Err-Dies.ensures in
    answers_shape v.head (value c.args.class) c.args.meta (method_view c.args.t.now) v.objects c.in-Err-Dies.field-0-0 dies
