use Rattle.std.proofs.Common.{Some, None, ◌∙◌, subst}
use Rattle.st_scan.specs.Views.{method_view}
use Rattle.st_emit.specs.inside.NameViews.{names_view}
use Rattle.st_code.specs.inside.MethodDrafts.{parts_view}
use Rattle.st_print.specs.Printed.{printed}
use Rattle.st_decompile.specs.inside.Answers.{HasCode}
use Rattle.st_decompile.proofs.Tested.{meant_as, none_meant, none_same, one_same}
use Rattle.st_decompile.proofs.decompiler.printed_back.Goals as goal

pub returns-in_default : goal.returns-in_default
returns-in_default c =
    let tree = method_view c.args.tree.now in
    let back = meant_as c.deref.result.now (printed tree) _ None (c.deref.ensures.value ∙ c.in_ok-text.ensures) c.in_default.is c.in_ok-back.ensures in
    none_meant (names_view c.args.names.now) (parts_view c.args.parts.now) tree c.requires back

pub returns-then-same : goal.returns-then-same
returns-then-same c =
    let back = meant_as c.deref.result.now (printed (method_view c.args.tree.now)) _ (Some c.in-Some.back) (c.deref.ensures.value ∙ c.in_ok-text.ensures) c.in-Some.is c.in_ok-back.ensures in
    let same = subst (HasCode (method_view c.in-Some.back) (names_view c.args.names.now) (parts_view c.args.parts.now)) c.if-same.true c.in_ok-same.ensures in
    one_same (names_view c.args.names.now) (parts_view c.args.parts.now) (method_view c.args.tree.now) c.requires c.in-Some.back back same

pub returns : goal.returns
returns c =
    let back = meant_as c.deref.result.now (printed (method_view c.args.tree.now)) _ (Some c.in-Some.back) (c.deref.ensures.value ∙ c.in_ok-text.ensures) c.in-Some.is c.in_ok-back.ensures in
    let same = subst (HasCode (method_view c.in-Some.back) (names_view c.args.names.now) (parts_view c.args.parts.now)) c.if-same.false c.in_ok-same.ensures in
    none_same (names_view c.args.names.now) (parts_view c.args.parts.now) (method_view c.args.tree.now) c.requires c.in-Some.back back same
