use Rattle.std.proofs.Common.{◌≡◌, subst}
use Rattle.st_scan.specs.Views.{method_view}
use Rattle.st_emit.specs.inside.NameViews.{names_view}
use Rattle.st_code.specs.declared.fault.CodeFault.{CodeFault}
use Rattle.st_code.specs.Methods.{fault}
use Rattle.st_code.specs.inside.MethodDrafts.{parts_view}
use Rattle.st_code.specs.Reported.{IsFault}
use Rattle.st_decompile.proofs.Tested.{has_same, has_fault}
use Rattle.st_decompile.proofs.decompiler.has_code.Goals as goal

pub returns-in-Ok : goal.returns-in-Ok
returns-in-Ok c =
    has_same (method_view c.args.tree.now) (names_view c.args.names.now) (parts_view c.args.parts.now) (parts_view c.in-Ok.made) c.same_parts.result c.in-Ok.ensures.parts c.same_parts.ensures

pub returns-in-Err-At : goal.returns-in-Err-At
returns-in-Err-At c =
    has_fault (method_view c.args.tree.now) (names_view c.args.names.now) (parts_view c.args.parts.now) _
    (subst (λ (e : CodeFault). IsFault (fault (method_view c.args.tree.now) (names_view c.args.names.now)) e) c.in-Err-At.field-0-is c.in-Err-At.ensures.fault)
