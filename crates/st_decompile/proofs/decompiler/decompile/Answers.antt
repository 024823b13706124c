use Rattle.std.proofs.Common.{None}
use Rattle.std.proofs.lemmas.Result.{IfOk-weaker}
use Rattle.st_emit.specs.inside.NameViews.{names_view}
use Rattle.st_code.specs.inside.MethodDrafts.{parts_view}
use Rattle.st_decompile.proofs.Finding.{none_found}
use Rattle.st_decompile.proofs.Tested.{read_as, right, read, missed}
use Rattle.st_decompile.proofs.decompiler.decompile.Goals as goal

pub returns-in_default-clause-complete : goal.returns-in_default-clause-complete
returns-in_default-clause-complete c =
    let names = names_view c.args.names.now in
    let parts = parts_view c.args.parts.now in
    none_found names parts (read_as names parts _ None c.in_default.is c.in_ok-tree.ensures)

pub printed_back-requires : goal.printed_back-requires
printed_back-requires c = read_as (names_view c.args.names.now) (parts_view c.args.parts.now) _ _ c.in-Some.is c.in_ok-tree.ensures

pub returns-clause-answer : goal.returns-clause-answer
returns-clause-answer c = IfOk-weaker c.printed_back.result _ _ (right (names_view c.args.names.now) (parts_view c.args.parts.now)) c.printed_back.ensures

pub returns-clause-read : goal.returns-clause-read
returns-clause-read c = IfOk-weaker c.printed_back.result _ _ (read (names_view c.args.names.now) (parts_view c.args.parts.now)) c.printed_back.ensures

pub returns-clause-complete : goal.returns-clause-complete
returns-clause-complete c = IfOk-weaker c.printed_back.result _ _ (missed (names_view c.args.names.now) (parts_view c.args.parts.now)) c.printed_back.ensures
