use Rattle.std.proofs.Common.{ap, ◌∙◌}
use Rattle.std.proofs.lemmas.Result.{IfOk-weaker}
use Rattle.std.specs.Prelude.{option_map}
use Rattle.st_scan.specs.Views.{method_view}
use Rattle.st_emit.specs.inside.NameViews.{names_view}
use Rattle.st_code.specs.inside.MethodDrafts.{parts_view}
use Rattle.st_emit.specs.inside.Views.{literals_view}
use Rattle.st_expression_stack.specs.inside.Called.{calling_view}
use Rattle.st_expression_stack.specs.Names.{calling_of}
use Rattle.st_decompile.proofs.Tested.{read_by}
use Rattle.st_decompile.proofs.decompiler.candidate_of.Goals as goal

pub returns : goal.returns
returns c =
    let names = names_view c.args.names.now in
    let called = c.in_ok-calling.ensures ∙ ap (λ ls. calling_of names (literals_view ls)) c.deref-2.ensures.value in
    IfOk-weaker c.candidate.result _ _
    (λ m is. read_by names (parts_view c.args.parts.now) (calling_view c.in_ok-calling.calling) (option_map method_view m) called is)
    c.candidate.ensures
