use Rattle.std.proofs.Common.{◌≡◌, ℕ, ◌++◌, List, ap, ◌∙◌}
use Rattle.st_scan.specs.Views.{method_view}
use Rattle.st_emit.specs.declared.instruction.Instruction.{Instruction}
use Rattle.st_emit.specs.Literals.{LiteralView}
use Rattle.st_emit.specs.inside.NameViews.{names_view}
use Rattle.st_code.specs.Methods.{body, flag_of, flag, last_of}
use Rattle.st_code.proofs.Completed.{simple_steps}
use Rattle.st_code.proofs.compiler.completed.Goals as goal

pub returns : goal.returns
returns c =
    let tree = method_view c.args.t.now in
    let names = names_view c.args.names.now in
    let made = c.in_ok-made.made in
    let same : c.flag_of-flag.result ≡ flag tree names =
    c.flag_of-flag.ensures.flag ∙ ap (flag_of tree) (c.simple_by.ensures ∙ simple_steps tree names c.deref.result.now (c.deref.ensures.value ∙ c.in_ok-made.ensures.steps)) in
    let own = (body tree names).literals in
    record {
      steps = c.in_ok-put_last.ensures.steps ∙ c.in_ok-made.ensures.steps;
      literals =
          c.in_ok-put_last.ensures.literals
          ∙ ap (λ (ls : List LiteralView). ls ++ last_of tree c.flag_of-flag.result made.draft.steps.items) c.in_ok-made.ensures.literals
          ∙ ap (λ (f : ℕ). own ++ last_of tree f made.draft.steps.items) same
          ∙ ap (λ (ss : List Instruction). own ++ last_of tree (flag tree names) ss) c.in_ok-made.ensures.steps;
      level = c.in_ok-put_last.ensures.level ∙ c.in_ok-made.ensures.level;
      variables = c.in_ok-made.ensures.variables;
    }
