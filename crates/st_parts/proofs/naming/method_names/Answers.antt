use Rattle.std.proofs.Common.{◌≡◌, drop, List, ap, ◌∙◌, subst}
use Rattle.st_model.specs.Values.{Value, value}
use Rattle.st_model.specs.Table.{table}
use Rattle.st_scope.specs.Calls.{names}
use Rattle.st_scope.specs.inside.Meanings.{values}
use Rattle.st_parts.specs.Keys.{mentioning, literals_in}
use Rattle.st_parts.specs.inside.NamesFor.{AnswersFor}
use Rattle.st_parts.proofs.Taking.{behind_values}
use Rattle.st_parts.proofs.naming.method_names.Goals as goal

pub returns-in-Ok : goal.returns-in-Ok
returns-in-Ok g c =
    let v = g.M.Memory.view c.args.m.now in
    let same : values c.behind_header-vs.result.now ≡ literals_in v.objects (value c.args.method) =
    ap values (c.behind_header-vs.ensures ∙ ap (drop 1) c.deref.ensures.value) ∙ (behind_values c.in-Ok.words.items ∙ ap (drop 1) c.in-Ok.ensures) in
    subst (λ (vs : List Value). AnswersFor vs (names table v.head (value c.args.class) c.args.meta (mentioning v.objects vs)) v.objects c.names_of.result) same c.names_of.ensures
