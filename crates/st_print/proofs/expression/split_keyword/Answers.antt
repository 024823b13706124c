use Rattle.std.proofs.Common.{◌+◌, take, drop, ap, ◌∙◌}
use Rattle.std.proofs.lemmas.List.{take_min, drop_min}
use Rattle.st_print.proofs.expression.split_keyword.Goals as goal

pub returns-clause-first : goal.returns-clause-first
returns-clause-first c =
    let s = c.args.selector.now in
    c.split_at.ensures.front ∙ ap (λ n. take n s) c.min.ensures ∙ take_min (c.name_length-name.result + 1) s ∙ ap (λ n. take (n + 1) s) c.name_length-name.ensures.exact

pub returns-clause-others : goal.returns-clause-others
returns-clause-others c =
    let s = c.args.selector.now in
    c.split_at.ensures.back ∙ ap (λ n. drop n s) c.min.ensures ∙ drop_min (c.name_length-name.result + 1) s ∙ ap (λ n. drop (n + 1) s) c.name_length-name.ensures.exact
