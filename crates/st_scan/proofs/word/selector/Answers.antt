use Rattle.std.proofs.lemmas.List.{take_rest}
use Rattle.st_scan.proofs.Keywords.{selector-keywords}
use Rattle.st_scan.proofs.word.selector.Goals as goal

pub returns-in-Some-clause-exact : goal.returns-in-Some-clause-exact
returns-in-Some-clause-exact c =
    selector-keywords c.args.text.now _ c.in-Some.first c.keywords.result c.in-Some.ensures.exact.0 c.in-Some.ensures.exact.1 (take_rest c.args.text.now c.in-Some.first) c.keywords.ensures.exact
