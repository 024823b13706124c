use Rattle.std.proofs.Common.{sym, subst}
use Rattle.std.proofs.lemmas.List.{take_rest}
use Rattle.st_decompile.specs.inside.Located.{AreBehind}
use Rattle.st_decompile.proofs.Locating.{behind_is}
use Rattle.st_decompile.proofs.located.behind.Goals as goal

pub returns-clause-placed : goal.returns-clause-placed
returns-clause-placed c =
    let ls = c.args.steps.now in
    let n = c.count_within-count.result in
    subst (AreBehind c.args.distance ls) (sym (take_rest ls n)) (behind_is c.args.distance n ls c.count_within-count.ensures.within)
