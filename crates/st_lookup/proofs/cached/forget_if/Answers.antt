use Rattle.st_lookup.proofs.Staying.{all_same}
use Rattle.st_lookup.proofs.cached.forget_if.Goals as goal

pub returns-then-has-clause-kept : goal.returns-then-has-clause-kept
returns-then-has-clause-kept c t u stays r = c.forget.ensures.none u

pub returns-else-has-clause-kept : goal.returns-else-has-clause-kept
returns-else-has-clause-kept c t u stays r = all_same c.args.watch.now.words.items t u c.args.entries.now.items (stays (c.has.ensures.off c.if-has.false)) r
