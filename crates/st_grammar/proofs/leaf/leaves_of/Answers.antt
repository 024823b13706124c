use Rattle.std.proofs.Common.{length, arith}
use Rattle.st_scan.specs.declared.token.Sort.TheVariants as sorts
use Rattle.st_grammar.proofs.Unquoting.{span_begins}
use Rattle.st_grammar.proofs.leaf.leaves_of.Goals as goal

pub overflow_add-token : goal.overflow_add-token
overflow_add-token c =
    let begins = span_begins c.args.tokens.now 0 (length c.args.text.now) c.loop-token.token-index (record { start = 0; end = 0; sort = sorts.Name }) c.requires.spans c.loop-token-test.true in
    omega (arith, begins, c.requires.short)
