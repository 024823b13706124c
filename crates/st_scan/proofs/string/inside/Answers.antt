use Rattle.std.proofs.Common.{sym}
use Rattle.std.proofs.lemmas.Bool.{eq-eqb, ne_eqb}
use Rattle.std.proofs.lemmas.List.{take_rest}
use Rattle.st_scan.proofs.Strings.{kept_first, kept_one, kept_two, kept_closed, kept_unclosed}
use Rattle.st_scan.proofs.string.inside.Goals as goal

pub loop-length-init : goal.loop-length-init
loop-length-init c = kept_first c.args.text.now

pub loop-length-preserved-then-text-length-ne39 : goal.loop-length-preserved-then-text-length-ne39
loop-length-preserved-then-text-length-ne39 c = kept_one c.args.text.now c.loop-length.length c.loop-length.invariant c.loop-length-test.true (ne_eqb _ _ c.if-text-length-ne39.true)

pub loop-length-preserved : goal.loop-length-preserved
loop-length-preserved c =
    let second = rw take_rest at c.if-begins_with_quote.ensures in
    kept_two c.args.text.now c.loop-length.length c.loop-length.invariant c.loop-length-test.true (eq-eqb _ _ c.if-text-length-ne39.false) (sym second)

pub returns-else-begins_with_quote-clause-exact : goal.returns-else-begins_with_quote-clause-exact
returns-else-begins_with_quote-clause-exact c =
    let second = rw take_rest at c.if-begins_with_quote.ensures in
    kept_closed c.args.text.now c.loop-length.length c.loop-length.invariant c.loop-length-test.true (eq-eqb _ _ c.if-text-length-ne39.false) (sym second)

pub returns-clause-exact : goal.returns-clause-exact
returns-clause-exact c = kept_unclosed c.args.text.now c.loop-length.length c.loop-length.invariant c.loop-length-test.false
