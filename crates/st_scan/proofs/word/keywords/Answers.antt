use Rattle.std.proofs.lemmas.List.{take_rest}
use Rattle.st_scan.proofs.Keywords.{kept_first, kept_more, kept_last}
use Rattle.st_scan.proofs.word.keywords.Goals as goal

pub loop-next-init : goal.loop-next-init
loop-next-init c = kept_first c.args.text.now

pub loop-next-preserved : goal.loop-next-preserved
loop-next-preserved c =
    let keyword = rw take_rest at c.in-Some.ensures.exact in
    let within = rw take_rest at c.in-Some.ensures.within in
    kept_more c.args.text.now c.loop-next.length c.in-Some.next c.loop-next.invariant keyword.0 keyword.1 within

pub returns-clause-exact : goal.returns-clause-exact
returns-clause-exact c = kept_last c.args.text.now c.loop-next.length c.loop-next.invariant (rw take_rest at c.in_default.ensures.exact)
