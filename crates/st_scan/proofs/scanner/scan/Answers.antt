use Rattle.std.proofs.Common.{refl}
use Rattle.std.proofs.lemmas.List.{take_rest}
use Rattle.st_scan.specs.inside.Contexts.{context_of}
use Rattle.st_scan.proofs.Scanning.{kept_gap, kept_token, kept_fault, kept_end}
use Rattle.st_scan.proofs.Spans.{spans}
use Rattle.st_scan.proofs.scanner.scan.Goals as goal

pub loop-at-preserved-in-Gap : goal.loop-at-preserved-in-Gap
loop-at-preserved-in-Gap c =
    let front = rw take_rest at c.in-Gap.ensures.exact in
    kept_gap c.args.text.now c.loop-at.tokens.items (context_of c.loop-at.context) c.loop-at.at c.loop-at.invariant c.in-Gap.length c.loop-at-test.true front

pub loop-at-preserved : goal.loop-at-preserved
loop-at-preserved c =
    let front = rw take_rest at c.in-Token.ensures.exact in
    let operand = rw take_rest at c.is_operand.ensures in
    let depth = rw take_rest at c.depth_behind.ensures in
    kept_token c.args.text.now c.loop-at.tokens.items (context_of c.loop-at.context) c.loop-at.at c.loop-at.invariant c.in-Token.length c.in-Token.sort _ _ _ c.loop-at-test.true front c.in_ok-push-in-Token.ensures.items operand depth

pub returns-in-Fault : goal.returns-in-Fault
returns-in-Fault c =
    let front = rw take_rest at c.in-Fault.ensures.exact in
    let exact = kept_fault c.args.text.now c.loop-at.tokens.items (context_of c.loop-at.context) c.loop-at.at c.loop-at.invariant c.in-Fault.cause _ c.loop-at-test.true refl front in
    record { exact = exact; spans = spans c.args.text.now c.loop-at.tokens.items _ exact }

pub returns-clause-spans : goal.returns-clause-spans
returns-clause-spans c =
    spans c.args.text.now c.loop-at.tokens.items _ (kept_end c.args.text.now c.loop-at.tokens.items (context_of c.loop-at.context) c.loop-at.at c.loop-at.invariant c.loop-at-test.false)
