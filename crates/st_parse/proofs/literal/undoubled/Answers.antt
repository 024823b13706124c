use Rattle.std.proofs.Common.{ap, ◌∙◌}
use Rattle.st_grammar.proofs.Unquoting.{skipped, kept}
use Rattle.st_parse.proofs.literal.undoubled.Goals.{then-second, else-second+in_ok-push}
use Rattle.st_parse.proofs.literal.undoubled.Goals as goal

pub loop-byte-preserved : goal.loop-byte-preserved
loop-byte-preserved c = elim c.if-second.branch [
  | then-second w ↦ skipped c.args.bytes.now _ c.loop-byte.text.items _ c.loop-byte.byte-index c.loop-byte.second _ c.loop-byte-test.true w.if-second.true (ap (λ t. t.items) w.text-is) w.second-is c.loop-byte.invariant
  | else-second+in_ok-push w ↦ kept c.args.bytes.now _ c.loop-byte.text.items _ c.loop-byte.byte-index c.loop-byte.second _ c.loop-byte-test.true w.if-second.false (ap (λ t. t.items) w.text-is ∙ w.in_ok-push.ensures.items) w.second-is c.loop-byte.invariant
]
