use Rattle.std.proofs.Common.{◌/◌, sym, subst, arith}
use Rattle.st_install.proofs.Numbers.{LeftBytes, bytes_begin, bytes_more}
use Rattle.st_install.proofs.single.large_bytes.Goals as goal

pub loop-left-init : goal.loop-left-init
loop-left-init c = bytes_begin c.args.size c.new-bytes.result.items (omega arith) c.new-bytes.ensures.items

pub loop-left-preserved : goal.loop-left-preserved
loop-left-preserved c =
    subst (λ bytes. LeftBytes c.args.size bytes (c.loop-left.left / 256)) (sym c.in_ok-push.ensures.items) (bytes_more c.args.size c.loop-left.bytes.items c.loop-left.left c.loop-left-test.true c.loop-left.invariant)
