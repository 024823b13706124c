use Rattle.std.proofs.Common.{arith}
use Rattle.st_writer.proofs.Adding.{added_none, added_next, added_cut}
use Rattle.st_writer.proofs.Places.{fields_more}
use Rattle.st_writer.proofs.units.push_fields.Goals as goal

pub loop-i-init : goal.loop-i-init
loop-i-init g c = added_none g.H.Host c.args.name.now c.args.host.now c.args.piece.now (λ told f s left. g.met.H.Host.only_now c.args.host.now f s told left)

pub returns-in_err-push_word : goal.returns-in_err-push_word
returns-in_err-push_word g c = added_cut g.H.Host c.args.name.now _ _ _ _ _ _ _ _ _ _ _ _ c.from_residual.ensures.0 c.loop-i.invariant c.in_err-push_word.ensures

pub loop-i-preserved : goal.loop-i-preserved
loop-i-preserved g c = added_next g.H.Host c.args.name.now _ _ _ _ _ _ _ _ _ _ _ c.loop-i.invariant c.in_ok-push_word.ensures (fields_more _ _ _ c.pointer.ensures.field) (omega arith)
