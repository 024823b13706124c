use Rattle.std.proofs.Common.{◌≡◌, ◌+◌, ◌-◌, ◌≤◌, ◌++◌, List, ℕ, length, take, drop, sym, ap, ◌∙◌, subst, arith, length-append, length-take, length-drop}
use Rattle.std.proofs.lemmas.List.{length-take-le}
use Rattle.st_host.specs.Files.{IsWritten}
use Rattle.st_chunk.specs.Texts.{doubled}
use Rattle.st_chunk.proofs.Pieces.{doubled-piece, doubled-short, written_more}
use Rattle.st_chunk.proofs.Writing.{written_behind, write_more}
use Rattle.st_chunk.proofs.doubling.doubled.Goals as goal

pub returns-in_err-count-clause-writes : goal.returns-in_err-count-clause-writes
returns-in_err-count-clause-writes g c = written_behind g.H.Host c.args.name.now c.args.at _ c.args.host.now c.write_piece.new.host c.write_piece.ensures.writes

pub loop-done-init : goal.loop-done-init
loop-done-init g c =
    let done = c.min-done.result in
    let within : done ≤ length c.args.text.now = omega arith in
    let count : c.in_ok-count.count ≡ length (doubled (take done c.args.text.now)) = c.in_ok-count.ensures.count in
    record {
      within = within;
      few = omega (arith, count, doubled-short (take done c.args.text.now), length-take-le done c.args.text.now within);
      count = count;
      written = c.in_ok-count.ensures.written;
      writes = written_behind g.H.Host c.args.name.now c.args.at _ c.args.host.now c.write_piece.new.host c.write_piece.ensures.writes;
    }

pub returns-in_err-count-2-clause-writes : goal.returns-in_err-count-2-clause-writes
returns-in_err-count-2-clause-writes g c =
    let inv = c.loop-done.invariant in
    write_more g.H.Host c.args.name.now c.args.at (c.args.at + c.loop-done.count) _ c.args.host.now c.loop-done.host c.write_piece-in-loop-done.new.host (omega arith)
    (λ told. omega (arith, (inv.written told).long)) inv.writes c.write_piece-in-loop-done.ensures.writes

pub overflow_add-count : goal.overflow_add-count
overflow_add-count g c =
    let text = c.args.text.now in
    let done = c.loop-done.done in
    let end = c.min-end.result in
    let piece = take (end - done) (drop done text) in
    let count : c.in_ok-count-2.field-0 ≡ length (doubled piece) = c.in_ok-count-2.ensures.count in
    omega (arith, count, doubled-short piece, length-take (end - done) (drop done text), length-drop done text, c.loop-done.invariant.few)

pub loop-done-preserved : goal.loop-done-preserved
loop-done-preserved g c =
    let inv = c.loop-done.invariant in
    let text = c.args.text.now in
    let done = c.loop-done.done in
    let end = c.min-end.result in
    let piece = take (end - done) (drop done text) in
    let count : c.in_ok-count-2.field-0 ≡ length (doubled piece) = c.in_ok-count-2.ensures.count in
    let within : end ≤ length text = omega arith in
    let joined : doubled (take end text) ≡ doubled (take done text) ++ doubled piece = doubled-piece text done end (omega arith) in
    let sum : c.loop-done.count + c.in_ok-count-2.field-0 ≡ length (doubled (take done text)) + length (doubled piece) = omega (arith, inv.count, count) in
    let long : length (doubled (take end text)) ≡ c.loop-done.count + c.in_ok-count-2.field-0 = ap length joined ∙ length-append (doubled (take done text)) (doubled piece) ∙ sym sum in
    record {
      within = within;
      few = omega (arith, long, doubled-short (take end text), length-take-le end text within);
      count = sym long;
      written = λ told. subst (λ (x : List ℕ). IsWritten c.args.at x (g.H.Host.files c.args.host.now c.args.name.now) (g.H.Host.files c.write_piece-in-loop-done.new.host c.args.name.now)) (sym joined)
          (written_more c.args.at (doubled (take done text)) (doubled piece) _ (g.H.Host.files c.loop-done.host c.args.name.now) _ (inv.written told)
          (subst (λ n. IsWritten (c.args.at + n) (doubled piece) (g.H.Host.files c.loop-done.host c.args.name.now) (g.H.Host.files c.write_piece-in-loop-done.new.host c.args.name.now)) inv.count (c.in_ok-count-2.ensures.written told)));
      writes = write_more g.H.Host c.args.name.now c.args.at (c.args.at + c.loop-done.count) _ c.args.host.now c.loop-done.host c.write_piece-in-loop-done.new.host (omega arith)
          (λ told. omega (arith, (inv.written told).long)) inv.writes c.write_piece-in-loop-done.ensures.writes;
    }
