use Rattle.std.proofs.Common.{◌≡◌, ◌+◌, suc, ℕ, sym, ap, ◌∙◌, ◌++◌, arith}
use Rattle.st_model.specs.Table.{entry}
use Rattle.st_writer.specs.Written.{entry_bytes, entries_below, words_below, words_at}
use Rattle.st_writer.proofs.Adding.{added_none, added_next, added_cut}
use Rattle.st_writer.proofs.Bytes.{joined_next}
use Rattle.st_writer.proofs.Placing.{length-entry}
use Rattle.st_writer.proofs.table.push_entries.Goals as goal

pub loop-k-init : goal.loop-k-init
loop-k-init g c = record {
  added = added_none g.H.Host c.args.name.now c.args.host.now c.args.piece.now (λ told f s left. g.met.H.Host.only_now c.args.host.now f s told left);
  at = omega arith;
  few = omega arith;
}

pub returns-in_err-push_entry : goal.returns-in_err-push_entry
returns-in_err-push_entry g c = added_cut g.H.Host c.args.name.now _ _ _ _ _ _ _ _ _ _ _ _ c.from_residual.ensures.0 c.loop-k.invariant.added c.in_err-push_entry.ensures

pub loop-k-preserved : goal.loop-k-preserved
loop-k-preserved g c =
    let t = (g.M.Memory.view c.args.m.now).objects in
    let k = c.loop-k.k in
    let inv = c.loop-k.invariant in
    let next : k + 1 ≡ suc k = omega arith in
    let words : words_below t (k + 1) ≡ words_below t k + words_at (entry t k) = ap (words_below t) next in
    record {
      added = added_next g.H.Host c.args.name.now _ _ _ _ _ _ _ _ _ _ _ inv.added c.in_ok-push_entry.ensures
          (joined_next (λ j. entry_bytes (entry t j) (words_below t j)) k ∙ ap (λ (w : ℕ). entries_below t k ++ entry_bytes (entry t k) w) (sym inv.at))
          (omega (arith, length-entry (entry t k) c.loop-k.at));
      at = omega (arith, inv.at, words, c.words_at-at.ensures.words);
      few = omega (arith, inv.few, c.words_at-at.ensures.few);
    }
