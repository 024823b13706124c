use Rattle.std.proofs.Common.{ℕ, ◌+◌, List, ◌++◌, drop, sym, ap, ◌∙◌, arith}
use Rattle.std.proofs.lemmas.Bool.{ne_eqb}
use Rattle.st_changes.specs.inside.Runs.{doubled_by}
use Rattle.st_changes.proofs.Marks.{on_other, on_pair, at_end}
use Rattle.st_changes.proofs.run.find_run.Goals as goal

pub loop-at-preserved-then-byte-mark : goal.loop-at-preserved-then-byte-mark
loop-at-preserved-then-byte-mark c =
    let text = c.args.text.now in
    let at = c.loop-at.at in
    record {
      within = omega arith;
      so_far = on_other c.args.mark text c.loop-at.bytes.items at c.loop-at-test.true c.loop-at.invariant.so_far (ne_eqb _ _ c.if-byte-mark.true)
          ∙ ap (λ (x : List ℕ). doubled_by c.args.mark x ++ drop (at + 1) text) (sym c.in_ok-push.ensures.items);
    }

pub loop-at-preserved : goal.loop-at-preserved
loop-at-preserved c =
    let text = c.args.text.now in
    let at = c.loop-at.at in
    record {
      within = omega arith;
      so_far = on_pair c.args.mark text c.loop-at.bytes.items at c.if-at-text.true c.loop-at.invariant.so_far c.if-byte-mark.false c.if-text-at.true
          ∙ ap (λ (x : List ℕ). doubled_by c.args.mark x ++ drop (at + 2) text) (sym c.in_ok-push-2.ensures.items);
    }

pub returns : goal.returns
returns c bytes behind run = at_end c.args.mark c.args.text.now c.loop-at.bytes.items c.loop-at.at c.loop-at-test.false c.loop-at.invariant.so_far bytes behind run
