use Rattle.std.proofs.Common.{◌≡◌, ◌-◌, suc, sym, ap, ◌∙◌, arith}
use Rattle.st_model.specs.Values.{word}
use Rattle.st_draft.specs.inside.Drafts.{value_first}
use Rattle.st_draft.proofs.exchanges.Exchanges.word_before.Goals as goal

pub loop-k-preserved : goal.loop-k-preserved
unfolding value_first
loop-k-preserved c =
    let pairs = c.args.self.now.pairs in
    let i = c.loop-k.invariant in
    let some = c.loop-k-test.true in
    let next : c.loop-k.k ≡ suc (c.loop-k.k - 1) = omega (arith, some) in
    record {
      within = let w = i.within in omega (arith, w);
      same = ap (value_first pairs (c.loop-k.k - 1)) c.word_before-o.ensures ∙ sym (ap (λ n. value_first pairs n (word c.loop-k.o)) next) ∙ i.same;
    }

pub returns : goal.returns
unfolding value_first
returns c =
    let none : c.loop-k.k ≡ 0 = omega arith in
    sym (ap (λ n. value_first c.args.self.now.pairs n (word c.loop-k.o)) none) ∙ c.loop-k.invariant.same
