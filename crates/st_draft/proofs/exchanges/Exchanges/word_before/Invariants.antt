use Rattle.std.proofs.Common.{◌≡◌, ◌≤◌}
use Rattle.st_model.specs.Values.{word}
use Rattle.st_draft.specs.inside.Drafts.{value_first}
use Rattle.st_draft.proofs.exchanges.Exchanges.word_before.Given as goal

-- the word that is sought had its object before the exchanges that are passed
abbrev pub invariant-loop-k : goal.invariant-loop-k
invariant-loop-k l = record {
  within : l.k ≤ l.self.count;
  same : value_first l.self.pairs l.k (word l.o) ≡ value_first l.self.pairs l.self.count (word l.fn.o);
}

abbrev pub decreases-loop-k : goal.decreases-loop-k
decreases-loop-k l = l.k
