use Rattle.std.proofs.Common.{ℕ, List, Option, None, ap, ◌∙◌, length}
use Rattle.st_counted.specs.inside.Counts.{count_at}
use Rattle.st_counted.specs.inside.Slots.{counts_in}
use Rattle.st_counted.proofs.Slots.{counts_none}
use Rattle.st_counted.proofs.ZeroList.{nothing_counted}
use Rattle.std.proofs.lemmas.List.{length-replicate}
use Rattle.st_counted.proofs.counts.Counts.new.Goals as goal

pub invariant_of-result : goal.invariant_of-result
invariant_of-result c =
    let is = ap counts_in c.in_ok-counts.ensures ∙ counts_none 32768 in
    record {
      places = ap length is ∙ length-replicate {A = Option ℕ} 32768 None;
      none_first = ap (λ (cs : List (Option ℕ)). count_at cs 0) is ∙ nothing_counted 32768 0;
    }

pub returns : goal.returns
returns c = λ k. ap (λ (cs : List (Option ℕ)). count_at cs k) (ap counts_in c.in_ok-counts.ensures ∙ counts_none 32768) ∙ nothing_counted 32768 k
