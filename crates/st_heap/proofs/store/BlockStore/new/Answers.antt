use Rattle.std.proofs.Common.{◌≡◌, ℕ, ◌+◌, ◌/◌, None, sym, ap, ◌∙◌}
use Rattle.st_heap.specs.inside.Blocks.{block, held}
use Rattle.st_heap.specs.inside.Heaps.{words_of, blocks_of}
use Rattle.st_heap.specs.inside.Stored.{slot, stored_all, one_stored, stored_words}
use Rattle.st_heap.proofs.Storing.{none_stored}
use Rattle.st_heap.proofs.Totals.{total_empty}
use Rattle.st_heap.proofs.Tying.{tied_empty, no_blocks, held_none}
use Rattle.st_heap.proofs.store.BlockStore.new.Goals as goal

pub invariant_of-result : goal.invariant_of-result
invariant_of-result c =
    let h = c.in_ok-heap.heap in
    let t = c.in_ok-table.table in
    let ws = words_of h in
    let bs = blocks_of h in
    let empty = c.in_ok-table.ensures.empty in
    let none_there : (k : ℕ) → slot (stored_all ws bs t) k ≡ None = λ k. none_stored ws bs t k (empty k) in
    record {
      tied = tied_empty t bs empty (λ k. ap (λ b. block b k) c.in_ok-heap.ensures.blocks ∙ no_blocks (c.args.words / 2 + 1) k);
      places = c.in_ok-table.ensures.length;
      counted = λ i. record { entries = sym (total_empty one_stored (stored_all ws bs t) none_there) i; words = sym (total_empty stored_words (stored_all ws bs t) none_there) i };
      held = ap held c.in_ok-heap.ensures.blocks ∙ held_none (c.args.words / 2 + 1);
    }

pub returns-clause-empty : goal.returns-clause-empty
returns-clause-empty c = λ k. none_stored (words_of c.in_ok-heap.heap) (blocks_of c.in_ok-heap.heap) c.in_ok-table.table k (c.in_ok-table.ensures.empty k)
