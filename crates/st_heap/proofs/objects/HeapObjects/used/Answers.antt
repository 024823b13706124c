use Rattle.std.proofs.Common.{sym, ◌∙◌}
use Rattle.st_heap.proofs.Changing.{total_one, total_words}
use Rattle.st_heap.specs.inside.Stores.{stored_of}
use Rattle.st_heap.proofs.objects.HeapObjects.used.Goals as goal

pub returns : goal.returns
returns c =
    let s = c.args.self.now in
    let all = stored_of s.store in
    s.store.counted ∙ (λ i. record { entries = sym (total_one all) i; words = sym (total_words all s.sound) i })
