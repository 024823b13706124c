use Rattle.std.proofs.Common.{◌≡◌, ◌≢◌, ◌<◌, ◌+◌, ◌/◌, ◌^◌, ℕ, get_or, refl, ◌∙◌, arith}
use Rattle.st_table.proofs.Search.{summary_same}
use Rattle.st_table.proofs.free_map.FreeMap.take.Goals as goal

room_of : (w v : ℕ) → w ≡ v → w < 2 ^ 64 → w ≢ 18446744073709551615 → v + 1 < 2 ^ 64
room_of w v e small ne = omega (arith, e, small, ne)

pub invariant_of-self-else-word_at : goal.invariant_of-self-else-word_at
invariant_of-self-else-word_at c =
    let self = c.args.self.now in let e = c.set_bit.ensures.rest in let size = e.size in
    record {
      summary = summary_same self.words.items self.full.items c.set_bit.new.words.items (c.args.k / 64) c.args.k self.summary e.size e.words refl c.requires.free (room_of c.word_at.result (get_or c.set_bit.new.words.items (c.args.k / 64) 0) c.word_at.ensures c.word_at.type_inv c.if-word_at.false);
      size = size ∙ self.size;
    }
