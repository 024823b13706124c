use Rattle.std.proofs.Common.{◌≡◌, ◌≢◌, ◌<◌, ◌+◌, ◌*◌, ◌^◌, ℕ, length, get_or, w64, ap, ◌∙◌, arith}
use Rattle.std.specs.Int.{trailing_ones}
use Rattle.st_table.proofs.Search.{searched, searched_within, all_taken}
use Rattle.st_table.proofs.free_map.FreeMap.least_free.Goals as goal

room_of : (w v : ℕ) → w ≡ v → w < 2 ^ 64 → w ≢ 18446744073709551615 → v + 1 < 2 ^ 64
room_of w v e small ne = omega (arith, e, small, ne)

below_end : (s n m : ℕ) → n ≡ m → s < n → s < m
below_end s n m e h = omega (arith, e, h)

pub returns-then-flags-clause-least : goal.returns-then-flags-clause-least
returns-then-flags-clause-least c =
    let self = c.args.self.now in let fs = self.full.items in let ws = self.words.items in let s = c.loop-s.s in let j = 64 * s + c.trailing_ones.result in
    searched ws fs s j (64 * j + c.trailing_ones-then-flags.result) self.summary (below_end s c.len-s-end.result (length fs) (let e = c.len-s-end.ensures in omega (arith, e)) c.loop-s-test.true)
    (room_of c.word_at-flags.result (get_or fs s 0) c.word_at-flags.ensures c.word_at-flags.type_inv c.if-flags.true) c.loop-s.invariant
    (ap (λ t. 64 * s + t) (c.trailing_ones.ensures ∙ ap (trailing_ones w64) c.word_at-flags.ensures))
    (ap (λ t. 64 * j + t) (c.trailing_ones-then-flags.ensures ∙ ap (trailing_ones w64) c.word_at-word.ensures))

within_all : (k n : ℕ) → n ≡ 512 → k < 64 * n → k < 32768
within_all k n e h = omega (arith, e, h)

pub returns-then-flags-clause-within : goal.returns-then-flags-clause-within
returns-then-flags-clause-within c =
    let self = c.args.self.now in let fs = self.full.items in let ws = self.words.items in let s = c.loop-s.s in let j = 64 * s + c.trailing_ones.result in
    let size = self.size in
    within_all (64 * j + c.trailing_ones-then-flags.result) (length ws) size (searched_within ws fs s j (64 * j + c.trailing_ones-then-flags.result) self.summary (below_end s c.len-s-end.result (length fs) (let e = c.len-s-end.ensures in omega (arith, e)) c.loop-s-test.true)
    (room_of c.word_at-flags.result (get_or fs s 0) c.word_at-flags.ensures c.word_at-flags.type_inv c.if-flags.true) c.loop-s.invariant
    (ap (λ t. 64 * s + t) (c.trailing_ones.ensures ∙ ap (trailing_ones w64) c.word_at-flags.ensures))
    (ap (λ t. 64 * j + t) (c.trailing_ones-then-flags.ensures ∙ ap (trailing_ones w64) c.word_at-word.ensures)))

pub returns-clause-none : goal.returns-clause-none
returns-clause-none c k below = let self = c.args.self.now in let size = self.size in all_taken self.words.items self.full.items k self.summary (λ r under. c.loop-s.invariant r (let e = c.len-s-end.ensures in let t = c.loop-s-test.false in omega (arith, e, t, under))) (omega (arith, below, size))
