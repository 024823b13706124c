use Rattle.std.proofs.Common.{◌≡◌, ◌+◌, ◌*◌, ◌/◌, ◌%◌, ◌≤◌, ◌++◌, ℕ, List, length, take, drop, length-append, length-drop, sym, ap, ◌∙◌, arith}
use Rattle.std.proofs.lemmas.List.{length-take-le, take-append-le, take_at}
use Rattle.st_model.specs.Values.{value}
use Rattle.st_memory.specs.inside.Copied.{laid, units_from, with_units_in}
use Rattle.st_bitblt.specs.inside.Copied.{object_of_source}
use Rattle.st_bitblt.specs.inside.Words.{words}
use Rattle.st_bitblt.proofs.Stretches.{stretch_copied, pixel_taken_first, pixel_front, taken_twice, taken_fits}
use Rattle.st_bitblt.proofs.stretch.copy_stretch.Goals as goal

pub returns : goal.returns
returns g c =
    let old = g.M.Memory.view c.args.m.now in
    let dest = value c.args.ends.now.dest in
    let few = c.requires.few in
    let room = c.requires.can.buffers in
    let count : ℕ = (c.args.a.p % 16 + c.args.a.n + 15) / 16 in
    let whole : ℕ = (count + 15) / 16 * 16 in
    let read = c.read_source.new.into in
    let was = c.read_words.new.into in
    let made = c.combine_pixels.new.dest in
    let within : whole ≤ 128 = omega (arith, few) in
    let enough : count ≤ whole = omega arith in
    let taken : length (take count c.args.dest.now) ≡ count = length-take-le count c.args.dest.now (omega (arith, within, enough, room.1)) in
    let long_was : length was ≡ count = c.read_words.auto.into ∙ taken in
    let long_read : length read ≡ count + 1 = c.read_source.auto.into ∙ length-take-le (count + 1) c.args.source.now (omega (arith, within, enough, room.0)) in
    let sum = length-append was (drop count c.args.dest.now) in
    let past = length-drop count c.args.dest.now in
    let long_made : length made ≡ whole = c.combine_pixels.auto.dest ∙ length-take-le whole (was ++ drop count c.args.dest.now) (omega (arith, sum, past, long_was, within, room.1)) in
    let long : length (take count made) ≡ count = length-take-le count made (omega (arith, long_made, enough)) in
    let kept : take count (take whole (was ++ drop count c.args.dest.now)) ≡ was = taken_twice count whole _ enough ∙ take_at was (drop count c.args.dest.now) count long_was in
    stretch_copied c.args.rule.now c.args.tone (object_of_source c.args.ends.now.source) dest old (g.M.Memory.view c.write_words.new.self) c.args.a.p c.args.a.q c.args.a.n
    _ (take count made) _ c.requires.can.dest c.requires.some few long c.requires.can.room
    (λ k h le. pixel_taken_first (whole + 1) k _ (omega (arith, h, long, enough)) ∙ pixel_front read _ k (omega (arith, h, long, long_read)) ∙ c.read_source.ensures k (omega (arith, h, long, long_read)) le)
    (kept ∙ c.read_words.ensures ∙ ap (units_from old.objects dest (c.args.a.p / 16)) (taken ∙ sym long))
    c.combine_pixels.ensures.pixels (taken_fits count made c.combine_pixels.ensures.fits)
    (c.write_words.ensures.objects ∙ ap (λ (us : List ℕ). with_units_in old.objects dest (laid (c.args.a.p / 16) us (words old dest))) (take-append-le count made _ (omega (arith, long_made, enough))))
    c.write_words.ensures.held c.write_words.ensures.head
