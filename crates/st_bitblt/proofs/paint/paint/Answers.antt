use Rattle.std.proofs.Common.{arith, refl}
use Rattle.st_model.specs.Values.{word}
use Rattle.st_bitblt.proofs.Words.{has_words, words_fit}
use Rattle.st_bitblt.proofs.Painted.{narrow, has_room, rows_painted, nothing_painted}
use Rattle.st_bitblt.proofs.paint.paint.Goals as goal

pub returns-then-x-eq0 : goal.returns-then-x-eq0
returns-then-x-eq0 g c =
    let old = g.M.Memory.view c.args.m.now in
    let has = has_words old (word c.args.bit_blt.destination.bits) _ c.requires.destination.bits in
    nothing_painted old c.args.bit_blt c.lines_copied-x.result (rw c.width_of.ensures at c.lines_copied-x.ensures) c.if-x-eq0.true has (words_fit old (word c.args.bit_blt.destination.bits) (g.met.M.Memory.whole c.args.m.now) has)

pub copy_rows-requires-clause-narrow : goal.copy_rows-requires-clause-narrow
copy_rows-requires-clause-narrow g c =
    let l = narrow c.args.bit_blt.across _ c.args.bit_blt.source c.lines_copied-x.result (rw c.width_of.ensures at c.lines_copied-x.ensures) (omega arith) in
    omega (arith, l, c.layout-rows.ensures.is.n, c.layout-rows.ensures.is.across, c.source_words.ensures.words)

pub copy_rows-requires-clause-room : goal.copy_rows-requires-clause-room
copy_rows-requires-clause-room g c =
    rw c.object_with_words.ensures (has_room c.args.bit_blt.across c.args.bit_blt.down c.args.bit_blt.destination c.args.bit_blt.source _ c.lines_copied-x.result c.lines_copied-y.result c.layout-rows.result
    (rw c.width_of.ensures at c.lines_copied-x.ensures) (rw c.height_of.ensures at c.lines_copied-y.ensures) c.requires.destination.bits.enough (omega arith) (rw (c.row_words.ensures, c.source_words.ensures.words) at c.layout-rows.ensures.is))

pub returns : goal.returns
returns g c =
    let old = g.M.Memory.view c.args.m.now in
    let new = g.M.Memory.view c.copy_rows.new.m in
    let b = c.args.bit_blt in
    let has = has_words old (word b.destination.bits) _ c.requires.destination.bits in
    rows_painted old new b c.lines_copied-x.result c.lines_copied-y.result c.layout-rows.result _
    (record {
      across = rw c.width_of.ensures at c.lines_copied-x.ensures;
      down = rw c.height_of.ensures at c.lines_copied-y.ensures;
      layout = rw (c.row_words.ensures, c.source_words.ensures.words) at c.layout-rows.ensures.is;
      rule = c.new.ensures;
      tones = c.tones_of.ensures;
      first = refl;
    })
    c.requires (rw (c.source_of.ensures.object, c.object_with_words.ensures) at c.copy_rows.ensures) (words_fit old (word b.destination.bits) (g.met.M.Memory.whole c.args.m.now) has)
