use Rattle.std.proofs.Common.{◌≡◌, ◌+◌, List, [], ◌∷◌, ◌++◌, length, take, sym, ap, ◌∙◌, arith, length-append}
use Rattle.st_chunk.specs.Definitions.{Definition, entry, entries}
use Rattle.st_changes.specs.inside.Views.{definition_of, definitions_of}
use Rattle.st_changes.proofs.ListTexts.{entries_more, item_more, item_good}
use Rattle.st_changes.proofs.Places.{at_mapped, apart_more, next_within, last_place}
use Rattle.st_changes.proofs.counting.count_before.Goals as goal

pub returns-then-at-place-clause-before : goal.returns-then-at-place-clause-before
returns-then-at-place-clause-before c =
    sym c.if-at-place.true ∙ c.loop-i.invariant.at ∙ at_mapped c.args.listed.now c.loop-i.i

pub entry_length-at-requires : goal.entry_length-at-requires
entry_length-at-requires c = item_good c.args.listed.now c.loop-i.i c.index-listed-i.result c.loop-i-test.true c.index-listed-i.is c.requires.good

pub overflow_add-at : goal.overflow_add-at
overflow_add-at c =
    let within = next_within c.args.listed.now c.loop-i.i c.args.place c.loop-i.at c.index-listed-i.result c.loop-i-test.true c.index-listed-i.is c.loop-i.invariant.at c.if-at-place.false c.requires.stands c.loop-i.invariant.apart in
    omega (arith, within, c.entry_length-at.ensures, c.ranges.place.fits)

pub loop-i-preserved : goal.loop-i-preserved
loop-i-preserved c =
    let listed = c.args.listed.now in
    let i = c.loop-i.i in
    let x = c.index-listed-i.result in
    let d = definition_of x in
    let ds = definitions_of (take i listed) in
    let inv = c.loop-i.invariant in
    let more : definitions_of (take (i + 1) listed) ≡ ds ++ d ∷ [] = item_more listed i x c.loop-i-test.true c.index-listed-i.is in
    let total = ap (λ (es : List Definition). length (entries es)) more ∙ ap length (entries_more ds d) ∙ length-append (entries ds) (entry d) in
    record {
      at = omega (arith, inv.at, c.entry_length-at.ensures, total);
      apart = apart_more listed i c.args.place c.loop-i.at inv.at c.if-at-place.false inv.apart;
    }

pub returns-clause-before : goal.returns-clause-before
returns-clause-before c =
    last_place c.args.listed.now c.loop-i.i c.args.place c.loop-i-test.false c.requires.stands c.loop-i.invariant.apart
