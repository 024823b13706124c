use Rattle.std.proofs.Common.{◌≡◌, List, length, take, sym, ap, subst, arith, length-take}
use Rattle.std.proofs.lemmas.List.{take_all}
use Rattle.std.proofs.Math.ListN.{length-map}
use Rattle.st_chunk.specs.Definitions.{Definition}
use Rattle.st_changes.specs.inside.Views.{definition_of, definitions_of}
use Rattle.st_changes.specs.inside.IndexStates.{found}
use Rattle.st_changes.specs.Last.{Answers}
use Rattle.st_changes.proofs.ListTexts.{item_more, item_good}
use Rattle.st_changes.proofs.noting.index_parsed.Goals as goal

pub find_selector-requires : goal.find_selector-requires
find_selector-requires c =
    let good = item_good c.args.listed.now c.loop-number.number c.index-listed-number.result c.loop-number-test.true c.index-listed-number.is c.requires in
    omega (arith, good.short, ap length c.deref.ensures.value)

pub loop-number-preserved : goal.loop-number-preserved
loop-number-preserved c =
    let listed = c.args.listed.now in
    let i = c.loop-number.number in
    let many : i ≡ length (definitions_of (take i listed)) = omega (arith, length-map (take i listed) definition_of, length-take i listed, c.loop-number-test.true) in
    subst (λ (ds : List Definition). Answers ds (found c.add.new.index)) (sym (item_more listed i c.index-listed-number.result c.loop-number-test.true c.index-listed-number.is))
    (c.in_ok-add.ensures (definitions_of (take i listed)) c.loop-number.invariant many)

pub returns : goal.returns
returns c =
    subst (λ (ds : List Definition). Answers ds (found c.loop-number.index)) (ap definitions_of (take_all c.loop-number.number c.args.listed.now c.loop-number-test.false)) c.loop-number.invariant
