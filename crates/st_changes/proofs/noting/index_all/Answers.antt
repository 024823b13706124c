use Rattle.std.proofs.Common.{◌≡◌, ◌<◌, ◌≤◌, ◌+◌, ◌-◌, List, length, take, sym, ap, subst, arith, length-take}
use Rattle.std.proofs.lemmas.List.{take_all}
use Rattle.std.proofs.Math.ListN.{length-map}
use Rattle.st_chunk.specs.Definitions.{Definition}
use Rattle.st_changes.specs.inside.IndexStates.{found}
use Rattle.st_changes.specs.inside.Views.{definition_of, definitions_of}
use Rattle.st_changes.specs.Last.{Answers}
use Rattle.st_changes.proofs.ListTexts.{item_more}
use Rattle.st_changes.proofs.Indexing.{front_good, last_many, last_at}
use Rattle.st_changes.proofs.noting.index_all.Goals as goal

pub overflow_sub-front : goal.overflow_sub-front
overflow_sub-front c = omega (arith, last_many c.args.listed.now c.args.selectors.now c.requires.finds)

pub index_parsed-requires : goal.index_parsed-requires
index_parsed-requires c = front_good c.args.listed.now (length c.args.listed.now - length c.args.selectors.now) c.requires.good

pub offset_bounds-listed-front : goal.offset_bounds-listed-front
offset_bounds-listed-front c =
    let many = last_many c.args.listed.now c.args.selectors.now c.requires.finds in
    let less : length c.args.listed.now - length c.args.selectors.now + c.loop-i.i < length c.args.listed.now = omega (arith, many, c.loop-i-test.true) in
    omega arith

pub bounds-listed-front : goal.bounds-listed-front
bounds-listed-front c = omega (arith, last_many c.args.listed.now c.args.selectors.now c.requires.finds, c.loop-i-test.true)

pub add-requires : goal.add-requires
add-requires c =
    let listed = c.args.listed.now in
    let ss = c.args.selectors.now in
    let many = last_many listed ss c.requires.finds in
    last_at listed ss c.requires.finds (length listed - length ss) c.loop-i.i c.index-listed-front.result c.index-selectors-i.result (omega (arith, many)) c.loop-i-test.true c.index-listed-front.is c.index-selectors-i.is

pub loop-i-preserved : goal.loop-i-preserved
loop-i-preserved c =
    let listed = c.args.listed.now in
    let many = last_many listed c.args.selectors.now c.requires.finds in
    let front = length listed - length c.args.selectors.now in
    let at = front + c.loop-i.i in
    let next : at + 1 ≡ front + (c.loop-i.i + 1) = omega arith in
    let many_at : at ≡ length (definitions_of (take at listed)) = omega (arith, length-map (take at listed) definition_of, length-take at listed, many, c.loop-i-test.true) in
    let more = item_more listed at c.index-listed-front.result (omega (arith, many, c.loop-i-test.true)) c.index-listed-front.is in
    subst (λ n. Answers (definitions_of (take n listed)) (found c.add.new.index)) next
    (subst (λ (ds : List Definition). Answers ds (found c.add.new.index)) (sym more) (c.in_ok-add.ensures (definitions_of (take at listed)) c.loop-i.invariant many_at))

pub returns : goal.returns
returns c =
    let listed = c.args.listed.now in
    let many = last_many listed c.args.selectors.now c.requires.finds in
    let at = length listed - length c.args.selectors.now + c.loop-i.i in
    let past : length listed ≤ at = omega (arith, many, c.loop-i-test.false) in
    subst (λ (ds : List Definition). Answers ds (found c.loop-i.index)) (ap definitions_of (take_all at listed past)) c.loop-i.invariant
