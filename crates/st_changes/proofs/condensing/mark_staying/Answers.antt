use Rattle.std.proofs.Common.{◌≡◌, ◌+◌, ◌<◌, List, [], ◌∷◌, ◌++◌, length, take, drop, refl, sym, ap, ◌∙◌, subst, arith, length-append, length-take, Bool}
use Rattle.std.specs.Prelude.{not}
use Rattle.std.proofs.Math.ListN.{length-map}
use Rattle.st_chunk.specs.Definitions.{Definition}
use Rattle.st_changes.specs.inside.IndexStates.{found}
use Rattle.st_changes.specs.inside.Views.{definition_of, definitions_of}
use Rattle.st_changes.specs.Last.{Answers}
use Rattle.st_changes.specs.Condensing.{Stays, kept_by}
use Rattle.st_changes.specs.Condensing as stays
use Rattle.st_changes.proofs.ListTexts.{item_more, item_good}
use Rattle.st_changes.proofs.Superseding.{told_more, behind_is, all_is}
use Rattle.st_changes.proofs.condensing.mark_staying.Goals as goal

pub loop-i-init : goal.loop-i-init
loop-i-init c = record {
  many = ap length c.new-marks.ensures.items;
  stays = subst (λ (bs : List Bool). Stays (definitions_of c.args.listed.now) [] (kept_by bs [])) (sym c.new-marks.ensures.items) stays.none;
}

pub is_superseded-requires : goal.is_superseded-requires
is_superseded-requires c = item_good c.args.listed.now c.loop-i.i c.index-listed-i.result (omega (arith, c.loop-i-test.true, c.requires.within)) c.index-listed-i.is c.requires.good

pub loop-i-preserved : goal.loop-i-preserved
loop-i-preserved c =
    let listed = c.args.listed.now in
    let i = c.loop-i.i in
    let x = c.index-listed-i.result in
    let d = definition_of x in
    let less : i < length listed = omega (arith, c.loop-i-test.true, c.requires.within) in
    let ds = definitions_of (take i listed) in
    let rest = definitions_of (drop (i + 1) listed) in
    let more : definitions_of (take (i + 1) listed) ≡ ds ++ d ∷ [] = item_more listed i x less c.index-listed-i.is in
    let inv = c.loop-i.invariant in
    let place : i ≡ length ds = omega (arith, length-map (take i listed) definition_of, length-take i listed, less) in
    let answers = subst (λ (es : List Definition). Answers es (found c.args.index.now)) (all_is listed i x less c.index-listed-i.is) c.requires.answers in
    let tells = c.in_ok-superseded.ensures ds rest answers place in
    let many : length c.loop-i.marks.items ≡ length ds = omega (arith, inv.many, place) in
    let before = subst (λ (es : List Definition). Stays es ds (kept_by c.loop-i.marks.items ds)) (behind_is listed i x less c.index-listed-i.is) inv.stays in
    let after = told_more c.in_ok-superseded.superseded (not c.in_ok-superseded.superseded) c.loop-i.marks.items d rest ds many before tells refl in
    let pushed = c.in_ok-push.ensures.items in
    record {
      many = ap length pushed ∙ length-append c.loop-i.marks.items _ ∙ omega (arith, inv.many);
      stays = subst (λ (bs : List Bool). Stays rest (definitions_of (take (i + 1) listed)) (kept_by bs (definitions_of (take (i + 1) listed)))) (sym pushed)
          (subst (λ (es : List Definition). Stays rest es (kept_by (c.loop-i.marks.items ++ not c.in_ok-superseded.superseded ∷ []) es)) (sym more) after);
    }
