use Rattle.std.proofs.Common.{◌<◌, length, subst, sym}
use Rattle.st_model.specs.Values.{value}
use Rattle.st_bitblt.specs.inside.Words.{words}
use Rattle.st_bitblt.specs.inside.Copied.{object_of_source}
use Rattle.st_bitblt.specs.inside.Stretches.{IsStretch}
use Rattle.st_bitblt.proofs.Stretches.{stretch_of_ones, stretch_of_words, stretch_of_first, read_behind_first}
use Rattle.st_bitblt.proofs.stretch.read_source.Goals as goal

pub returns-in-Ones : goal.returns-in-Ones
returns-in-Ones g c =
    let v = g.M.Memory.view c.args.m.now in
    subst (λ ws. IsStretch v (object_of_source c.args.source) c.args.at ws) (sym (c.fill.ensures.after (λ y e. e))) (stretch_of_ones v c.args.source c.args.at (length c.args.into.now) c.in-Ones.is)

pub returns-then-at-eq0 : goal.returns-then-at-eq0
returns-then-at-eq0 g c =
    let v = g.M.Memory.view c.args.m.now in
    stretch_of_first v c.args.source c.in-Words.object c.in-Words.length c.args.at _ c.in-Words.is c.if-at-eq0.true
    (λ k h. read_behind_first c.args.into.now c.read_from.new.into (words v (value c.in-Words.object)) k c.requires.some c.read_from.auto.into c.read_from.ensures h)

pub returns-else-at-eq0 : goal.returns-else-at-eq0
returns-else-at-eq0 g c =
    let r = c.read_from-else-at-eq0 in
    stretch_of_words (g.M.Memory.view c.args.m.now) c.args.source c.in-Words.object c.in-Words.length c.args.at r.new.into c.in-Words.is c.if-at-eq0.false
    (λ k h. r.ensures k (subst (λ n. k < n) r.auto.into h))
