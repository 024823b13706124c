use Rattle.std.proofs.Common.{◌∙◌}
use Rattle.st_model.specs.Values.{value, word}
use Rattle.st_bitblt.specs.inside.Reading.{IsForm}
use Rattle.st_bitblt.specs.inside.Words.{HasWords}
use Rattle.st_bitblt.proofs.Words.{size_of_words, has_words}
use Rattle.st_bitblt.proofs.paint.source_of.Goals as goal

pub returns-in-Some-clause-there : goal.returns-in-Some-clause-there
returns-in-Some-clause-there g c =
    let v = g.M.Memory.view c.args.m.now in
    let f : IsForm v.objects c.in-Some.form = rw c.in-Some.is at c.requires in
    let has : HasWords v (value c.object_with_words-object.result) = rw c.object_with_words-object.ensures (has_words v (word c.in-Some.form.bits) _ f.bits) in
    (has, c.size.ensures.size ∙ size_of_words v (value c.object_with_words-object.result) (g.met.M.Memory.whole c.args.m.now) has)
