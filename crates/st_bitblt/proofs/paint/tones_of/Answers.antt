use Rattle.std.proofs.Common.{◌∙◌, take, get_or, List, ℕ, sym, ap}
use Rattle.std.proofs.lemmas.List.{get_or-take}
use Rattle.st_model.specs.Values.{Value}
use Rattle.st_bitblt.specs.inside.Words.{words}
use Rattle.st_bitblt.specs.inside.Painting.{tone_at}
use Rattle.st_bitblt.proofs.paint.tones_of.Goals as goal

pub returns-in-Some : goal.returns-in-Some
returns-in-Some g c i h =
    let v = g.M.Memory.view c.args.m.now in
    ap (λ (ts : List ℕ). get_or ts i 0) c.read_words.ensures
    ∙ ap (λ (o : Value). get_or (take 16 (words v o)) i 0) c.object_with_words-object.ensures
    ∙ get_or-take 16 (words v _) i 0 h
    ∙ sym (ap (λ f. tone_at v f i) c.in-Some.is)
