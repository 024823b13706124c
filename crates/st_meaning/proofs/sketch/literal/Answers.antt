use Rattle.std.proofs.Common.{◌≡◌, refl, subst}
use Rattle.st_emit.specs.Literals.{LiteralView, named_literal}
use Rattle.st_emit.specs.inside.Drafts.{Resolves}
use Rattle.st_meaning.proofs.Sketching.{content_built}
use Rattle.st_meaning.proofs.sketch.literal.Goals as goal

pub returns : goal.returns
returns c =
    let new = record c.args.sketch.now { draft = c.named.new.self } in
    let named = subst (λ (l : LiteralView). Resolves (named_literal l) c.args.sketch.now.draft c.named.new.self c.in_ok-place.place) c.in_ok-literal_of.ensures c.in_ok-place.ensures in
    content_built c.args.what.now c.in_ok-place.place c.byte_of.result c.args.sketch.now new c.in_default.not-Number named refl c.byte_of.ensures
