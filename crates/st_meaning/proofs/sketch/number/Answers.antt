use Rattle.std.proofs.Common.{◌≡◌, ℕ, Option, None, refl, sym, subst, rules}
use Rattle.st_emit.specs.Literals.{number, small_number}
use Rattle.st_emit.specs.Resolving.{small_or}
use Rattle.st_meaning.specs.declared.arena.Start.TheVariants.{Known}
use Rattle.st_meaning.specs.inside.Meant.{IsStart}
use Rattle.st_meaning.specs.inside.Sketches.{Builds}
use Rattle.st_meaning.proofs.Sketching.{literal_built}
use Rattle.st_meaning.proofs.sketch.number.Goals as goal

pub returns : goal.returns
returns c =
    let new = record c.args.sketch.now { draft = c.named.new.self } in
    let none : small_number c.args.n ≡ None = search (rules, c.in_default.ensures, c.in_default.is) in
    subst (λ (o : Option ℕ). Builds (small_or o c.args.n) (IsStart (Known c.number_value.result)) c.args.sketch.now new) (sym none)
    (literal_built (number c.args.n) c.in_ok-place.place c.byte_of.result c.number_value.result c.args.sketch.now new c.in_ok-place.ensures refl c.byte_of.ensures c.number_value.ensures)
