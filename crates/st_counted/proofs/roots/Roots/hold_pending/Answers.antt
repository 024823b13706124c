use Rattle.std.proofs.Common.{◌≡◌, ◌<◌, length, ap, ◌∙◌, arith, length-set}
use Rattle.std.proofs.lemmas.Grind.{common_steps}
use Rattle.st_model.specs.declared.place.RootPlace.TheVariants.{Pending}
use Rattle.st_model.specs.View.{with_held}
use Rattle.st_model.specs.Values.{value}
use Rattle.st_counted.specs.inside.Held.{held_of}
use Rattle.st_counted.proofs.Holding.{held_words-pending, nil_from}
use Rattle.st_counted.proofs.roots.Roots.hold_pending.Goals as goal

pub invariant_of-self : goal.invariant_of-self
invariant_of-self c =
    let r = c.args.self.now in
    let xs = r.pending.items in
    let k = c.from.result in
    let same : c.args.k ≡ k = grind (arith, common_steps) in
    let end = c.end_with-self.ensures in
    let within : k < length xs = let a = r.long in grind (arith, common_steps) in
    record {
      long = length-set xs k c.args.o ∙ r.long;
      within = end.within;
      none = nil_from xs r.pending_end c.end_with-self.result k c.args.o within r.none
          (λ l. end.here (omega (arith, l, same))) (λ j l d. end.after j l (λ e. d (e ∙ same)));
    }

pub returns : goal.returns
returns c =
    let r = c.args.self.now in
    let same : c.from.result ≡ c.args.k = grind (arith, common_steps) in
    held_words-pending r.places r.pending.items c.from.result c.args.o ∙ ap (λ k. with_held (held_of r) (Pending k) (value c.args.o)) same
