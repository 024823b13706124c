use Rattle.std.proofs.Common.{◌≡◌, ◌/◌, false, ap, ◌∙◌, arith, set, true}
use Rattle.std.proofs.lemmas.Grind.{common_steps}
use Rattle.st_model.specs.Values.{value, is_small}
use Rattle.st_model.specs.Settled.{is_marked}
use Rattle.st_plain.proofs.Marking.{marked_name}
use Rattle.st_plain.proofs.marks.Marks.mark.Goals as goal

pub returns-then-not-is_small : goal.returns-then-not-is_small
returns-then-not-is_small c = λ n.
    let marks = c.args.self.now.names.items in
    let half : c.from.result ≡ c.args.o.0 / 2 = grind (arith, common_steps) in
    let even : is_small (value c.args.o) ≡ false = grind (arith, common_steps) in
    ap (λ k. is_marked (set marks k true) n) half ∙ marked_name marks c.args.o.0 n even (grind (arith, common_steps))
