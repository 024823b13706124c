use Rattle.std.proofs.Common.{◌≡◌, ◌/◌, ◌∷◌, [], refl, sym, ap, ◌∙◌, subst, arith, true, false}
use Rattle.std.proofs.lemmas.Grind.{common_steps}
use Rattle.st_model.specs.Values.{value, is_small, Ref}
use Rattle.st_model.specs.Settled.{is_marked}
use Rattle.st_model.proofs.Pointers.{value_of-even}
use Rattle.st_clean.specs.inside.Found.{Notes}
use Rattle.st_clean.proofs.Steps.{notes_small, notes_again, notes_one}
use Rattle.st_clean.proofs.state.Found.note.Goals as goal

pub returns-then-is_small : goal.returns-then-is_small
returns-then-is_small c = notes_small (value c.args.o) c.args.self.now (grind (arith, common_steps))

pub returns-then-index : goal.returns-then-index
returns-then-index c =
    let even : is_small (value c.args.o) ≡ false = grind (arith, common_steps) in
    let half : c.from-name.result ≡ c.args.o.0 / 2 = grind (arith, common_steps) in
    let is = value_of-even c.args.o.0 even in
    let there : is_marked c.args.self.now.marks.items (c.args.o.0 / 2) ≡ true = grind (arith, common_steps) in
    subst (λ v. Notes (v ∷ []) c.args.self.now c.args.self.now) (sym is) (notes_again (c.args.o.0 / 2) c.args.self.now there)

pub returns : goal.returns
returns c =
    let even : is_small (value c.args.o) ≡ false = grind (arith, common_steps) in
    let half : c.from-name.result ≡ c.args.o.0 / 2 = grind (arith, common_steps) in
    let is : value c.args.o ≡ Ref c.from-name.result = value_of-even c.args.o.0 even ∙ ap (λ n. Ref n) (sym half) in
    let fresh : is_marked c.args.self.now.marks.items c.from-name.result ≡ false = grind (arith, common_steps) in
    notes_one c.args.self.now _ c.args.o c.from-name.result is (grind (arith, common_steps)) fresh refl (grind (arith, common_steps))
