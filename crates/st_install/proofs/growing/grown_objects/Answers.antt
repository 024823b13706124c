use Rattle.std.proofs.Common.{◌≡◌, List, [], ◌∷◌, ◌++◌, ap, ◌∙◌, arith}
use Rattle.st_model.specs.Machine.{Went}
use Rattle.st_install.specs.declared.plan.NewObject.{NewObject}
use Rattle.st_install.proofs.Growth.{grown_tells, grown_listed}
use Rattle.st_model.proofs.Runs.{runs}
use Rattle.st_install.specs.Dictionaries.{grown_objects}
use Rattle.st_install.proofs.growing.grown_objects.Goals as goal

pub returns-clause-tells : goal.returns-clause-tells
returns-clause-tells g c =
    let t = (g.M.Memory.view c.args.m.now).objects in
    let x = c.pointers_object.result in
    let y = c.pointers_object-2.result in
    let listed : c.push-2.new.self.items ≡ x ∷ y ∷ [] =
    c.in_ok-push-2.ensures.items ∙ ap (λ (os : List NewObject). os ++ y ∷ []) (c.in_ok-push.ensures.items ∙ ap (λ (os : List NewObject). os ++ x ∷ []) c.new-objects.ensures.items) in
    λ s f.
    grown_tells c.args.dictionary c.args.next t c.in_ok-class.class c.in_ok-tally.tally c.in_ok-places.places c.in_ok-fields.fields.items c.in_ok-methods.methods.items
    c.in_ok-class.ensures.class c.in_ok-tally.ensures.fetches c.in_ok-places.ensures.counts c.in_ok-fields.ensures c.in_ok-methods.ensures s f
    ∙ ap (λ os. Went os s) (grown_listed c.args.dictionary c.args.next t c.in_ok-class.class c.push-2.new.self.items x y c.in_ok-fields.fields.items c.in_ok-methods.methods.items listed c.pointers_object.ensures c.pointers_object-2.ensures)

pub returns-in_err-class-clause-tells : goal.returns-in_err-class-clause-tells
unfolding grown_objects
returns-in_err-class-clause-tells g c = grind (arith, runs)

pub returns-in_err-tally-clause-tells : goal.returns-in_err-tally-clause-tells
unfolding grown_objects
returns-in_err-tally-clause-tells g c = grind (arith, runs)

pub returns-in_err-places-clause-tells : goal.returns-in_err-places-clause-tells
unfolding grown_objects
returns-in_err-places-clause-tells g c = grind (arith, runs)
