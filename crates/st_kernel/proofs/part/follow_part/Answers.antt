use Rattle.std.proofs.Common.{rules, ◌≡◌, ◌∷◌, ◌+◌, Err, sym, subst}
use Rattle.st_install.specs.Defining.{installed}
use Rattle.st_kernel_text.specs.Parts.{header, method}
use Rattle.st_kernel_text.specs.inside.Views.{part_of, side_of}
use Rattle.st_kernel.specs.inside.Following.{side_in, IsUnderway, GoesOn}
use Rattle.st_kernel.proofs.Underway.{header_passed, plain_passed}
use Rattle.st_kernel.proofs.part.follow_part.Goals as goal

pub returns-in-Header-clause-follows : goal.returns-in-Header-clause-follows
returns-in-Header-clause-follows g c = λ cause whole parts u.
    let v = g.M.Memory.view c.args.m.now in
    let part : part_of c.args.part.now ≡ header (side_of c.in-Header.side) = search rules in
    subst (λ x. IsUnderway installed cause whole (c.args.chunk + 1) x parts v) (sym c.heading_of.ensures)
    (header_passed installed cause whole c.args.chunk (side_in c.args.heading) parts v (side_of c.in-Header.side)
    (subst (λ p. IsUnderway installed cause whole c.args.chunk (side_in c.args.heading) (p ∷ parts) v) part u))

pub returns-in-Class-clause-follows : goal.returns-in-Class-clause-follows
returns-in-Class-clause-follows g c = λ cause whole parts u.
    plain_passed installed cause whole c.args.chunk (side_in c.args.heading) parts (g.M.Memory.view c.args.m.now) (part_of c.args.part.now) (search rules) u

pub returns-in_err-install_method-in-Method-clause-follows : goal.returns-in_err-install_method-in-Method-clause-follows
returns-in_err-install_method-in-Method-clause-follows g c = λ cause whole parts u.
    let side = side_in c.args.heading in
    let e : c.from_residual.result ≡ Err c.in_err-install_method-in-Method.field-0.0 = search rules in
    let part : part_of c.args.part.now ≡ method c.deref.result.now = search rules in
    subst (λ r. GoesOn installed cause whole c.args.chunk side parts r (g.M.Memory.view c.install_method.new.m)) (sym e)
    (c.in_err-install_method-in-Method.ensures.installs cause whole parts (subst (λ p. IsUnderway installed cause whole c.args.chunk side (p ∷ parts) (g.M.Memory.view c.args.m.now)) part u))
