use Rattle.std.proofs.Common.{◌≡◌, rules, Err}
use Rattle.st_install.proofs.Seeking.{look-died, look-held, look-vacant, look-on}
use Rattle.st_install.proofs.places.look_at_place.Goals as goal

pub returns-in_err-held-clause-ends : goal.returns-in_err-held-clause-ends
returns-in_err-held-clause-ends g c =
    let e : c.from_residual.result ≡ Err c.in_err-held.field-0.0 = search rules in
    rw e (look-died c.args.dictionary c.args.sought c.args.k (g.M.Memory.view c.args.m.now).objects c.in_err-held.field-0.0 c.in_err-held.ensures.fetches)

pub returns-then-held-sought-clause-ends : goal.returns-then-held-sought-clause-ends
returns-then-held-sought-clause-ends g c = look-held c.args.dictionary c.args.sought c.args.k (g.M.Memory.view c.args.m.now).objects c.in_ok-held.held c.in_ok-held.ensures.fetches c.if-held-sought.true

pub returns-then-held-clause-ends : goal.returns-then-held-clause-ends
returns-then-held-clause-ends g c = look-vacant c.args.dictionary c.args.sought c.args.k (g.M.Memory.view c.args.m.now).objects c.in_ok-held.held c.in_ok-held.ensures.fetches c.if-held-sought.false c.if-held.true

pub returns-clause-ends : goal.returns-clause-ends
returns-clause-ends g c = look-on c.args.dictionary c.args.sought c.args.k (g.M.Memory.view c.args.m.now).objects c.in_ok-held.held c.in_ok-held.ensures.fetches c.if-held-sought.false c.if-held.false
