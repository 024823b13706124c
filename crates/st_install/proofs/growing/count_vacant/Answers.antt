use Rattle.std.proofs.Common.{◌≡◌, ◌≤◌, Err, rules, arith, sym, subst, ◌∙◌}
use Rattle.st_install.proofs.Growth.{places_begin, places_end, place_dies, place_counted}
use Rattle.st_install.proofs.Vacancies.{one_there, most_one}
use Rattle.st_install.proofs.growing.count_vacant.Goals as goal

pub loop-k-init : goal.loop-k-init
loop-k-init g c = places_begin c.args.dictionary c.args.places (g.M.Memory.view c.args.m.now).objects

pub returns-in_err-fetch_field : goal.returns-in_err-fetch_field
returns-in_err-fetch_field g c =
    let e : c.from_residual.result ≡ Err c.in_err-fetch_field.field-0.0 = search rules in
    rw e (place_dies c.args.dictionary c.args.places (g.M.Memory.view c.args.m.now).objects c.loop-k.k c.loop-k.vacant c.loop-k.invariant c.loop-k-test.true c.in_err-fetch_field.field-0.0 c.in_err-fetch_field.ensures.fetches)

pub loop-k-preserved : goal.loop-k-preserved
loop-k-preserved g c =
    place_counted c.args.dictionary c.args.places (g.M.Memory.view c.args.m.now).objects c.loop-k.k c.loop-k.vacant c.loop-k.invariant c.loop-k-test.true
    c.in_ok-fetch_field.field-0 c.from.result c.in_ok-fetch_field.ensures.fetches (c.from.ensures ∙ one_there c.in_ok-fetch_field.field-0)
    (subst (λ n. n ≤ 1) (sym c.from.ensures) (most_one _))

pub returns : goal.returns
returns g c =
    let l = c.loop-k-test.false in
    let last : c.args.places ≤ c.loop-k.k = omega (arith, l) in
    places_end c.args.dictionary c.args.places (g.M.Memory.view c.args.m.now).objects c.loop-k.k c.loop-k.vacant c.loop-k.invariant last
