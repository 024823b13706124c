use Rattle.std.proofs.Common.{◌∙◌, sym, ap, arith}
use Rattle.st_browse.specs.inside.Listing.{is_chosen}
use Rattle.st_browse.specs.inside.Entries.{count_of, name_at, name_if, named_if, named_of, names_in}
use Rattle.st_browse.proofs.Going.{counted_none, counted_more, counted_within, counted_all, fewer, listed_few}
use Rattle.st_browse.proofs.listing.count_listed.Goals as goal

pub loop-n-init : goal.loop-n-init
loop-n-init g c =
    let t = (g.M.Memory.view c.args.m.now).objects in
    (counted_none (is_chosen t c.args.choice) (names_in t c.args.names), tt)

pub overflow_add-count : goal.overflow_add-count
overflow_add-count g c =
    let t = (g.M.Memory.view c.args.m.now).objects in
    let p = is_chosen t c.args.choice in
    let a = counted_within p (names_in t c.args.names) (name_if t c.loop-n.after) c.loop-n.count c.count_chosen-count.result (named_of t c.in-Some.n)
    (sym c.in-Some.ensures.next) c.count_chosen-count.ensures.count c.loop-n.invariant.0 in
    let b = listed_few p (name_at t c.args.names) (count_of c.args.names) in
    let r = c.requires in
    omega (arith, a, b, r)

pub loop-n-preserved : goal.loop-n-preserved
loop-n-preserved g c =
    let t = (g.M.Memory.view c.args.m.now).objects in (
      counted_more (is_chosen t c.args.choice) (names_in t c.args.names) (name_if t c.loop-n.after) c.loop-n.count c.count_chosen-count.result (named_of t c.in-Some.n)
          (sym c.in-Some.ensures.next) c.count_chosen-count.ensures.count c.loop-n.invariant.0,
      c.in-Some.ensures.name,
    )

pub loop-n-smaller : goal.loop-n-smaller
loop-n-smaller g c =
    let t = (g.M.Memory.view c.args.m.now).objects in
    fewer (is_chosen t c.args.choice) (names_in t c.args.names) (name_if t c.loop-n.after) (named_of t c.in-Some.n) (sym c.in-Some.ensures.next)

pub returns-clause-count : goal.returns-clause-count
returns-clause-count g c =
    let t = (g.M.Memory.view c.args.m.now).objects in
    counted_all (is_chosen t c.args.choice) (names_in t c.args.names) (name_if t c.loop-n.after) c.loop-n.count
    (ap (named_if t) (sym c.in_default.is) ∙ c.next_name.ensures.next) c.loop-n.invariant.0

pub returns-clause-few : goal.returns-clause-few
returns-clause-few g c =
    let t = (g.M.Memory.view c.args.m.now).objects in
    let p = is_chosen t c.args.choice in
    let a = counted_all p (names_in t c.args.names) (name_if t c.loop-n.after) c.loop-n.count (ap (named_if t) (sym c.in_default.is) ∙ c.next_name.ensures.next) c.loop-n.invariant.0 in
    let b = listed_few p (name_at t c.args.names) (count_of c.args.names) in
    omega (arith, a, b)
