use Rattle.std.proofs.Common.{◌∙◌, sym, ap, arith}
use Rattle.st_browse.specs.Classes.{is_class}
use Rattle.st_browse.specs.Replies.{senders_count}
use Rattle.st_browse.specs.inside.Entries.{count_of, name_at, name_if, named_if, named_of, names_in}
use Rattle.st_browse.proofs.Going.{fewer, order_few}
use Rattle.st_browse.proofs.Summing.{summed_none, summed_more, summed_fits, summed_all}
use Rattle.st_browse.proofs.senders.count_senders.Goals as goal

pub loop-n-init : goal.loop-n-init
loop-n-init g c =
    let t = (g.M.Memory.view c.args.m.now).objects in (
      summed_none (is_class t) (names_in t c.args.globals) (senders_count t c.args.selector.now) (count_of c.args.globals)
          (order_few (name_at t c.args.globals) (count_of c.args.globals)),
      tt,
    )

pub overflow_add-count : goal.overflow_add-count
overflow_add-count g c =
    let t = (g.M.Memory.view c.args.m.now).objects in
    let a = summed_fits (is_class t) (names_in t c.args.globals) (senders_count t c.args.selector.now) (count_of c.args.globals) (name_if t c.loop-n.after) c.loop-n.count
    c.count_class-count.result (named_of t c.in-Some.n) (sym c.in-Some.ensures.next) c.count_class-count.ensures.few c.loop-n.invariant.0 in
    let r = c.requires in
    omega (arith, a, r)

pub loop-n-preserved : goal.loop-n-preserved
loop-n-preserved g c =
    let t = (g.M.Memory.view c.args.m.now).objects in (
      summed_more (is_class t) (names_in t c.args.globals) (senders_count t c.args.selector.now) (count_of c.args.globals) (name_if t c.loop-n.after) c.loop-n.count
          c.count_class-count.result (named_of t c.in-Some.n) (sym c.in-Some.ensures.next) c.count_class-count.ensures.count c.count_class-count.ensures.few c.loop-n.invariant.0,
      c.in-Some.ensures.name,
    )

pub loop-n-smaller : goal.loop-n-smaller
loop-n-smaller g c =
    let t = (g.M.Memory.view c.args.m.now).objects in
    fewer (is_class t) (names_in t c.args.globals) (name_if t c.loop-n.after) (named_of t c.in-Some.n) (sym c.in-Some.ensures.next)

pub returns : goal.returns
returns g c =
    let t = (g.M.Memory.view c.args.m.now).objects in
    summed_all (is_class t) (names_in t c.args.globals) (senders_count t c.args.selector.now) (count_of c.args.globals) (name_if t c.loop-n.after) c.loop-n.count
    (ap (named_if t) (sym c.in_default.is) ∙ c.next_name.ensures.next) c.loop-n.invariant.0
