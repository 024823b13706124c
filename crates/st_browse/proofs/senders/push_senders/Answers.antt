use Rattle.std.proofs.Common.{◌∙◌, sym, ap}
use Rattle.st_browse.specs.Classes.{is_class}
use Rattle.st_browse.specs.Replies.{both_lines}
use Rattle.st_browse.specs.inside.Entries.{name_if, named_if, named_of, names_in}
use Rattle.st_browse.proofs.Going.{said_none, said_more, said_stopped, said_all, fewer}
use Rattle.st_browse.proofs.senders.push_senders.Goals as goal

pub loop-n-init : goal.loop-n-init
loop-n-init g c =
    let t = (g.M.Memory.view c.args.m.now).objects in
    (said_none (is_class t) (names_in t c.args.globals) g.H.Host (both_lines t c.args.selector.now) c.args.host.now c.args.out.now (g.met.H.Host.only_now c.args.host.now), tt)

pub returns-in_err-push_class : goal.returns-in_err-push_class
returns-in_err-push_class g c =
    let t = (g.M.Memory.view c.args.m.now).objects in
    said_stopped (is_class t) (names_in t c.args.globals) g.H.Host (both_lines t c.args.selector.now) (named_of t c.in-Some.n)
    (sym c.in-Some.ensures.next) c.from_residual.ensures.0 c.loop-n.invariant.0 c.in_err-push_class.ensures

pub loop-n-preserved : goal.loop-n-preserved
loop-n-preserved g c =
    let t = (g.M.Memory.view c.args.m.now).objects in (
      said_more (is_class t) (names_in t c.args.globals) g.H.Host (both_lines t c.args.selector.now) (named_of t c.in-Some.n)
          (sym c.in-Some.ensures.next) c.loop-n.invariant.0 c.in_ok-push_class.ensures,
      c.in-Some.ensures.name,
    )

pub loop-n-smaller : goal.loop-n-smaller
loop-n-smaller g c =
    let t = (g.M.Memory.view c.args.m.now).objects in
    fewer (is_class t) (names_in t c.args.globals) (name_if t c.loop-n.after) (named_of t c.in-Some.n) (sym c.in-Some.ensures.next)

pub returns : goal.returns
returns g c =
    let t = (g.M.Memory.view c.args.m.now).objects in
    said_all (is_class t) (names_in t c.args.globals) g.H.Host (both_lines t c.args.selector.now)
    (ap (named_if t) (sym c.in_default.is) ∙ c.next_name.ensures.next) c.loop-n.invariant.0
