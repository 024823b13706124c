use Rattle.std.proofs.Common.{◌∙◌, sym, ap}
use Rattle.st_browse.specs.inside.Listing.{is_chosen, line_text}
use Rattle.st_browse.specs.inside.Entries.{name_if, named_if, named_of, names_in}
use Rattle.st_browse.proofs.Going.{said_none, said_more, said_stopped, said_all, fewer}
use Rattle.st_browse.proofs.listing.push_listed.Goals as goal

pub loop-n-init : goal.loop-n-init
loop-n-init g c =
    let t = (g.M.Memory.view c.args.m.now).objects in
    (said_none (is_chosen t c.args.choice) (names_in t c.args.names) g.H.Host (λ n. line_text t c.args.line n.name) c.args.host.now c.args.out.now (g.met.H.Host.only_now c.args.host.now), tt)

pub returns-in_err-push_chosen : goal.returns-in_err-push_chosen
returns-in_err-push_chosen g c =
    let t = (g.M.Memory.view c.args.m.now).objects in
    said_stopped (is_chosen t c.args.choice) (names_in t c.args.names) g.H.Host (λ n. line_text t c.args.line n.name) (named_of t c.in-Some.n)
    (sym c.in-Some.ensures.next) c.from_residual.ensures.0 c.loop-n.invariant.0 c.in_err-push_chosen.ensures

pub loop-n-preserved : goal.loop-n-preserved
loop-n-preserved g c =
    let t = (g.M.Memory.view c.args.m.now).objects in (
      said_more (is_chosen t c.args.choice) (names_in t c.args.names) g.H.Host (λ n. line_text t c.args.line n.name) (named_of t c.in-Some.n)
          (sym c.in-Some.ensures.next) c.loop-n.invariant.0 c.in_ok-push_chosen.ensures,
      c.in-Some.ensures.name,
    )

pub loop-n-smaller : goal.loop-n-smaller
loop-n-smaller g c =
    let t = (g.M.Memory.view c.args.m.now).objects in
    fewer (is_chosen t c.args.choice) (names_in t c.args.names) (name_if t c.loop-n.after) (named_of t c.in-Some.n) (sym c.in-Some.ensures.next)

pub returns : goal.returns
returns g c =
    let t = (g.M.Memory.view c.args.m.now).objects in
    said_all (is_chosen t c.args.choice) (names_in t c.args.names) g.H.Host (λ n. line_text t c.args.line n.name)
    (ap (named_if t) (sym c.in_default.is) ∙ c.next_name.ensures.next) c.loop-n.invariant.0
