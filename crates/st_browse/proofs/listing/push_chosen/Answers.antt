use Rattle.st_call.proofs.Pushing.{push_none, push_as}
use Rattle.st_browse.specs.inside.Listing.{is_chosen, line_text}
use Rattle.st_browse.specs.inside.Entries.{named_of}
use Rattle.st_browse.proofs.Going.{none_chosen}
use Rattle.st_browse.proofs.listing.push_chosen.Goals as goal

pub returns-else-is_chosen : goal.returns-else-is_chosen
returns-else-is_chosen g c =
    let t = (g.M.Memory.view c.args.m.now).objects in
    push_as (push_none g.H.Host c.args.host.now (g.met.H.Host.only_now c.args.host.now))
    (none_chosen (is_chosen t c.args.choice) (λ n. line_text t c.args.line n.name) (named_of t c.args.n) c.is_chosen.result c.is_chosen.ensures c.if-is_chosen.false)
