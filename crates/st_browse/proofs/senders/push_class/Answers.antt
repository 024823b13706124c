use Rattle.st_call.proofs.Pushing.{push_none, push_as}
use Rattle.st_browse.specs.Classes.{is_class}
use Rattle.st_browse.specs.Replies.{both_lines}
use Rattle.st_browse.specs.inside.Entries.{named_of}
use Rattle.st_browse.proofs.Going.{none_chosen, one_chosen}
use Rattle.st_browse.proofs.Sides.{class_tested}
use Rattle.st_browse.proofs.senders.push_class.Goals as goal

pub push_both-requires-clause-live : goal.push_both-requires-clause-live
push_both-requires-clause-live g c =
    let t = (g.M.Memory.view c.args.m.now).objects in
    class_tested t (named_of t c.args.n) c.is_class.result c.is_class.ensures c.if-is_class.true

pub returns-then-is_class : goal.returns-then-is_class
returns-then-is_class g c =
    let t = (g.M.Memory.view c.args.m.now).objects in
    push_as c.push_both.ensures (one_chosen (is_class t) (both_lines t c.args.selector.now) (named_of t c.args.n) c.is_class.result c.is_class.ensures c.if-is_class.true)

pub returns-else-is_class : goal.returns-else-is_class
returns-else-is_class g c =
    let t = (g.M.Memory.view c.args.m.now).objects in
    push_as (push_none g.H.Host c.args.host.now (g.met.H.Host.only_now c.args.host.now))
    (none_chosen (is_class t) (both_lines t c.args.selector.now) (named_of t c.args.n) c.is_class.result c.is_class.ensures c.if-is_class.false)
