use Rattle.std.proofs.Common.{ap}
use Rattle.std.specs.List.{flat_map}
use Rattle.st_model.specs.Values.{value}
use Rattle.st_call.proofs.Pushing.{push_as}
use Rattle.st_browse.specs.Classes.{on_side}
use Rattle.st_browse.specs.Replies.{sender_line}
use Rattle.st_browse.specs.inside.Entries.{name_of}
use Rattle.st_browse.proofs.Found.{senders_listed}
use Rattle.st_browse.proofs.senders.push_side.Goals as goal

pub returns : goal.returns
returns g c =
    let t = (g.M.Memory.view c.args.m.now).objects in
    push_as c.push_listed.ensures
    (ap (flat_map (λ n. sender_line (name_of t c.args.class.name) c.args.meta n.name))
    (senders_listed t c.args.selector.now c.methods_of-methods.result (value c.on_side.result) (on_side t c.args.meta (value c.args.class.value)) c.methods_of-methods.ensures.methods c.on_side.ensures))
