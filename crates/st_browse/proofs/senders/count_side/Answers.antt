use Rattle.std.proofs.Common.{length, ap, ◌∙◌}
use Rattle.st_model.specs.Values.{value}
use Rattle.st_browse.specs.Classes.{on_side}
use Rattle.st_browse.proofs.Found.{senders_listed}
use Rattle.st_browse.proofs.senders.count_side.Goals as goal

pub returns-clause-count : goal.returns-clause-count
returns-clause-count g c =
    let t = (g.M.Memory.view c.args.m.now).objects in
    c.count_listed.ensures.count
    ∙ ap length (senders_listed t c.args.selector.now c.methods_of-methods.result (value c.on_side.result) (on_side t c.args.meta (value c.args.class)) c.methods_of-methods.ensures.methods c.on_side.ensures)
