use Rattle.std.proofs.Common.{is_some, sym, ap, ◌∙◌, arith}
use Rattle.st_model.proofs.TableLemmas.{entry_past}
use Rattle.st_memory.proofs.Bearing.{live_place}
use Rattle.st_draft.proofs.draft.Draft.is_taken.Goals as goal

pub returns-then-place-gt32767 : goal.returns-then-place-gt32767
returns-then-place-gt32767 g c =
    let t = (g.M.Memory.view c.args.self.now.base.now).objects in
    let places = (g.met.M.Memory.whole c.args.self.now.base.now).places in
    let far = c.if-place-gt32767.true in
    sym (ap is_some (entry_past t c.args.place (omega (arith, places, far))))

pub returns : goal.returns
returns g c =
    let t = (g.M.Memory.view c.args.self.now.base.now).objects in
    c.live.ensures ∙ live_place t c.args.place
