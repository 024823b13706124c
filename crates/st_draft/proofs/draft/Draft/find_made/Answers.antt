use Rattle.st_model.specs.Values.{word}
use Rattle.st_draft.proofs.Behind.{found_made, made_fit}
use Rattle.st_draft.proofs.draft.Draft.find_made.Goals as goal

pub returns-clause-found : goal.returns-clause-found
returns-clause-found g c =
    let d = c.args.self.now in
    found_made (g.M.Memory.view d.base.now).objects d.notes.made d.notes.made_count (word c.args.o) c.in_ok-number.number _ (made_fit d.notes) (g.met.M.Memory.whole d.base.now).places c.in_ok-number.ensures.named c.in_ok-number.ensures.below
