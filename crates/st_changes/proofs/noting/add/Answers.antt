use Rattle.st_changes.specs.inside.IndexStates.{found}
use Rattle.st_changes.proofs.Lasts.{answers_same}
use Rattle.st_changes.proofs.noting.add.Goals as goal

pub returns : goal.returns
returns c ds answers place =
    c.note.ensures ds (answers_same ds (found c.args.index.now) (found c.prepare.new.index) c.prepare.ensures.same answers) place
