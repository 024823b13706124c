use Rattle.st_model.specs.Values.{value_of}
use Rattle.st_plain.proofs.marks.Marks.mark_page.Goals as goal

pub returns : goal.returns
unfolding value_of
returns c = c.mark_all.ensures
