use Rattle.st_session.proofs.Sources.{shown_is}
use Rattle.st_session.proofs.laws.made_texts_have_the_code.Goals as goal

pub returns : goal.returns
returns c = shown_is
