use Rattle.st_session.proofs.Sources.{condensed_shows}
use Rattle.st_session.proofs.laws.condensing_keeps_texts.Goals as goal

pub returns : goal.returns
returns k = condensed_shows
