-- The law is a lemma.
use Rattle.st_model.specs.Table.{table}
use Rattle.st_model.specs.Births.{births}
use Rattle.st_install.proofs.FitsLaw.{texts_fit}
use Rattle.st_install.proofs.laws.texts_fit.Goals as goal

pub returns : goal.returns
returns z = record { table = texts_fit table; births = texts_fit births }
