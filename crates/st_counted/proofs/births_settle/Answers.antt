-- The law with its two halves is three lemmas.
use Rattle.st_model.specs.Births.{births}
use Rattle.st_counted.proofs.Taking.{takes_none_supported, left_births, births_settled}
use Rattle.st_counted.proofs.births_settle.Goals as goal

pub returns : goal.returns
returns z = record { taken = takes_none_supported births; left = left_births; settled = births_settled }
