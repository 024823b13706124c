-- The law with its two halves is three lemmas.
use Rattle.st_model.specs.Table.{table}
use Rattle.st_counted.proofs.Taking.{takes_none_supported, left_table, table_settled}
use Rattle.st_counted.proofs.table_settles.Goals as goal

pub returns : goal.returns
returns z = record { taken = takes_none_supported table; left = left_table; settled = table_settled }
