use Rattle.st_model.specs.Births.{births}
use Rattle.st_meaning.proofs.Walked.{steps_walk}
use Rattle.st_meaning.proofs.Cycled.{cycle_steps, births_keep, tabular_keeps}
use Rattle.st_meaning.proofs.steps.step_walks.Goals as goal

pub returns-clause-book : goal.returns-clause-book
returns-clause-book c = steps_walk births births_keep

pub returns-clause-book_cycles : goal.returns-clause-book_cycles
returns-clause-book_cycles c = cycle_steps births

pub returns-clause-tables : goal.returns-clause-tables
returns-clause-tables c m t = steps_walk m (tabular_keeps m t)

pub returns-clause-table_cycles : goal.returns-clause-table_cycles
returns-clause-table_cycles c m = cycle_steps m
