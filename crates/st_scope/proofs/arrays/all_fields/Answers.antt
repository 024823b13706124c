use Rattle.std.proofs.Common.{rules}
use Rattle.st_model.specs.inside.Calls.{itself}
use Rattle.st_scope.specs.inside.Meanings.{values_of}
use Rattle.st_scope.specs.Variables.{fields_unless}
use Rattle.st_scope.proofs.Finding.{first_dies, then_finds}
use Rattle.st_scope.proofs.arrays.all_fields.Goals as goal

pub returns-in_err-count : goal.returns-in_err-count
unfolding fields_unless
returns-in_err-count g c = first_dies values_of itself _ _ _ _ c.in_err-count.field-0.0 (search rules) c.in_err-count.ensures.counts

pub returns : goal.returns
unfolding fields_unless
returns g c = then_finds values_of itself _ _ _ _ c.in_ok-count.count c.in_ok-count.ensures.counts c.first_fields.ensures
