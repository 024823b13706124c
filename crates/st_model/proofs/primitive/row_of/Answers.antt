use Rattle.std.proofs.Common.{rules, sym, arith}
use Rattle.std.proofs.lemmas.List.{get_or_past, get_or_default}
use Rattle.st_model.specs.declared.primitive.PrimitiveRow.TheVariants.{Unassigned}
use Rattle.st_model.specs.declared.primitives.TheConstants.{PRIMITIVES}
use Rattle.st_model.specs.PrimitiveTable.{row_of}
use Rattle.st_model.proofs.PrimitiveRows.{row_numbered}
use Rattle.st_model.proofs.primitive.row_of.Goals as goal

pub returns-then-number-lt129-clause-row : goal.returns-then-number-lt129-clause-row
unfolding row_of
returns-then-number-lt129-clause-row c = get_or_default PRIMITIVES c.args.number _ Unassigned (omega arith)

pub returns-then-number-lt129-clause-numbered : goal.returns-then-number-lt129-clause-numbered
returns-then-number-lt129-clause-numbered c = row_numbered c.args.number _ (search rules)

pub returns-else-number-lt129-clause-row : goal.returns-else-number-lt129-clause-row
unfolding row_of
returns-else-number-lt129-clause-row c = sym (get_or_past PRIMITIVES c.args.number Unassigned (omega arith))
