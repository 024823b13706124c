use Rattle.std.proofs.Common.{◌≡◌, false, sym, subst}
use Rattle.st_model.specs.Values.{value}
use Rattle.st_model.specs.Machine.{Went}
use Rattle.st_model.specs.Table.{table}
use Rattle.st_scope.specs.Variables.{fields_unless, fields_or_none}
use Rattle.st_scope.specs.inside.Meanings.{values, values_of}
use Rattle.st_scope.proofs.Finding.{finds_same}
use Rattle.st_scope.proofs.FieldsOf.{no_fields, its_fields}
use Rattle.st_scope.proofs.arrays.fields_or_none.Goals as goal

pub returns-then-o-eq2 : goal.returns-then-o-eq2
returns-then-o-eq2 g c = λ s e. subst (λ os. (fields_or_none table (value c.args.o)).run s ≡ Went (values os) s) (sym c.new.ensures.items) (no_fields c.args.o s c.if-o-eq2.true)

pub returns : goal.returns
returns g c = finds_same values_of (g.M.Memory.view c.args.m.now).objects (fields_unless table (value c.args.o) false) (fields_or_none table (value c.args.o)) (λ s e. its_fields c.args.o s c.if-o-eq2.false) c.all_fields.result c.all_fields.ensures
