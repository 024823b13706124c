use Rattle.std.proofs.Common.{◌≡◌, sym, subst}
use Rattle.st_model.specs.Values.{value}
use Rattle.st_model.specs.Machine.{Went}
use Rattle.st_model.specs.Table.{table}
use Rattle.st_scope.specs.Tables.{bytes_of}
use Rattle.st_scope.specs.Variables.{name_of}
use Rattle.st_scope.specs.inside.Findings.{text_of}
use Rattle.st_scope.proofs.Finding.{finds_same}
use Rattle.st_scope.proofs.FieldsOf.{no_name, its_name}
use Rattle.st_scope.proofs.fields.name_of.Goals as goal

pub returns-then-o-eq2 : goal.returns-then-o-eq2
returns-then-o-eq2 g c = λ s e. subst (λ text. (name_of table (value c.args.o)).run s ≡ Went text s) (sym c.new.ensures.items) (no_name c.args.o s c.if-o-eq2.true)

pub returns : goal.returns
returns g c = finds_same text_of (g.M.Memory.view c.args.m.now).objects (bytes_of table (value c.args.o)) (name_of table (value c.args.o)) (λ s e. its_name c.args.o s c.if-o-eq2.false) c.bytes_of.result c.bytes_of.ensures
