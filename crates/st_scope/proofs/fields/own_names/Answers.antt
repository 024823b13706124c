use Rattle.std.proofs.Common.{rules, subst}
use Rattle.st_model.specs.Values.{value}
use Rattle.st_model.specs.Table.{table}
use Rattle.st_scope.specs.Variables.{own_names, names_of}
use Rattle.st_scope.specs.inside.Meanings.{values, values_of}
use Rattle.st_scope.specs.inside.Findings.{Finds, texts_of}
use Rattle.st_scope.proofs.Finding.{first_dies, first_fails, then_finds}
use Rattle.st_scope.proofs.fields.own_names.Goals as goal

pub returns-in_err-array : goal.returns-in_err-array
unfolding own_names
returns-in_err-array g c = first_dies texts_of value _ _ _ _ c.in_err-array.field-0.0 (search rules) c.in_err-array.ensures.fetches

pub returns-in_err-list : goal.returns-in_err-list
unfolding own_names
returns-in_err-list g c = then_finds texts_of value _ _ _ _ c.in_ok-array.array c.in_ok-array.ensures.fetches (first_fails texts_of values_of _ _ _ _ c.in_err-list.field-0.0 (search rules) c.in_err-list.ensures)

pub returns : goal.returns
unfolding own_names
returns g c =
    let t = (g.M.Memory.view c.args.m.now).objects in
    let names = subst (λ os. Finds (names_of table (values os)) texts_of t c.names_of.result) c.deref.ensures.value c.names_of.ensures in
    then_finds texts_of value _ _ _ _ c.in_ok-array.array c.in_ok-array.ensures.fetches (then_finds texts_of values_of _ _ _ _ c.in_ok-list.list c.in_ok-list.ensures names)
