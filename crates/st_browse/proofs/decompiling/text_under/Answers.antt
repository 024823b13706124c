use Rattle.std.proofs.Common.{Some, sym, ap, ◌∙◌, subst}
use Rattle.std.specs.Prelude.{Option, IfSome, option_map}
use Rattle.st_scan.specs.declared.tree.MethodTree.{MethodTree}
use Rattle.st_scan.specs.Views.{method_view}
use Rattle.st_print.specs.Printed.{printed}
use Rattle.st_emit.specs.inside.NameViews.{names_view}
use Rattle.st_code.specs.Methods.{PartsView}
use Rattle.st_code.specs.inside.MethodDrafts.{parts_view}
use Rattle.st_decompile.specs.inside.Answers.{IsSourceOf, IsPrintedRead}
use Rattle.st_browse.specs.inside.MadeTexts.{IsTextOfParts}
use Rattle.st_browse.proofs.Making.{printed_text}
use Rattle.st_browse.proofs.decompiling.text_under.Goals as goal

pub returns-in-Some-2 : goal.returns-in-Some-2
returns-in-Some-2 g c =
    let names = names_view c.args.names.now in
    let parts = parts_view c.in-Some.parts in
    let tree = method_view c.in-Some-2.tree in
    let text = c.in_ok-print-in-Some-2.field-0.items in
    let found = c.in_ok-tree.ensures in
    let answer = subst (λ (d : Option MethodTree). IfSome d (λ t. IsSourceOf names parts (printed (method_view t)) (method_view t))) c.in-Some-2.is found.answer in
    let read = subst (λ (d : Option MethodTree). IfSome d (λ t. IsPrintedRead names parts (printed (method_view t)))) c.in-Some-2.is found.read in
    subst (λ (p : Option PartsView). IsTextOfParts names p (Some text)) (sym (ap (option_map parts_view) c.in-Some.is) ∙ c.in_ok-parts.ensures)
    (printed_text names parts tree text c.in_ok-print-in-Some-2.ensures answer read)
