use Rattle.std.proofs.Common.{ℕ, List, Ok, Result, sym, ap, ◌∙◌}
use Rattle.st_scan.specs.Views.{method_view}
use Rattle.st_emit.specs.inside.NameViews.{names_view}
use Rattle.st_emit.specs.Steps.{all_bytes}
use Rattle.st_emit.specs.declared.literal.Literal.{Literal}
use Rattle.st_emit.specs.inside.Views.{literals_view}
use Rattle.st_code.specs.declared.fault.Fault.{Fault}
use Rattle.st_code.specs.Methods.{PartsView, parts_or}
use Rattle.st_code.proofs.Completed.{parts_same}
use Rattle.st_code.proofs.compiler.compile.Goals as goal

-- the parts of a method with these literals
abbrev with_literals : List ℕ → ℕ → List ℕ → List Literal → Result PartsView Fault
with_literals selector header bytes literals = Ok (record { selector = selector; header = header; literals = literals_view literals; bytes = bytes })

pub returns-clause-parts : goal.returns-clause-parts
returns-clause-parts c =
    let tree = method_view c.args.t.now in
    let names = names_view c.args.names.now in
    let made = c.in_ok-made.made in
    ap (parts_or tree names) c.in_ok-made.ensures.fault
    ∙ ap Ok (parts_same tree names made c.in_ok-selector.selector.items c.in_ok-header.header c.in_ok-bytes.bytes.items c.in_ok-made.ensures.whole
    (c.in_ok-selector.ensures.items_if_clones_equal (λ x y h. h) ∙ c.deref-2.ensures.value) c.in_ok-header.ensures (c.in_ok-bytes.ensures ∙ ap all_bytes c.deref.ensures.value))
    ∙ ap (with_literals c.in_ok-selector.selector.items c.in_ok-header.header c.in_ok-bytes.bytes.items) (sym c.into_list.ensures)
