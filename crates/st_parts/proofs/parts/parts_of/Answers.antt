use Rattle.std.proofs.Common.{◌≡◌, ◌≤◌, List, Option, Some, None, length, drop, get_or, refl, sym, ap, ap₂, ◌∙◌, subst}
use Rattle.st_model.specs.declared.oop.Oop.{Oop}
use Rattle.st_emit.specs.inside.NameViews.{names_view}
use Rattle.st_emit.specs.inside.Views.{literals_view}
use Rattle.st_code.specs.Methods.{PartsView}
use Rattle.st_scope.specs.inside.Meanings.{values}
use Rattle.st_parts.specs.Parts.{ending_of, all_read}
use Rattle.st_parts.specs.inside.Places.{place_at}
use Rattle.st_parts.specs.inside.Readings.{literals_if}
use Rattle.st_parts.proofs.PartsRead.{made_of, parts_told}
use Rattle.st_parts.proofs.parts.parts_of.Goals as goal

pub returns-in_default-2 : goal.returns-in_default-2
returns-in_default-2 g c =
    let v = g.M.Memory.view c.args.m.now in
    let names = names_view c.args.names.now in
    let at = place_at c.args.class c.args.name.now c.args.meta c.args.selector.now c.args.method in
    let words = c.as_slice.result.now in
    let bytes = c.in_ok-bytes.bytes.items in
    let header : Oop = get_or words 0 (record { 0 = 0 }) in
    let literals = ap values (c.behind_header-vs.ensures ∙ ap (drop 1) (c.deref.ensures.value ∙ sym c.as_slice.ensures.value)) in
    parts_told names v at bytes words (record { 0 = 0 }) (ap values c.as_slice.ensures.value ∙ c.in_ok-words.ensures) c.in_ok-bytes.ensures c.in-len1-up.len_at_least
    (literals_if c.in_ok-literals.field-0)
    (c.in_ok-literals.ensures ∙ ap₂ (all_read names v at) (c.ending_of-ending.ensures ∙ ap (ending_of header.0) c.deref-2.ensures.value) literals)
    None (ap (λ ls. made_of names v at bytes header.0 (literals_if ls)) (sym c.in_default-2.is))

pub returns : goal.returns
returns g c =
    let v = g.M.Memory.view c.args.m.now in
    let names = names_view c.args.names.now in
    let at = place_at c.args.class c.args.name.now c.args.meta c.args.selector.now c.args.method in
    let words = c.as_slice.result.now in
    let bytes = c.in_ok-bytes.bytes.items in
    let header : Oop = get_or words 0 (record { 0 = 0 }) in
    let literals = ap values (c.behind_header-vs.ensures ∙ ap (drop 1) (c.deref.ensures.value ∙ sym c.as_slice.ensures.value)) in
    parts_told names v at bytes words (record { 0 = 0 }) (ap values c.as_slice.ensures.value ∙ c.in_ok-words.ensures) c.in_ok-bytes.ensures c.in-len1-up.len_at_least
    (literals_if c.in_ok-literals.field-0)
    (c.in_ok-literals.ensures ∙ ap₂ (all_read names v at) (c.ending_of-ending.ensures ∙ ap (ending_of header.0) c.deref-2.ensures.value) literals)
    _
    (ap (λ (s : List _). Some (record { selector = s; header = header.0; literals = literals_view c.in-Some.literals.items; bytes = bytes })) (c.in_ok-to_vec.ensures.items_if_clones_equal (λ x y h. h))
    ∙ ap (λ ls. made_of names v at bytes header.0 (literals_if ls)) (sym c.in-Some.is))
