use Rattle.std.proofs.Common.{◌≡◌, ◌+◌, List, length, ap, ◌∙◌, sym, subst, arith}
use Rattle.std.specs.Prelude.{All}
use Rattle.std.proofs.lemmas.List.{drop-map}
use Rattle.std.proofs.lemmas.List.Elements.{All-drop}
use Rattle.st_chunk.specs.Texts.{doubled}
use Rattle.st_chunk.specs.Definitions.{Definition, IsDefinition, entry, entries}
use Rattle.st_changes.specs.declared.definition.Definition as declared
use Rattle.st_changes.specs.inside.Views.{definition_of, definitions_of}
use Rattle.st_changes.proofs.Marks.{doubled_is}
use Rattle.st_changes.proofs.Lasts.{entry_parts}
use Rattle.st_changes.proofs.ListTexts.{item_good}
use Rattle.st_changes.proofs.Superseding.{item_parts}
use Rattle.st_changes.proofs.OtherFile.{rest_taken}
use Rattle.st_changes.proofs.Texts.{last_before, last_is}
use Rattle.st_changes.proofs.counting.text_span.Goals as goal

pub doubled_length-length-requires : goal.doubled_length-length-requires
doubled_length-length-requires c =
    let good = item_good c.args.listed.now c.args.number c.index-listed-number.result c.requires.within c.index-listed-number.is c.requires.good in
    omega (arith, good.short, ap length c.deref.ensures.value)

pub entries_length-after-requires-clause-good : goal.entries_length-after-requires-clause-good
entries_length-after-requires-clause-good c =
    let n = c.args.number + 1 in
    subst (λ (ls : List declared.Definition). All IsDefinition (definitions_of ls)) (sym (rest_taken n c.args.listed.now))
    (subst (All IsDefinition) (drop-map definition_of n c.args.listed.now) (All-drop IsDefinition n (definitions_of c.args.listed.now) c.requires.good))

pub entries_length-after-requires-clause-fits : goal.entries_length-after-requires-clause-fits
entries_length-after-requires-clause-fits c =
    let parts = item_parts c.args.listed.now c.args.number c.index-listed-number.result c.requires.within c.index-listed-number.is in
    let rest = ap (λ (ls : List declared.Definition). length (entries (definitions_of ls))) (rest_taken (c.args.number + 1) c.args.listed.now) in
    omega (arith, parts, rest, c.requires.ends, c.ranges.end.fits)

pub overflow_sub-result : goal.overflow_sub-result
overflow_sub-result c =
    let parts = item_parts c.args.listed.now c.args.number c.index-listed-number.result c.requires.within c.index-listed-number.is in
    let rest = ap (λ (ls : List declared.Definition). length (entries (definitions_of ls))) (rest_taken (c.args.number + 1) c.args.listed.now) in
    omega (arith, parts, rest, c.requires.ends, c.entries_length-after.ensures)

pub overflow_sub-result-2 : goal.overflow_sub-result-2
overflow_sub-result-2 c =
    let parts = item_parts c.args.listed.now c.args.number c.index-listed-number.result c.requires.within c.index-listed-number.is in
    let rest = ap (λ (ls : List declared.Definition). length (entries (definitions_of ls))) (rest_taken (c.args.number + 1) c.args.listed.now) in
    let text = ap length (sym (doubled_is c.deref.result.now) ∙ ap doubled c.deref.ensures.value) in
    omega (arith, parts, rest, c.requires.ends, c.entries_length-after.ensures, entry_parts (definition_of c.index-listed-number.result), text, c.doubled_length-length.ensures.exact)

pub overflow_sub-result-3 : goal.overflow_sub-result-3
overflow_sub-result-3 c =
    let parts = item_parts c.args.listed.now c.args.number c.index-listed-number.result c.requires.within c.index-listed-number.is in
    let rest = ap (λ (ls : List declared.Definition). length (entries (definitions_of ls))) (rest_taken (c.args.number + 1) c.args.listed.now) in
    let text = ap length (sym (doubled_is c.deref.result.now) ∙ ap doubled c.deref.ensures.value) in
    omega (arith, parts, rest, c.requires.ends, c.entries_length-after.ensures, entry_parts (definition_of c.index-listed-number.result), text, c.doubled_length-length.ensures.exact)

pub returns : goal.returns
returns c k m s last =
    let listed = c.args.listed.now in
    let n = c.args.number in
    let before = ap (λ (ds : List Definition). length (entries ds)) (last_before listed n k m s last) in
    let same = last_is listed n k m s last c.index-listed-number.result c.index-listed-number.is in
    let whole = ap (λ (d : Definition). length (entry d)) same in
    let parts = item_parts listed n c.index-listed-number.result c.requires.within c.index-listed-number.is in
    let rest = ap (λ (ls : List declared.Definition). length (entries (definitions_of ls))) (rest_taken (n + 1) listed) in
    let text : c.doubled_length-length.result ≡ length (doubled last.last.text) =
    c.doubled_length-length.ensures.exact ∙ ap length (sym (doubled_is c.deref.result.now) ∙ ap doubled (c.deref.ensures.value ∙ ap (λ (d : Definition). d.text) same)) in
    record {
      number = n;
      last = last;
      at = omega (arith, before, whole, parts, rest, text, entry_parts last.last, c.requires.ends, c.entries_length-after.ensures);
      long = text;
    }
