use Rattle.std.proofs.Common.{◌≡◌, ◌+◌, List, [], ◌∷◌, ◌++◌, length, take, ap, ◌∙◌, arith, length-append}
use Rattle.std.proofs.lemmas.List.{take_all}
use Rattle.st_chunk.specs.Definitions.{Definition, entry, entries}
use Rattle.st_changes.specs.declared.definition.Definition as declared
use Rattle.st_changes.specs.inside.Views.{definition_of, definitions_of}
use Rattle.st_changes.proofs.ListTexts.{entries_more, item_more, item_good, item_within}
use Rattle.st_changes.proofs.counting.entries_length.Goals as goal

pub entry_length-end-requires : goal.entry_length-end-requires
entry_length-end-requires c = item_good c.args.listed.now c.loop-definition.definition-index c.definition-item.result c.loop-definition-test.true c.definition-item.is c.requires.good

pub overflow_add-end : goal.overflow_add-end
overflow_add-end c =
    let within = item_within c.args.listed.now c.loop-definition.definition-index c.definition-item.result c.loop-definition-test.true c.definition-item.is in
    omega (arith, within, c.requires.fits, c.loop-definition.invariant, c.entry_length-end.ensures)

pub loop-definition-preserved : goal.loop-definition-preserved
loop-definition-preserved c =
    let listed = c.args.listed.now in
    let i = c.loop-definition.definition-index in
    let d = definition_of c.definition-item.result in
    let ds = definitions_of (take i listed) in
    let more : definitions_of (take (i + 1) listed) ≡ ds ++ d ∷ [] = item_more listed i c.definition-item.result c.loop-definition-test.true c.definition-item.is in
    let total = ap (λ (es : List Definition). length (entries es)) more ∙ ap length (entries_more ds d) ∙ length-append (entries ds) (entry d) in
    omega (arith, c.loop-definition.invariant, c.entry_length-end.ensures, total)

pub returns : goal.returns
returns c =
    c.loop-definition.invariant
    ∙ ap (λ (ls : List declared.Definition). length (entries (definitions_of ls))) (take_all c.loop-definition.definition-index c.args.listed.now c.loop-definition-test.false)
