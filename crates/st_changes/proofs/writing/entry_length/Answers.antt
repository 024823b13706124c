use Rattle.st_chunk.specs.Definitions.{entry}
use Rattle.st_changes.specs.inside.Runs.{doubled_by}
use Rattle.std.proofs.Common.{◌≡◌, ◌+◌, ◌-◌, ℕ, List, length, ap, arith}
use Rattle.st_changes.specs.inside.Views.{definition_of}
use Rattle.st_changes.proofs.EntryTexts.{entry_long, parts_short}
use Rattle.st_changes.proofs.writing.entry_length.Goals as goal

pub doubled_length-requires : goal.doubled_length-requires
doubled_length-requires c = omega (arith, (parts_short (definition_of c.args.definition.now) c.requires).1, ap length c.deref.ensures.value)

pub doubled_length-requires-2 : goal.doubled_length-requires-2
doubled_length-requires-2 c = omega (arith, (parts_short (definition_of c.args.definition.now) c.requires).1, ap length c.deref-2.ensures.value)

pub returns : goal.returns
returns c =
    let d = definition_of c.args.definition.now in
    let quotes = ap (λ (x : List ℕ). length (doubled_by 39 x)) c.deref.ensures.value in
    let plain = ap length c.deref.ensures.value in
    let marks = ap (λ (x : List ℕ). length (doubled_by 33 x)) c.deref-2.ensures.value in
    let text = ap (λ (x : List ℕ). length (doubled_by 33 x)) c.deref-3.ensures.value in
    let front = ap length c.side_front.ensures.value in
    let is : c.len-2.result + length c.side_front.result.now + c.doubled_length-2.result + (c.doubled_length.result - c.len.result) + 1 + c.doubled_length-3.result + 7 ≡ length (entry d) =
    omega (arith, entry_long d c.requires, quotes, plain, marks, text, front, c.doubled_length.ensures.exact, c.doubled_length.ensures.least, c.doubled_length-2.ensures.exact, c.doubled_length-3.ensures.exact, c.len.ensures, c.len-2.ensures, c.args.definition.now.class.ok, c.args.definition.now.category.ok) in
    is
