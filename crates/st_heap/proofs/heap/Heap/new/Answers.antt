use Rattle.std.proofs.Common.{◌/◌, ◌+◌, List, ap, ◌∙◌, length, refl, subst, sym}
use Rattle.std.proofs.lemmas.List.{length-replicate}
use Rattle.st_heap.specs.declared.block.Block.{Block}
use Rattle.st_heap.specs.inside.Blocks.{IsLaid}
use Rattle.st_heap.proofs.Laying.{laid_new}
use Rattle.st_heap.proofs.heap.Heap.new.Goals as goal

pub invariant_of-result : goal.invariant_of-result
invariant_of-result c =
    let words = c.in_ok-with_len.field-0 in
    let P : List Block → Type 0 = λ bs. IsLaid words bs 0 c.args.words in
    record { laid = subst P (sym c.in_ok-blocks.ensures) (laid_new words c.args.words (c.args.words / 2 + 1) (ap length c.in_ok-with_len.ensures ∙ length-replicate c.args.words 0) c.ranges.words.fits refl) }
