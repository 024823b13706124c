use Rattle.std.proofs.Common.{◌/◌, ◌%◌, ℕ, w64, ap, ◌∙◌, arith}
use Rattle.std.specs.Prelude.{◌==◌}
use Rattle.std.specs.Int.{bit_at}
use Rattle.std.proofs.lemmas.Nat.Bits.{bit_at_set_same, bit_at_set_other}
use Rattle.st_lookup.proofs.Bits.{marked_same, marked_other, read_any}
use Rattle.st_lookup.proofs.watch.set_bit.Goals as goal

pub returns-clause-set : goal.returns-clause-set
returns-clause-set c =
    let ws = c.args.words.now.items in let k = c.args.k in let within = c.requires in
    ap (λ (b : ℕ). b == 1) (marked_same ws k _ _ (omega (arith, within)) (bit_at_set_same w64 c.index_mut.result.now (k % 64) (omega arith)))

pub returns-clause-others : goal.returns-clause-others
returns-clause-others c i ne =
    let ws = c.args.words.now.items in let k = c.args.k in let within = c.requires in
    ap (λ (b : ℕ). b == 1)
    (marked_other ws k _ i (omega (arith, within)) ne (λ r low other. bit_at_set_other w64 c.index_mut.result.now (k % 64) (omega arith) r other ∙ ap (λ w. bit_at w r) (c.index_mut.ensures.value ∙ read_any ws (k / 64) _ 0 (omega (arith, within)))))
