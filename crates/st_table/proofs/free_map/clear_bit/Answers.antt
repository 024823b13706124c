use Rattle.std.proofs.Common.{◌/◌, ◌%◌, w64, ap, ◌∙◌, arith, length-set}
use Rattle.std.specs.Int.{bit_at}
use Rattle.std.proofs.lemmas.List.{get_or-set_other}
use Rattle.std.proofs.lemmas.Nat.Bits.{bit_at_clear_same, bit_at_clear_other}
use Rattle.st_table.proofs.Search.{marked_same, marked_other, read_any}
use Rattle.st_table.proofs.free_map.clear_bit.Goals as goal

pub returns-clause-clear : goal.returns-clause-clear
returns-clause-clear c = marked_same c.args.words.now.items c.args.k _ _ (omega (arith, c.requires)) (bit_at_clear_same w64 c.index_mut.result.now (c.args.k % 64) (omega arith))

pub returns-clause-rest : goal.returns-clause-rest
returns-clause-rest c =
    let ws = c.args.words.now.items in let k = c.args.k in let within = c.requires in
    record {
      size = length-set ws (k / 64) _;
      others = λ i ne. marked_other ws k _ i (omega (arith, within)) ne (λ r low other. bit_at_clear_other w64 c.index_mut.result.now (k % 64) (omega arith) r low other ∙ ap (λ w. bit_at w r) (c.index_mut.ensures.value ∙ read_any ws (k / 64) _ 0 (omega (arith, within))));
      words = λ j ne. get_or-set_other ws (k / 64) j _ 0 ne;
    }
