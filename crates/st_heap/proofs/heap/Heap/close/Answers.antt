use Rattle.std.proofs.Common.{◌≡◌, sym, ap, ◌∙◌, arith}
use Rattle.st_heap.specs.declared.block.Block.{Block}
use Rattle.st_heap.specs.inside.Blocks.{none, block}
use Rattle.st_heap.specs.inside.Heaps.{blocks_of}
use Rattle.st_heap.proofs.Laying.{laid_set, none_fits, held_set, taken_unowned, tied_forget}
use Rattle.st_heap.proofs.Moving.{read_closed, read_above}
use Rattle.st_heap.proofs.heap.Heap.close.Goals as goal

pub invariant_of-self : goal.invariant_of-self
invariant_of-self c =
    let self = c.args.self.now in
    let laid = self.laid in
    let sum = laid.sum in
    let hole : (block self.blocks.items c.args.k).owner.0 ≡ 0 = let z = c.if-block-eq0.true in sym (ap (λ (b : Block). b.owner.0) c.read_block-block.ensures) ∙ z in
    let change = held_set self.blocks.items c.args.k none c.requires.within in
    let before = taken_unowned (block self.blocks.items c.args.k) hole in
    record { laid = laid_set self.words self.blocks.items self.end self.free c.args.k none self.end self.free laid c.requires.within (omega arith) laid.last (none_fits self.blocks.items self.end c.args.k) (omega (arith, sum, change, before)) }

pub returns-then-block-eq0-clause-tied : goal.returns-then-block-eq0-clause-tied
returns-then-block-eq0-clause-tied c =
    let hole : (block c.args.self.now.blocks.items c.args.k).owner.0 ≡ 0 = let z = c.if-block-eq0.true in sym (ap (λ (b : Block). b.owner.0) c.read_block-block.ensures) ∙ z in
    tied_forget c.args.t.now c.args.self.now.blocks.items c.args.k c.requires.tied c.requires.within hole

pub returns-clause-closed : goal.returns-clause-closed
returns-clause-closed c = read_closed c.args.self.now c.args.k c.args.to c.requires.within c.requires.closed c.requires.above c.read_block-block.result c.read_block-block.ensures c.if-block-eq0.false (blocks_of c.move_block.new.self) c.move_block.ensures.blocks

pub returns-clause-above : goal.returns-clause-above
returns-clause-above c = read_above c.args.self.now c.args.k c.args.to c.requires.within c.requires.closed c.requires.above c.read_block-block.result c.read_block-block.ensures c.if-block-eq0.false (blocks_of c.move_block.new.self) c.move_block.ensures.blocks
