use Rattle.std.proofs.Common.{◌<◌, length, refl, arith}
use Rattle.st_heap.specs.inside.Heaps.{blocks_of}
use Rattle.st_heap.proofs.Taking.{hole_free, hole_within, hole_set, hole_laid}
use Rattle.st_heap.proofs.heap.Heap.reuse.Goals as goal

pub invariant_of-self-2 : goal.invariant_of-self-2
invariant_of-self-2 c =
    let within : c.in_ok-k.k < length (blocks_of c.args.self.now) = let size = c.len.ensures in let below = c.if-k-len.false in omega (arith, size, below) in
    record { laid = hole_laid c.args.self.now c.args.o c.in_ok-k.k c.args.n c.read_block-block.result within c.read_block-block.ensures c.if-block-ne0.false c.if-block-n.false c.requires.size c.requires.owner c.requires.fits }

pub returns-clause-taken : goal.returns-clause-taken
returns-clause-taken c =
    let within : c.in_ok-k.k < length (blocks_of c.args.self.now) = let size = c.len.ensures in let below = c.if-k-len.false in omega (arith, size, below) in
    record {
      free = hole_free c.args.self.now c.args.o c.in_ok-k.k c.args.n c.read_block-block.result within c.read_block-block.ensures c.if-block-ne0.false c.if-block-n.false c.requires.size;
      within = hole_within c.args.self.now c.args.o c.in_ok-k.k c.args.n c.read_block-block.result within c.read_block-block.ensures c.if-block-ne0.false c.if-block-n.false c.requires.size;
      blocks = hole_set c.args.self.now c.args.o c.in_ok-k.k c.args.n c.read_block-block.result within c.read_block-block.ensures c.if-block-ne0.false c.if-block-n.false c.requires.size;
      words = refl;
    }
