use Rattle.std.proofs.Common.{◌/◌, set, arith}
use Rattle.st_heap.specs.declared.block.Block.{Block}
use Rattle.st_heap.specs.inside.Blocks.{with_owner, IsLaid}
use Rattle.st_heap.proofs.Exchanging.{inside_e, inside_f, laid_exchanged, tied_exchanged}
use Rattle.st_heap.proofs.heap.Heap.exchange.Goals as goal

pub read_block-block-requires : goal.read_block-block-requires
read_block-block-requires c =
    let self = c.args.self.now in
    inside_e self.words self.blocks.items self.end self.free self.laid c.args.t.now c.requires.tied c.args.a c.args.b c.entry-first.result c.entry-second.result c.requires.first.even c.requires.second.even c.entry-first.ensures c.entry-second.ensures

pub read_block-other-requires : goal.read_block-other-requires
read_block-other-requires c =
    let self = c.args.self.now in
    inside_f self.words self.blocks.items self.end self.free self.laid c.args.t.now c.requires.tied c.args.a c.args.b c.entry-first.result c.entry-second.result c.requires.first.even c.requires.second.even c.entry-first.ensures c.entry-second.ensures

pub invariant_of-self : goal.invariant_of-self
invariant_of-self c =
    let self = c.args.self.now in
    let bs = self.blocks.items in
    let i = c.entry-first.result.at / 2 in
    let j = c.entry-second.result.at / 2 in
    let P : Block → Type 0 = λ x. IsLaid self.words (set (set bs i (with_owner c.args.b x)) j (with_owner c.args.a c.read_block-other.result)) self.end self.free in
    let Q : Block → Type 0 = λ y. IsLaid self.words (set (set bs i (with_owner c.args.b c.read_block-block.result)) j (with_owner c.args.a y)) self.end self.free in
    let all = laid_exchanged self.words bs self.end self.free self.laid c.args.t.now c.requires.tied c.args.a c.args.b c.entry-first.result c.entry-second.result c.requires.first.even c.requires.second.even c.entry-first.ensures c.entry-second.ensures in
    record { laid = rw (c.read_block-block.ensures, c.read_block-other.ensures) all }

pub returns-clause-tied : goal.returns-clause-tied
returns-clause-tied c =
    let self = c.args.self.now in
    let all = tied_exchanged self.words self.blocks.items self.end self.free self.laid c.args.t.now c.requires.tied c.args.a c.args.b c.entry-first.result c.entry-second.result c.requires.first.even c.requires.second.even c.entry-first.ensures c.entry-second.ensures in
    rw (c.set_entry-2.ensures, c.set_entry.ensures, c.read_block-block.ensures, c.read_block-other.ensures) all

pub returns-clause-held : goal.returns-clause-held
returns-clause-held c =
    let self = c.args.self.now in
    let all = laid_exchanged self.words self.blocks.items self.end self.free self.laid c.args.t.now c.requires.tied c.args.a c.args.b c.entry-first.result c.entry-second.result c.requires.first.even c.requires.second.even c.entry-first.ensures c.entry-second.ensures in
    let sum = all.sum in
    let was = self.laid.sum in
    rw (c.read_block-block.ensures, c.read_block-other.ensures) (omega (arith, sum, was))
