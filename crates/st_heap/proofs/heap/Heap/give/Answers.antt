use Rattle.std.proofs.Common.{◌+◌, ◌/◌, ◌<◌, length, set, sym, refl, subst, arith}
use Rattle.st_heap.specs.declared.block.Block.{Block}
use Rattle.st_heap.specs.inside.Blocks.{block, IsLaid}
use Rattle.st_heap.proofs.Laying.{taken_owned, taken_unowned, held_above, laid_owner, owned_inside}
use Rattle.st_heap.proofs.heap.Heap.give.Goals as goal

pub overflow_add-self : goal.overflow_add-self
overflow_add-self c =
    let self = c.args.self.now in
    let laid = self.laid in
    let sum = laid.sum in
    let small = laid.small in
    let within : c.args.at / 2 < length self.blocks.items = owned_inside _ _ _ _ (c.args.at / 2) laid c.requires.owned in
    let mine = taken_owned (block self.blocks.items (c.args.at / 2)) c.requires.owned in
    let above = held_above self.blocks.items (c.args.at / 2) within in
    let long = c.requires.long in
    record { fits = omega (arith, sum, small, mine, above, long) }

pub invariant_of-self : goal.invariant_of-self
invariant_of-self c =
    let self = c.args.self.now in
    let laid = self.laid in
    let k = c.args.at / 2 in
    let within : c.args.at / 2 < length self.blocks.items = owned_inside _ _ _ _ (c.args.at / 2) laid c.requires.owned in
    let mine = taken_owned (block self.blocks.items (c.args.at / 2)) c.requires.owned in
    let long = c.requires.long in
    let gone = taken_unowned (record { owner = record { 0 = 0 }; at = (block self.blocks.items k).at; len = (block self.blocks.items k).len }) refl in
    let P : Block → Type 0 = λ b. IsLaid self.words (set self.blocks.items k (record { owner = record { 0 = 0 }; at = b.at; len = b.len })) self.end (self.free + c.args.n) in
    record {
      laid = subst P (sym c.read_block-block.ensures)
          (laid_owner self.words self.blocks.items self.end self.free k (record { 0 = 0 }) (self.free + c.args.n) laid within (laid.owned k c.requires.owned) (omega (arith, mine, long, gone)));
    }
