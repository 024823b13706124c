use Rattle.std.proofs.Common.{◌+◌, ◌-◌, ◌/◌, ◌<◌, length, arith}
use Rattle.st_heap.specs.inside.Blocks.{block}
use Rattle.st_heap.proofs.Laying.{laid_set, end_fits, end_unowned, held_set, taken_unowned, taken_owned}
use Rattle.st_heap.proofs.heap.Heap.extend.Goals as goal

pub invariant_of-self : goal.invariant_of-self
invariant_of-self c =
    let self = c.args.self.now in
    let laid = self.laid in
    let sum = laid.sum in
    let size = laid.size in
    let room = c.requires.room in
    let many = c.requires.size in
    let within : self.end / 2 < length self.blocks.items = omega (arith, room, size, many) in
    let change = held_set self.blocks.items (self.end / 2) (record { owner = c.args.o; at = self.end; len = c.args.n }) within in
    let before = taken_unowned (block self.blocks.items (self.end / 2)) (end_unowned _ _ _ _ laid) in
    let after = taken_owned (record { owner = c.args.o; at = self.end; len = c.args.n }) c.requires.owner in
    let fits = c.requires.fits in
    record { laid = laid_set self.words self.blocks.items self.end self.free (self.end / 2) _ (self.end + c.args.n) (self.free - c.args.n) laid within (omega arith) room (end_fits _ _ _ self.free _ c.args.o laid many) (omega (arith, sum, change, before, after, fits)) }
