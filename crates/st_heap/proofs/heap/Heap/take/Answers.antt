use Rattle.std.proofs.Common.{◌+◌, ℕ, List, ap, ◌∙◌, subst, arith}
use Rattle.st_heap.specs.declared.block.Block.{Block}
use Rattle.st_heap.specs.inside.Blocks.{held, KeepsBlocks}
use Rattle.st_heap.specs.inside.Heaps.{words_of, blocks_of}
use Rattle.st_heap.proofs.Laying.{keeps_through}
use Rattle.st_heap.proofs.Taking.{taken_tied, taken_keeps, taken_held, free_kept}
use Rattle.st_heap.proofs.heap.Heap.take.Goals as goal

pub returns-in-Some-clause-tied : goal.returns-in-Some-clause-tied
returns-in-Some-clause-tied c e place = taken_tied c.args.self.now c.reuse.new.self c.args.o c.in-Some.at c.args.n c.args.t.now c.in-Some.ensures.taken c.requires.tied c.requires.free e place

pub returns-in-Some-clause-held : goal.returns-in-Some-clause-held
returns-in-Some-clause-held c = let first = c.requires.free.first in taken_held c.args.self.now c.reuse.new.self c.args.o c.in-Some.at c.args.n c.in-Some.ensures.taken (λ z. omega (arith, z, first))

pub returns-in-None-clause-tied : goal.returns-in-None-clause-tied
returns-in-None-clause-tied c e place =
    let free = free_kept c.reuse.new.self c.make_room.new.self c.args.t.now c.make_room.new.t c.args.o c.make_room.ensures.keeps c.requires.free in
    taken_tied c.make_room.new.self c.extend.new.self c.args.o c.extend.result c.args.n c.make_room.new.t c.extend.ensures c.make_room.ensures.tied free e place

pub returns-in-None-clause-keeps : goal.returns-in-None-clause-keeps
returns-in-None-clause-keeps c =
    let more = taken_keeps c.make_room.new.self c.extend.new.self c.args.o c.extend.result c.args.n c.make_room.new.t c.extend.ensures c.make_room.ensures.tied in
    let all = keeps_through _ _ c.args.t.now _ _ c.make_room.new.t _ _ c.make_room.new.t c.make_room.ensures.keeps more in
    let P : List ℕ → Type 0 = λ ws. KeepsBlocks ws (blocks_of c.reuse.new.self) c.args.t.now (words_of c.extend.new.self) (blocks_of c.extend.new.self) c.make_room.new.t in
    let Q : List Block → Type 0 = λ bs. KeepsBlocks (words_of c.args.self.now) bs c.args.t.now (words_of c.extend.new.self) (blocks_of c.extend.new.self) c.make_room.new.t in
    subst Q c.in-None.ensures.none.1 (subst P c.in-None.ensures.none.0 all)

pub returns-in-None-clause-held : goal.returns-in-None-clause-held
returns-in-None-clause-held c =
    let first = c.requires.free.first in
    taken_held c.make_room.new.self c.extend.new.self c.args.o c.extend.result c.args.n c.extend.ensures (λ z. omega (arith, z, first))
    ∙ ap (λ k. k + c.args.n) (c.make_room.ensures.same.held ∙ ap held c.in-None.ensures.none.1)
