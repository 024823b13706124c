use Rattle.std.proofs.Common.{◌≡◌, ◌/◌, ℕ, List, Option, Some, None, get_or, set, sym, ap, ◌∙◌, subst}
use Rattle.st_cells.specs.inside.Words.{slid}
use Rattle.st_heap.specs.declared.block.Block.{Block}
use Rattle.st_table.specs.declared.entry.Entry.{Entry}
use Rattle.st_heap.specs.inside.Blocks.{none, block, with_place, IsLaid, IsTied, KeepsBlocks}
use Rattle.st_heap.proofs.Laying.{laid_words}
use Rattle.st_heap.proofs.Moving.{laid_moved, tied_moved, keeps_moved}
use Rattle.st_heap.proofs.heap.Heap.move_block.Goals as goal

pub invariant_of-self : goal.invariant_of-self
invariant_of-self c =
    let self = c.args.self.now in
    let bs = self.blocks.items in
    let r = c.requires in
    let P : Block → Type 0 = λ b. IsLaid c.slide_down.new.self (set (set bs c.args.k none) (c.args.to / 2) (with_place c.args.to b)) self.end self.free in
    record {
      laid = subst P (sym c.read_block-block.ensures)
          (laid_words self.words c.slide_down.new.self _ self.end self.free c.slide_down.ensures.length (laid_moved self.words bs self.end self.free c.args.k c.args.to self.laid r.within r.owned r.down r.closed));
    }

pub returns-clause-tied : goal.returns-clause-tied
returns-clause-tied c =
    let self = c.args.self.now in
    let bs = self.blocks.items in
    let es = c.args.t.now in
    let r = c.requires in
    let e = c.entry-entry.result in
    let is = c.read_block-block.ensures in
    let mine : get_or es ((block bs c.args.k).owner.0 / 2) None ≡ Some e = ap (λ (b : Block). get_or es (b.owner.0 / 2) None) (sym is) ∙ c.entry-entry.ensures in
    let P : Block → Type 0 = λ b. IsTied (set es (b.owner.0 / 2) (Some (record { at = c.args.to; kind = e.kind; odd = e.odd; next = e.next; before = e.before }))) (set (set bs c.args.k none) (c.args.to / 2) (with_place c.args.to b)) in
    let Q : List (Option Entry) → Type 0 = λ fs. IsTied fs (set (set bs c.args.k none) (c.args.to / 2) (with_place c.args.to c.read_block-block.result)) in
    subst Q (sym c.set_entry.ensures) (subst P (sym is) (tied_moved self.words bs self.end self.free c.args.k c.args.to self.laid r.within r.owned r.down r.closed es r.tied e mine))

pub returns-clause-keeps : goal.returns-clause-keeps
returns-clause-keeps c =
    let self = c.args.self.now in
    let bs = self.blocks.items in
    let es = c.args.t.now in
    let v = c.slide_down.new.self in
    let r = c.requires in
    let e = c.entry-entry.result in
    let is = c.read_block-block.ensures in
    let mine : get_or es ((block bs c.args.k).owner.0 / 2) None ≡ Some e = ap (λ (b : Block). get_or es (b.owner.0 / 2) None) (sym is) ∙ c.entry-entry.ensures in
    let S : Block → Type 0 = λ b. (i : ℕ) → get_or v i 0 ≡ slid (λ m. get_or self.words m 0) b.at c.args.to b.len i in
    let slide : S (block bs c.args.k) = subst S is c.slide_down.ensures.words in
    let P : Block → Type 0 = λ b. KeepsBlocks self.words bs es v (set (set bs c.args.k none) (c.args.to / 2) (with_place c.args.to b)) (set es (b.owner.0 / 2) (Some (record { at = c.args.to; kind = e.kind; odd = e.odd; next = e.next; before = e.before }))) in
    let Q : List (Option Entry) → Type 0 = λ fs. KeepsBlocks self.words bs es v (set (set bs c.args.k none) (c.args.to / 2) (with_place c.args.to c.read_block-block.result)) fs in
    subst Q (sym c.set_entry.ensures) (subst P (sym is) (keeps_moved self.words bs self.end self.free c.args.k c.args.to self.laid r.within r.owned r.down r.closed es r.tied e mine v slide))
