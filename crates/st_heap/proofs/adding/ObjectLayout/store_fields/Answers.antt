use Rattle.std.proofs.Common.{◌≡◌, ◌/◌, List, Some, length, take, set, sym, ap, ◌∙◌, arith}
use Rattle.std.specs.Prelude.{ℕ, is_some}
use Rattle.std.proofs.lemmas.List.{set-set}
use Rattle.st_cells.specs.inside.Words.{with_run}
use Rattle.st_heap.specs.inside.Stored.{Stored, run, with_cells}
use Rattle.st_heap.specs.inside.Stores.{stored_of}
use Rattle.st_heap.specs.inside.Fresh.{new_cell}
use Rattle.st_heap.proofs.Runs.{length-run}
use Rattle.st_heap.proofs.StoredLaying.{all_over, laid, laid_is, slot_taken, stored_taken, length_taken}
use Rattle.st_heap.proofs.adding.ObjectLayout.store_fields.Goals as goal

pub write-requires-clause-there : goal.write-requires-clause-there
write-requires-clause-there c =
    let f = c.args.self.now in
    record { even = c.requires.unused.even; there = ap is_some (slot_taken (stored_of c.args.store.now) (stored_of c.take.new.self) (c.args.at.0 / 2) f.kind f.odd f.words c.take.ensures.stored c.requires.unused.last) }

pub write-requires-clause-range : goal.write-requires-clause-range
write-requires-clause-range c =
    let f = c.args.self.now in
    let size = length_taken (stored_of c.args.store.now) (stored_of c.take.new.self) (c.args.at.0 / 2) f.kind f.odd f.words c.take.ensures.stored c.requires.unused.last in
    let words = length-run (new_cell f) f.words in
    let is = laid_is f c.requires.plain c.requires.fields c.requires.few in
    let taken : length (take f.words (laid f c.requires.plain c.requires.fields c.requires.few)) ≡ f.words = ap (λ (xs : List ℕ). length xs) is ∙ words in
    omega (arith, size, taken)

pub returns-clause-stored : goal.returns-clause-stored
returns-clause-stored c =
    let k = c.args.at.0 / 2 in
    let all = stored_of c.args.store.now in
    let f = c.args.self.now in
    let t = c.take.ensures.stored in
    let s : Stored = record { kind = f.kind; odd = f.odd; cells = t.cells } in
    let here = stored_taken (stored_of c.args.store.now) (stored_of c.take.new.self) (c.args.at.0 / 2) f.kind f.odd f.words c.take.ensures.stored c.requires.unused.last in
    let is = laid_is f c.requires.plain c.requires.fields c.requires.few in
    let ws : List ℕ = take f.words (laid f c.requires.plain c.requires.fields c.requires.few) in
    let size : length ws ≡ length t.cells = ap (λ (xs : List ℕ). length xs) is ∙ length-run (new_cell f) f.words ∙ sym t.long in
    let cells : with_run t.cells 0 ws ≡ run (new_cell f) f.words = all_over t.cells ws size ∙ is in
    c.write.ensures.stored ∙ (λ x. set (t.is x) k (Some (with_cells (here x) (with_run (here x).cells 0 ws)))) ∙ set-set all k (Some s) (Some (with_cells s (with_run t.cells 0 ws)))
    ∙ (λ x. set all k (Some (record { kind = f.kind; odd = f.odd; cells = cells x })))
