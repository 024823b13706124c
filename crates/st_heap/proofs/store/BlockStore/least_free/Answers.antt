use Rattle.std.proofs.Common.{◌/◌, arith}
use Rattle.std.specs.Prelude.{IfNone, Option, None, Some}
use Rattle.st_model.specs.declared.oop.Oop.{Oop}
use Rattle.st_heap.specs.inside.Heaps.{words_of, blocks_of}
use Rattle.st_heap.proofs.Storing.{none_entry, length-all}
use Rattle.st_heap.proofs.store.BlockStore.least_free.Goals as goal

none_then : {A B : Type 0} (x : Option Oop) → IfNone x A → (A → B) → IfNone x B
none_then None h f = f h
none_then (Some o) h f = tt

pub returns-clause-none : goal.returns-clause-none
returns-clause-none c =
    let s = c.args.self.now in
    none_then c.least_free.result c.least_free.ensures.none (λ none p unused.
    let even = unused.even in
    let some = unused.some in
    let last = unused.last in
    let long = length-all (words_of s.heap) (blocks_of s.heap) s.table in
    none p (record { even = unused.even; first = omega (arith, even, some); last = omega (arith, last, long); absent = none_entry (words_of s.heap) (blocks_of s.heap) s.table (p.0 / 2) unused.absent }))
