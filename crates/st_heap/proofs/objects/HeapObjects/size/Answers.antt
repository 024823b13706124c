use Rattle.std.proofs.Common.{◌-◌, ◌*◌, true, false, sym, ap, ◌∙◌, arith}
use Rattle.st_heap.specs.inside.Stores.{stored_of}
use Rattle.st_heap.proofs.Living.{live_stored}
use Rattle.st_heap.proofs.Parts.{size_within, class_within, odd_within, size_word, words_size, bytes_size}
use Rattle.st_heap.proofs.objects.HeapObjects.size.Goals as goal

pub word-requires : goal.word-requires
word-requires c = record { there = live_stored (stored_of c.args.self.now.store) c.args.o c.requires; range = size_within c.args.self.now c.args.o c.requires }

pub overflow_sub-words : goal.overflow_sub-words
overflow_sub-words c =
    let whole = c.from-words.ensures ∙ c.word.ensures ∙ size_word c.args.self.now c.args.o c.requires in
    let f = class_within c.args.self.now c.args.o c.requires in
    omega (arith, whole, f)

pub kind-requires : goal.kind-requires
kind-requires c = live_stored (stored_of c.args.self.now.store) c.args.o c.requires

pub odd-requires : goal.odd-requires
odd-requires c = live_stored (stored_of c.args.self.now.store) c.args.o c.requires

pub returns-in-Pointers : goal.returns-in-Pointers
returns-in-Pointers c = ap (λ n. n - 2) (c.from-words.ensures ∙ c.word.ensures ∙ size_word c.args.self.now c.args.o c.requires) ∙ sym (words_size c.args.self.now c.args.o c.requires c.kind.result c.kind.ensures c.in-Pointers.is)

pub overflow_sub-result : goal.overflow_sub-result
overflow_sub-result c =
    let whole = c.from-words.ensures ∙ c.word.ensures ∙ size_word c.args.self.now c.args.o c.requires in
    let some = odd_within c.args.self.now c.args.o c.requires (sym c.odd.ensures ∙ c.if-odd.true) in
    omega (arith, whole, some)

pub returns-then-odd : goal.returns-then-odd
returns-then-odd c =
    ap (λ n. 2 * (n - 2) - 1) (c.from-words.ensures ∙ c.word.ensures ∙ size_word c.args.self.now c.args.o c.requires)
    ∙ sym (bytes_size c.args.self.now c.args.o c.requires c.kind.result true c.kind.ensures (sym c.if-odd.true ∙ c.odd.ensures) c.in-Bytes.is)

pub returns-else-odd : goal.returns-else-odd
returns-else-odd c =
    let whole = c.from-words.ensures ∙ c.word.ensures ∙ size_word c.args.self.now c.args.o c.requires in
    let is = bytes_size c.args.self.now c.args.o c.requires c.kind.result false c.kind.ensures (sym c.if-odd.false ∙ c.odd.ensures) c.in-Bytes.is in
    omega (arith, whole, is)
