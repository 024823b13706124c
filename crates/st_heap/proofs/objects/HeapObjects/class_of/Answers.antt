use Rattle.std.proofs.Common.{◌≡◌, ◌/◌, ◌%◌, sym, ap, ◌∙◌}
use Rattle.st_model.specs.Objects.{Object}
use Rattle.st_model.specs.Values.{Ref}
use Rattle.st_heap.proofs.Living.{live_stored, known, even_value}
use Rattle.st_heap.proofs.Parts.{class_within}
use Rattle.st_heap.specs.inside.Stores.{stored_of}
use Rattle.st_heap.proofs.objects.HeapObjects.class_of.Goals as goal

pub word-requires : goal.word-requires
word-requires c = record { there = live_stored (stored_of c.args.self.now.store) c.args.o c.requires; range = class_within c.args.self.now c.args.o c.requires }

pub returns : goal.returns
returns c =
    let k = known (stored_of c.args.self.now.store) c.args.o c.args.self.now.sound c.requires in
    let even : c.word.result % 2 ≡ 0 = ap (λ w. w % 2) c.word.ensures ∙ k.sound.class in
    even_value (stored_of c.args.self.now.store) c.word.result even ∙ ap (λ w. Ref (w / 2)) c.word.ensures ∙ sym (ap (λ (o : Object). Ref o.class) k.is)
