use Rattle.std.proofs.Common.{◌≡◌, Some, None, sym, ap, ◌∙◌}
use Rattle.std.specs.Option.{option_map}
use Rattle.st_heap.specs.inside.Forms.{object_from}
use Rattle.st_heap.proofs.Living.{entry-stored}
use Rattle.st_heap.specs.inside.Stores.{stored_of}
use Rattle.st_heap.proofs.objects.HeapObjects.new.Goals as goal

pub invariant_of-result : goal.invariant_of-result
invariant_of-result c = record { sound = λ k s is. let clash : Some s ≡ None = sym is ∙ c.in_ok-store.ensures.empty k in cc }

pub returns-clause-empty : goal.returns-clause-empty
returns-clause-empty c = λ k. entry-stored (stored_of c.in_ok-store.store) k ∙ ap (option_map object_from) (c.in_ok-store.ensures.empty k)
