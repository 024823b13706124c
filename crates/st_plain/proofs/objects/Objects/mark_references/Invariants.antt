use Rattle.std.proofs.Common.{◌≡◌, ℕ}
use Rattle.st_model.specs.Table.{entry}
use Rattle.st_model.specs.Settled.{or, any_below, object_names, is_marked}
use Rattle.st_plain.specs.inside.ListsPlain.{objects_of}
use Rattle.st_plain.proofs.objects.Objects.mark_references.Given as goal

-- what the objects so far refer to is marked
abbrev pub invariant-loop-k : goal.invariant-loop-k
invariant-loop-k l = (n : ℕ) → is_marked l.marks.names.items n ≡ or (any_below l.k (λ k. object_names (entry (objects_of l.self) k) n)) (is_marked l.initial.marks.names.items n)
