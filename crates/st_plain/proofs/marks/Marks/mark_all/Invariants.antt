use Rattle.std.proofs.Common.{◌≡◌, ℕ, map, take}
use Rattle.st_model.specs.Values.{value}
use Rattle.st_model.specs.Settled.{or, any_names, is_marked}
use Rattle.st_plain.proofs.marks.Marks.mark_all.Given as goal

-- what the words so far name is marked
abbrev pub invariant-loop-o : goal.invariant-loop-o
invariant-loop-o l = (n : ℕ) → is_marked l.self.names.items n ≡ or (any_names (map value (take l.o-index l.words)) n) (is_marked l.initial.self.names.items n)
