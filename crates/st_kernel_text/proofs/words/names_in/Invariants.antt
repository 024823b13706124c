use Rattle.std.proofs.Common.{◌≡◌, ◌++◌, List, ℕ, length}
use Rattle.std.specs.Option.{option_map}
use Rattle.st_kernel_text.specs.Words.{words, names_in}
use Rattle.st_kernel_text.specs.inside.Lists.{texts_of}
use Rattle.st_kernel_text.proofs.words.names_in.Given as goal

-- the names so far stand before those of the rest
abbrev pub invariant-loop-word : goal.invariant-loop-word
invariant-loop-word l = names_in (words l.text) ≡ option_map (λ (xs : List (List ℕ)). texts_of l.names.items ++ xs) (names_in (words l.rest))

abbrev pub decreases-loop-word : goal.decreases-loop-word
decreases-loop-word l = length l.rest
