use Rattle.std.proofs.Common.{◌≡◌, ◌<◌, ℕ, slice_index, codes}
use Rattle.st_store.proofs.front.find_wrong_letter.Given as goal

-- the letters so far are right
abbrev pub invariant-loop-i : goal.invariant-loop-i
invariant-loop-i l = (j : ℕ) → j < l.i → slice_index l.front j ≡ slice_index (codes "ST80ROOT") j
