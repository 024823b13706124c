-- Whether a device holds something, by the pointer.
use Rattle.std.proofs.Common.{◌≡◌, ℕ, ap, ◌∙◌}
use Rattle.std.specs.Prelude.{not, ◌==◌}
use Rattle.st_model.specs.Values.{Value, value_of}
use Rattle.st_model.specs.Objects.{nil}
use Rattle.st_model.specs.Steps.{same_value}
use Rattle.st_model.specs.Events.{is_held}
use Rattle.st_model.proofs.Words.{same_words, value_of-nil}

pub holds_word : (n : ℕ) → not (n == 2) ≡ is_held nil (value_of n)
holds_word n = ap not (same_words n 2 ∙ ap (same_value (value_of n)) value_of-nil)

-- the same for a value that is known to be that of the pointer
pub holds_value : (n : ℕ) (v : Value) → value_of n ≡ v → not (n == 2) ≡ is_held nil v
holds_value n v e = holds_word n ∙ ap (is_held nil) e
