-- A field of a table's object is one of the births', renamed.
use Rattle.std.proofs.Common.{◌≡◌, ℕ, Some, ap, ◌∙◌, Option}
use Rattle.std.specs.Prelude.{slice_get}
use Rattle.st_model.specs.Values.{Value, Small, Ref, renamed}
use Rattle.st_model.specs.Formed.{IsWord, IsFormed}
use Rattle.st_model.specs.Show.{pointer_of, renamed_option}
use Rattle.st_simulation.proofs.Same.{get-renamed}
use Rattle.st_simulation.proofs.kept_are_words.Goals as goal

word-renamed : (f : ℕ → ℕ) (x : Value) → IsWord (renamed f x) → IsWord x
word-renamed f (Small n) w = w
word-renamed f (Ref n) w = tt

pub returns : goal.returns
returns z = λ c s w formed n p o is at i x here.
    word-renamed (pointer_of s.memory) x
    ((formed p _ (w.objects n p o is at)).values i (renamed (pointer_of s.memory) x) (get-renamed (pointer_of s.memory) o.fields i ∙ ap (renamed_option (pointer_of s.memory)) here))
