-- The form that an installation asks of what it makes.
use Rattle.std.specs.Prelude.{ℕ, List, [], ◌∷◌, Bool, true, ◌&&◌, nat_le}
use Rattle.st_model.specs.declared.dead.Dead.TheVariants as dead
use Rattle.st_model.specs.Machine.{Step}
use Rattle.st_model.specs.Steps.{check}
use Rattle.st_install.specs.Plans.{NewObject, words_of_new}

-- the most words that an object has, its size word and its class word among them
abbrev pub most_of_one : ℕ
most_of_one = 65535

abbrev pub all_fit : List NewObject → Bool
all_fit [] = true
all_fit (o ∷ os) = nat_le (words_of_new o) most_of_one && all_fit os

-- none of these objects has too many words
unfoldable pub check_size : {H : Type 0} → List NewObject → Step H Unit
check_size os = check dead.Field (all_fit os)
