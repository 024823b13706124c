-- Objects that all fit are small, one by one.
use Rattle.std.proofs.Common.{◌≡◌, ◌≤◌, true, List, [], ◌∷◌}
use Rattle.std.specs.Prelude.{nat_le}
use Rattle.std.proofs.lemmas.Bool.{and_parts, leb-true}
use Rattle.st_install.specs.Plans.{NewObject, words_of_new}
use Rattle.st_install.specs.Shapes.{most_of_one, all_fit}
use Rattle.st_install.specs.inside.Rooms.{AreSmall}

pub small_if_fit : (os : List NewObject) → all_fit os ≡ true → AreSmall os
small_if_fit [] e = tt
small_if_fit (o ∷ os) e =
    let parts = and_parts (nat_le (words_of_new o) most_of_one) (all_fit os) e in
    (leb-true (words_of_new o) most_of_one parts.0, small_if_fit os parts.1)
