-- What structs of the code mean.
use Rattle.std.specs.Prelude.{ℕ, List, Bool}
use Rattle.st_model.specs.declared.oop.Oop.{Oop}
use Rattle.st_model.specs.Values.{value}
use Rattle.st_parts.specs.declared.owner.Compiled.{Compiled}
use Rattle.st_parts.specs.Parts.{Place}

abbrev pub place_at : (class : Oop) (name : List ℕ) (meta : Bool) (selector : List ℕ) (method : Oop) → Place
place_at class name meta selector method = record { class = value class; name = name; meta = meta; selector = selector; method = value method }

abbrev pub place_of : Compiled → Place
place_of c = place_at c.class c.name.now c.meta c.selector.now c.method
