-- What a search comes to at some places of a dictionary.
use Rattle.std.specs.Prelude.{◌≡◌, ℕ, Option, Result, Ok, Err}
use Rattle.std.specs.Option.{option_map}
use Rattle.st_model.specs.declared.dead.Dead.{Dead}
use Rattle.st_model.specs.declared.oop.Oop.{Oop}
use Rattle.st_model.specs.declared.word.Word.{Word}
use Rattle.st_model.specs.Values.{Value, value, word}
use Rattle.st_model.specs.Machine.{ObjectMemory, State, Transition, Died, Went, Step}
use Rattle.st_model.specs.Lookup.{look_at_place, look_at_places}
use Rattle.st_model.specs.Table.{Table}
use Rattle.st_lookup.specs.declared.places.Search.{Search}
use Rattle.st_lookup.specs.declared.places.Search.TheVariants.{Ends, GoesOn}

abbrev pub found_word : Option Word → Option Value
found_word x = option_map word x

abbrev pub found : Option Oop → Option Value
found x = option_map value x

-- where the search goes on, it comes to what the rest of it does
abbrev pub search_of : Result Search Dead → Step Table (Option Value) → State Table → Transition (State Table) (Option Value)
search_of (Ok (Ends method)) rest s = Went (found_word method) s
search_of (Ok GoesOn) rest s = rest.run s
search_of (Err cause) rest s = Died cause

abbrev pub LooksAt : ObjectMemory Table → Value → Value → ℕ → Table → Result Search Dead → Type 0
LooksAt m dictionary selector k t result =
    (rest : Step Table (Option Value)) (s : State Table) → s.memory ≡ t → (look_at_place m dictionary selector k rest).run s ≡ search_of result rest s

abbrev pub LooksFrom : ObjectMemory Table → Value → Value → ℕ → ℕ → Table → Result Search Dead → Type 0
LooksFrom m dictionary selector k left t result =
    (rest : Step Table (Option Value)) (s : State Table) → s.memory ≡ t → (look_at_places m dictionary selector k left rest).run s ≡ search_of result rest s
