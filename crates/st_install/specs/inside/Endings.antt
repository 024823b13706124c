-- What a search through a dictionary's places comes to, at one place or at some.
use Rattle.std.specs.Prelude.{◌≡◌, ◌<◌, ⊤, ℕ, Option, Some, None, Result, Ok, Err}
use Rattle.st_model.specs.declared.dead.Dead.{Dead}
use Rattle.st_model.specs.Values.{Value}
use Rattle.st_model.specs.Machine.{State, Transition, Died, Went, Step}
use Rattle.st_model.specs.Table.{Table, table}
use Rattle.st_install.specs.declared.places.DictionaryPlace.{DictionaryPlace}
use Rattle.st_install.specs.declared.places.DictionaryPlace.TheVariants as place
use Rattle.st_install.specs.Dictionaries.{Ending, Holds, Vacant, Nowhere, seek_at, seek_among}

-- where the search ends
abbrev pub ending_of : Option DictionaryPlace → Ending
ending_of None = Nowhere
ending_of (Some (place.Holds k)) = Holds k
ending_of (Some (place.Vacant k)) = Vacant k

-- where it doesn't end, it comes to what the rest of it does
abbrev pub seek_of : Result (Option DictionaryPlace) Dead → Step Table Ending → State Table → Transition (State Table) Ending
seek_of (Ok (Some found)) rest s = Went (ending_of (Some found)) s
seek_of (Ok None) rest s = rest.run s
seek_of (Err cause) rest s = Died cause

-- the search comes to this at place k
abbrev pub SeeksAt : Value → Value → ℕ → Table → Result (Option DictionaryPlace) Dead → Type 0
SeeksAt dictionary sought k t result =
    (rest : Step Table Ending) (s : State Table) → s.memory ≡ t → (seek_at table dictionary sought k rest).run s ≡ seek_of result rest s

-- the search comes to this at so many places from k on
abbrev pub SeeksFrom : Value → Value → ℕ → ℕ → Table → Result (Option DictionaryPlace) Dead → Type 0
SeeksFrom dictionary sought k left t result =
    (rest : Step Table Ending) (s : State Table) → s.memory ≡ t → (seek_among table dictionary sought k left rest).run s ≡ seek_of result rest s

-- no dictionary has more places
abbrev pub IsSmallPlace : Option DictionaryPlace → Type 0
IsSmallPlace None = ⊤
IsSmallPlace (Some (place.Holds k)) = k < 262144
IsSmallPlace (Some (place.Vacant k)) = k < 262144
