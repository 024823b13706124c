-- What a search for a method finds.
use Rattle.std.specs.Prelude.{Some, Ok}
use Rattle.st_model.specs.Values.{Value}
use Rattle.st_model.specs.Machine.{ObjectMemory}
use Rattle.st_model.specs.Lookup.{find}
use Rattle.st_model.specs.inside.Calls.{Reads, itself}
use Rattle.st_model.specs.Table.{Table, table}

-- the search for a selector finds this method in the class, or in the nearest superclass that has one
abbrev pub FindsBy : ObjectMemory Table → Table → Value → Value → Value → Type 0
FindsBy m t class selector method = Reads (find m class selector) itself t (Ok (Some method))

abbrev pub Finds : Table → Value → Value → Value → Type 0
Finds t class selector method = FindsBy table t class selector method
