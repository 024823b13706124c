-- What results of the code mean.
use Rattle.std.specs.Prelude.{List, map, Result, Ok, Err}
use Rattle.std.specs.Global.{Vec}
use Rattle.st_model.specs.declared.oop.Oop.{Oop}
use Rattle.st_model.specs.Values.{Value, value}
use Rattle.st_scope.specs.declared.fault.InstallFault.{InstallFault}

abbrev pub class_found : Result Oop InstallFault → Result Value InstallFault
class_found (Ok class) = Ok (value class)
class_found (Err fault) = Err fault

-- what pointers of a list mean
abbrev pub values : List Oop → List Value
values os = map value os

abbrev pub values_of : Vec Oop → List Value
values_of os = values os.items
