-- What the code's finding of a place means.
use Rattle.st_model.specs.Values.{value}
use Rattle.st_install.specs.declared.storing.Placing.{Placing as CodePlacing}
use Rattle.st_install.specs.Installing.{Placing}
use Rattle.st_install.specs.inside.Endings.{ending_of}

abbrev pub placing_of : CodePlacing → Placing
placing_of p = record { dictionary = value p.dictionary; methods = value p.methods; tally = value p.tally; end = ending_of p.place }
