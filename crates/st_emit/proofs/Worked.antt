-- What names mean where methods are worked by the definitions alone.
use Rattle.std.proofs.Common.{true, false, [], ◌∷◌}
use Rattle.std.specs.Prelude.{codes}
use Rattle.st_emit.specs.Names.{NamesView}

-- a class that has the variables x and y, and shares Point and Gone
abbrev pub point : NamesView
point = record { fields = codes "x" ∷ codes "y" ∷ []; shared = record { text = codes "Point"; association = 100 } ∷ record { text = codes "Gone"; association = 102 } ∷ []; symbols = true }

-- a class in whose image there is no symbol table
abbrev pub no_symbols : NamesView
no_symbols = record { fields = []; shared = []; symbols = false }
