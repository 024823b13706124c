-- What rows worked by the definitions alone are made of.
use Rattle.std.proofs.Common.{ℕ, Bool, List}
use Rattle.st_scan.specs.declared.token.Signed.{Signed}
use Rattle.st_scan.specs.Views.{NameView, ContentView, ExpressionView, literal}

abbrev pub signed : Bool → ℕ → Signed
signed minus size = record { minus = minus; size = size }

-- a name whose token begins at this place
abbrev pub name_at : List ℕ → ℕ → NameView
name_at text place = record { text = text; place = place }

-- a literal whose token begins at this place
abbrev pub literal_at : ℕ → ContentView → ExpressionView
literal_at place what = literal (record { place = place; what = what })
