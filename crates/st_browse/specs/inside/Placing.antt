-- What the code finds of a method: where it stands, and the names that it sees.
use Rattle.std.specs.Prelude.{◌≡◌, Option, Some, None, true, option_map}
use Rattle.st_model.specs.Values.{value}
use Rattle.st_model.specs.Objects.{is_method}
use Rattle.st_model.specs.Table.{Table}
use Rattle.st_model.specs.View.{View, is_live, object_of}
use Rattle.st_emit.specs.declared.names.Names.{Names}
use Rattle.st_emit.specs.Names.{NamesView}
use Rattle.st_emit.specs.inside.NameViews.{names_view}
use Rattle.st_scope.specs.inside.Alike.{SeesAlike}
use Rattle.st_parts.specs.declared.owner.Compiled.{Compiled}
use Rattle.st_parts.specs.Keys.{HasOneName}
use Rattle.st_parts.specs.Parts.{Place}
use Rattle.st_parts.specs.inside.Places.{place_of}
use Rattle.st_browse.specs.Decompiling.{names_at}

abbrev pub place_if : Option Compiled → Option Place
place_if c = option_map place_of c

-- an object of kind Method is there
pub record IsCompiled (t : Table) (c : Compiled) : Type 0 where
  pub live : is_live t (value c.method) ≡ true
  pub kind : is_method (object_of t (value c.method)).kind ≡ true

-- names that tell no text apart from those that the method sees, of which no two mean one association
pub record AreNamesAt (v : View) (at : Place) (names : Names) : Type 0 where
  pub seen : NamesView
  pub is : names_at v at ≡ Some seen
  pub alike : SeesAlike seen (names_view names)
  pub one : HasOneName seen

abbrev pub AreNamesIf : View → Place → Option Names → Type 0
AreNamesIf v at None = names_at v at ≡ None
AreNamesIf v at (Some names) = AreNamesAt v at names
