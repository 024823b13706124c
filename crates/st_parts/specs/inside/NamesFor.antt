-- Names that tell of each text the same as those that a method sees.
use Rattle.std.specs.Prelude.{List, Result, Ok, Err, ⊤}
use Rattle.st_model.specs.Values.{Value}
use Rattle.st_model.specs.Machine.{Step}
use Rattle.st_model.specs.Table.{Table}
use Rattle.st_model.specs.inside.Calls.{Reads, itself}
use Rattle.st_emit.specs.declared.names.Names.{Names}
use Rattle.st_emit.specs.Names.{NamesView}
use Rattle.st_emit.specs.inside.NameViews.{names_view}
use Rattle.st_scope.specs.declared.fault.InstallFault.{InstallFault}
use Rattle.st_scope.specs.declared.fault.InstallFault.TheVariants as fault
use Rattle.st_scope.specs.inside.Alike.{SeesAlike}
use Rattle.st_parts.specs.Keys.{names_for}

-- The step answers names, as f gives them, that tell of each text the same as these, once none is left but what names a literal.
pub record AreNamesFor {A : Type 0} (vs : List Value) (step : Step Table A) (f : NamesView → A) (t : Table) (names : Names) : Type 0 where
  pub listed : NamesView
  pub reads : Reads step f t (Ok listed)
  pub alike : SeesAlike (names_for t vs listed) (names_view names)

-- the step answers such names, or this fault; where there was no memory, nothing is said
abbrev pub AnswersFor : List Value → Step Table (Result NamesView InstallFault) → Table → Result Names InstallFault → Type 0
AnswersFor vs step t (Ok names) = AreNamesFor vs step Ok t names
AnswersFor vs step t (Err fault.OutOfMemory) = ⊤
AnswersFor vs step t (Err cause) = Reads step itself t (Ok (Err cause))
