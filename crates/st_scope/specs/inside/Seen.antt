-- The names that a method sees, as the code answers them.
use Rattle.std.specs.Prelude.{◌≡◌, Result, Ok, Err}
use Rattle.st_model.specs.Machine.{Step}
use Rattle.st_model.specs.Table.{Table}
use Rattle.st_model.specs.inside.Calls.{Reads, itself}
use Rattle.st_emit.specs.declared.names.Names.{Names}
use Rattle.st_emit.specs.Names.{NamesView}
use Rattle.st_emit.specs.inside.NameViews.{names_view}
use Rattle.st_scope.specs.declared.fault.InstallFault.{InstallFault}
use Rattle.st_scope.specs.declared.fault.InstallFault.TheVariants as fault
use Rattle.st_scope.specs.declared.unread.Unread.{Unread}
use Rattle.st_scope.specs.declared.unread.Unread.TheVariants as unread
use Rattle.st_scope.specs.inside.Alike.{SeesAlike}

-- The step answers names that tell of each text the same as these, as f gives what it answers: it lists the shared names in the
-- order of the tree's text, as often as they stand there, and these are an index.
pub record AreSeen {A : Type 0} (step : Step Table A) (f : NamesView → A) (t : Table) (names : Names) : Type 0 where
  pub listed : NamesView
  pub reads : Reads step f t (Ok listed)
  pub alike : SeesAlike listed (names_view names)

-- the step gives these names, or dies as the function does; where there was no memory, nothing is said
abbrev pub FindsNames : Step Table NamesView → Table → Result Names Unread → Type 0
FindsNames step t (Ok names) = AreSeen step itself t names
FindsNames step t (Err (unread.Dies dead)) = Reads step (itself {A = NamesView}) t (Err dead)
FindsNames step t (Err unread.OutOfMemory) = Unit {0}

-- the step answers these names, or this fault; where there was no memory, nothing is said
abbrev pub AnswersNames : Step Table (Result NamesView InstallFault) → Table → Result Names InstallFault → Type 0
AnswersNames step t (Ok names) = AreSeen step Ok t names
AnswersNames step t (Err fault.OutOfMemory) = Unit {0}
AnswersNames step t (Err cause) = Reads step itself t (Ok (Err cause))
