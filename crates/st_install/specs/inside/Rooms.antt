-- What is told of a plan that is ready, or has no room.
use Rattle.std.specs.Prelude.{◌≡◌, ◌≤◌, List, Result, Ok, Err, ⊤}
use Rattle.std.specs.List.{AllByRecursion}
use Rattle.st_model.specs.Machine.{State, Went, Step}
use Rattle.st_model.specs.Table.{Table}
use Rattle.st_scope.specs.declared.fault.InstallFault.{InstallFault}
use Rattle.st_scope.specs.declared.fault.InstallFault.TheVariants.{OutOfMemory}
use Rattle.st_install.specs.declared.plan.Ready.{Ready}
use Rattle.st_install.specs.Plans.{NewObject, Plan, words_of_new}
use Rattle.st_install.specs.inside.Readies.{plan_of}

-- a call tells what this step answers, unless there was no memory
abbrev pub TellsReady : Step Table (Result Plan InstallFault) → Table → Result Ready InstallFault → Type 0
TellsReady m t (Ok r) = (s : State Table) → s.memory ≡ t → m.run s ≡ Went (Ok (plan_of r)) s
TellsReady m t (Err OutOfMemory) = ⊤
TellsReady m t (Err fault) = (s : State Table) → s.memory ≡ t → m.run s ≡ Went (Err fault) s

-- each has at most 65535 words
abbrev pub AreSmall : List NewObject → Type 0
AreSmall os = AllByRecursion (λ o. words_of_new o ≤ 65535) os
