-- How a call of the program ends.
use Rattle.std.specs.Prelude.{◌≡◌, ℕ, List, Option, Some, None, ⊤}
use Rattle.st_host.specs.Files.{bytes_of}
use Rattle.st_host.specs.Runs.{ReadsAndSays}
use Rattle.st_host.specs.declared.host.Host.{Ghosts}
use Rattle.st_image.specs.declared.head.HeadValues.{HeadValues}
use Rattle.st_protocol.specs.declared.status.Status.{Status}
use Rattle.st_protocol.specs.declared.status.Status.TheVariants as status
use Rattle.st_protocol.specs.Statuses.{StatusHasCause}
use Rattle.st_session.specs.Builds.{BuildEnds}
use Rattle.st_session.specs.Drills.{DrillEnds}
use Rattle.st_call.specs.LastLines.{SaysLastLine}
use Rattle.st_session.specs.Commands.{OnceEnds}
use Rattle.st_session.specs.Condensings.{CondenseEnds}
use Rattle.st_session.specs.Exports.{ExportEnds}
use Rattle.st_session.specs.declared.extent.Extent.TheVariants.{Kept, Reachable}
use Rattle.st_session.specs.Imports.{ImportEnds}
use Rattle.st_session.specs.StoreSessions.{SessionCommandEnds}
use Rattle.st_call.specs.Words.{Command, command_of, Once, Import, Export, Clean, Condense, Session, Build, Drill}

-- a command that writes no file, or no command
abbrev pub OnlySays : Option Command → Type 0
OnlySays None = ⊤
OnlySays (Some (Once image cycles)) = ⊤
OnlySays (Some (Drill number)) = ⊤
OnlySays (Some command) = ⊥

-- A call of the program with these words, over the bytes of a script, of which the source still has `left`. `read` says that it
-- tells these, and `reads` that it had a fault.
pub record CallEnds {D : Type 0} (host : Ghosts D) (words : List (List ℕ)) (read reads : Type 0) (script left : List ℕ) (old new : D) (end : Status) : Type 0 where
  pub usage : command_of words ≡ None → (end ≡ status.Usage) × SaysLastLine host status.Usage old new
  pub once : (image : List ℕ) (n : ℕ) → command_of words ≡ Some (Once image n) → OnceEnds host (bytes_of (host.files old image)) n old new end
  pub imports : (image store : List ℕ) (over : HeadValues) → command_of words ≡ Some (Import image store over) → ImportEnds host over (bytes_of (host.files old image)) store old new end
  pub exports : (store image : List ℕ) → command_of words ≡ Some (Export store image) → ExportEnds host Kept store image old new end
  pub cleans : (store image : List ℕ) → command_of words ≡ Some (Clean store image) → ExportEnds host Reachable store image old new end
  pub condenses : (store : List ℕ) → command_of words ≡ Some (Condense store) → CondenseEnds host store old new end
  pub session : (store : List ℕ) → command_of words ≡ Some (Session store) → SessionCommandEnds host store read reads script left old new end
  pub builds : (kernel store : List ℕ) → command_of words ≡ Some (Build kernel store) → BuildEnds host (bytes_of (host.files old kernel)) store old new end
  pub drills : (n : ℕ) → command_of words ≡ Some (Drill n) → DrillEnds host n old new end
  pub cause : StatusHasCause host reads old new end
  pub says : OnlySays (command_of words) → (text : List ℕ) × ReadsAndSays host text old new
