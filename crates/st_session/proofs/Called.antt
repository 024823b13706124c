-- How a call ends, by the command that its words say.
use Rattle.std.proofs.Common.{◌≡◌, ◌∙◌, ℕ, List, sym, ap, subst}
use Rattle.std.specs.Prelude.{Option, Some, None, unwrap_or}
use Rattle.st_host.specs.Files.{bytes_of}
use Rattle.st_host.specs.Runs.{ReadsAndSays}
use Rattle.st_host.specs.declared.host.Host.{Ghosts}
use Rattle.st_protocol.specs.declared.status.Status.{Status}
use Rattle.st_protocol.specs.declared.status.Status.TheVariants as status
use Rattle.st_protocol.specs.Statuses.{StatusHasCause}
use Rattle.st_call.specs.LastLines.{last_line, SaysLastLine}
use Rattle.st_call.specs.Words.{Command, command_of, Once, Import, Export, Clean, Condense, Session, Build, Drill}
use Rattle.st_session.specs.Builds.{BuildEnds}
use Rattle.st_session.specs.Calls.{CallEnds, OnlySays}
use Rattle.st_session.specs.Commands.{OnceEnds}
use Rattle.st_session.specs.Drills.{DrillEnds}
use Rattle.st_session.specs.Condensings.{CondenseEnds}
use Rattle.st_session.specs.Exports.{ExportEnds}
use Rattle.st_session.specs.declared.extent.Extent.TheVariants.{Kept, Reachable}
use Rattle.st_session.specs.Imports.{ImportEnds}
use Rattle.st_session.specs.StoreSessions.{SessionCommandEnds}

some_is : (a b : Command) → Some a ≡ Some b → a ≡ b
some_is a b e = ap (λ (o : Option Command). unwrap_or o a) e

no_command : (o : Option Command) (k : Command) → o ≡ Some k → o ≡ None → ⊥
no_command o k some none = let both : None ≡ Some k = sym none ∙ some in cc

-- where no source was read, whatever may be of one
pub caused_by_none : {D : Type 0} (host : Ghosts D) (reads : Type 0) (old new : D) (e : Status) → StatusHasCause host ⊥ old new e → StatusHasCause host reads old new e
caused_by_none host reads old new status.Done h = tt
caused_by_none host reads old new status.Usage h = tt
caused_by_none host reads old new (status.Image f) h = tt
caused_by_none host reads old new (status.Script n) h = tt
caused_by_none host reads old new status.ReadFault h = absurd h
caused_by_none host reads old new status.SayFault h = h
caused_by_none host reads old new status.DiskFault h = h
caused_by_none host reads old new (status.Store f) h = tt
caused_by_none host reads old new (status.Kernel chunk cause) h = tt
caused_by_none host reads old new status.TooLarge h = tt
caused_by_none host reads old new status.OutOfMemory h = tt

module _ {D : Type 0} (host : Ghosts D) (words : List (List ℕ)) (read reads : Type 0) (script left : List ℕ) (old new : D) (end : Status) where
  abbrev Ends : Type 0
  Ends = CallEnds host words read reads script left old new end

  abbrev pub CommandEnds : Command → Type 0
  CommandEnds (Once image n) = OnceEnds host (bytes_of (host.files old image)) n old new end
  CommandEnds (Import image store over) = ImportEnds host over (bytes_of (host.files old image)) store old new end
  CommandEnds (Export store image) = ExportEnds host Kept store image old new end
  CommandEnds (Clean store image) = ExportEnds host Reachable store image old new end
  CommandEnds (Condense store) = CondenseEnds host store old new end
  CommandEnds (Session store) = SessionCommandEnds host store read reads script left old new end
  CommandEnds (Build kernel store) = BuildEnds host (bytes_of (host.files old kernel)) store old new end
  CommandEnds (Drill n) = DrillEnds host n old new end

  -- the words say this command
  pub command_ends : (k : Command) → command_of words ≡ Some k → CommandEnds k → StatusHasCause host reads old new end → (OnlySays (Some k) → (text : List ℕ) × ReadsAndSays host text old new) → Ends
  command_ends k is ends cause says = record {
    usage = λ none. absurd (no_command (command_of words) k is none);
    once = λ image n so. as_said (Once image n) so;
    imports = λ image store over so. as_said (Import image store over) so;
    exports = λ store image so. as_said (Export store image) so;
    cleans = λ store image so. as_said (Clean store image) so;
    condenses = λ store so. as_said (Condense store) so;
    session = λ store so. as_said (Session store) so;
    builds = λ kernel store so. as_said (Build kernel store) so;
    drills = λ n so. as_said (Drill n) so;
    cause = cause;
    says = λ only. says (subst OnlySays is only);
  }
    where
      as_said : (j : Command) → command_of words ≡ Some j → CommandEnds j
      as_said j so = subst CommandEnds (some_is k j (sym is ∙ so)) ends

  -- they say none
  pub usage_ends : command_of words ≡ None → end ≡ status.Usage → SaysLastLine host status.Usage old new → ReadsAndSays host (last_line status.Usage) old new → Ends
  usage_ends none is line reads_and_says = record {
    usage = λ so. (is, line);
    once = λ image n so. absurd (no_command (command_of words) (Once image n) so none);
    imports = λ image store over so. absurd (no_command (command_of words) (Import image store over) so none);
    exports = λ store image so. absurd (no_command (command_of words) (Export store image) so none);
    cleans = λ store image so. absurd (no_command (command_of words) (Clean store image) so none);
    condenses = λ store so. absurd (no_command (command_of words) (Condense store) so none);
    session = λ store so. absurd (no_command (command_of words) (Session store) so none);
    builds = λ kernel store so. absurd (no_command (command_of words) (Build kernel store) so none);
    drills = λ n so. absurd (no_command (command_of words) (Drill n) so none);
    cause = subst (StatusHasCause host reads old new) (sym is) tt;
    says = λ only. (last_line status.Usage, reads_and_says);
  }
