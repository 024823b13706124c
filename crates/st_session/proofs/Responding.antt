-- What a machine that isn't dead, or is, answers to a line.
use Rattle.std.proofs.Common.{◌≡◌, ℕ, List, [], sym, subst}
use Rattle.std.specs.Prelude.{Result, Ok, Err}
use Rattle.st_model.specs.View.{View}
use Rattle.st_host.specs.declared.host.Host.{Ghosts}
use Rattle.st_host.specs.declared.host.SayFault.{SayFault}
use Rattle.st_host.proofs.Telling.{OnlyNow}
use Rattle.st_machine.specs.declared.machine.Machine.{Machine}
use Rattle.st_store.specs.Names.{IsNoFileOf}
use Rattle.st_protocol.specs.declared.status.Status.{Status}
use Rattle.st_protocol.specs.declared.status.Status.TheVariants as status
use Rattle.st_protocol.specs.Courses.{Course, Goes, Ends, deeds_of, said_of, replies}
use Rattle.st_protocol.proofs.Joins.{obeys_none, obeys_end, obeys_fault}
use Rattle.st_protocol.specs.Statuses.{IsFault}
use Rattle.st_recover.specs.inside.Archives.{ArchiveState, Holds}
use Rattle.st_recover.specs.Commits.{Commit, OpensAs}
use Rattle.st_session.specs.Points.{Point}
use Rattle.st_session.specs.inside.Pushing.{PushesCourse}
use Rattle.st_session.specs.inside.Standing.{IsAt, StandsAt}
use Rattle.st_call.specs.inside.Telling.{Tells}
use Rattle.st_session.proofs.Holding.{holds_said, holds_rest}
use Rattle.st_session.proofs.Points.{GoesAs}
use Rattle.st_session.proofs.Saying.{KeepsNone, tells_pushed, tells_cut, obeys_said, obeys_tells, when_ok}

module _ {M D : Type 0} (view : M → View) (host : Ghosts D) (n : Machine M) (a : ArchiveState) (k : Commit) where
  abbrev Goes_as : D → D → Course Commit (Point Commit) → Result Unit Status → Type 0
  Goes_as old new course result = GoesAs view host a.name n a old new k course result

  -- the archive holds at the end what it held
  stays : (old new : D) (text : List ℕ) (result : Result Unit Status) → Tells host text old new result → Holds host old a k → (x : Point Commit) → StandsAt view n x → x.kept ≡ k → IsAt view host n a new x
  stays old new text result tells holds x stands same = record { stands = stands; holds = subst (Holds host new a) (sym same) (holds_said host a k tells.says holds) }

  module _ (course : Course Commit (Point Commit)) (none : KeepsNone (λ (q : Point Commit). q.kept) k course) where
    -- what a course says was added to nothing, and then said, or not
    pub lines_said : (p q : List ℕ) (old mid new : D) (result : Result Unit Status) → p ≡ [] → PushesCourse {E = SayFault} host (StandsAt view n) course old mid p q (Ok tt) → Tells host q mid new result → Holds host old a k
        → Goes_as old new course result
    lines_said p q old mid new result empty run end holds =
        let tells = tells_pushed host (said_of (deeds_of course)) p q old mid new result empty run.pushes end in
        obeys_said host (OpensAs a.name) (IsNoFileOf a.name) (IsAt view host n a new) (λ (q : Point Commit). q.kept) k (StandsAt view n) course result old new none tells (holds_rest host a k holds)
        (when_ok result run.leads) (stays old new (said_of (deeds_of course)) result tells holds)

    pub lines_cut : (p q : List ℕ) (old new : D) (fault : SayFault) → p ≡ [] → PushesCourse {E = SayFault} host (StandsAt view n) course old new p q (Err fault) → Holds host old a k → Goes_as old new course (Err status.SayFault)
    lines_cut p q old new fault empty run holds =
        let tells = tells_cut host (said_of (deeds_of course)) p q old new fault empty run.pushes in
        obeys_said host (OpensAs a.name) (IsNoFileOf a.name) (IsAt view host n a new) (λ (q : Point Commit). q.kept) k (StandsAt view n) course (Err status.SayFault) old new none tells (holds_rest host a k holds)
        tt (stays old new (said_of (deeds_of course)) (Err status.SayFault) tells holds)

  -- a line that is said where the machine stands
  pub line_said : (text : List ℕ) (x : Point Commit) (old new : D) (result : Result Unit Status) → Tells host text old new result → Holds host old a k → StandsAt view n x → x.kept ≡ k → Goes_as old new (replies text x) result
  line_said text x old new result tells holds stands same =
      obeys_tells host (OpensAs a.name) (IsNoFileOf a.name) (IsAt view host n a new) (λ (q : Point Commit). q.kept) k text x result old new tells (holds_rest host a k holds)
      (when_ok result (stays old new text result tells holds x stands same)) same

  -- the session ends, or nothing is done, or a fault came before anything was done
  pub ends_now : (end : Status) (now : D) → OnlyNow host now → Holds host now a k → Goes_as now now (Ends [] end) (Err end)
  ends_now end now only holds = obeys_end host (OpensAs a.name) (IsNoFileOf a.name) (IsAt view host n a now) (λ (q : Point Commit). q.kept) k end only (holds_rest host a k holds)

  pub stays_now : (x : Point Commit) (now : D) → OnlyNow host now → Holds host now a k → StandsAt view n x → x.kept ≡ k → Goes_as now now (Goes [] x) (Ok tt)
  stays_now x now only holds stands same =
      obeys_none host (OpensAs a.name) (IsNoFileOf a.name) (IsAt view host n a now) (λ (q : Point Commit). q.kept) k x only (holds_rest host a k holds)
      (record { stands = stands; holds = subst (Holds host now a) (sym same) holds }) same

  pub fails_now : (course : Course Commit (Point Commit)) (e : Status) (now : D) → IsFault e → OnlyNow host now → Holds host now a k → Goes_as now now course (Err e)
  fails_now course e now fault only holds = obeys_fault host (OpensAs a.name) (IsNoFileOf a.name) (IsAt view host n a now) (λ (q : Point Commit). q.kept) k course e now fault only (holds_rest host a k holds)
