-- What a call does that answers what is asked for, by what the call in it does.
use Rattle.std.proofs.Common.{◌≡◌, refl, subst, arith}
use Rattle.std.specs.Prelude.{Result, Ok, Err, IsErrOf, OnOk, ℕ, List}
use Rattle.st_model.specs.View.{View}
use Rattle.st_host.specs.declared.host.Host.{Ghosts}
use Rattle.st_chunk.specs.Reading.{Told}
use Rattle.st_chunk.specs.Scripts.{asked_by}
use Rattle.st_install.specs.Defining.{installed}
use Rattle.st_protocol.specs.declared.status.Status.{Status}
use Rattle.st_protocol.specs.declared.status.Status.TheVariants as status
use Rattle.st_protocol.specs.Courses.{Course}
use Rattle.st_protocol.specs.Statuses.{StatusHasCause}
use Rattle.st_recover.specs.inside.Archives.{IsOfKeeping}
use Rattle.st_recover.specs.Commits.{Commit}
use Rattle.st_call.specs.inside.Telling.{IsOfServing, Tells}
use Rattle.st_session.specs.declared.kept.SessionState.{SessionState}
use Rattle.st_session.specs.Keeping.{in_a_store}
use Rattle.st_session.specs.Points.{Point}
use Rattle.st_session.specs.Sessions.{follow}
use Rattle.st_session.specs.inside.Standing.{MayGoOn, Follows, Serves}
use Rattle.st_session.proofs.Saying.{when_ok}
use Rattle.st_session.proofs.Starving.{never_starved}

-- how keeping a definition ends, so a session may end
pub keeping_serves : (e : Status) → IsOfKeeping e → IsOfServing e
keeping_serves status.Done k = absurd k
keeping_serves status.Usage k = absurd k
keeping_serves (status.Image f) k = absurd k
keeping_serves (status.Script line) k = absurd k
keeping_serves status.ReadFault k = absurd k
keeping_serves status.SayFault k = absurd k
keeping_serves status.DiskFault k = tt
keeping_serves (status.Store f) k = absurd k
keeping_serves (status.Kernel chunk cause) k = absurd k
keeping_serves status.TooLarge k = tt
keeping_serves status.OutOfMemory k = tt

pub on_ok_then : {A B : Type 0} (r : Result Unit Status) → (A → B) → OnOk r A → OnOk r B
on_ok_then (Ok u) f a = f a
on_ok_then (Err e) f a = tt

-- it isn't that there was no memory
abbrev pub IsAmple : Result Unit Status → Type 0
IsAmple (Ok u) = Unit {0}
IsAmple (Err status.OutOfMemory) = ⊥
IsAmple (Err e) = Unit {0}

pub ample : {A : Type 0} (r : Result Unit Status) → IsAmple r → IsErrOf r status.OutOfMemory → A
ample r h none = absurd (subst IsAmple none h)

module _ {M D : Type 0} {view : M → View} {host : Ghosts D} {A : Type 0} {course : Point Commit → Course Commit (Point Commit)} {s : SessionState M} {old : D} where
  -- what a call does, told by another course
  pub served_as : {B : Type 0} {t : SessionState M} {new : D} {result : Result Unit Status} {other : Point Commit → Course Commit (Point Commit)} → Serves view host course A s old result t new → (A → B) → Follows view host other s old result t new → Serves view host other B s old result t new
  served_as h stands follows = record {
    go_on = h.go_on;
    named = h.named;
    follows = follows;
    counts = h.counts;
    served = h.served;
    starved = λ none. stands (h.starved none);
  }

  -- a line that is said; the machine may have changed, and the archive stays
  pub served_said : {t : SessionState M} {new : D} {result : Result Unit Status} {text : List ℕ} → MayGoOn view t → t.archive.name ≡ s.archive.name → Tells host text old new result → Follows view host course s old result t new → Serves view host course A s old result t new
  served_said {result = result} on named tells follows = record {
    go_on = when_ok result on;
    named = named;
    follows = follows;
    counts = tells.counts;
    served = tells.served;
    starved = λ none. never_starved result tells.fault none;
  }

  -- the session ends by what is asked for
  pub served_end : {e : Status} → StatusHasCause host ⊥ old old e → IsOfServing e → (IsErrOf {T = Unit} (Err e) status.OutOfMemory → A) → Follows view host course s old (Err e) s old → Serves view host course A s old (Err e) s old
  served_end cause serves stands follows = record {
    go_on = tt;
    named = refl;
    follows = follows;
    counts = record { disk = omega arith; say = omega arith; cause = cause };
    served = serves;
    starved = stands;
  }

  -- nothing is done
  pub served_none : MayGoOn view s → Follows view host course s old (Ok tt) s old → Serves view host course A s old (Ok tt) s old
  served_none on follows = record {
    go_on = on;
    named = refl;
    follows = follows;
    counts = record { disk = omega arith; say = omega arith; cause = tt };
    served = tt;
    starved = ample (Ok tt) tt;
  }

-- what is told to be asked for is the same
pub served_asked : {M D : Type 0} {view : M → View} {host : Ghosts D} {A : Type 0} {s t : SessionState M} {old new : D} {result : Result Unit Status} {one other : Told} → one ≡ other
    → Serves view host (λ p. follow in_a_store installed p (asked_by one)) A s old result t new → Serves view host (λ p. follow in_a_store installed p (asked_by other)) A s old result t new
served_asked {view = view} {host = host} {A = A} {s = s} {t = t} {old = old} {new = new} {result = result} same h =
    subst (λ x. Serves view host (λ p. follow in_a_store installed p (asked_by x)) A s old result t new) same h
