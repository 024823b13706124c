-- A machine stands at some point, and where it does.
use Rattle.std.proofs.Common.{◌≡◌, ◌∙◌, ℕ, List, IsTrue, sym, ap, subst}
use Rattle.std.specs.Prelude.{Some, None, Result}
use Rattle.st_model.specs.declared.dead.Dead.{Dead}
use Rattle.st_model.specs.Objects.{nil}
use Rattle.st_model.specs.Machine.{State, World, empty_world}
use Rattle.st_model.specs.Births.{Births}
use Rattle.st_model.specs.Show.{Shows, raised}
use Rattle.st_model.specs.View.{View, IsWhole, no_devices}
use Rattle.st_model.proofs.Raised.{raised_shown}
use Rattle.st_frames.specs.declared.frame.Frame.{Frame}
use Rattle.st_frames.specs.inside.Shown.{IsFrame, IsReady, filled}
use Rattle.st_frames.proofs.Closed.{is_closed}
use Rattle.st_machine.specs.declared.machine.Machine.{Machine}
use Rattle.st_host.specs.Runs.{IsAtRest}
use Rattle.st_host.specs.declared.host.Host.{Ghosts}
use Rattle.st_store.specs.Names.{IsNoFileOf}
use Rattle.st_protocol.specs.declared.status.Status.{Status}
use Rattle.st_protocol.specs.Courses.{Course}
use Rattle.st_protocol.specs.inside.Obeying.{Obeys}
use Rattle.st_recover.specs.inside.Archives.{ArchiveState, Holds}
use Rattle.st_recover.specs.Commits.{Commit, OpensAs}
use Rattle.st_session.specs.Points.{Being, Alive, Gone, Point}
use Rattle.st_session.specs.inside.Standing.{IsBeing, shown_by, IsAt}
use Rattle.st_session.proofs.Holding.{holds_rest}
use Rattle.st_recover.proofs.Restoring.{filled_empty}

pub shown_births : {M : Type 0} (view : M → View) (m : Machine M) → IsWhole (view m.memory) → IsReady (view m.memory) m.frame m.world → (s : State Births) × Shows (shown_by view m) s
shown_births view m whole ready = (raised (shown_by view m), raised_shown (shown_by view m) (is_closed (view m.memory) m.frame m.world whole ready))

module _ {M D : Type 0} (view : M → View) (host : Ghosts D) where
  -- what a call does that leaves the machine and the archive so, from a commit on, where the store has this name
  abbrev pub GoesAs : List ℕ → Machine M → ArchiveState → D → D → Commit → Course Commit (Point Commit) → Result Unit Status → Type 0
  GoesAs name n b old new c course result = Obeys host (OpensAs name) (IsNoFileOf name) (IsAt view host n b new) (λ (q : Point Commit). q.kept) c course result old new

  -- where the store's name is this too
  pub named_so : (name other : List ℕ) (n : Machine M) (b : ArchiveState) (old new : D) (c : Commit) (course : Course Commit (Point Commit)) (result : Result Unit Status) → name ≡ other
      → GoesAs name n b old new c course result → GoesAs other n b old new c course result
  named_so name other n b old new c course result e h = subst (λ (x : List ℕ). GoesAs x n b old new c course result) e h

  -- each state that a stop may leave opens as the commit of where it stands
  pub at_rest : (name : List ℕ) (n : Machine M) (b : ArchiveState) (now : D) (q : Point Commit) → b.name ≡ name → IsAt view host n b now q → IsTrue host.is_told → IsAtRest host (OpensAs name) q.kept now
  at_rest name n b now q e at told = subst (λ (x : List ℕ). IsAtRest host (OpensAs x) q.kept now) e (holds_rest host b q.kept at.holds told)

  module _ (m : Machine M) (a : ArchiveState) (old : D) (n : Machine M) (b : ArchiveState) (new : D) (course : Being → Commit → Course Commit (Point Commit)) (result : Result Unit Status) where
    -- a machine that isn't dead answers as births that it shows
    pub living_answers : m.death ≡ None
        → ((s : State Births) (c : Commit) → Shows (shown_by view m) s → Holds host old a c → GoesAs a.name n b old new c (course (Alive s) c) result)
        → (p : Point Commit) → IsAt view host m a old p → GoesAs a.name n b old new p.kept (course p.being p.kept) result
    living_answers lives f p at = over p.being at.stands
      where
        over : (being : Being) → IsBeing m.death (shown_by view m) being → GoesAs a.name n b old new p.kept (course being p.kept) result
        over (Alive s) h = f s p.kept h.1 at.holds
        over (Gone cause) h = let none : Some cause ≡ None = sym h ∙ lives in cc

    -- a dead one by its cause
    pub dead_answers : (cause : Dead) → m.death ≡ Some cause
        → ((c : Commit) → Holds host old a c → GoesAs a.name n b old new c (course (Gone cause) c) result)
        → (p : Point Commit) → IsAt view host m a old p → GoesAs a.name n b old new p.kept (course p.being p.kept) result
    dead_answers cause dies f p at = over p.being at.stands
      where
        same : (x y : Dead) → Some x ≡ Some y → x ≡ y
        same x y e = cc

        over : (being : Being) → IsBeing m.death (shown_by view m) being → GoesAs a.name n b old new p.kept (course being p.kept) result
        over (Alive s) w = let none : Some cause ≡ None = sym dies ∙ w.0 in cc
        over (Gone x) w = subst (λ y. GoesAs a.name n b old new p.kept (course (Gone y) p.kept) result) (same cause x (sym dies ∙ w)) (f p.kept at.holds)

pub ready_new : (v : View) (f : Frame) (w : World) → IsFrame v f → v.held.devices ≡ no_devices → w ≡ empty_world nil → IsReady v f w
ready_new v f w frame quiet new = record { frame = frame; devices = quiet ∙ (sym filled_empty ∙ ap (λ (x : World). filled x.devices) (sym new)) }
