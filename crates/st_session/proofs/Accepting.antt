-- A definition that is kept, and then installed and acknowledged; or that isn't.
use Rattle.std.proofs.Common.{◌≡◌, ◌∙◌, ℕ, List, refl, sym, ap, subst}
use Rattle.std.specs.Prelude.{None, Result, Ok, Err}
use Rattle.st_model.specs.Machine.{State}
use Rattle.st_model.specs.Births.{Births}
use Rattle.st_model.specs.Show.{Shows}
use Rattle.st_model.specs.View.{View}
use Rattle.st_host.specs.Runs.{IsAtRest}
use Rattle.st_host.specs.declared.host.Host.{Ghosts}
use Rattle.st_machine.specs.declared.machine.Machine.{Machine}
use Rattle.st_chunk.specs.Definitions.{Definition}
use Rattle.st_store.specs.Names.{IsNoFileOf}
use Rattle.st_protocol.specs.declared.refusal.Refusal.{Refusal}
use Rattle.st_protocol.specs.declared.status.Status.{Status}
use Rattle.st_protocol.specs.Courses.{replies}
use Rattle.st_protocol.specs.inside.Obeying.{Obeys}
use Rattle.st_protocol.proofs.Joins.{obeys_then, obeys_err}
use Rattle.st_protocol.specs.Installing.{Installed, Refused, Accepted}
use Rattle.st_protocol.specs.inside.Installations.{InstallsAs}
use Rattle.st_protocol.specs.declared.installation.Installation.TheVariants as installation
use Rattle.st_recover.specs.inside.Archives.{ArchiveState, Holds}
use Rattle.st_recover.specs.Commits.{Commit, OpensAs, accepting}
use Rattle.st_session.specs.Points.{Point, alive}
use Rattle.st_session.specs.Keeping.{in_a_store}
use Rattle.st_session.specs.Answers.{defined_course}
use Rattle.st_call.specs.Replies.{accepted_line, accepted_text, refused_text}
use Rattle.st_session.specs.inside.Standing.{shown_by, IsAt}
use Rattle.st_call.specs.inside.Telling.{Tells}
use Rattle.st_session.proofs.Holding.{holds_said, holds_rest}
use Rattle.st_session.proofs.Points.{GoesAs}
use Rattle.st_session.proofs.Responding.{line_said}
use Rattle.st_session.proofs.Saying.{obeys_tells, when_ok}

module _ {M D : Type 0} (view : M → View) (host : Ghosts D) (name : List ℕ) (n : Machine M) (b : ArchiveState) (s : State Births) (k : Commit) (d : Definition) where
  abbrev Keeps_it : D → D → Result Unit Status → Type 0
  Keeps_it old new result = Obeys host (OpensAs name) (IsNoFileOf name) (Holds host new b) (λ (x : Commit). x) k (accepting k d) result old new

  -- it is kept, installed, and acknowledged, or not whole
  pub accepted_said : (selector : _) (o : Installed) (text : List ℕ) (old mid new : D) (result : Result Unit Status) → b.name ≡ name → Keeps_it old mid (Ok tt) → InstallsAs o (installation.Accepted selector) (shown_by view n) → n.death ≡ None
      → text ≡ accepted_line d.class d.meta selector.items → Tells host text mid new result
      → GoesAs view host name n b old new k (defined_course in_a_store s k d o) result
  accepted_said selector (Refused why) text old mid new result named kept installs lives is tells = absurd installs
  accepted_said selector (Accepted called t) text old mid new result named kept installs lives is tells =
      obeys_then host (OpensAs name) (IsNoFileOf name) (Holds host mid b) (λ (x : Commit). x) (IsAt view host n b new) (λ (q : Point Commit). q.kept) k (accepting k d) (λ c. replies (accepted_text d called) (alive t c)) result old mid new kept
      (λ c holds.
      obeys_tells host (OpensAs name) (IsNoFileOf name) (IsAt view host n b new) (λ (q : Point Commit). q.kept) c (accepted_text d called) (alive t c) result mid new
      (subst (λ (x : List ℕ). Tells host x mid new result) (is ∙ ap (accepted_line d.class d.meta) installs.0) tells)
      (λ told. subst (λ (x : List ℕ). IsAtRest host (OpensAs x) c mid) named (holds_rest host b c holds told))
      (when_ok result (record { stands = (lives, installs.1); holds = holds_said host b c tells.says holds })) refl)

  -- it isn't kept
  pub accepted_unkept : (o : Installed) (called : List ℕ) (t : State Births) (e : Status) (old new : D) → o ≡ Accepted called t → Keeps_it old new (Err e) → GoesAs view host name n b old new k (defined_course in_a_store s k d o) (Err e)
  accepted_unkept o called t e old new is kept =
      subst (λ (x : Installed). GoesAs view host name n b old new k (defined_course in_a_store s k d x) (Err e)) (sym is)
      (obeys_err host (OpensAs name) (IsNoFileOf name) (Holds host new b) (λ (x : Commit). x) (IsAt view host n b new) (λ (q : Point Commit). q.kept) k (accepting k d) (λ c. replies (accepted_text d called) (alive t c)) e old new kept)

module _ {M D : Type 0} (view : M → View) (host : Ghosts D) (n : Machine M) (a : ArchiveState) (s : State Births) (k : Commit) (d : Definition) where
  -- it is refused
  pub refused_said : (o : Installed) (why : Refusal) (old new : D) (result : Result Unit Status) → o ≡ Refused why → n.death ≡ None → Shows (shown_by view n) s → Holds host old a k → Tells host (refused_text why) old new result
      → GoesAs view host a.name n a old new k (defined_course in_a_store s k d o) result
  refused_said o why old new result is lives shows holds tells =
      subst (λ (x : Installed). GoesAs view host a.name n a old new k (defined_course in_a_store s k d x) result) (sym is)
      (line_said view host n a k (refused_text why) (alive s k) old new result tells holds (lives, shows) refl)
