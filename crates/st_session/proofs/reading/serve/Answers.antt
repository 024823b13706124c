use Rattle.std.proofs.Common.{◌≡◌, ◌∙◌, inl, inr, ⊎_elim, ℕ, List, refl, sym, ap, subst, arith}
use Rattle.std.specs.Prelude.{Some, Err}
use Rattle.st_host.specs.Counts.{Rose}
use Rattle.st_host.specs.declared.host.Host.{Ghosts}
use Rattle.st_model.specs.Births.{Births}
use Rattle.st_model.specs.Machine.{State, empty_world}
use Rattle.st_model.specs.Objects.{nil}
use Rattle.st_model.specs.Show.{Shows}
use Rattle.st_model.specs.Table.{Table}
use Rattle.st_frames.specs.inside.Shown.{shown}
use Rattle.st_store.specs.Names.{IsNoFileOf}
use Rattle.st_protocol.specs.declared.status.Status.{Status}
use Rattle.st_protocol.specs.declared.status.Status.TheVariants as status
use Rattle.st_protocol.proofs.Joins.{obeys_fault}
use Rattle.st_install.specs.Defining.{installed}
use Rattle.st_recover.specs.inside.Archives.{ArchiveState, Holds}
use Rattle.st_recover.specs.Commits.{Commit, OpensAs}
use Rattle.st_recover.specs.Replays.{Loss}
use Rattle.st_recover.specs.inside.Replayings.{losses_of}
use Rattle.st_recover.proofs.Gates.{own_gate}
use Rattle.st_session.specs.Ends.{SessionEnds, status_in}
use Rattle.st_session.specs.Keeping.{in_a_store}
use Rattle.st_session.specs.Opening.{session_over, session_so_far_over, session_of_over}
use Rattle.st_session.specs.Sessions.{asked_in}
use Rattle.st_session.specs.Points.{Point, alive}
use Rattle.st_session.specs.inside.Standing.{IsAt, shown_by}
use Rattle.st_session.proofs.Ending.{session_ends, ends_of, complete_of}
use Rattle.st_session.proofs.Holding.{holds_rest}
use Rattle.st_session.proofs.Lawful.{session_law}
use Rattle.st_session.proofs.Points.{ready_new}
use Rattle.st_session.proofs.Starving.{none_acknowledged, some_acknowledged}
use Rattle.st_session.proofs.reading.serve.Goals as goal

-- the same end in other words
module _ {D : Type 0} (host : Ghosts D) (k : Commit) (s : State Births) (replayed : ℕ) (script left : List ℕ) (old new : D) where
  abbrev Ends_so : List ℕ → List Loss → Status → Type 0
  Ends_so name lost e = SessionEnds host (OpensAs name) (IsNoFileOf name) k name (session_over replayed lost s k script) (session_so_far_over replayed lost s k) (session_of_over replayed lost s k) (asked_in script) script left old new e

  ends_so : (n m : List ℕ) (l o : List Loss) (e f : Status) → n ≡ m → l ≡ o → e ≡ f → Ends_so n l e → Ends_so m o f
  ends_so n m l o e f one two three h = subst (λ (x : Status). Ends_so m o x) three (subst (λ (x : List Loss). Ends_so m x e) two (subst (λ (x : List ℕ). Ends_so x l e) one h))

pub boot-machine-requires : goal.boot-machine-requires
boot-machine-requires g c =
    let loaded = c.args.opened.loaded in
    record { ready = ready_new (g.M.Memory.view loaded.memory) loaded.frame c.in-Ok.world c.requires.frame c.requires.quiet c.in-Ok.ensures }

-- there was no memory for a world
pub returns-in-Err-clause-ends : goal.returns-in-Err-clause-ends
returns-in-Err-clause-ends g c = λ told k s o.
    let opened = c.args.opened in
    let name = opened.store.name in
    let h = c.args.host.now in
    let script = g.S.Source.remaining c.args.script.now in
    let lost = losses_of opened.lost.items in
    let course = session_over opened.replayed lost s k script in
    let a : ArchiveState = record { name = name; store = Some opened.store; listed = opened.changes.listed } in
    ends_of g.H.Host (OpensAs name) (IsNoFileOf name) k (λ (x : Point Commit). Unit {0}) (λ (x : Point Commit). x.kept) course (session_so_far_over opened.replayed lost s k) script script (session_of_over opened.replayed lost s k) (asked_in script) name
    (λ tells other x new gate. own_gate g.H.Host name other x new tells (λ y n. g.met.H.Host.read_counts y n tells) gate) (Err status.OutOfMemory) h h
    (session_ends in_a_store installed opened.replayed lost (alive s k) script) (session_law opened.replayed lost (alive s k) script)
    (obeys_fault g.H.Host (OpensAs name) (IsNoFileOf name) (λ (x : Point Commit). Unit {0}) (λ (x : Point Commit). x.kept) k course status.OutOfMemory h tt (g.met.H.Host.only_now h) (holds_rest g.H.Host a k o.holds))
    (λ fault. cc)
    (λ none tells. none_acknowledged g.H.Host name (alive s k) opened.replayed lost script h h refl (holds_rest g.H.Host a k o.holds) tells)
    (λ none tells. inl refl)

pub returns-clause-ends : goal.returns-clause-ends
returns-clause-ends g c = λ told k s o.
    let view = g.M.Memory.view in
    let opened = c.args.opened in
    let h = c.args.host.now in
    let new = c.run_session.new.host in
    let script = g.S.Source.remaining c.args.script.now in
    let left = g.S.Source.remaining c.run_session.new.script in
    let m = c.boot-machine.result in
    let a = c.new-archive.result in
    let p : Point Commit = alive s k in
    let boots = c.boot-machine.ensures in
    let lost = losses_of c.deref.result.now in
    let same : shown_by view m ≡ shown (view opened.loaded.memory) opened.loaded.frame (empty_world nil) = λ i. shown (boots.memory i) (boots.frame i) ((boots.world ∙ c.in-Ok.ensures) i) in
    let holds : Holds g.H.Host h a k = subst (λ (x : ArchiveState). Holds g.H.Host h x k) (sym c.new-archive.ensures)
    (subst (λ (n : List ℕ). Holds g.H.Host h (record { name = n; store = Some opened.store; listed = opened.changes.listed }) k) opened.list_of.of_store.named o.holds) in
    let at : IsAt view g.H.Host m a h p = record { stands = (boots.alive, subst (λ (x : State Table). Shows x s) (sym same) o.shows); holds = holds } in
    let on = IsAt view g.H.Host c.run_session.new.kept.machine c.run_session.new.kept.archive new in
    let named : a.name ≡ opened.store.name = ap (λ (x : ArchiveState). x.name) c.new-archive.ensures ∙ sym opened.list_of.of_store.named in
    ends_so g.H.Host k s opened.replayed script left h new a.name opened.store.name lost (losses_of opened.lost.items) c.run_session.result c.run_session.result named (ap losses_of c.deref.ensures.value) refl
    (ends_of g.H.Host (OpensAs a.name) (IsNoFileOf a.name) k on (λ (x : Point Commit). x.kept) (session_over opened.replayed lost s k script) (session_so_far_over opened.replayed lost s k) script left (session_of_over opened.replayed lost s k) (asked_in script) a.name
    (λ tells other x new gate. own_gate g.H.Host a.name other x new tells (λ y n. g.met.H.Host.read_counts y n tells) gate) (Err c.run_session.result) h new
    (session_ends in_a_store installed opened.replayed lost p script) (session_law opened.replayed lost p script) (c.run_session.ensures.follows told p at) (λ fault. c.run_session.ensures.told (ap status_in fault) told p at)
    (λ none tells. ⊎_elim (λ same. none_acknowledged g.H.Host a.name p opened.replayed lost script h new same (holds_rest g.H.Host a k holds) tells)
    (λ some. some_acknowledged g.H.Host a.name p opened.replayed lost script h new (some p at) tells) (c.run_session.ensures.starved (ap status_in none) told))
    (λ none tells. ⊎_elim (λ same. inl same) (λ some. inr (some p at)) (c.run_session.ensures.starved (ap status_in none) told)))

pub returns-clause-cause : goal.returns-clause-cause
returns-clause-cause g c = c.run_session.ensures.counts.cause

pub returns-clause-complete : goal.returns-clause-complete
returns-clause-complete g c = λ told k s o end calm.
    let opened = c.args.opened in
    let name = opened.store.name in
    let script = g.S.Source.remaining c.args.script.now in
    let lost = losses_of opened.lost.items in
    complete_of g.H.Host (OpensAs name) (IsNoFileOf name) k (λ (x : Point Commit). Unit {0}) (λ (x : Point Commit). x.kept) (session_over opened.replayed lost s k script) (session_so_far_over opened.replayed lost s k) script (g.S.Source.remaining c.run_session.new.script) (session_of_over opened.replayed lost s k) (asked_in script) name (Rose (g.S.Source.read_faults c.args.script.now) (g.S.Source.read_faults c.run_session.new.script)) c.run_session.result c.args.host.now c.run_session.new.host
    (returns-clause-ends g c told k s o) (returns-clause-cause g c) end calm

pub returns-clause-counts : goal.returns-clause-counts
returns-clause-counts g c = record { disk = c.run_session.ensures.counts.disk; say = c.run_session.ensures.counts.say }

pub returns-in-Err-clause-counts : goal.returns-in-Err-clause-counts
returns-in-Err-clause-counts g c = record { disk = omega arith; say = omega arith }
