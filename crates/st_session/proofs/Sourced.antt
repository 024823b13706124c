-- A text that is said, where there was memory for it.
use Rattle.std.proofs.Common.{◌≡◌, inl, inr, ℕ, List, sym, subst, arith}
use Rattle.std.specs.Prelude.{Result, Err, IfErr, IsErrOf}
use Rattle.st_model.specs.View.{View}
use Rattle.st_host.specs.declared.host.Host.{Ghosts}
use Rattle.st_host.proofs.Telling.{OnlyNow}
use Rattle.st_machine.specs.declared.machine.Machine.{Machine}
use Rattle.st_protocol.specs.declared.status.Status.{Status}
use Rattle.st_protocol.specs.declared.status.Status.TheVariants as status
use Rattle.st_protocol.specs.Courses.{replies}
use Rattle.st_protocol.specs.Statuses.{Counts}
use Rattle.st_recover.specs.inside.Archives.{ArchiveState, Holds}
use Rattle.st_recover.specs.Commits.{Commit}
use Rattle.st_call.specs.inside.Telling.{IsOfServing}
use Rattle.st_session.specs.inside.Starving.{TellsOrStarves}
use Rattle.st_session.specs.Points.{Point}
use Rattle.st_session.specs.inside.Standing.{StandsAt}
use Rattle.st_session.proofs.Points.{GoesAs}
use Rattle.st_session.proofs.Responding.{line_said, fails_now}
use Rattle.st_session.proofs.Starving.{never_starved}

module _ {D : Type 0} (host : Ghosts D) (text : List ℕ) (old new : D) (result : Result Unit Status) where
  none_counted : (mid : D) → Counts host ⊥ mid mid (Err status.OutOfMemory)
  none_counted mid = record { disk = omega arith; say = omega arith; cause = tt }

  pub source_counts : TellsOrStarves host text old new result → Counts host ⊥ old new result
  source_counts (inl tells) = tells.counts
  source_counts (inr (e, same)) =
      subst (λ (d : D). Counts host ⊥ old d result) (sym same)
      (subst (λ (r : Result Unit Status). Counts host ⊥ old old r) (sym e) (none_counted old))

  pub source_served : TellsOrStarves host text old new result → IfErr result IsOfServing
  source_served (inl tells) = tells.served
  source_served (inr (e, same)) = subst (λ (r : Result Unit Status). IfErr r IsOfServing) (sym e) tt

  pub source_starved : TellsOrStarves host text old new result → IsErrOf result status.OutOfMemory → new ≡ old
  source_starved (inl tells) none = never_starved result tells.fault none
  source_starved (inr (e, same)) none = same

module _ {M D : Type 0} (view : M → View) (host : Ghosts D) (m : Machine M) (a : ArchiveState) (k : Commit) where
  pub source_said : (text : List ℕ) (x : Point Commit) (old new : D) (result : Result Unit Status) → TellsOrStarves host text old new result → OnlyNow host old → Holds host old a k → StandsAt view m x → x.kept ≡ k
      → GoesAs view host a.name m a old new k (replies text x) result
  source_said text x old new result (inl tells) only holds stands kept = line_said view host m a k text x old new result tells holds stands kept
  source_said text x old new result (inr (e, same)) only holds stands kept =
      subst (λ (d : D). GoesAs view host a.name m a old d k (replies text x) result) (sym same)
      (subst (λ (r : Result Unit Status). GoesAs view host a.name m a old old k (replies text x) r) (sym e)
      (fails_now view host m a k (replies text x) status.OutOfMemory old tt only holds))
