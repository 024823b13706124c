-- A well-formed image begins.
use Rattle.std.proofs.Common.{◌≡◌, ℕ, List, refl, ◌≤◌}
use Rattle.std.proofs.lemmas.Bool.{false_from_ne_true}
use Rattle.st_model.specs.declared.fault.ImageFault.TheVariants.{Short, Lengths, Scheduler}
use Rattle.st_model.specs.declared.head.ImageHead.{ImageHead}
use Rattle.st_model.specs.Machine.{State, Transition, Died, Went}
use Rattle.st_model.specs.Births.{Births}
use Rattle.st_model.specs.Table.{Table}
use Rattle.st_model.specs.View.{IsComplete}
use Rattle.st_model.specs.Image.{entries_of}
use Rattle.st_model.specs.Start.{machine_head, start_view, start, begin}
use Rattle.st_model.specs.Faults.{Fails, IsWellFormed}
use Rattle.st_image.proofs.Complete.{empty-head, entries_at, complete}
use Rattle.st_image.proofs.FaultRows.{sized}
use Rattle.st_image.proofs.Starts.{begins_with}

module _ (h : ImageHead) (bytes : List ℕ) (well : IsWellFormed h bytes) where
  few : entries_of h ≤ 32768
  unfolding Fails
  few = (sized h bytes (false_from_ne_true _ (well Short)) (false_from_ne_true _ (well Lengths))).few

  all_there : IsComplete (start_view h bytes)
  unfolding start_view
  all_there = complete h bytes (start_view h bytes) (λ g below. well g) (entries_at h bytes (start_view h bytes).objects few refl) (empty-head (machine_head h))

  begun_from : (x : Transition (State Table) Unit) → start h bytes ≡ x → (s : State Births) × (begin h bytes ≡ Went tt s)
  unfolding Fails
  begun_from (Died cause) e = absurd (well Scheduler (cause, e))
  begun_from (Went u c) e = let b = begins_with h bytes (start_view h bytes) c all_there refl refl e in (b.0, b.1)

  pub begun : (s : State Births) × (begin h bytes ≡ Went tt s)
  begun = begun_from (start h bytes) refl
