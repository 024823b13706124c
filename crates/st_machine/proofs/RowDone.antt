-- What the row of a bytecode comes to that a memory with room does: it was foreseen, and is that over a bounded table.
use Rattle.std.proofs.Common.{◌≡◌, ◌≢◌, true, Ok, refl, sym, subst, ap, ◌∙◌}
use Rattle.st_model.specs.declared.dead.Dead.{Dead}
use Rattle.st_model.specs.declared.deed.Deed.TheVariants.{Nothing}
use Rattle.st_model.specs.declared.outcome.Outcome.{Outcome as CodeOutcome}
use Rattle.st_model.specs.Outcomes.{outcome_of}
use Rattle.st_model.specs.Deeds.{with_deed}
use Rattle.st_model.specs.Machine.{World, State, Died, Went, used}
use Rattle.st_model.specs.Steps.{are_there}
use Rattle.st_model.specs.Table.{Table, table, bounded_table}
use Rattle.st_model.specs.declared.bytecode.Bytecode.{Bytecode}
use Rattle.st_model.specs.Bytecodes.{bytecode, step}
use Rattle.st_model.specs.View.{View, IsWhole}
use Rattle.st_simulation.proofs.Deeds.{deed_uses}
use Rattle.st_frames.specs.declared.frame.Frame.{Frame}
use Rattle.st_frames.specs.declared.registers.Registers.{Registers as Words}
use Rattle.st_frames.specs.declared.ending.RowEnd.{RowEnd}
use Rattle.st_frames.specs.declared.ending.RowEnd.TheVariants as rows
use Rattle.st_frames.specs.inside.Rows.{row_state, registers_in, with_left, outcome_in, deed_in}
use Rattle.st_frames.specs.inside.Shown.{shown, registers_of, IsReady}
use Rattle.st_control.specs.inside.Foreseen.{IsForeseen}
use Rattle.st_control.proofs.Suffices.{dies, foreseen, bounded}
use Rattle.st_step.proofs.Stepped.{held_again, there_after}
use Rattle.st_step.specs.inside.Planned.{HasEnded}
use Rattle.st_at_once.specs.inside.AtOnce.{IsFetched}
use Rattle.st_machine.specs.inside.Cycling.{GoesBy, Finishes, foreseen_step}
use Rattle.st_machine.proofs.Foreseeing.{cycle_done, dies_at_once}

-- only one that leaves a deed leaves something to be done
nothing_left : (r : Words) (end : RowEnd) → end ≢ rows.Leaves → deed_in r end ≡ Nothing
nothing_left r rows.Went other = refl
nothing_left r rows.Leaves other = absurd (other refl)
nothing_left r rows.Says other = refl
nothing_left r rows.Snapshot other = refl
nothing_left r rows.Quit other = refl
nothing_left r rows.Debugger other = refl

module _ (v : View) (f : Frame) (w : World) (whole : IsWhole v) (ready : IsReady v f w) (code : Bytecode) (start : Words) (fetched : IsFetched v f w code start) (before : start.world.now ≡ w) where
  pub row_dies : (cause : Dead) → (bytecode table code).run (row_state v.objects v.head start) ≡ Died cause → foreseen_step (shown v f w) ≡ Died cause
  row_dies cause e = dies_at_once (shown v f w) cause (dies v f w whole ready cause (fetched ∙ e))

  module _ (u : View) (r : Words) (end : RowEnd) (kept : IsWhole u) (head : u.head ≡ v.head)
      (does : (bytecode table code).run (row_state v.objects v.head start) ≡ Went (outcome_in r end) (with_left (deed_in r) (Ok end) (row_state u.objects u.head r))) where
    left : State Table
    left = with_deed (deed_in r end) (row_state u.objects u.head r)

    from_shown : (step table).run (shown v f w) ≡ Went (outcome_in r end) left
    unfolding left
    from_shown = fetched ∙ does

    -- what it leaves to be done changes nothing of what is used
    uses : used table left.memory ≡ used table u.objects
    unfolding row_state left
    uses = deed_uses (deed_in r end) u.objects

    row_foreseen : IsForeseen (shown v f w)
    row_foreseen = foreseen v f w whole ready (outcome_in r end) left u from_shown kept uses head

    row_bounded : (step bounded_table).run (shown v f w) ≡ Went (outcome_in r end) left
    row_bounded = bounded v f w whole ready (outcome_in r end) left u from_shown kept uses head

    pub row_there : are_there table u.objects (registers_in r) ≡ true
    unfolding left
    row_there = there_after v f w u.objects u.head r (outcome_in r end) (deed_in r end) whole ready row_bounded

    -- the registers are held again
    module _ (h : View) (q : Frame) (world : r.world.now ≡ start.world.now) (held : registers_of q ≡ registers_in r) (objects : h.objects ≡ u.objects) (heads : h.head ≡ u.head) where
      row_held : (step bounded_table).run (shown v f w) ≡ Went (outcome_in r end) (with_deed (deed_in r end) (shown h q w))
      unfolding left
      row_held = row_bounded ∙ ap (λ s. Went (outcome_in r end) (with_deed (deed_in r end) s)) (held_again u h q w r held (world ∙ before) objects heads)

      pub row_leaves : GoesBy (foreseen_step (shown v f w)) (outcome_in r end) (Finishes (with_deed (deed_in r end) (shown h q w)))
      row_leaves d l = cycle_done (shown v f w) (outcome_in r end) (with_deed (deed_in r end) (shown h q w)) d row_foreseen row_held l

      -- and nothing is left to be done
      module _ (other : end ≢ rows.Leaves) where
        pub row_ends : (step bounded_table).run (shown v f w) ≡ Went (outcome_in r end) (shown h q w)
        row_ends = subst (λ d. (step bounded_table).run (shown v f w) ≡ Went (outcome_in r end) (with_deed d (shown h q w))) (nothing_left r end other) row_held

        pub row_goes : (o : CodeOutcome) → outcome_of o ≡ outcome_in r end → GoesBy (foreseen_step (shown v f w)) (outcome_of o) (Finishes (shown h q w))
        row_goes o e d l = cycle_done (shown v f w) (outcome_of o) (shown h q w) d row_foreseen (row_ends ∙ ap (λ x. Went x (shown h q w)) (sym e)) l

        -- the outcome is told by how it ended
        pub row_asks : (o : CodeOutcome) → (HasEnded h q r end → outcome_of o ≡ outcome_in r end) → GoesBy (foreseen_step (shown v f w)) (outcome_of o) (Finishes (shown h q w))
        row_asks o told = row_goes o (told (w, shown v f w, row_ends))
